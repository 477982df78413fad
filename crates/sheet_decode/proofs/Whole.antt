-- A whole sheet: the answers of the run and of the judge put together.
use Prim.Native.Nat.{ℕ}
use mathlib.Core.Path.{◌≡◌, refl, ◌∙◌}
use mathlib.Core.List.{List}
use Rattle.std.specs.Prelude.{Result, Ok, Err}
use Rattle.graph.specs.Graph.{Edge}
use Rattle.format.specs.Sheet.{says, all_commands}
use Rattle.format.specs.declared.Form.{Form}
use Rattle.format.specs.declared.Refusal.{Refusal}
use Rattle.theory_edges.specs.Edges.{graph_with}
use Rattle.base_tables.specs.Tables.{Holds}
use Rattle.base_tables.specs.Trees.{Parents}
use Rattle.base_tables.specs.declared.Graph.{Graph}
use Rattle.base_tables.proofs.Parents.{parents_held}
use Rattle.sheet_commands.specs.Turn.{Reached}
use Rattle.sheet_commands.specs.Labels.{labels_in}
use Rattle.sheet_commands.specs.Run.{filled, Ran}
use Rattle.sheet_decode.specs.Judge.{Judged, Fitted}
use Rattle.sheet_decode.specs.Read.{ReadsWritten}

module _ (f : Form) (s : List ℕ) where
  pub run_refused : (why : Refusal) → Ran f s (Err why) → ReadsWritten (all_commands f s) (Err why)
  unfolding Reached
  run_refused why ran = ran

  module _ (v : Graph) (ran : Ran f s (Ok v)) where
    pub parents_read : Parents v.n v.parent
    unfolding Reached
    parents_read = let r = ran in parents_held v.n r.0 r.1 v.parent v.heads v.edges r.2 r.4

    module _ (verdict : Result Unit Refusal) (judged : (t d : List Edge) (edges : ℕ) → Holds v.n t d v.parent v.heads edges → Judged v.n t d verdict) where
      pub judge_refused : (why : Refusal) → verdict ≡ Err why → ReadsWritten (all_commands f s) (Err why)
      unfolding Reached
      judge_refused why q =
          let r = ran in
          let judged_so = rw q at (judged r.0 r.1 v.edges r.4) in
          r.3 ∙ judged_so (labels_in f s)

      module _ (q : verdict ≡ Ok tt) (fit : Result Unit Refusal)
          (fitted : (t d : List Edge) (edges : ℕ) → Holds v.n t d v.parent v.heads edges → Fitted v.n t d (labels_in f s) fit) where
        labels_refused : (why : Refusal) → fit ≡ Err why → ReadsWritten (all_commands f s) (Err why)
        unfolding Reached
        labels_refused why i =
            let r = ran in
            let judged_so = rw q at (judged r.0 r.1 v.edges r.4) in
            let fitted_so = rw i at (fitted r.0 r.1 v.edges r.4) in
            r.3 ∙ judged_so (labels_in f s) ∙ fitted_so

        labels_accepted : fit ≡ Ok tt → ReadsWritten (all_commands f s) (Ok v)
        unfolding Reached
        labels_accepted i =
            let r = ran in
            let judged_so = rw q at (judged r.0 r.1 v.edges r.4) in
            let fitted_so = rw i at (fitted r.0 r.1 v.edges r.4) in
            (says (graph_with v.n r.0 r.1) (labels_in f s), r.3 ∙ judged_so (labels_in f s) ∙ fitted_so, record { nodes = refl; tables = r.4 })

        pub labels_read : ReadsWritten (all_commands f s) (filled fit v)
        labels_read = of_fit fit refl
          where
            of_fit : (x : Result Unit Refusal) → fit ≡ x → ReadsWritten (all_commands f s) (filled x v)
            of_fit (Ok u) i = labels_accepted i
            of_fit (Err why) i = labels_refused why i
