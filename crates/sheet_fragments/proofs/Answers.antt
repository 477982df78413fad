-- The answer of the whole call, from what is read of the sheet: the records of its graph, and as many as it has roots.
use Prim.Native.Nat.{ℕ, ◌*◌, ◌<◌}
use mathlib.Core.Path.{◌≡◌, sym, ◌∙◌}
use mathlib.Core.List.{List}
use lib.ListN.{length}
use borrow.Author.Tests.{lt-ltb}
use Rattle.std.specs.Prelude.{Err}
use Rattle.base_finite.specs.Below.{count}
use Rattle.base_nodeset.specs.Set.{mem}
use Rattle.base_nodeset.specs.declared.NodeSet.{NodeSet}
use Rattle.format.specs.Sheet.{Content, accepted, outcome}
use Rattle.format.specs.declared.Form.TheVariants.{Plain}
use Rattle.format.specs.declared.Refusal.TheVariants.{SmallBuffer}
use Rattle.graph.specs.Table.{fragments}
use Rattle.base_tables.specs.Trees.{Parents, RootSet}
use Rattle.base_tables.specs.declared.Graph.{Graph}
use Rattle.base_tables.proofs.TreeLaws.{tables_parents}
use Rattle.sheet_decode.proofs.Answers.{Accepted, answered_accepted}
use Rattle.sheet_fragments.specs.Table.{Tabled}
use Rattle.sheet_fragments.specs.Records.{FragmentsOf, FragmentsIn}
use Rattle.sheet_fragments.specs.declared.records.Records.{Records}
use Rattle.sheet_fragments.proofs.GraphRecords.{roots_counted}

module _ (bs : List ℕ) (v : Graph) (a : Accepted (λ s. s.graph) Plain bs v) where
  pub read_parents : Parents v.n v.parent
  read_parents = tables_parents (answered_accepted bs v a).2

  pub records_read : (p : Records) → FragmentsIn v.n v.parent p → (s : Content) × (outcome bs ≡ accepted s) × FragmentsOf s.graph p
  records_read p f =
      let s = answered_accepted bs v a in
      (s.0, s.1, f s.0.graph _ _ s.2)

  module _ (roots : NodeSet) (is_roots : RootSet v.n v.parent roots) where
    pub one_each : (p : Records) → FragmentsIn v.n v.parent p → p.count ≡ count 128 (mem roots)
    one_each p f =
        let s = answered_accepted bs v a in
        (f s.0.graph _ _ s.2).counted ∙ sym (roots_counted s.2 roots is_roots)

    pub small_table : (out : List ℕ) → length out < 3 * count 128 (mem roots) → Tabled (outcome bs) (Err SmallBuffer) out out
    small_table out h =
        let s = answered_accepted bs v a in
        let less = lt-ltb (length out) (3 * length (fragments s.0.graph)) (rw (← roots_counted s.2 roots is_roots) h) in
        rw s.1 (record { answer = rw less; bytes = rw less })
