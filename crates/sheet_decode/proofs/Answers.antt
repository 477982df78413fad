-- What an answer says: a refusal is the sheet's, an accepted sheet's value is the tables of what it writes, or, grown, of the well-formed
-- graph that it means.
use mathlib.Core.Path.{◌≡◌, sym, subst}
use mathlib.Core.List.{List}
use Prim.Native.Nat.{ℕ, ◌≤◌, ◌+◌}
use native.Mathlib.Omega.{arith}
use Rattle.graph.specs.Graph as spec
use Rattle.format.specs.Sheet.{Content, accepted, outcome_of, outcome}
use Rattle.format.specs.declared.Form.{Form}
use Rattle.format.specs.declared.Form.TheVariants.{Plain}
use Rattle.theory_edges.proofs.Growing.{few_written}
use Rattle.theory_format.proofs.Spelling.{accepted_spells, meant_grown, meant_well_formed}
use Rattle.base_finite.specs.Below.{count, select}
use Rattle.base_finite.specs.Stores.{Written}
use Rattle.base_tables.specs.Tables.{Tables}
use Rattle.base_tables.specs.Trees.{Parents}
use Rattle.base_tables.specs.declared.Graph.{Graph}
use Rattle.base_tables.proofs.Parents.{parents_held}
use Rattle.sheet_grow.specs.Grow.{bare_in}
use Rattle.sheet_grow.proofs.Grown.{bare_counted, grown_held}
use Rattle.sheet_decode.specs.Read.{Value}

-- the value that is read of a sheet, of one part of what it says
abbrev pub Accepted : (Content → spec.Graph) → Form → List ℕ → Graph → Type 0
Accepted part f bs v = (s : Content) × (outcome_of f bs ≡ accepted s) × Value (part s) v

-- what is written

module _ (f : Form) (bs : List ℕ) (v : Graph) (a : Accepted (λ s. s.written) f bs v) where
  pub well_written : spec.WellWritten a.0.written
  well_written = (accepted_spells f bs a.0 a.1).well_written

  few : a.0.written.nodes ≤ 128
  few = few_written a.0.written well_written

  -- the leaves added

  pub growable : Parents v.n v.parent × (v.n + count 128 (bare_in v.n v.parent) ≤ 128)
  growable =
      let g : spec.Graph = a.0.written in
      rw a.2.nodes (
        parents_held g.nodes g.tree g.dominance v.parent v.heads v.edges few a.2.tables,
        omega (arith, well_written.few_nodes, bare_counted g few v.parent v.heads v.edges a.2.tables),
      )

  pub grown_read : (parents : List ℕ) (n : ℕ) → Written v.parent v.n (select 128 (bare_in v.n v.parent)) parents n
      → Accepted (λ s. s.graph) f bs (record { n = n; parent = parents; heads = v.heads; edges = v.edges })
  grown_read parents n stored =
      let g : spec.Graph = a.0.written in
      let more : Graph = record { n = n; parent = parents; heads = v.heads; edges = v.edges } in
      let held = grown_held g few v.parent v.heads v.edges a.2.tables well_written.few_nodes parents n (rw a.2.nodes at stored) in
      let value : Value (spec.grown g) more = record { nodes = held.0; tables = held.1 } in
      (a.0, a.1, subst (λ (h : spec.Graph). Value h more) (sym (meant_grown f bs a.0 a.1)) value)

-- what is meant

pub meant_accepted : (f : Form) (bs : List ℕ) (v : Graph) → Accepted (λ s. s.graph) f bs v
    → (s : Content) × (outcome_of f bs ≡ accepted s) × Tables s.graph v.n v.parent v.heads v.edges
meant_accepted f bs v a = (a.0, a.1, record { well_formed = meant_well_formed f bs a.0 a.1; nodes = a.2.nodes; holds = a.2.tables })

pub answered_accepted : (bs : List ℕ) (v : Graph) → Accepted (λ s. s.graph) Plain bs v
    → (s : Content) × (outcome bs ≡ accepted s) × Tables s.graph v.n v.parent v.heads v.edges
answered_accepted bs v a = meant_accepted Plain bs v a
