-- A whole sheet, decoded.
use Rattle.std.specs.Prelude.{◌≡◌, Result, MatchResult}
use Rattle.graph.specs.Graph as spec
use Rattle.format.specs.Sheet.{Content, Outcome, refused, accepted}
use Rattle.format.specs.declared.Refusal.{Refusal}
use Rattle.base_tables.specs.Tables.{Holds}
use Rattle.base_tables.specs.declared.Graph.{Graph}

-- The value is the graph's.
pub record Value (g : spec.Graph) (v : Graph) : Type 0 where
  pub nodes : v.n ≡ g.nodes
  pub tables : Holds g.nodes g.tree g.dominance v.parent v.heads v.edges

-- The answer to a sheet with the outcome o: its refusal, or the value of a graph of what it says.
abbrev pub ReadsAs : (Content → spec.Graph) → Outcome → Result Graph Refusal → Type 0
ReadsAs part o r = MatchResult r (λ v. (s : Content) × (o ≡ accepted s) × Value (part s) v) (λ why. o ≡ refused why)

-- of the graph that it writes
abbrev pub ReadsWritten : Outcome → Result Graph Refusal → Type 0
ReadsWritten = ReadsAs (λ s. s.written)

-- of the graph that it means
abbrev pub Reads : Outcome → Result Graph Refusal → Type 0
Reads = ReadsAs (λ s. s.graph)
