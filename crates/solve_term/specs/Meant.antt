-- The tables of the graph that a labelled sheet means.
use Rattle.std.specs.Prelude.{◌≡◌, List, ℕ}
use Rattle.format.specs.Sheet.{Content, outcome_of, accepted}
use Rattle.format.specs.declared.Form.TheVariants.{Labelled}
use Rattle.base_tables.specs.Tables.{Tables}
use Rattle.base_tables.specs.declared.Graph.{Graph}

pub record Meant (sheet : List ℕ) (v : Graph) : Type 0 where
  pub content : Content
  pub is : outcome_of Labelled sheet ≡ accepted content
  pub tables : Tables content.graph v.n v.parent v.heads v.edges
