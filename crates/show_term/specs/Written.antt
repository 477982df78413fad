-- What a term is written from: the tables of a labelled sheet, and one of its solved forms.
use Rattle.std.specs.Prelude.{ℕ, ◌≡◌, List, take}
use Rattle.base_nodeset.specs.declared.NodeSet.{NodeSet}
use Rattle.graph.specs.Placing.{SolvedForm}
use Rattle.format.specs.Sheet.{Content, accepted, outcome_of}
use Rattle.format.specs.declared.Form.TheVariants.{Labelled}
use Rattle.base_tables.specs.Tables.{Tables}
use Rattle.sheet_nodes.specs.Table.{NodeTable}

pub record Writable (n : ℕ) (parents placing table : List ℕ) (labelled : NodeSet) : Type 0 where
  pub content : Content
  pub sheet : List ℕ
  pub is_accepted : outcome_of Labelled sheet ≡ accepted content
  pub heads : List NodeSet
  pub edges : ℕ
  pub tables : Tables content.graph n parents heads edges
  pub solved : SolvedForm content.graph (take n placing)
  pub nodes : NodeTable content table labelled
