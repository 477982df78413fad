-- An accepted sheet's value is the tables that the calls work on.
use mathlib.Core.Path.{◌≡◌}
use mathlib.Core.List.{List}
use Prim.Native.Nat.{ℕ}
use Rattle.format.specs.Sheet.{Content, outcome, accepted}
use Rattle.sheet_decode.specs.Read.{Value as ValueOf}
use Rattle.sheet_decode.proofs.Answers.{answered_accepted}
use Rattle.base_tables.specs.declared.Graph.{Graph as Value}
use Rattle.base_tables.specs.Tables.{Tables, SheetTables}

pub record AcceptedSheet (bs : List ℕ) (value : Value) : Type 0 where
  pub content : Content
  pub is : outcome bs ≡ accepted content
  pub tables : Tables content.graph value.n value.parent value.heads value.edges

pub sheet_of : (bs : List ℕ) (value : Value) → (s : Content) × (outcome bs ≡ accepted s) × ValueOf s.graph value → AcceptedSheet bs value
sheet_of bs value a =
    let t = answered_accepted bs value a in
    record { content = t.0; is = t.1; tables = t.2 }

abbrev pub tables_of : {bs : List ℕ} {value : Value} → AcceptedSheet bs value → SheetTables value
tables_of {value = value} a = record { graph = a.content.graph; edges = value.edges; tables = a.tables }
