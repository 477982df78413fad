-- A table that keeps what a sheet says of labels.
use Rattle.std.specs.Prelude.{ℕ, ◌<◌, ◌≡◌, length, get_or}
use Rattle.base_nodeset.specs.Set.{mem}
use Rattle.format.specs.Sheet as spec
use Rattle.sheet_labels.specs.declared.table.Labels.{Labels}

pub record Keeps (m : spec.Labels) (r : Labels) : Type 0 where
  pub long : length r.symbols ≡ 128
  pub symbol_is : (v : ℕ) → v < 128 → get_or r.symbols v 0 ≡ spec.symbol m.symbols v
  pub labelled_are : (v : ℕ) → mem r.labelled v ≡ spec.labelled m.symbols v
  pub twice_is : r.twice ≡ spec.twice m.symbols
  pub differ_is : r.differ ≡ m.differ
