-- The invariant: no edge of the leaves passed goes astray.
use Prim.Native.Nat.{ℕ, ◌<◌}
use mathlib.Core.Path.{◌≡◌}
use mathlib.Core.Bool.{false}
use Rattle.base_tables.specs.Rows.{in_row}
use Rattle.sheet_decode.specs.Judge.{strays}
use Rattle.sheet_decode.proofs.judge.astray.Given as goal

abbrev pub invariant-loop-l : goal.invariant-loop-l
invariant-loop-l l = (k : ℕ) → k < l.l → strays (in_row l.heads k) k l.inner l.roots ≡ false
