-- The invariant: the edges of the leaves passed run downward.
use Prim.Native.Nat.{ℕ, ◌<◌}
use mathlib.Core.Path.{◌≡◌}
use mathlib.Core.Bool.{false}
use Rattle.base_finite.specs.Below.{any}
use Rattle.check_placing.specs.Tests.{outside}
use Rattle.check_placing.proofs.shape.downward.Given as goal

abbrev pub invariant-loop-l : goal.invariant-loop-l
invariant-loop-l l = (k : ℕ) → k < l.l → any 128 (outside l.heads l.rows k) ≡ false
