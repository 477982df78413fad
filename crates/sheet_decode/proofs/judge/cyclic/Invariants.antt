use Prim.Native.Nat.{ℕ, ◌<◌}
use mathlib.Core.Path.{◌≡◌}
use mathlib.Core.Bool.{false}
use Rattle.sheet_decode.specs.Judge.{rises_in}
use Rattle.sheet_decode.proofs.judge.cyclic.Given as goal

abbrev pub invariant-loop-v : goal.invariant-loop-v
invariant-loop-v l = (k : ℕ) → k < l.v → rises_in l.n l.parent k ≡ false
