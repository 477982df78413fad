-- The invariant: the set has the leaves that the nodes passed hang under, and no two of them under one.
use Prim.Native.Nat.{ℕ, ◌<◌}
use mathlib.Core.Path.{◌≡◌}
use mathlib.Core.Bool.{false}
use Rattle.check_placing.specs.Tests.{again}
use Rattle.check_placing.proofs.Shapes.{Used}
use Rattle.check_placing.proofs.shape.single.Given as goal

abbrev pub invariant-loop-byte : goal.invariant-loop-byte
invariant-loop-byte l = Used l.byte-index l.placing l.used × ((k : ℕ) → k < l.byte-index → again l.placing k ≡ false)
