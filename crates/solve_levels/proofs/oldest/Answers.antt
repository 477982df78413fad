-- The last levels, or those that are there.
use mathlib.Core.Path.{refl}
use mathlib.Core.Logic.{inl, inr}
use native.Mathlib.Omega.{arith}
use Rattle.solve_levels.proofs.oldest.Goals as goal

pub returns-then-opened-lt-LEVELS : goal.returns-then-opened-lt-LEVELS
returns-then-opened-lt-LEVELS c = (omega arith, omega (arith, c.if-opened-lt-LEVELS.true), inl refl)

pub returns-then-kept-lowest : goal.returns-then-kept-lowest
returns-then-kept-lowest c = (omega (arith, c.if-kept-lowest.true), omega (arith, c.if-opened-lt-LEVELS.false), inr (omega (arith, c.if-opened-lt-LEVELS.false)))

pub returns-else-kept-lowest : goal.returns-else-kept-lowest
returns-else-kept-lowest c = (omega arith, omega (arith, c.if-opened-lt-LEVELS.false, c.if-kept-lowest.false), inl refl)
