-- The walk to one more than the last number.
use native.Mathlib.Omega.{arith}
use Rattle.solve_numbered.proofs.Numbers.{all_exact, all_more}
use Rattle.solve_numbered.proofs.count_in.Goals as goal

pub whole_as_slice-reach : goal.whole_as_slice-reach
whole_as_slice-reach g c = omega (arith, c.requires.1.0)

pub whole_as_slice-reach-2 : goal.whole_as_slice-reach-2
whole_as_slice-reach-2 g c = omega (arith, c.requires.1.1)

pub returns-in-Ok : goal.returns-in-Ok
returns-in-Ok g c = λ s. all_more s.walked.graph _ _ (c.reach.ensures s) c.in-Ok.is

pub returns-in-Err : goal.returns-in-Err
returns-in-Err g c = λ s. all_exact s.walked.graph _ _ (c.reach.ensures s) c.in-Err.is
