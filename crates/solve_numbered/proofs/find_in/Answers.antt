-- The walk to the number, and the placing where it stands.
use native.Mathlib.Omega.{arith}
use Rattle.solve_numbered.proofs.Numbers.{found, found_none}
use Rattle.solve_numbered.proofs.find_in.Goals as goal

pub whole_as_slice-reach : goal.whole_as_slice-reach
whole_as_slice-reach g c = omega (arith, c.requires.tables.0)

pub whole_as_slice-reach-2 : goal.whole_as_slice-reach-2
whole_as_slice-reach-2 g c = omega (arith, c.requires.tables.1)

pub shared_whole_as_slice-read_off : goal.shared_whole_as_slice-read_off
shared_whole_as_slice-read_off g c = omega (arith, c.requires.tables.0)

pub returns : goal.returns
returns g c = λ s. found s _ _ c.args.k (c.reach.ensures s) c.requires.in_bounds.1 c.in-Ok.is c.args.out.now _ c.read_off.ensures.out_unchanged c.read_off.ensures.out_after

pub returns-in_default : goal.returns-in_default
returns-in_default g c = λ s. found_none s _ _ c.args.k (c.reach.ensures s) c.in_default.is c.args.out.now
