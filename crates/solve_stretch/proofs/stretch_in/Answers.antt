-- The walk goes to the first reading wanted and on from there.
use mathlib.Core.Path.{refl}
use mathlib.Core.Logic.{inl, inr}
use native.Mathlib.Omega.{arith}
use Rattle.solve_stretch.proofs.Placings.{none_left, next_stands}
use Rattle.solve_stretch.proofs.stretch_in.Goals as goal

pub whole_as_slice-reach : goal.whole_as_slice-reach
whole_as_slice-reach g c = omega (arith, c.requires.tables.0)

pub whole_as_slice-reach-2 : goal.whole_as_slice-reach-2
whole_as_slice-reach-2 g c = omega (arith, c.requires.tables.1)

pub returns-in_default : goal.returns-in_default
returns-in_default g c = λ s. inl (none_left s.walked.graph _ _ c.args.passed (c.reach.ensures s) c.in_default.is, refl, refl)

pub fill-requires : goal.fill-requires
fill-requires g c = let s = c.requires.in_bounds.0 in record {
  standing = (record { walked = s.walked; stands = next_stands s.walked.graph _ _ c.args.passed (c.reach.ensures s) c.in-Ok.is }, omega (arith, c.requires.tables.1, c.reach.auto));
  last_lt_limit = (c.requires.in_bounds.1, c.requires.in_bounds.2);
}

pub returns : goal.returns
returns g c = λ s. inr (c.fill.ensures.filled s.walked.graph s.walked.fits (next_stands s.walked.graph _ _ c.args.passed (c.reach.ensures s) c.in-Ok.is)).0
