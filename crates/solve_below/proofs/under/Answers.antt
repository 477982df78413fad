-- By the paths from the root.
use mathlib.Core.Path.{refl, sym, ◌∙◌}
use lib.ListN.{get_or}
use Rattle.base_tables.specs.Rows.{nothing}
use native.Mathlib.Omega.{arith}
use Rattle.base_finite.proofs.Laws.{and_both}
use Rattle.base_nodeset.specs.Set.{mem}
use Rattle.solve_below.proofs.Roots.{under_is}
use Rattle.solve_below.proofs.under.Goals as goal

pub without-requires : goal.without-requires
without-requires c = omega (arith, c.requires.2.few, c.requires.3)

pub gather-requires : goal.gather-requires
gather-requires c = λ l m. omega (arith, c.requires.0, c.requires.2.leaves_within l (and_both (mem (get_or c.args.fragments.now c.args.r nothing) l) (mem c.args.trees.now.leaves l) (sym (c.intersection.ensures l) ∙ m)).1)

pub returns : goal.returns
returns c = λ g s ends of are is. under_is g s c.args.r is c.args.trees.now ends c.args.fragments.now c.args.sets.now of are (get_or c.args.fragments.now c.args.r nothing) c.intersection.result (λ v. refl) c.intersection.ensures c.without.result c.gather.result c.without.ensures c.gather.ensures
