-- By the two tests.
use mathlib.Core.Path.{refl, sym, ◌∙◌}
use native.Mathlib.Omega.{arith}
use Rattle.solve_branch.proofs.Ends.{row_of_leaf, row_of_root, row_of_inner}
use Rattle.solve_descend.proofs.end_row.Goals as goal

pub has-requires : goal.has-requires
has-requires c = omega (arith, c.requires.2.few, c.requires.3)

pub bounds-sets-u : goal.bounds-sets-u
bounds-sets-u c = omega (arith, c.requires.0, c.requires.3)

pub returns-then-has : goal.returns-then-has
returns-then-has c = λ g s ends of are. row_of_leaf ends c.args.u c.args.sets.now are (sym c.has.ensures ∙ c.if-has.true) (λ v. refl)

pub has-requires-2 : goal.has-requires-2
has-requires-2 c = omega (arith, c.requires.2.few, c.requires.3)

pub under-requires : goal.under-requires
under-requires c = (c.requires.0, c.requires.1, c.requires.2, c.requires.3)

pub returns-then-has-2 : goal.returns-then-has-2
returns-then-has-2 c = λ g s ends of are. row_of_root ends c.args.u (sym c.has-2.ensures ∙ c.if-has-2.true) (c.under.ensures g s ends of are (sym (ends.roots_are c.args.u) ∙ sym c.has-2.ensures ∙ c.if-has-2.true))

pub returns : goal.returns
returns c = λ g s ends of are. row_of_inner ends c.args.u (sym c.has.ensures ∙ c.if-has.false) (sym c.has-2.ensures ∙ c.if-has-2.false) c.empty.ensures
