-- The place of a child, below the fourth.
use native.Mathlib.Numerals.{add-one}
use borrow.Author.Tests.{lt-ltb, le-ltb}
use Rattle.show_term.specs.Terms.{child_in}
use Rattle.show_term.proofs.child.Goals as goal

pub returns-then-place-ge3 : goal.returns-then-place-ge3
unfolding child_in
returns-then-place-ge3 c = rw (le-ltb c.args.place.number 3 c.if-place-ge3.true)

pub returns : goal.returns
unfolding child_in
returns c =
    let a = c.args in
    rw (lt-ltb a.place.number 3 c.if-place-ge3.false, add-one a.place.number)
