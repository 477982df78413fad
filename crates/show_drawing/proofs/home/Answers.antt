-- The set of inner nodes tells whether v is a leaf.
use mathlib.Core.Path.{sym, ◌∙◌}
use native.Mathlib.Omega.{arith}
use Rattle.show_drawing.proofs.Texts.{home_inner, home_leaf}
use borrow.Author.Rules.{rules}
use Rattle.show_drawing.proofs.home.Goals as goal

pub returns-then-has : goal.returns-then-has
returns-then-has c = let a = c.args in
    sym (home_inner a.n a.parent.now a.v (sym (c.requires.2 a.v (omega arith)) ∙ sym c.has.ensures ∙ c.if-has.true))

pub own-requires : goal.own-requires
own-requires c = search rules

pub returns : goal.returns
returns c = let a = c.args in
    c.own.ensures.0 ∙ sym (home_leaf a.n a.parent.now a.v (sym (c.requires.2 a.v (omega arith)) ∙ sym c.has.ensures ∙ c.if-has.false))
