-- The second half where b's root does not lie under a, since a solved form is in one of them.
use mathlib.Core.Path.{sym, ◌∙◌}
use mathlib.Core.Logic.{inr}
use lib.ListN.{get_or}
use Rattle.check_placing.proofs.Guides.{second_half}
use Rattle.check_placing.proofs.guide.Guide.half.Goals as goal

pub returns-else-has-clause-half_of : goal.returns-else-has-clause-half_of
returns-else-has-clause-half_of c =
    let a = c.args in
    let owner = a.self.now.trees.now.owner in
    λ g p v f rows pick form.
    inr (second_half g p rows a.a a.b (get_or owner a.b 0) (f.owners_are a.b c.requires.1) f.shaped pick form (sym c.has.ensures ∙ c.if-has.false) (get_or owner a.a 0) (f.owners_are a.a c.requires.0))
