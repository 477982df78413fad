use mathlib.Core.Path.{sym, ◌∙◌}
use Rattle.sheet_decode.proofs.Judges.{fits_label, fits_overlap, fits_hole, fits_all}
use Rattle.sheet_decode.proofs.judge.fit.Goals as goal

pub returns-then-mislabelled : goal.returns-then-mislabelled
returns-then-mislabelled c = λ m t d edges form keeps holds. fits_label _ m form (sym c.if-mislabelled.true ∙ c.mislabelled.ensures m t d _ edges keeps holds)

pub returns-then-overlapping : goal.returns-then-overlapping
returns-then-overlapping c =
    λ m t d edges form keeps holds.
    fits_overlap _ m form (sym c.if-mislabelled.false ∙ c.mislabelled.ensures m t d _ edges keeps holds) (sym c.if-overlapping.true ∙ c.overlapping.ensures m t d keeps)

pub returns-then-holed : goal.returns-then-holed
returns-then-holed c =
    λ m t d edges form keeps holds.
    fits_hole _ m form (sym c.if-mislabelled.false ∙ c.mislabelled.ensures m t d _ edges keeps holds)
    (sym c.if-overlapping.false ∙ c.overlapping.ensures m t d keeps) (sym c.if-holed.true ∙ c.holed.ensures m t d edges keeps holds)

pub returns : goal.returns
returns c =
    λ m t d edges form keeps holds.
    fits_all _ m form (sym c.if-mislabelled.false ∙ c.mislabelled.ensures m t d _ edges keeps holds)
    (sym c.if-overlapping.false ∙ c.overlapping.ensures m t d keeps) (sym c.if-holed.false ∙ c.holed.ensures m t d edges keeps holds)
