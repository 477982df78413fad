-- 10, then 9 and 11 as the search has them, or the drawing of the reading that was found.
use mathlib.Core.Path.{refl}
use native.Mathlib.Omega.{arith}
use Rattle.std.proofs.lemmas.Result.{err_from_is_err_and}
use Rattle.solve_answer.specs.Calls as calls
use Rattle.solve_answer.proofs.Texts.{text_refused, drawing_from_text}
use Rattle.solve_answer.proofs.Answering.{drawable, drawing_drawn}
use Rattle.solve_answer.proofs.drawing_of.Goals as goal

pub returns-then-out-lt-DRAWING : goal.returns-then-out-lt-DRAWING
returns-then-out-lt-DRAWING c =
    λ s. calls.DrawingCall.small (omega (arith, c.if-out-lt-DRAWING.true))

pub seek-requires : goal.seek-requires
seek-requires c =
    c.requires

pub draw-requires : goal.draw-requires
draw-requires c =
    let s = c.requires in (drawable s (c.in_ok-seek.ensures s) refl, omega (arith, c.if-out-lt-DRAWING.false))

pub returns-in_err-seek : goal.returns-in_err-seek
returns-in_err-seek c =
    let p = err_from_is_err_and c.from_residual.result c.from_residual.ensures.1 in
    λ s. rw (p.1, p.2) (drawing_from_text (text_refused (omega (arith, c.if-out-lt-DRAWING.false)) (c.in_err-seek.ensures s) refl))

pub returns : goal.returns
returns c =
    λ s. drawing_drawn s (omega (arith, c.if-out-lt-DRAWING.false)) (c.in_ok-seek.ensures s) refl c.draw.ensures
