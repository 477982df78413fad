-- The choice, the half, the edge.
use mathlib.Core.Path.{sym}
use mathlib.Core.Bool.{true≢false}
use Rattle.solve_below.proofs.Roots.{fragments_own}
use Rattle.solve_reduce.proofs.Found.{chosen_none, chosen_choice}
use Rattle.check_placing.proofs.Guides.{turned, ended}
use Rattle.check_placing.proofs.guide.Guide.turn.Goals as goal

pub returns-in_default : goal.returns-in_default
returns-in_default c = λ g p k st. (λ e. absurd (true≢false (sym e)), λ e. ended st (chosen_none st.graph (c.choose.ensures.chosen st.graph st.given) c.in_default.is))

pub returns : goal.returns
returns c =
    let next = c.half-next in
    let guide = c.args.self.now in
    λ g p k st.
    let pick = chosen_choice st.graph (c.choose.ensures.chosen st.graph st.given) c.in-Some.is in (
      λ e. turned st _ _ _ next.result pick (next.ensures.half_of st.graph _ _ st.fits st.under_is pick st.solved) (λ h fits free new before. c.add.ensures h fits free new (c.below-lower.ensures h fits.shaped fits.trees (fragments_own h guide.fragments.now fits guide.gathered) before.under new.to_root) before),
      λ e. absurd (true≢false e),
    )
