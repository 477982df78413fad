use mathlib.Core.Path.{sym, ◌∙◌}
use native.Mathlib.Omega.{arith}
use Rattle.base_finite.proofs.Laws.{any_at, any_none}
use Rattle.sheet_decode.specs.Judge.{astray_in}
use Rattle.sheet_decode.proofs.judge.astray.Goals as goal

pub returns-then-stray : goal.returns-then-stray
unfolding astray_in
returns-then-stray c = sym (any_at c.args.n _ c.loop-l.l (omega arith) (sym c.stray.ensures ∙ c.if-stray.true))

pub returns : goal.returns
unfolding astray_in
returns c = sym (any_none c.args.n _ (λ k h. c.loop-l.invariant k (omega arith)))
