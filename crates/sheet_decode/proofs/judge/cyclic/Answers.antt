use mathlib.Core.Path.{sym, ◌∙◌}
use native.Mathlib.Omega.{arith}
use Rattle.base_finite.proofs.Laws.{any_at, any_none}
use Rattle.sheet_decode.specs.Judge.{rises_in, cyclic_in}
use Rattle.sheet_decode.proofs.judge.cyclic.Goals as goal

pub returns-then-rises : goal.returns-then-rises
unfolding cyclic_in
returns-then-rises c = let a = c.args in sym (any_at a.n (rises_in a.n a.parent.now) c.loop-v.v (omega arith) (sym c.rises.ensures ∙ c.if-rises.true))

pub returns : goal.returns
unfolding cyclic_in
returns c = let a = c.args in sym (any_none a.n (rises_in a.n a.parent.now) (λ k h. c.loop-v.invariant k (omega arith)))
