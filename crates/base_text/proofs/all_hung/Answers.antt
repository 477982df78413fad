use mathlib.Core.Path.{◌∙◌}
use native.Mathlib.Omega.{arith}
use Rattle.base_finite.proofs.Stores.{written_none, written_more}
use Rattle.base_text.proofs.Lines.{hung_none, hung_first, hung_first_length}
use Rattle.base_text.proofs.all_hung.Goals as goal

pub returns : goal.returns
returns c =
    let l = c.loop-r in
    let a = c.args in
    l.invariant.2 _ _ (rw (hung_none l.left a.placing.now a.n (λ k _. c.pop_first.ensures.empty c.in_default.is k)) (written_none _ _))

pub returns-then-n-r : goal.returns-then-n-r
returns-then-n-r c =
    let l = c.loop-r in
    let a = c.args in
    let first = c.pop_first.ensures.lowest _ c.in-Some.is in
    l.invariant.2 _ _ (rw (hung_none l.left a.placing.now a.n (λ k b. first.none_lower k (omega arith))) (written_none _ _))

pub hung-end-requires : goal.hung-end-requires
hung-end-requires c =
    let a = c.args in
    let first = c.pop_first.ensures.lowest _ c.in-Some.is in
    (first.below, omega (arith, hung_first_length a.placing.now first a.n (omega arith)))

pub loop-r-smaller : goal.loop-r-smaller
loop-r-smaller c =
    let first = c.pop_first.ensures.lowest _ c.in-Some.is in
    omega arith

pub loop-r-preserved : goal.loop-r-preserved
loop-r-preserved c =
    let l = c.loop-r in
    let a = c.args in
    let h = c.hung-end in
    let first = c.pop_first.ensures.lowest _ c.in-Some.is in (
      h.auto.out ∙ l.invariant.0,
      omega (arith, hung_first_length a.placing.now first a.n (omega arith), h.ensures.after),
      λ new e w. l.invariant.2 new e (rw (hung_first a.placing.now first a.n (omega arith)) (written_more _ _ _ _ _ _ _ _ h.ensures w)),
    )
