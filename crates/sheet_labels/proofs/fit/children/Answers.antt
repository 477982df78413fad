use Prim.Native.Nat.{◌<◌}
use Rattle.std.proofs.Common.{◌≡◌, refl, sym, ◌∙◌, arith}
use native.Mathlib.Nat.{add-zero}
use Rattle.std.proofs.lemmas.List.{get_or-take, length-take}
use lib.Dec.{eqb}
use lib.ListN.{get_or}
use borrow.Author.Tests.{eq-eqb, ne_eqb}
use Rattle.base_finite.specs.Below.{count}
use Rattle.base_finite.proofs.Laws.{count_more}
use Rattle.sheet_labels.specs.Fit.{children_in}
use Rattle.sheet_labels.proofs.fit.children.Goals as goal
use Rattle.sheet_labels.proofs.fit.children.Goals.{then-above-v, else-above-v}

pub loop-above-init : goal.loop-above-init
unfolding children_in count
loop-above-init c = (refl, omega arith)

pub loop-above-preserved : goal.loop-above-preserved
unfolding children_in
loop-above-preserved c =
    let a = c.args in
    let l = c.loop-above in
    let before : l.above-index < a.n = omega (arith, c.loop-above-test.true, length-take a.n a.parent.now) in
    let here = get_or-take a.n a.parent.now l.above-index 0 before in
    let now = count_more l.above-index (λ k. eqb (get_or a.parent.now k 0) a.v) in
    elim c.if-above-v.branch [
      | then-above-v w ↦ (w.found-is ∙ rw l.invariant.0 (sym (now ∙ rw (eq-eqb _ _ (sym here ∙ w.if-above-v.true)))), omega arith)
      | else-above-v w ↦ (w.found-is ∙ rw l.invariant.0 (sym (now ∙ rw (ne_eqb _ _ (λ q. w.if-above-v.false (here ∙ q)), add-zero))), omega arith)
    ]

pub returns : goal.returns
returns c =
    let l = c.loop-above in
    let all : l.above-index ≡ c.args.n = omega (arith, c.requires, c.loop-above-test.false, length-take c.args.n c.args.parent.now) in
    l.invariant.0 ∙ rw all
