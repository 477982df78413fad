use mathlib.Core.Path.{◌≡◌, refl, sym, ◌∙◌}
use mathlib.Core.Bool.{true}
use native.Mathlib.Omega.{arith}
use Rattle.base_finite.proofs.Laws.{count_ext}
use Rattle.show_drawing.specs.Drawn.{top_at}
use Rattle.show_drawing.proofs.Texts.{fragment_long}
use Rattle.show_drawing.proofs.Loops.{running_none, running_skip, running_take, running_done, before_room, text_ready, joint_is}
use Rattle.show_drawing.proofs.tops.Goals as goal

pub loop-r-init : goal.loop-r-init
loop-r-init c =
    let all = c.count-left.ensures ∙ count_ext 128 _ _ (λ v _. c.root_nodes.ensures v) in
    running_none (record {
      room = omega (arith, c.requires.placing_in_bounds);
      enough = omega (arith, all, c.requires.counted.all_drawn);
      few = omega (arith, all, c.requires.counted.few);
    })

pub loop-r-preserved-then-not-on_top : goal.loop-r-preserved-then-not-on_top
loop-r-preserved-then-not-on_top c =
    running_skip c.loop-r.invariant c.loop-r-test.true (sym c.on_top.ensures ∙ c.if-not-on_top.true)

pub join-next-requires : goal.join-next-requires
join-next-requires c =
    let a = c.args in
    let l = c.loop-r in
    let is : top_at a.parent.now a.placing.now l.r ≡ true = sym c.on_top.ensures ∙ c.if-not-on_top.false in
    let same = joint_is l.invariant (fragment_long a.n a.n a.home.now a.placing.now c.requires.n_nonzero.0) refl in
    before_room l.invariant c.loop-r-test.true is same

pub fragment-pen-requires : goal.fragment-pen-requires
fragment-pen-requires c =
    let a = c.args in
    let l = c.loop-r in
    let is : top_at a.parent.now a.placing.now l.r ≡ true = sym c.on_top.ensures ∙ c.if-not-on_top.false in
    let same = joint_is l.invariant (fragment_long a.n a.n a.home.now a.placing.now c.requires.n_nonzero.0) refl in
    record {
      lent = c.requires.lent;
      ready = text_ready l.invariant c.loop-r-test.true is same c.join-next.ensures;
    }

pub loop-r-preserved : goal.loop-r-preserved
loop-r-preserved c =
    let a = c.args in
    let l = c.loop-r in
    let is : top_at a.parent.now a.placing.now l.r ≡ true = sym c.on_top.ensures ∙ c.if-not-on_top.false in
    let same = joint_is l.invariant (fragment_long a.n a.n a.home.now a.placing.now c.requires.n_nonzero.0) refl in
    running_take l.invariant c.loop-r-test.true is same c.join-next.ensures c.fragment-pen.ensures

pub returns : goal.returns
returns c =
    let all = c.count-left.ensures ∙ count_ext 128 _ _ (λ v _. c.root_nodes.ensures v) in
    let done = running_done c.loop-r.invariant c.loop-r-test.false in
    record {
      written = done.written;
      left_value = omega (arith, all, c.requires.counted.all_drawn, done.counted);
    }
