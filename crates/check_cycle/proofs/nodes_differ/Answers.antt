use mathlib.Core.Path.{◌≡◌, sym, ◌∙◌}
use native.Mathlib.Omega.{arith}
use borrow.Author.Count.{below_none, below_more}
use Rattle.base_finite.proofs.Laws.{all_fails, all_every}
use Rattle.graph.specs.Cycle.{pairs}
use Rattle.check_cycle.specs.Check.{fresh, nodes_differ}
use Rattle.theory_refutes.proofs.Places.{pairs_are}
use Rattle.check_cycle.proofs.Scans.{passed, failed, seen_none, seen_more, fresh_is}
use Rattle.check_cycle.proofs.nodes_differ.Goals as goal

pub loop-i-init : goal.loop-i-init
loop-i-init c = (λ u. c.empty-seen.ensures u ∙ sym (seen_none c.args.cycle.now u), below_none _)

pub returns-then-not-is_new : goal.returns-then-not-is_new
unfolding nodes_differ
returns-then-not-is_new c =
    let a = c.args in
    let bs = a.cycle.now in
    let l = c.loop-i in
    let is : c.is_new.result ≡ fresh a.n bs l.i = c.is_new.ensures ∙ fresh_is a.n bs l.i l.seen c.node_at-node.result l.invariant.0 c.node_at-node.ensures in
    sym (all_fails (pairs bs) (fresh a.n bs) l.i (omega (arith, pairs_are bs)) (failed is c.if-not-is_new.true))

pub loop-i-preserved : goal.loop-i-preserved
loop-i-preserved c =
    let a = c.args in
    let bs = a.cycle.now in
    let l = c.loop-i in
    let node = c.node_at-node.ensures in
    let is : c.is_new.result ≡ fresh a.n bs l.i = c.is_new.ensures ∙ fresh_is a.n bs l.i l.seen c.node_at-node.result l.invariant.0 node in (
      λ u. c.with-seen.ensures u ∙ rw (l.invariant.0 u, node) (seen_more bs l.i u),
      below_more _ _ l.invariant.1 (passed is c.if-not-is_new.false),
    )

pub returns : goal.returns
unfolding nodes_differ
returns c =
    let a = c.args in
    let bs = a.cycle.now in
    let l = c.loop-i in
    sym (all_every (pairs bs) (fresh a.n bs) (λ k h. l.invariant.1 k (omega (arith, pairs_are bs))))
