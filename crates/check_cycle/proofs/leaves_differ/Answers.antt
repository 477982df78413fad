use mathlib.Core.Path.{◌≡◌, sym, ap₂, ◌∙◌}
use mathlib.Core.Bool.{◌||◌}
use native.Mathlib.Omega.{arith}
use borrow.Author.Count.{below_none, below_more}
use Rattle.base_finite.proofs.Laws.{all_fails, all_every}
use Rattle.graph.specs.Cycle as cycle
use Rattle.graph.specs.Cycle.{node, kind, next}
use Rattle.check_cycle.specs.Check.{LeafSet, spare, leaves_differ}
use Rattle.theory_refutes.proofs.Places.{pairs_are}
use Rattle.check_cycle.proofs.Scans.{passed, failed, used_none, used_more, spare_is}
use Rattle.check_cycle.proofs.leaves_differ.Goals as goal

pub loop-i-init : goal.loop-i-init
loop-i-init c =
    let a = c.args in
    (λ x. c.empty-used.ensures x ∙ sym (used_none a.graph.now.heads a.cycle.now x), below_none _)

pub returns-then-not-is_empty : goal.returns-then-not-is_empty
unfolding leaves_differ
returns-then-not-is_empty c =
    let heads = c.args.graph.now.heads in
    let bs = c.args.cycle.now in
    let l = c.loop-i in
    let e = c.edge_at.ensures in
    let starts : LeafSet heads (kind bs l.i) (node bs l.i) (next bs l.i) c.leaf-leaf.result = rw (← e.kind, ← e.node, ← e.next) c.leaf-leaf.ensures in
    let is : c.is_empty.result ≡ spare heads bs l.i =
    c.is_empty.ensures ∙ spare_is heads bs l.i l.used c.leaf-leaf.result c.intersection.result l.invariant.0 starts c.intersection.ensures in
    sym (all_fails (cycle.pairs bs) (spare heads bs) l.i (omega (arith, pairs_are bs)) (failed is c.if-not-is_empty.true))

pub loop-i-preserved : goal.loop-i-preserved
loop-i-preserved c =
    let heads = c.args.graph.now.heads in
    let bs = c.args.cycle.now in
    let l = c.loop-i in
    let e = c.edge_at.ensures in
    let starts : LeafSet heads (kind bs l.i) (node bs l.i) (next bs l.i) c.leaf-leaf.result = rw (← e.kind, ← e.node, ← e.next) c.leaf-leaf.ensures in
    let is : c.is_empty.result ≡ spare heads bs l.i =
    c.is_empty.ensures ∙ spare_is heads bs l.i l.used c.leaf-leaf.result c.intersection.result l.invariant.0 starts c.intersection.ensures in (
      λ x. c.union-used.ensures x ∙ ap₂ ◌||◌ (l.invariant.0 x) (starts x) ∙ used_more heads bs l.i x,
      below_more _ _ l.invariant.1 (passed is c.if-not-is_empty.false),
    )

pub returns : goal.returns
unfolding leaves_differ
returns c =
    let a = c.args in
    let bs = a.cycle.now in
    let l = c.loop-i in
    sym (all_every (cycle.pairs bs) (spare a.graph.now.heads bs) (λ k h. l.invariant.1 k (omega (arith, pairs_are bs))))
