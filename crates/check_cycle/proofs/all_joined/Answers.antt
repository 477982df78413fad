use mathlib.Core.Path.{◌≡◌, sym}
use native.Mathlib.Omega.{arith}
use Rattle.base_finite.proofs.Laws.{all_fails, all_every}
use Rattle.graph.specs.Cycle as cycle
use Rattle.graph.specs.Cycle.{node, kind, next}
use Rattle.check_cycle.specs.Check.{joined_in, all_joined}
use Rattle.theory_refutes.proofs.Places.{pairs_are}
use Rattle.check_cycle.proofs.Scans.{failed}
use Rattle.check_cycle.proofs.all_joined.Goals as goal

pub returns-then-not-joined : goal.returns-then-not-joined
unfolding all_joined
returns-then-not-joined c =
    let bs = c.args.cycle.now in
    let graph = c.args.graph.now in
    let l = c.loop-i in
    let e = c.edge_at.ensures in
    let is : c.joined.result ≡ joined_in graph.parent graph.heads (kind bs l.i) (node bs l.i) (next bs l.i) =
    rw (← e.kind, ← e.node, ← e.next) c.joined.ensures in
    sym (all_fails (cycle.pairs bs) _ l.i (omega (arith, pairs_are bs)) (failed is c.if-not-joined.true))

pub returns : goal.returns
unfolding all_joined
returns c =
    let bs = c.args.cycle.now in
    let l = c.loop-i in
    sym (all_every (cycle.pairs bs) _ (λ k h. l.invariant k (omega (arith, pairs_are bs))))
