use native.Mathlib.Omega.{arith}
use Prim.Native.Nat.{◌≤◌}
use mathlib.Core.Path.{◌≡◌}
use Rattle.graph.specs.Rule1.{depth}
use Rattle.solve_rule1.proofs.SolvedTables.{few}
use Rattle.solve_rule1.proofs.Choosing.{better_below, lowest_within, best_start, best_more}
use Rattle.solve_rule1.proofs.best_leaf.Goals as goal

pub loop-l-init : goal.loop-l-init
loop-l-init c =
    let a = c.args in
    let fits : a.graph.now.n ≤ 128 = few a.graph.now.n a.graph.now.parent c.requires.0.sheet in (
      rw c.lowest-best.ensures (lowest_within a.leaves a.graph.now.n fits c.requires.1),
      λ s. best_start a.leaves (depth s.sheet.graph a.p.now) a.graph.now.n fits c.requires.1 c.lowest-best.result c.lowest-best.ensures,
    )

pub better_leaf-best-requires : goal.better_leaf-best-requires
better_leaf-best-requires c = (c.requires.0, c.loop-l.invariant.0, c.loop-l-test.true)

pub loop-l-preserved : goal.loop-l-preserved
loop-l-preserved c =
    let l = c.loop-l in
    let a = c.args in (
      rw (c.better_leaf-best.ensures c.requires.0) (better_below a.leaves (depth c.requires.0.sheet.graph a.p.now) a.graph.now.n l.best l.l l.invariant.0 (omega arith)),
      λ s. rw (c.better_leaf-best.ensures s) (best_more a.leaves (depth s.sheet.graph a.p.now) l.l l.best (l.invariant.1 s)),
    )

pub returns : goal.returns
returns c =
    let l = c.loop-l in
    let a = c.args in
    let all : l.l ≡ a.graph.now.n = omega arith in
    (l.invariant.0, λ s. rw all at (l.invariant.1 s))
