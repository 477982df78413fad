use Prim.Native.Nat.{ℕ}
use mathlib.Core.Path.{◌≡◌, refl, subst}
use Rattle.solve_cycle.specs.Thinning.{Thinned, before}
use native.Mathlib.Omega.{arith}
use Rattle.solve_cycle.proofs.Thins.{known_still, same_trees, thinned_start}
use Rattle.solve_cycle.proofs.minimal.minimize.Goals as goal

pub loop-l-init : goal.loop-l-init
loop-l-init c =
    (omega arith, record { nodes = refl; parents = refl }, λ u. thinned_start c.args.graph.now u)

pub settle_row-requires : goal.settle_row-requires
settle_row-requires c =
    (known_still c.loop-l.invariant.1 c.requires, omega (arith, c.requires.nodes, c.requires.parents_are.few))

pub overflow_step-l : goal.overflow_step-l
overflow_step-l c = omega (arith, c.requires.nodes, c.requires.parents_are.few)

pub loop-l-preserved : goal.loop-l-preserved
loop-l-preserved c =
    let l = c.loop-l in
    let k = c.settle_row.ensures in
    (omega arith, same_trees l.invariant.1 k.same, λ u. k.thinned u.graph (l.invariant.2 u))

pub returns : goal.returns
returns c =
    let l = c.loop-l in
    let all : l.l ≡ l.graph.n = omega (arith, c.requires.nodes, l.invariant.1.nodes) in
    record { same = l.invariant.1; thinned = λ u. subst (λ (k : ℕ). Thinned u.graph l.graph (before k)) all (l.invariant.2 u) }
