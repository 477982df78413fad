use mathlib.Core.Path.{refl}
use native.Mathlib.Omega.{arith}
use Rattle.solve_cycle.proofs.Thins.{known_still, same_trees, row_settled, row_start, row_more, row_end}
use Rattle.solve_cycle.proofs.minimal.settle_row.Goals as goal

pub loop-r-init : goal.loop-r-init
loop-r-init c =
    let a = c.args in
    (record { nodes = refl; parents = refl }, λ g t. row_start g a.graph.now a.l _ (λ v. refl) t)

pub returns : goal.returns
returns c =
    let l = c.loop-r in
    record { same = l.invariant.0; thinned = λ g t. row_end g l.graph c.args.l l.left (c.pop_first.ensures.empty c.in_default.is) (l.invariant.1 g t) }

pub settle-requires : goal.settle-requires
settle-requires c = (known_still c.loop-r.invariant.0 c.requires.0, c.requires.1, (c.pop_first.ensures.lowest _ c.in-Some.is).below)

pub loop-r-smaller : goal.loop-r-smaller
loop-r-smaller c =
    let first = c.pop_first.ensures.lowest _ c.in-Some.is in
    omega arith

pub loop-r-preserved : goal.loop-r-preserved
loop-r-preserved c =
    let a = c.args in
    let l = c.loop-r in
    let k = c.settle in (
      same_trees l.invariant.0 k.ensures.same,
      λ g t.
          row_more g k.new.graph a.l l.left _ _ (c.pop_first.ensures.lowest _ c.in-Some.is).others
          (k.ensures.thinned g (row_settled a.l l.left) (l.invariant.1 g t)),
    )
