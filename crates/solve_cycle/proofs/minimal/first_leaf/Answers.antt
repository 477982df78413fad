use mathlib.Core.Path.{◌≡◌, ap, sym}
use mathlib.Core.Bool.{not}
use native.Mathlib.Omega.{arith}
use borrow.Author.Count.{below_more}
use Rattle.base_finite.specs.Below.{any}
use Rattle.base_finite.proofs.Laws.{any_none, least_is, least_none}
use Rattle.base_tables.specs.Rows.{in_row}
use Rattle.base_nodeset.proofs.Members.{some_member, no_member}
use Rattle.solve_cycle.proofs.minimal.first_leaf.Goals as goal

pub loop-l-init : goal.loop-l-init
loop-l-init c = (omega arith, λ k h. absurd (omega arith))

pub returns-then-not-is_empty : goal.returns-then-not-is_empty
returns-then-not-is_empty c =
    let value = c.args.graph.now in
    let l = c.loop-l in
    sym (least_is value.n (λ k. any 128 (in_row value.heads k)) l.l (omega arith) (some_member _ _ c.is_empty.ensures (ap not c.if-not-is_empty.true)) l.invariant.1)

pub overflow_step-l : goal.overflow_step-l
overflow_step-l c = omega (arith, c.requires)

pub loop-l-preserved : goal.loop-l-preserved
loop-l-preserved c =
    let value = c.args.graph.now in
    let l = c.loop-l in (
      omega arith,
      below_more _ _ l.invariant.1 (any_none 128 (in_row value.heads l.l) (λ k h. no_member _ _ c.is_empty.ensures (ap not c.if-not-is_empty.false) k h)),
    )

pub returns : goal.returns
returns c =
    let value = c.args.graph.now in
    let l = c.loop-l in
    let e : l.l ≡ value.n = omega arith in
    sym (least_none value.n (λ k. any 128 (in_row value.heads k)) (rw e at l.invariant.1))
