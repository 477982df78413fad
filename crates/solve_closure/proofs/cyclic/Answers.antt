use mathlib.Core.Path.{sym, ◌∙◌}
use native.Mathlib.Omega.{arith}
use borrow.Author.Count.{below_none, below_more}
use Rattle.base_finite.proofs.Laws.{any_at, any_none}
use Rattle.base_tables.specs.Rows.{in_row}
use Rattle.solve_closure.proofs.cyclic.Goals as goal

pub loop-u-init : goal.loop-u-init
loop-u-init c = (omega arith, below_none _)

pub returns-then-has : goal.returns-then-has
returns-then-has c =
    let a = c.args in
    sym (any_at a.n (λ u. in_row a.rows.now u u) c.loop-u.u (omega arith) (sym c.has.ensures ∙ c.if-has.true))

pub loop-u-preserved : goal.loop-u-preserved
loop-u-preserved c = (
  omega arith,
  below_more _ _ c.loop-u.invariant.1 (sym c.has.ensures ∙ c.if-has.false),
)

pub returns : goal.returns
returns c =
    let a = c.args in
    let l = c.loop-u in
    sym (any_none a.n (λ u. in_row a.rows.now u u) (λ k h. l.invariant.1 k (omega arith)))
