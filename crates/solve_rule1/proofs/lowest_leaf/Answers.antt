use native.Mathlib.Omega.{arith}
use mathlib.Core.Path.{sym, ◌∙◌}
use borrow.Author.Count.{below_none, below_more}
use Rattle.solve_rule1.proofs.lowest_leaf.Goals as goal

pub loop-v-init : goal.loop-v-init
loop-v-init c = λ s. below_none _

pub returns-then-is_leaf_of : goal.returns-then-is_leaf_of
returns-then-is_leaf_of c = λ s. let l = c.loop-v in (c.loop-v-test.true, sym (c.is_leaf_of.ensures s) ∙ c.if-is_leaf_of.true, l.invariant s)

pub loop-v-preserved : goal.loop-v-preserved
loop-v-preserved c = λ s. below_more _ _ (c.loop-v.invariant s) (sym (c.is_leaf_of.ensures s) ∙ c.if-is_leaf_of.false)

pub returns : goal.returns
returns c = λ s k h. c.loop-v.invariant s k (omega arith)
