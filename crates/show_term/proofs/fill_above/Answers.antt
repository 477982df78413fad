use native.Mathlib.Omega.{arith}
use lib.ListN.{length-set}
use borrow.Author.Count.{below_none}
use Rattle.base_finite.proofs.Stores.{entry_more}
use Rattle.show_term.specs.Terms.{above_in}
use Rattle.show_term.proofs.fill_above.Goals as goal

pub loop-v-init : goal.loop-v-init
loop-v-init c = (omega arith, c.requires.3, below_none _)

pub loop-v-preserved : goal.loop-v-preserved
loop-v-preserved c =
    let l = c.loop-v in
    let a = c.args in (
      omega arith,
      simp length-set l.invariant.1,
      entry_more (above_in a.parent.now a.placing.now) l.above l.v c.directly_above.result (omega arith) c.directly_above.ensures l.invariant.2,
    )

pub returns : goal.returns
returns c =
    let l = c.loop-v in
    record { long = l.invariant.1; above_is = λ v h. l.invariant.2 v (omega arith) }
