use Rattle.std.proofs.Common.{refl, arith}
use Rattle.sheet_fragments.proofs.Storing.{none_stored, more_stored}
use Rattle.sheet_fragments.proofs.put.Goals as goal

pub loop-fragment-init : goal.loop-fragment-init
loop-fragment-init c = (refl, none_stored _)

pub loop-fragment-preserved : goal.loop-fragment-preserved
loop-fragment-preserved c =
    let l = c.loop-fragment in (
      omega arith,
      more_stored _ l.out c.args.records.now l.fragment-index l.at _ l.invariant.0 (omega arith) l.invariant.1,
    )
