-- The answer of the call, and its number.
use Rattle.format.specs.Sheet.{outcome_of}
use Rattle.format.specs.declared.Form.TheVariants.{Labelled}
use Rattle.counter.proofs.Numbers.{tidy_numbered}
use Rattle.counter.proofs.labelled.Goals as goal

pub returns : goal.returns
returns c = let call = c.tidy in
    let args = c.args in
    record { tidies = call.ensures; tidy_numbered = tidy_numbered (outcome_of Labelled args.sheet.now) call.result args.out.now _ call.ensures }
