-- The answer of the call, and its number.
use Rattle.format.specs.Sheet.{outcome}
use Rattle.counter.proofs.Numbers.{tidy_numbered}
use Rattle.counter.proofs.tidy.Goals as goal

pub returns : goal.returns
returns c = let call = c.tidy in
    let args = c.args in
    record { tidies = call.ensures; tidy_numbered = tidy_numbered (outcome args.sheet.now) call.result args.out.now _ call.ensures }
