-- The answer of the call, and its number.
use Rattle.format.specs.Sheet.{outcome}
use Rattle.counter.proofs.Numbers.{table_numbered}
use Rattle.counter.proofs.fragment_table.Goals as goal

pub returns : goal.returns
returns c = let call = c.fragment_table in
    let args = c.args in
    record { tabled = call.ensures; table_numbered = table_numbered (outcome args.sheet.now) call.ensures }
