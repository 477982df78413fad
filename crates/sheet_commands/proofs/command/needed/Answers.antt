use mathlib.Core.Path.{sym}
use Rattle.std.proofs.Common.{ltb-false}
use lib.ListN.{length}
use Rattle.sheet_commands.proofs.Steps.{byte_missing, byte_there}
use Rattle.sheet_commands.proofs.command.needed.Goals as goal

pub returns-in_default : goal.returns-in_default
returns-in_default c =
    sym (byte_missing c.args.sheet.now c.args.at (ltb-false c.args.at (length c.args.sheet.now) (sym c.in_default.ensures.lookup.0)))

pub returns : goal.returns
returns c =
    let e = c.in-Some.ensures.lookup in
    rw (e.3.1 0) (sym (byte_there c.args.sheet.now c.args.at (e.3.0)))
