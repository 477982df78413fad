use native.Mathlib.Omega.{arith}
use Rattle.std.proofs.Common.{rules}
use Rattle.sheet_commands.proofs.Steps.{byte_within, pair_after}
use Rattle.sheet_commands.proofs.command.operands.Goals as goal

pub overflow_add-at : goal.overflow_add-at
overflow_add-at c = omega (arith, byte_within c.args.sheet.now c.args.at _ c.in_ok-first.ensures)

pub returns-in_err-second : goal.returns-in_err-second
returns-in_err-second c = let pair = pair_after c.args.sheet.now c.args.at _ _ c.in_ok-first.ensures c.in_err-second.ensures in search (rules, pair)

pub returns : goal.returns
returns c = pair_after c.args.sheet.now c.args.at _ _ c.in_ok-first.ensures c.in_ok-second.ensures
