use native.Mathlib.Omega.{arith}
use Rattle.std.proofs.Common.{rules}
use lib.ListN.{length-drop}
use Rattle.sheet_commands.proofs.Steps.{byte_within, command_missing, command_unknown, command_placed, command_astray}
use Rattle.sheet_commands.proofs.command.kind_at.Goals as goal

pub returns-in_err-byte : goal.returns-in_err-byte
returns-in_err-byte c = search (rules, command_missing)

pub returns-in_err-kind : goal.returns-in_err-kind
returns-in_err-kind c = search (rules, command_unknown)

pub overflow_sub-sheet : goal.overflow_sub-sheet
overflow_sub-sheet c = omega (arith, byte_within c.args.sheet.now c.args.at _ c.in_ok-byte.ensures)

pub returns-then-in_place : goal.returns-then-in_place
returns-then-in_place c = command_placed _ _ _ c.in_ok-kind.kind (rw c.in_ok-kind.ensures c.in_ok-byte.ensures) (rw length-drop c.if-in_place.ensures)

pub returns-else-in_place : goal.returns-else-in_place
returns-else-in_place c = command_astray _ _ _ c.in_ok-kind.kind (rw c.in_ok-kind.ensures c.in_ok-byte.ensures) (rw length-drop c.if-in_place.ensures)
