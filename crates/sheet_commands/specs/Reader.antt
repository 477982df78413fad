-- A command taken by a reader, which is moved on by the command's width.
use Rattle.std.specs.Prelude.{◌+◌, Result}
use Rattle.format.specs.declared.Refusal.{Refusal}
use Rattle.sheet_commands.specs.Step.{step_at, width_of}
use Rattle.sheet_commands.specs.declared.command.Command.{Command}
use Rattle.sheet_commands.specs.declared.reader.Reader.{Reader}

abbrev pub taken_by : Reader → Result Command Refusal
taken_by r = step_at r.form r.sheet.now r.at

abbrev pub moved_on : Reader → Result Command Refusal → Reader
moved_on r step = record { sheet = r.sheet; at = r.at + width_of step; form = r.form }
