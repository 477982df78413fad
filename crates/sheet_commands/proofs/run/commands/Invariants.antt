-- The reader stands in the same sheet, and the graph is what its commands so far come to.
use Rattle.std.proofs.Common.{◌≡◌, ◌-◌, length}
use Rattle.sheet_commands.specs.Run.{Running}
use Rattle.sheet_commands.proofs.run.commands.Given as goal

abbrev pub invariant-loop-command : goal.invariant-loop-command
invariant-loop-command l = record {
  same_sheet : l.reader.sheet.now ≡ l.fn.sheet;
  same_form : l.reader.form ≡ l.fn.form;
  running : Running l.fn.form l.fn.sheet l.reader.at l.graph;
}

abbrev pub decreases-loop-command : goal.decreases-loop-command
decreases-loop-command l = length l.fn.sheet - l.reader.at
