-- The invariant: the table holds what the commands passed say, where the sheet is accepted.
use Rattle.std.proofs.Common.{◌≡◌, ◌-◌, length}
use Rattle.format.specs.declared.Form.TheVariants.{Labelled}
use Rattle.sheet_nodes.proofs.Walk.{Walked}
use Rattle.sheet_nodes.proofs.node_table.Given as goal

abbrev pub invariant-loop-command : goal.invariant-loop-command
invariant-loop-command l = record {
  same_sheet : l.reader.sheet.now ≡ l.fn.sheet;
  same_form : l.reader.form ≡ Labelled;
  walked : Walked l.fn.sheet l.reader.at l.table l.labelled;
}

abbrev pub decreases-loop-command : goal.decreases-loop-command
decreases-loop-command l = length l.fn.sheet - l.reader.at
