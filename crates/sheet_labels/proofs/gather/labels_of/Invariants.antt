use Rattle.std.proofs.Common.{◌≡◌, ◌-◌, length}
use Rattle.format.specs.declared.Form.TheVariants.{Labelled}
use Rattle.sheet_labels.proofs.Gathers.{Gathers}
use Rattle.sheet_labels.proofs.gather.labels_of.Given as goal

abbrev pub invariant-loop-command : goal.invariant-loop-command
invariant-loop-command l = record {
  same_sheet : l.reader.sheet.now ≡ l.fn.sheet;
  same_form : l.reader.form ≡ Labelled;
  gathers : Gathers l.fn.sheet l.reader.at l.labels;
}

abbrev pub decreases-loop-command : goal.decreases-loop-command
decreases-loop-command l = length l.fn.sheet - l.reader.at
