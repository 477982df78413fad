use lib.ListN.{drop}
use Rattle.format.specs.Sheet.{unlabelled}
use Rattle.format.specs.declared.Form.TheVariants.{Plain, Labelled}
use Rattle.sheet_commands.proofs.Steps.{gathered_form}
use Rattle.sheet_decode.proofs.Judges.{fits_plain}
use Rattle.sheet_decode.proofs.judge.judge_labels.Goals as goal

pub returns-in-Plain : goal.returns-in-Plain
returns-in-Plain c = λ t d edges holds. rw c.in-Plain.is (fits_plain _ _ (gathered_form (unlabelled Plain) (drop 2 c.args.sheet.now)))

pub returns-in-Labelled : goal.returns-in-Labelled
returns-in-Labelled c = λ t d edges holds. rw c.in-Labelled.is (c.fit.ensures _ t d edges (gathered_form (unlabelled Labelled) (drop 2 c.args.sheet.now)) c.labels_of.ensures holds)
