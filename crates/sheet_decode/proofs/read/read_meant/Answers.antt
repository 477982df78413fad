use Rattle.sheet_decode.proofs.Answers.{growable, grown_read}
use Rattle.sheet_decode.proofs.read.read_meant.Goals as goal

pub grow-requires : goal.grow-requires
grow-requires c = growable c.args.form c.args.sheet.now c.fill.new.graph (rw c.in_ok-fill.was at c.fill.ensures)

pub returns : goal.returns
returns c = grown_read c.args.form c.args.sheet.now c.fill.new.graph (rw c.in_ok-fill.was at c.fill.ensures) _ _ c.grow.ensures
