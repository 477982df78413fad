use Rattle.std.proofs.Common.{rules}
use Rattle.sheet_decode.proofs.Whole.{run_refused, parents_read, judge_refused, labels_read}
use Rattle.sheet_decode.proofs.read.read_commands.Goals as goal

pub returns-in_err-commands : goal.returns-in_err-commands
returns-in_err-commands c =
    let refused = run_refused c.args.form c.args.sheet.now _ (rw c.in_err-commands.was at c.commands.ensures) in search (rules, refused)

pub judge-requires : goal.judge-requires
judge-requires c = parents_read c.args.form c.args.sheet.now c.commands.new.graph (rw c.in_ok-commands.was at c.commands.ensures)

pub returns-in_err-judge : goal.returns-in_err-judge
returns-in_err-judge c =
    let ran = rw c.in_ok-commands.was at c.commands.ensures in
    let refused = judge_refused c.args.form c.args.sheet.now c.commands.new.graph ran c.judge.result c.judge.ensures _ c.in_err-judge.was in search (rules, refused)

pub judge_labels-requires : goal.judge_labels-requires
judge_labels-requires c = parents_read c.args.form c.args.sheet.now c.commands.new.graph (rw c.in_ok-commands.was at c.commands.ensures)

pub returns : goal.returns
returns c =
    labels_read c.args.form c.args.sheet.now c.commands.new.graph (rw c.in_ok-commands.was at c.commands.ensures) c.judge.result c.judge.ensures c.in_ok-judge.was
    c.judge_labels.result c.judge_labels.ensures
