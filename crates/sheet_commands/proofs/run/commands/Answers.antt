-- The first command begins a run, and each turn leaves it further on.
use mathlib.Core.Path.{◌≡◌, refl, sym}
use native.Mathlib.Nat.{zero-add}
use Rattle.std.proofs.Common.{rules}
use Rattle.std.specs.Prelude.{Ok}
use Rattle.sheet_commands.specs.Step.{step_at}
use Rattle.sheet_commands.proofs.Runs.{nearer, few_nodes, first_refused, begin_refused, running_first, next_refused, next_ended, turn_refused, running_on}
use Rattle.sheet_commands.proofs.run.commands.Goals as goal
use Rattle.sheet_commands.proofs.run.commands.Goals.{In_ok-command}

pub returns-in_err-next : goal.returns-in_err-next
returns-in_err-next c = let refused = first_refused c.args.form c.args.sheet.now _ c.in_err-next.ensures.taken in search (rules, refused)

pub returns-in_err-graph : goal.returns-in_err-graph
returns-in_err-graph c =
    let refused = begin_refused c.args.form c.args.sheet.now _ c.in_ok-next.ensures.taken _ (sym c.in_err-graph.ensures) in search (rules, refused)

pub loop-command-init : goal.loop-command-init
loop-command-init c =
    let first = running_first c.args.form c.args.sheet.now _ c.in_ok-next.ensures.taken _ (sym c.in_ok-graph.ensures) c.requires in
    rw c.in_ok-next.ensures.moved (record { same_sheet = refl; same_form = refl; running = rw zero-add first })

pub turn-requires : goal.turn-requires
turn-requires c = few_nodes _ _ _ _ c.loop-command.invariant.running

pub returns-in_err-command : goal.returns-in_err-command
returns-in_err-command c =
    let i = c.loop-command.invariant in
    let refused = next_refused c.args.form c.args.sheet.now _ c.loop-command.graph i.running _ (rw (i.same_sheet, i.same_form) at c.in_err-command.ensures.taken) in search (rules, refused)

pub returns-in-End : goal.returns-in-End
returns-in-End c =
    let i = c.loop-command.invariant in
    next_ended c.args.form c.args.sheet.now _ c.loop-command.graph i.running (rw (i.same_sheet, i.same_form, c.in-End.is) at c.in_ok-command.ensures.taken)

-- the command that is taken, seen from where the loop stands
here : (c : In_ok-command) → Ok c.in_ok-command.command ≡ step_at c.args.form c.args.sheet.now c.loop-command.reader.at
here c = let i = c.loop-command.invariant in rw (i.same_sheet, i.same_form) at c.in_ok-command.ensures.taken

pub returns-in_err-turn-in_default : goal.returns-in_err-turn-in_default
returns-in_err-turn-in_default c =
    let refused = turn_refused c.args.form c.args.sheet.now _ c.loop-command.graph c.loop-command.invariant.running c.in_ok-command.command (here (goal.at.returns-in_err-turn-in_default c).In_ok-command)
    c.turn.result c.turn.new.graph c.turn.ensures.turned _ c.in_err-turn-in_default.was in search (rules, refused)

pub loop-command-smaller : goal.loop-command-smaller
loop-command-smaller c =
    rw c.in_ok-command.ensures.moved (nearer c.args.form c.args.sheet.now c.loop-command.reader.at c.in_ok-command.command (here (goal.at.loop-command-smaller c).In_ok-command))

pub loop-command-preserved : goal.loop-command-preserved
loop-command-preserved c =
    let i = c.loop-command.invariant in
    rw c.in_ok-command.ensures.moved
    (record {
      same_sheet = i.same_sheet;
      same_form = i.same_form;
      running = running_on c.args.form c.args.sheet.now _ c.loop-command.graph i.running c.in_ok-command.command (here (goal.at.loop-command-preserved c).In_ok-command) c.turn.result c.turn.new.graph c.turn.ensures.turned c.in_default.not-End c.in_ok-turn-in_default.was;
    })
