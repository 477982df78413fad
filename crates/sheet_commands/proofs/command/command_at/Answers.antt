use native.Mathlib.Omega.{arith}
use Rattle.std.proofs.Common.{rules}
use Rattle.sheet_commands.proofs.Steps.{command_within, step_refused, step_end, step_differ, step_nodes, step_two}
use Rattle.sheet_commands.proofs.command.command_at.Goals as goal

pub returns-in_err-kind : goal.returns-in_err-kind
returns-in_err-kind c = search (rules, step_refused)

pub overflow_add-from : goal.overflow_add-from
overflow_add-from c = omega (arith, command_within c.args.form _ c.args.sheet.now c.args.at _ c.in_ok-kind.ensures)

pub returns-in_err-needed-in-Nodes : goal.returns-in_err-needed-in-Nodes
returns-in_err-needed-in-Nodes c = let a = c.args in
    let step = step_nodes a.form a.sheet.now a.at _ (rw c.in-Nodes.is at c.in_ok-kind.ensures) c.in_err-needed-in-Nodes.ensures in search (rules, step)

pub returns-in_ok-needed-in-Nodes : goal.returns-in_ok-needed-in-Nodes
returns-in_ok-needed-in-Nodes c = let a = c.args in step_nodes a.form a.sheet.now a.at _ (rw c.in-Nodes.is at c.in_ok-kind.ensures) c.in_ok-needed-in-Nodes.ensures

pub returns-in_err-p-in-Tree : goal.returns-in_err-p-in-Tree
returns-in_err-p-in-Tree c = let a = c.args in
    let step = step_two a.form a.sheet.now a.at _ _ (rw c.in-Tree.is at c.in_ok-kind.ensures) (omega arith) (omega arith) (omega arith) c.in_err-p-in-Tree.ensures in search (rules, step)

pub returns-in_ok-p-in-Tree : goal.returns-in_ok-p-in-Tree
returns-in_ok-p-in-Tree c = let a = c.args in
    step_two a.form a.sheet.now a.at _ _ (rw c.in-Tree.is at c.in_ok-kind.ensures) (omega arith) (omega arith) (omega arith) c.in_ok-p-in-Tree.ensures

pub returns-in_err-l-in-Dominance : goal.returns-in_err-l-in-Dominance
returns-in_err-l-in-Dominance c = let a = c.args in
    let step = step_two a.form a.sheet.now a.at _ _ (rw c.in-Dominance.is at c.in_ok-kind.ensures) (omega arith) (omega arith) (omega arith) c.in_err-l-in-Dominance.ensures in search (rules, step)

pub returns-in_ok-l-in-Dominance : goal.returns-in_ok-l-in-Dominance
returns-in_ok-l-in-Dominance c = let a = c.args in
    step_two a.form a.sheet.now a.at _ _ (rw c.in-Dominance.is at c.in_ok-kind.ensures) (omega arith) (omega arith) (omega arith) c.in_ok-l-in-Dominance.ensures

pub returns-in_err-p-in-Label : goal.returns-in_err-p-in-Label
returns-in_err-p-in-Label c = let a = c.args in
    let step = step_two a.form a.sheet.now a.at _ _ (rw c.in-Label.is at c.in_ok-kind.ensures) (omega arith) (omega arith) (omega arith) c.in_err-p-in-Label.ensures in search (rules, step)

pub returns-in_ok-p-in-Label : goal.returns-in_ok-p-in-Label
returns-in_ok-p-in-Label c = let a = c.args in
    step_two a.form a.sheet.now a.at _ _ (rw c.in-Label.is at c.in_ok-kind.ensures) (omega arith) (omega arith) (omega arith) c.in_ok-p-in-Label.ensures

pub returns-in-Differ : goal.returns-in-Differ
returns-in-Differ c = step_differ _ _ _ (rw c.in-Differ.is at c.in_ok-kind.ensures)

pub returns-in-End : goal.returns-in-End
returns-in-End c = step_end _ _ _ (rw c.in-End.is at c.in_ok-kind.ensures)
