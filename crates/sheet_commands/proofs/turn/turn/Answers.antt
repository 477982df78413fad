use native.Mathlib.Omega.{arith}
use Rattle.std.proofs.Common.{rules, inl, inr}
use Rattle.sheet_commands.proofs.Turns.{tree_turn, dominance_turn, label_refused, label_turn, differ_turn, end_turn}
use Rattle.sheet_commands.specs.Turn.{outcome_after, Reached}
use Rattle.sheet_commands.proofs.turn.turn.Goals as goal

pub returns-in-Tree-clause-turned : goal.returns-in-Tree-clause-turned
returns-in-Tree-clause-turned c = let edge = c.tree_edge in
    λ t d m rest h. rw c.in-Tree.is (tree_turn t d m rest c.args.graph.now (omega arith) h c.in-Tree.p c.in-Tree.c _ _ edge.ensures.value edge.ensures.ok)

pub returns-in-Dominance-clause-turned : goal.returns-in-Dominance-clause-turned
returns-in-Dominance-clause-turned c = let edge = c.dominance_edge in
    λ t d m rest h. rw c.in-Dominance.is (dominance_turn t d m rest c.args.graph.now (omega arith) h c.in-Dominance.l c.in-Dominance.r _ _ edge.ensures.value edge.ensures.ok)

pub returns-in_err-node-in-Label-clause-turned : goal.returns-in_err-node-in-Label-clause-turned
returns-in_err-node-in-Label-clause-turned c = λ t d m rest h. let refused = label_refused t d m rest c.args.graph.now (omega arith) h c.in-Label.p c.in-Label.field-1 _ c.in_err-node-in-Label.ensures in rw c.in-Label.is (search (rules, refused))

pub returns-in_ok-node-in-Label-clause-turned : goal.returns-in_ok-node-in-Label-clause-turned
returns-in_ok-node-in-Label-clause-turned c =
    λ t d m rest h. rw c.in-Label.is (label_turn t d m rest c.args.graph.now (omega arith) h c.in-Label.p _ _ c.in_ok-node-in-Label.ensures)

pub returns-in-Differ-clause-turned : goal.returns-in-Differ-clause-turned
returns-in-Differ-clause-turned c =
    λ t d m rest h.
    elim c.in-Differ.is [
      | inl e ↦ rw e (differ_turn t d m rest c.args.graph.now (omega arith) h)
      | inr e ↦ rw e (end_turn t d m rest c.args.graph.now (omega arith) h)
    ]

pub returns-in-Nodes-clause-turned : goal.returns-in-Nodes-clause-turned
unfolding Reached outcome_after
returns-in-Nodes-clause-turned c = λ t d m rest h. rw c.in-Nodes.is
