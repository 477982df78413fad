use Rattle.std.proofs.Common.{◌≡◌, ℕ, ◌+◌, ◌-◌, ◌<◌, length, refl, inl, inr, true, false, arith, List}
use Rattle.std.specs.Prelude.{Ok}
use borrow.Author.Tests.{lt-ltb, le-ltb}
use Rattle.base_finite.proofs.Laws.{and_false}
use Rattle.base_nodeset.specs.declared.NodeSet.{NodeSet}
use Rattle.graph.specs.Graph.{Edge}
use Rattle.format.specs.Sheet as spec
use Rattle.format.specs.declared.Form.TheVariants.{Labelled}
use Rattle.sheet_commands.specs.Step.{step_at, width}
use Rattle.sheet_commands.proofs.Runs.{nearer}
use Rattle.sheet_nodes.specs.Table.{NodeTable}
use Rattle.sheet_nodes.specs.Hold.{Holding, goes_on, tree_with, symbols_with}
use Rattle.sheet_nodes.proofs.Walk.{Walked, walked_none, walked_refused, walked_over, walked_on}
use Rattle.sheet_nodes.proofs.node_table.Goals as goal
use Rattle.sheet_nodes.proofs.node_table.Goals.{In-Ok, then-p-ge128-via-then-p-ge128, then-p-ge128-via-else-p-ge128+then-c-ge128}

-- the command that is taken, seen from where the loop stands
here : (c : In-Ok) → Ok c.in-Ok.command ≡ step_at Labelled c.args.sheet.now c.loop-command.reader.at
here c = let i = c.loop-command.invariant in rw (i.same_sheet, i.same_form) at c.in-Ok.ensures.taken

fewer : (c : In-Ok) → length c.args.sheet.now - (c.loop-command.reader.at + width c.in-Ok.command) < length c.args.sheet.now - c.loop-command.reader.at
fewer c = nearer Labelled c.args.sheet.now c.loop-command.reader.at c.in-Ok.command (here c)

over : (c : In-Ok) → goes_on c.in-Ok.command ≡ false → (s : spec.Content) → spec.outcome_of Labelled c.args.sheet.now ≡ spec.accepted s
    → NodeTable s c.loop-command.table c.loop-command.labelled
over c stop = walked_over _ c.loop-command.invariant.walked _ (here c) stop

on : (c : In-Ok) → goes_on c.in-Ok.command ≡ true → (table : List ℕ) (l : NodeSet) → length table ≡ 512
    → ((t m : List Edge) → Holding t m c.loop-command.table c.loop-command.labelled → Holding (tree_with t c.in-Ok.command) (symbols_with m c.in-Ok.command) table l)
    → Walked c.args.sheet.now (c.loop-command.reader.at + width c.in-Ok.command) table l
on c goes table l long with_it = walked_on _ c.loop-command.invariant.walked _ (here c) goes long with_it

pub loop-command-init : goal.loop-command-init
loop-command-init c = record { same_sheet = refl; same_form = refl; walked = walked_none _ _ c.requires _ c.empty-labelled.ensures }

pub loop-command-smaller-in-Tree : goal.loop-command-smaller-in-Tree
loop-command-smaller-in-Tree c = rw c.in-Ok.ensures.moved (fewer (goal.at.loop-command-smaller-in-Tree c).In-Ok)

pub loop-command-preserved-in-Tree : goal.loop-command-preserved-in-Tree
loop-command-preserved-in-Tree c =
    let i = c.loop-command.invariant in
    let k = (goal.at.loop-command-preserved-in-Tree c).In-Ok in
    let e = c.in-Tree in
    rw c.in-Ok.ensures.moved
    (record {
      same_sheet = i.same_sheet;
      same_form = i.same_form;
      walked = on k (rw (e.is, lt-ltb e.p 128 (omega arith), lt-ltb e.c 128 (omega arith))) _ _ (omega (arith, i.walked.long)) (λ t m holding. rw e.is (c.add_child.ensures t m _ holding));
    })

pub loop-command-smaller-in-Label : goal.loop-command-smaller-in-Label
loop-command-smaller-in-Label c = rw c.in-Ok.ensures.moved (fewer (goal.at.loop-command-smaller-in-Label c).In-Ok)

pub loop-command-preserved-in-Label : goal.loop-command-preserved-in-Label
loop-command-preserved-in-Label c =
    let i = c.loop-command.invariant in
    let k = (goal.at.loop-command-preserved-in-Label c).In-Ok in
    let e = c.in-Label in
    rw c.in-Ok.ensures.moved
    (record {
      same_sheet = i.same_sheet;
      same_form = i.same_form;
      walked = on k (rw (e.is, lt-ltb e.v 128 (omega arith))) _ _ (omega (arith, i.walked.long)) (λ t m holding. rw e.is (c.add_label-labelled.ensures t m holding));
    })

pub loop-command-smaller : goal.loop-command-smaller
loop-command-smaller c = rw c.in-Ok.ensures.moved (fewer (goal.at.loop-command-smaller c).In-Ok)

pub loop-command-preserved : goal.loop-command-preserved
loop-command-preserved c =
    let i = c.loop-command.invariant in
    let k = (goal.at.loop-command-preserved c).In-Ok in
    rw c.in-Ok.ensures.moved
    (record {
      same_sheet = i.same_sheet;
      same_form = i.same_form;
      walked = elim c.in-Dominance.is [
        | inl e ↦ on k (rw e.2) _ _ i.walked.long (λ t m holding. rw e.2 holding)
        | inr e ↦ on k (rw e) _ _ i.walked.long (λ t m holding. rw e holding)
      ];
    })

pub returns-then-p-ge128 : goal.returns-then-p-ge128
returns-then-p-ge128 c =
    let k = (goal.at.returns-then-p-ge128 c).In-Ok in
    let e = c.in-Tree in
    elim c.then-p-ge128.branch [
      | then-p-ge128-via-then-p-ge128 w ↦ over k (rw (e.is, le-ltb e.p 128 (omega arith)))
      | then-p-ge128-via-else-p-ge128+then-c-ge128 w ↦ over k (rw (e.is, le-ltb e.c 128 (omega arith), and_false))
    ]

pub returns-then-v-ge128 : goal.returns-then-v-ge128
returns-then-v-ge128 c = over (goal.at.returns-then-v-ge128 c).In-Ok (rw (c.in-Label.is, le-ltb c.in-Label.v 128 (omega arith)))

pub returns-in-Nodes : goal.returns-in-Nodes
returns-in-Nodes c =
    let k = (goal.at.returns-in-Nodes c).In-Ok in
    elim c.in-Nodes.is [ inl e ↦ over k (rw e.1) | inr e ↦ over k (rw e) ]

pub returns-in_default : goal.returns-in_default
returns-in_default c = let i = c.loop-command.invariant in walked_refused _ i.walked _ (rw (i.same_sheet, i.same_form) at c.in_default.ensures.taken)
