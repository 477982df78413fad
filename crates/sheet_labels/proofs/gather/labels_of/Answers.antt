use Rattle.std.proofs.Common.{◌≡◌, ◌+◌, ◌-◌, ◌<◌, length, refl, inl, inr, true, arith}
use Rattle.std.specs.Prelude.{Ok}
use borrow.Author.Tests.{lt-ltb, le-ltb}
use Rattle.format.specs.Sheet as spec
use Rattle.format.specs.declared.Form.TheVariants.{Labelled}
use Rattle.sheet_commands.specs.Step.{step_at, width}
use Rattle.sheet_commands.proofs.Runs.{nearer}
use Rattle.sheet_labels.specs.Keep.{Keeps}
use Rattle.sheet_labels.specs.Gather.{goes_on, after_step}
use Rattle.sheet_labels.specs.declared.table.Labels.{Labels}
use Rattle.sheet_labels.proofs.Gathers.{Gathers, gathers_none, gathers_refused, gathers_over, gathers_on}
use Rattle.sheet_labels.proofs.gather.labels_of.Goals as goal
use Rattle.sheet_labels.proofs.gather.labels_of.Goals.{In-Ok}

-- the command that is taken, seen from where the loop stands
here : (c : In-Ok) → Ok c.in-Ok.command ≡ step_at Labelled c.args.sheet.now c.loop-command.reader.at
here c = let i = c.loop-command.invariant in rw (i.same_sheet, i.same_form) at c.in-Ok.ensures.taken

-- past it
on : (c : In-Ok) → goes_on c.in-Ok.command ≡ true → (r : Labels) → ((m : spec.Labels) → Keeps m c.loop-command.labels → Keeps (after_step m c.in-Ok.command) r)
    → Gathers c.args.sheet.now (c.loop-command.reader.at + width c.in-Ok.command) r
on c goes r after = gathers_on _ _ _ c.loop-command.invariant.gathers _ (here c) goes r after

fewer : (c : In-Ok) → length c.args.sheet.now - (c.loop-command.reader.at + width c.in-Ok.command) < length c.args.sheet.now - c.loop-command.reader.at
fewer c = nearer Labelled c.args.sheet.now c.loop-command.reader.at c.in-Ok.command (here c)

pub loop-command-init : goal.loop-command-init
loop-command-init c = record { same_sheet = refl; same_form = refl; gathers = gathers_none _ _ (c.none-labels.ensures Labelled) }

pub loop-command-smaller-in-Tree : goal.loop-command-smaller-in-Tree
loop-command-smaller-in-Tree c = rw c.in-Ok.ensures.moved (fewer (goal.at.loop-command-smaller-in-Tree c).In-Ok)

pub loop-command-preserved-in-Tree : goal.loop-command-preserved-in-Tree
loop-command-preserved-in-Tree c =
    let i = c.loop-command.invariant in
    let k = (goal.at.loop-command-preserved-in-Tree c).In-Ok in
    rw c.in-Ok.ensures.moved
    (record {
      same_sheet = i.same_sheet;
      same_form = i.same_form;
      gathers = elim c.in-Tree.is [
        | inl e ↦ on k (rw e.2) _ (λ m keeps. rw e.2 keeps)
        | inr e ↦ on k (rw e.2) _ (λ m keeps. rw e.2 keeps)
      ];
    })

pub loop-command-smaller-in-Label : goal.loop-command-smaller-in-Label
loop-command-smaller-in-Label c = rw c.in-Ok.ensures.moved (fewer (goal.at.loop-command-smaller-in-Label c).In-Ok)

pub loop-command-preserved-in-Label : goal.loop-command-preserved-in-Label
loop-command-preserved-in-Label c =
    let i = c.loop-command.invariant in
    let k = (goal.at.loop-command-preserved-in-Label c).In-Ok in
    rw c.in-Ok.ensures.moved
    (record {
      same_sheet = i.same_sheet;
      same_form = i.same_form;
      gathers = on k (rw (c.in-Label.is, lt-ltb c.in-Label.p 128 (omega arith))) _ (λ m keeps. rw c.in-Label.is (c.label.ensures m keeps));
    })

pub loop-command-smaller : goal.loop-command-smaller
loop-command-smaller c = rw c.in-Ok.ensures.moved (fewer (goal.at.loop-command-smaller c).In-Ok)

pub loop-command-preserved : goal.loop-command-preserved
loop-command-preserved c =
    let i = c.loop-command.invariant in
    let k = (goal.at.loop-command-preserved c).In-Ok in
    rw c.in-Ok.ensures.moved
    (record { same_sheet = i.same_sheet; same_form = i.same_form; gathers = on k (rw c.in-Differ.is) _ (λ m keeps. rw c.in-Differ.is (c.differing.ensures m keeps)) })

pub returns-in_default : goal.returns-in_default
returns-in_default c = let i = c.loop-command.invariant in gathers_refused _ _ _ i.gathers _ (rw (i.same_sheet, i.same_form) at c.in_default.ensures.taken)

pub returns-then-p-ge128 : goal.returns-then-p-ge128
returns-then-p-ge128 c =
    let k = (goal.at.returns-then-p-ge128 c).In-Ok in
    gathers_over _ _ _ c.loop-command.invariant.gathers _ (here k) (rw (c.in-Label.is, le-ltb c.in-Label.p 128 (omega arith)))

pub returns-in-Nodes : goal.returns-in-Nodes
returns-in-Nodes c =
    let k = (goal.at.returns-in-Nodes c).In-Ok in
    elim c.in-Nodes.is [
      | inl e ↦ gathers_over _ _ _ c.loop-command.invariant.gathers _ (here k) (rw e.1)
      | inr e ↦ gathers_over _ _ _ c.loop-command.invariant.gathers _ (here k) (rw e)
    ]
