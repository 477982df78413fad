use Rattle.std.proofs.Common.{refl, sym, ◌∙◌, arith}
use native.Mathlib.Nat.{add-zero}
use Rattle.base_finite.specs.Below.{count}
use Rattle.base_finite.proofs.Laws.{count_more}
use Rattle.base_nodeset.specs.Set.{mem}
use Rattle.sheet_labels.proofs.fit.labelled_nodes.Goals as goal
use Rattle.sheet_labels.proofs.fit.labelled_nodes.Goals.{then-has, else-has}

pub loop-v-init : goal.loop-v-init
unfolding count
loop-v-init c = (refl, omega arith)

pub loop-v-preserved : goal.loop-v-preserved
loop-v-preserved c =
    let l = c.loop-v in
    let now = count_more l.v (mem c.args.labelled) in
    elim c.if-has.branch [
      | then-has w ↦ (w.nodes-is ∙ rw l.invariant.0 (sym (now ∙ rw (← w.if-has.ensures))), omega arith)
      | else-has w ↦ (w.nodes-is ∙ rw l.invariant.0 (sym (now ∙ rw (← w.if-has.ensures, add-zero))), omega arith)
    ]
