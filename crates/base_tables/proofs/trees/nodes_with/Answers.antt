use mathlib.Core.Path.{◌≡◌, sym, ◌∙◌}
use native.Mathlib.Omega.{arith}
use Rattle.base_tables.proofs.Parents.{nodes_none, nodes_more}
use Rattle.base_tables.proofs.trees.nodes_with.Goals as goal

pub loop-v-init : goal.loop-v-init
loop-v-init c = (omega arith, λ u. c.empty-set.ensures u ∙ sym (nodes_none _ _ u))

pub loop-v-preserved : goal.loop-v-preserved
loop-v-preserved c =
    let l = c.loop-v in
    (omega arith, λ u. c.with_node-set.ensures u ∙ rw (l.invariant.1 u) (sym (nodes_more l.v _ _ u)))

pub returns : goal.returns
returns c =
    let l = c.loop-v in
    let a = c.args in
    let all : l.v ≡ a.n = omega arith in
    λ u. l.invariant.1 u ∙ rw all
