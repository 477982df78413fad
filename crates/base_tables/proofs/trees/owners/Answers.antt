use mathlib.Core.Path.{◌≡◌, subst}
use native.Mathlib.Omega.{arith}
use Rattle.base_tables.specs.Trees.{Filled}
use Rattle.base_tables.proofs.Climbing.{filled_none, filled_more}
use Rattle.base_tables.proofs.trees.owners.Goals as goal

pub loop-v-init : goal.loop-v-init
loop-v-init c = (omega arith, filled_none _ _ _)

pub overflow_cast-owner : goal.overflow_cast-owner
overflow_cast-owner c = omega (arith, c.own.ensures.1)

pub bounds-owner-v : goal.bounds-owner-v
bounds-owner-v c = omega (arith, c.loop-v.invariant.1.long)

pub loop-v-preserved : goal.loop-v-preserved
loop-v-preserved c =
    let l = c.loop-v in
    let a = c.args in
    (omega arith, filled_more a.n a.parent.now a.owner.now l.owner l.v c.own.result l.invariant.1 (omega (arith, c.requires.1, l.invariant.1.long)) c.own.ensures.0 c.own.ensures.1)

pub shape_of-owner : goal.shape_of-owner
shape_of-owner c = omega (arith, c.loop-v.invariant.1.long)

pub returns : goal.returns
returns c =
    let l = c.loop-v in
    let a = c.args in
    let all : l.v ≡ a.n = omega arith in
    subst (Filled a.n a.parent.now a.owner.now l.owner) all l.invariant.1
