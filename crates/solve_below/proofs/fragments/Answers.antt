use mathlib.Core.Path.{◌≡◌, refl, ◌∙◌}
use Prim.Native.Nat.{◌<◌}
use lib.ListN.{get_or}
use Rattle.base_tables.specs.Rows.{nothing}
use Rattle.base_tables.proofs.Stored.{row_put}
use native.Mathlib.Omega.{arith}
use Rattle.solve_below.proofs.Roots.{fragments_start, fragments_more}
use Rattle.solve_below.proofs.fragments.Goals as goal

pub clear-requires : goal.clear-requires
clear-requires c = c.requires.1

pub loop-v-init : goal.loop-v-init
loop-v-init c = (omega arith, refl, fragments_start c.args.trees.now.n c.args.trees.now.owner _ c.clear.ensures)

pub bounds-trees-v : goal.bounds-trees-v
bounds-trees-v c = omega (arith, c.requires.0.long)

pub overflow_cast-r : goal.overflow_cast-r
overflow_cast-r c = omega (arith, c.requires.0.within c.loop-v.v (omega arith), c.requires.0.bounded.few)

pub bounds-sets-r : goal.bounds-sets-r
bounds-sets-r c = omega (arith, c.requires.0.within c.loop-v.v (omega arith), c.loop-v.invariant.1, c.clear.auto, c.requires.1)

pub offset_bounds-sets-r : goal.offset_bounds-sets-r
offset_bounds-sets-r c = omega (arith, c.requires.0.within c.loop-v.v (omega arith), c.requires.0.bounded.few)

pub with-requires : goal.with-requires
with-requires c = omega (arith, c.requires.0.bounded.few)

pub loop-v-preserved : goal.loop-v-preserved
loop-v-preserved c =
    let a = c.args in
    let l = c.loop-v in
    let r = get_or a.trees.now.owner l.v 0 in
    let within : r < a.trees.now.n = c.requires.0.within l.v (omega arith) in
    let put = row_put r c.with.result l.sets (omega (arith, within, l.invariant.1, c.clear.auto, c.requires.1)) in
    (omega arith, omega (arith, l.invariant.1, put.long), fragments_more a.trees.now.n a.trees.now.owner l.v l.sets _ r (get_or l.sets r nothing) c.with.result refl (λ v. refl) c.with.ensures put within l.invariant.2)

pub shape_of-sets : goal.shape_of-sets
shape_of-sets c = omega (arith, c.loop-v.invariant.1, c.clear.auto)

pub returns : goal.returns
returns c =
    let l = c.loop-v in
    let all : l.v ≡ c.args.trees.now.n = omega arith in
    record { row_is = λ r v h. l.invariant.2 r v h ∙ rw all }
