use mathlib.Core.Path.{◌≡◌, refl}
use native.Mathlib.Omega.{arith}
use lib.ListN.{length, get_or, length-set}
use Rattle.base_tables.specs.Rows.{nothing}
use Rattle.base_finite.proofs.Stores.{Filled}
use Rattle.solve_reduce.proofs.Settling.{lowest, settle_start, settle_more, settle_end, settles, rest_same}
use Rattle.solve_reduce.proofs.settle.settle.Goals as goal

pub clear-requires : goal.clear-requires
clear-requires c = c.requires.2

pub loop-v-init : goal.loop-v-init
loop-v-init c = (refl, settle_start c.args.trees.now.n c.args.trees.now.roots c.args.sets.now c.args.out.now _ c.clear.ensures)

pub shape_of-out : goal.shape_of-out
shape_of-out c = omega (arith, c.loop-v.invariant.0, c.clear.auto)

pub returns : goal.returns
returns c = let a = c.args in
    let l = c.loop-v in
    let f = lowest a.trees.now.n a.trees.now.roots a.sets.now in
    let long : length l.out ≡ length a.out.now = omega (arith, l.invariant.0, c.clear.auto) in
    let so : Filled f a.trees.now.n a.out.now l.out = settle_end a.trees.now.n a.trees.now.roots a.sets.now l.left a.out.now _ l.out (c.pop_first.ensures.empty c.in_default.is) c.clear.ensures l.invariant.1 in
    record { out_unchanged = rest_same f a.trees.now.n a.out.now l.out long so; out_after = λ g ends is. settles g a.trees.now a.sets.now ends is a.out.now l.out (omega (arith, long, c.requires.2)) so }

pub bounds-sets-v : goal.bounds-sets-v
bounds-sets-v c = omega (arith, c.requires.0, c.requires.1.roots_within _ (c.loop-v.invariant.1.of_roots _ (c.pop_first.ensures.lowest _ c.in-Some.is).in_set))

pub offset_bounds-sets-v : goal.offset_bounds-sets-v
offset_bounds-sets-v c = omega (arith, (c.pop_first.ensures.lowest _ c.in-Some.is).below)

pub byte-requires : goal.byte-requires
byte-requires c = c.requires.1.few

pub bounds-out-v : goal.bounds-out-v
bounds-out-v c = omega (arith, c.requires.2, c.loop-v.invariant.0, c.clear.auto, c.requires.1.roots_within _ (c.loop-v.invariant.1.of_roots _ (c.pop_first.ensures.lowest _ c.in-Some.is).in_set))

pub loop-v-smaller : goal.loop-v-smaller
loop-v-smaller c =
    let first = c.pop_first.ensures.lowest _ c.in-Some.is in
    omega arith

pub loop-v-preserved : goal.loop-v-preserved
loop-v-preserved c =
    let a = c.args in
    let l = c.loop-v in
    let first = c.pop_first.ensures.lowest _ c.in-Some.is in
    let small = c.requires.1.roots_within _ (l.invariant.1.of_roots _ first.in_set) in
    (simp length-set l.invariant.0, settle_more a.trees.now.n a.trees.now.roots a.sets.now l.left _ _ l.out _ c.lowest.result c.byte.result (get_or a.sets.now c.in-Some.v nothing) first small (omega (arith, small, c.requires.2, l.invariant.0, c.clear.auto)) (λ v. refl) c.lowest.ensures c.byte.ensures l.invariant.1)
