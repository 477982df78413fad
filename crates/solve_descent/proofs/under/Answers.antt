use Prim.Native.Nat.{ℕ, ◌<◌}
use mathlib.Core.Path.{◌≡◌, refl, ◌∙◌}
use mathlib.Core.Bool.{true}
use lib.ListN.{get_or}
use Rattle.base_tables.specs.Rows.{nothing}
use native.Mathlib.Omega.{arith}
use Rattle.base_finite.proofs.Laws.{count_le, or_right}
use Rattle.base_finite.proofs.Stores.{written_length}
use Rattle.base_nodeset.specs.Set.{mem}
use Rattle.solve_descent.proofs.Walk.{small_set, start_room, walk_start, walk_room, walk_more, walk_under, walk_listed}
use Rattle.solve_descent.proofs.under.Goals as goal

pub list-end-requires : goal.list-end-requires
list-end-requires c =
    start_room c.args.list.now c.union-found.result c.requires.3

pub loop-at-init : goal.loop-at-init
loop-at-init c =
    let start = c.list-end.ensures in
    (written_length _ _ _ _ _ start ∙ c.requires.3, omega arith, walk_start _ _ _ _ c.union-found.result _ c.requires.3 (small_set c.union-found.result (omega arith)) (λ v. c.union-found.ensures v ∙ rw (c.empty.ensures v)) start)

pub bounds-list-at : goal.bounds-list-at
bounds-list-at c =
    let l = c.loop-at in
    let w = l.invariant.2 in
    omega (arith, l.invariant.0, w.few, w.listed.long, count_le 128 (mem l.found))

pub overflow_cast-next : goal.overflow_cast-next
overflow_cast-next c = omega (arith, c.type_inv.list c.loop-at.at)

pub has-requires : goal.has-requires
has-requires c =
    let l = c.loop-at in
    (l.invariant.2.listed.nodes l.at (omega (arith, c.loop-at-test.true))).0

pub list-end-requires-in-loop-at : goal.list-end-requires-in-loop-at
list-end-requires-in-loop-at c =
    let l = c.loop-at in
    walk_room _ _ c.args.whole c.requires.1 _ l.list l.found l.at l.end l.invariant.2 (omega (arith, c.loop-at-test.true)) (get_or c.args.rows.now (get_or c.loop-at.list c.loop-at.at 0) nothing) c.to_visit-fresh.result c.has.result (λ v. refl) c.has.ensures c.to_visit-fresh.ensures l.invariant.0

pub overflow_add-at : goal.overflow_add-at
overflow_add-at c =
    let l = c.loop-at in
    let w = l.invariant.2 in
    let taken = c.loop-at-test.true in
    omega (arith, w.few, count_le 128 (mem l.found))

pub loop-at-smaller : goal.loop-at-smaller
loop-at-smaller c =
    let l = c.loop-at in
    let w = l.invariant.2 in
    let taken = c.loop-at-test.true in
    omega (arith, w.few, count_le 128 (mem l.found))

pub loop-at-preserved : goal.loop-at-preserved
loop-at-preserved c =
    let l = c.loop-at in
    let row = get_or c.args.rows.now (get_or c.loop-at.list c.loop-at.at 0) nothing in
    let found = c.union-found-in-loop-at in
    let put = c.list-end-in-loop-at.ensures in
    let small : (v : ℕ) → mem row v ≡ true → v < 128 = λ v t. small_set found.result (omega arith) v (found.ensures v ∙ or_right (mem l.found v) (mem row v) t) in
    (l.invariant.0, omega (arith, l.invariant.1, put.after), walk_more _ _ c.args.whole c.requires.1 _ l.list l.found l.at l.end l.invariant.2 (omega (arith, c.loop-at-test.true)) row c.to_visit-fresh.result c.has.result (λ v. refl) c.has.ensures c.to_visit-fresh.ensures l.invariant.0 small _ _ _ put found.ensures)

pub returns : goal.returns
returns c = let l = c.loop-at in
    record { under = walk_under _ _ _ _ _ l.at l.end l.invariant.2 (omega (arith, c.loop-at-test.false)); walked = walk_listed _ _ _ _ _ l.at l.end l.invariant.2 (omega (arith, c.loop-at-test.false)) _ _ c.list-end.ensures l.invariant.1 }

pub bounds-rows-next : goal.bounds-rows-next
bounds-rows-next c =
    let l = c.loop-at in
    omega (arith, c.requires.0, (l.invariant.2.listed.nodes l.at (omega (arith, c.loop-at-test.true))).0)

pub offset_bounds-rows-next : goal.offset_bounds-rows-next
offset_bounds-rows-next c =
    let l = c.loop-at in
    omega (arith, c.requires.0, (l.invariant.2.listed.nodes l.at (omega (arith, c.loop-at-test.true))).0)
