use Prim.Native.Nat.{ℕ, ◌+◌, ◌*◌, ◌≤◌, ◌<◌}
use mathlib.Core.Path.{◌≡◌, ◌∙◌}
use native.Mathlib.Omega.{arith}
use mathlib.Core.List.{List}
use Rattle.solve_cycle.specs.Spelling.{Back, WayBack}
use lib.ListN.{length, get_or, length-set}
use Rattle.solve_cycle.proofs.Spells.{way_start, way_more, way_end}
use Rattle.solve_cycle.proofs.way_back.Goals as goal

-- the numbers of a turn
bounds : (parents queue came : List ℕ) (at k : ℕ) (old new : List ℕ) (c : ℕ)
    → Back queue came at
    → WayBack parents queue came at k old new c
    → 0 < k
    → 2 * at < length old
    → (c + k ≤ at) × (get_or came k 0 < k) × (at < 128) × (length queue ≡ 128) × (length came ≡ 128) × (2 * at < length new)
bounds parents queue came at k old new c b w h long =
    (w.few, b.earlier k h (omega (arith, w.few)), b.at_small, b.queue_long, b.came_long, omega (arith, w.long))

pub bounds-queue-at : goal.bounds-queue-at
bounds-queue-at c = omega (arith, c.requires.1.at_small, c.requires.1.queue_long)

pub bounds-out-0 : goal.bounds-out-0
bounds-out-0 c = omega (arith, c.requires.2)

pub loop-k-init : goal.loop-k-init
loop-k-init c =
    let a = c.args in
    way_start a.parent.now a.queue.now a.came.now a.at a.out.now (omega (arith, c.requires.2))

pub bounds-came-k : goal.bounds-came-k
bounds-came-k c = omega (arith, bounds c.args.parent.now c.args.queue.now c.args.came.now c.args.at c.loop-k.k _ c.loop-k.out c.loop-k.c c.requires.1 c.loop-k.invariant c.loop-k-test.true (simp length-set c.requires.2))

pub overflow_cast-next : goal.overflow_cast-next
overflow_cast-next c = omega (arith, c.type_inv.came c.loop-k.k)

pub bounds-queue-k : goal.bounds-queue-k
bounds-queue-k c = omega (arith, bounds c.args.parent.now c.args.queue.now c.args.came.now c.args.at c.loop-k.k _ c.loop-k.out c.loop-k.c c.requires.1 c.loop-k.invariant c.loop-k-test.true (simp length-set c.requires.2))

pub overflow_cast-u : goal.overflow_cast-u
overflow_cast-u c = omega (arith, c.type_inv.queue c.loop-k.k)

pub bounds-queue-next : goal.bounds-queue-next
bounds-queue-next c = omega (arith, bounds c.args.parent.now c.args.queue.now c.args.came.now c.args.at c.loop-k.k _ c.loop-k.out c.loop-k.c c.requires.1 c.loop-k.invariant c.loop-k-test.true (simp length-set c.requires.2))

pub overflow_cast-v : goal.overflow_cast-v
overflow_cast-v c = omega (arith, c.type_inv.queue (get_or c.args.came.now c.loop-k.k 0))

pub kind-requires : goal.kind-requires
kind-requires c =
    let a = c.args in
    let l = c.loop-k in
    let b = bounds c.args.parent.now c.args.queue.now c.args.came.now c.args.at c.loop-k.k _ c.loop-k.out c.loop-k.c c.requires.1 c.loop-k.invariant c.loop-k-test.true (simp length-set c.requires.2) in
    (c.requires.0, c.requires.1.small l.k (omega arith), c.requires.1.small (get_or a.came.now l.k 0) (omega arith))

pub overflow_mul-out : goal.overflow_mul-out
overflow_mul-out c = omega (arith, bounds c.args.parent.now c.args.queue.now c.args.came.now c.args.at c.loop-k.k _ c.loop-k.out c.loop-k.c c.requires.1 c.loop-k.invariant c.loop-k-test.true (simp length-set c.requires.2))

pub overflow_add-out : goal.overflow_add-out
overflow_add-out c = omega (arith, bounds c.args.parent.now c.args.queue.now c.args.came.now c.args.at c.loop-k.k _ c.loop-k.out c.loop-k.c c.requires.1 c.loop-k.invariant c.loop-k-test.true (simp length-set c.requires.2))

pub bounds-out-c : goal.bounds-out-c
bounds-out-c c = omega (arith, bounds c.args.parent.now c.args.queue.now c.args.came.now c.args.at c.loop-k.k _ c.loop-k.out c.loop-k.c c.requires.1 c.loop-k.invariant c.loop-k-test.true (simp length-set c.requires.2))

pub overflow_mul-out-in-loop-k : goal.overflow_mul-out-in-loop-k
overflow_mul-out-in-loop-k c = omega (arith, bounds c.args.parent.now c.args.queue.now c.args.came.now c.args.at c.loop-k.k _ c.loop-k.out c.loop-k.c c.requires.1 c.loop-k.invariant c.loop-k-test.true (simp length-set c.requires.2))

pub overflow_add-out-in-loop-k : goal.overflow_add-out-in-loop-k
overflow_add-out-in-loop-k c = omega (arith, bounds c.args.parent.now c.args.queue.now c.args.came.now c.args.at c.loop-k.k _ c.loop-k.out c.loop-k.c c.requires.1 c.loop-k.invariant c.loop-k-test.true (simp length-set c.requires.2))

pub bounds-out-c-in-loop-k : goal.bounds-out-c-in-loop-k
bounds-out-c-in-loop-k c = simp length-set (omega (arith, bounds c.args.parent.now c.args.queue.now c.args.came.now c.args.at c.loop-k.k _ c.loop-k.out c.loop-k.c c.requires.1 c.loop-k.invariant c.loop-k-test.true (simp length-set c.requires.2)))

pub overflow_add-c : goal.overflow_add-c
overflow_add-c c = omega (arith, bounds c.args.parent.now c.args.queue.now c.args.came.now c.args.at c.loop-k.k _ c.loop-k.out c.loop-k.c c.requires.1 c.loop-k.invariant c.loop-k-test.true (simp length-set c.requires.2))

pub loop-k-smaller : goal.loop-k-smaller
loop-k-smaller c = omega (arith, bounds c.args.parent.now c.args.queue.now c.args.came.now c.args.at c.loop-k.k _ c.loop-k.out c.loop-k.c c.requires.1 c.loop-k.invariant c.loop-k-test.true (simp length-set c.requires.2))

pub loop-k-preserved : goal.loop-k-preserved
loop-k-preserved c =
    let a = c.args in
    let l = c.loop-k in
    way_more a.parent.now a.queue.now a.came.now a.at l.k _ l.out l.c c.requires.1 l.invariant c.loop-k-test.true (omega (arith, bounds c.args.parent.now c.args.queue.now c.args.came.now c.args.at c.loop-k.k _ c.loop-k.out c.loop-k.c c.requires.1 c.loop-k.invariant c.loop-k-test.true (simp length-set c.requires.2), l.invariant.long)) c.kind.result c.kind.ensures

pub shape_of-out : goal.shape_of-out
shape_of-out c = c.loop-k.invariant.long ∙ simp length-set

pub returns : goal.returns
returns c =
    let a = c.args in
    let l = c.loop-k in
    let z : l.k ≡ 0 = omega arith in
    way_end a.parent.now a.queue.now a.came.now a.at a.out.now (get_or a.queue.now a.at 0) l.out l.c (rw z at l.invariant)
