-- Each part of a fragment and of a leaf has room where all have, and is written after those before it.
use mathlib.Core.Path.{refl}
use native.Mathlib.Omega.{arith}
use borrow.Author.Tests.{eq-eqb, ne_eqb}
use Rattle.show_drawing.proofs.Loops.{marked_none, marked_skip, marked_room, marked_ready, marked_take}
use Rattle.show_drawing.proofs.Parts.{one_left, root_room, leaves_ready, one_less, end_room, fragment_moved, leaf_room, hung_ready, none_more, plain_moved, bracket_room, hung_leaf_moved}
use Rattle.show_drawing.proofs.+fragment_leaf.Goals as goal

pub fragment-overflow_sub-left : goal.fragment-overflow_sub-left
fragment-overflow_sub-left t c = one_left _ _ _ c.requires.ready

pub fragment-number-pen-requires : goal.fragment-number-pen-requires
fragment-number-pen-requires t c = root_room _ _ _ c.requires.ready

pub fragment-loop-x-init : goal.fragment-loop-x-init
fragment-loop-x-init t c = marked_none (leaves_ready _ _ _ c.requires.ready c.number-pen.ensures refl)

pub fragment-loop-x-preserved-then-home-x : goal.fragment-loop-x-preserved-then-home-x
fragment-loop-x-preserved-then-home-x t c =
    marked_skip c.loop-x.invariant c.loop-x-test.true (ne_eqb _ _ c.if-home-x.true)

pub fragment-put-next-requires : goal.fragment-put-next-requires
fragment-put-next-requires t c =
    marked_room c.loop-x.invariant c.loop-x-test.true (eq-eqb _ _ c.if-home-x.false)

pub fragment-leaf-pen-requires : goal.fragment-leaf-pen-requires
fragment-leaf-pen-requires t c = (
  omega (arith, c.decreases, one_less _ _ _ c.requires.ready c.number-pen.ensures refl c.loop-x.invariant.running, c.put-next.ensures.counted),
  (c.requires.lent, marked_ready c.loop-x.invariant c.loop-x-test.true (eq-eqb _ _ c.if-home-x.false) c.put-next.ensures),
)

pub fragment-loop-x-preserved : goal.fragment-loop-x-preserved
fragment-loop-x-preserved t c =
    marked_take c.loop-x.invariant c.loop-x-test.true (eq-eqb _ _ c.if-home-x.false) c.put-next.ensures c.leaf-pen.ensures

pub fragment-put-requires : goal.fragment-put-requires
fragment-put-requires t c =
    end_room _ _ _ c.requires.ready c.number-pen.ensures refl c.loop-x.invariant.running c.loop-x-test.false

pub fragment-returns : goal.fragment-returns
fragment-returns t c =
    fragment_moved _ _ _ c.requires.ready c.number-pen.ensures refl c.loop-x.invariant.running c.loop-x-test.false c.put.ensures

pub leaf-number-pen-requires : goal.leaf-number-pen-requires
leaf-number-pen-requires t c = leaf_room _ _ _ c.requires.ready

pub leaf-loop-r-init : goal.leaf-loop-r-init
leaf-loop-r-init t c = marked_none (hung_ready _ _ _ c.requires.ready c.number-pen.ensures)

pub leaf-loop-r-preserved-then-placing-r : goal.leaf-loop-r-preserved-then-placing-r
leaf-loop-r-preserved-then-placing-r t c =
    marked_skip c.loop-r.invariant c.loop-r-test.true (ne_eqb _ _ c.if-placing-r.true)

pub leaf-put-next-requires : goal.leaf-put-next-requires
leaf-put-next-requires t c =
    marked_room c.loop-r.invariant c.loop-r-test.true (eq-eqb _ _ c.if-placing-r.false)

pub leaf-fragment-pen-requires : goal.leaf-fragment-pen-requires
leaf-fragment-pen-requires t c = (
  omega (arith, c.decreases, none_more _ _ _ c.requires.ready c.number-pen.ensures c.loop-r.invariant, c.put-next.ensures.counted),
  (c.requires.lent, marked_ready c.loop-r.invariant c.loop-r-test.true (eq-eqb _ _ c.if-placing-r.false) c.put-next.ensures),
)

pub leaf-loop-r-preserved : goal.leaf-loop-r-preserved
leaf-loop-r-preserved t c =
    marked_take c.loop-r.invariant c.loop-r-test.true (eq-eqb _ _ c.if-placing-r.false) c.put-next.ensures c.fragment-pen.ensures

pub leaf-returns-then-mark-eq91 : goal.leaf-returns-then-mark-eq91
leaf-returns-then-mark-eq91 t c =
    plain_moved _ _ _ c.requires.ready c.number-pen.ensures c.loop-r.invariant c.loop-r-test.false c.if-mark-eq91.true

pub leaf-put-requires : goal.leaf-put-requires
leaf-put-requires t c =
    bracket_room _ _ _ c.requires.ready c.number-pen.ensures c.loop-r.invariant c.loop-r-test.false c.if-mark-eq91.false

pub leaf-returns : goal.leaf-returns
leaf-returns t c =
    hung_leaf_moved _ _ _ c.requires.ready c.number-pen.ensures c.loop-r.invariant c.loop-r-test.false c.if-mark-eq91.false c.put.ensures
