-- Each part of a text has room where all have, and is written after those before it.
use mathlib.Core.Path.{sym, ◌∙◌}
use mathlib.Core.List.{[], ◌∷◌}
use native.Mathlib.Omega.{arith}
use Rattle.base_finite.proofs.Stores.{written_none}
use Rattle.show_term.proofs.Lists.{some_found, child_few}
use Rattle.show_term.proofs.Texts.{in_parts, first_room, second_room, both_written, same_room, same_written, behind, behind_more, less_left, node_deep, node_hole, node_labelled, arguments_none, arguments_some, others_none, others_some, hole_empty, hole_pair, pair_long, pair_parts, topmost_none, topmost_alone, topmost_several}
use Rattle.show_term.proofs.+arguments_hole_node_others_pair_topmost.Goals as goal

pub arguments-returns-then-first : goal.arguments-returns-then-first
arguments-returns-then-first t c =
    same_written (arguments_none _ _ _ _ _ _ c.child-first.ensures c.if-first.true) (written_none _ _)

pub arguments-put-at-requires : goal.arguments-put-at-requires
arguments-put-at-requires t c =
    omega (arith, (first_room (arguments_some _ _ _ _ _ _ c.child-first.ensures c.if-first.false) c.requires.2).fits)

pub arguments-node-end-requires : goal.arguments-node-end-requires
arguments-node-end-requires t c =
    let e = c.child-first.ensures in
    let parts = arguments_some _ _ _ _ _ _ e c.if-first.false in
    let child = c.requires.0.child_node _ 0 c.requires.1 (λ i. c.if-first.false (e ∙ i)) in
    let after = behind (first_room parts c.requires.2) c.put-at.ensures (omega arith) in
    (omega (arith, c.decreases, less_left after), (c.requires.0, omega (arith, child, e), first_room (in_parts _ _) (second_room parts c.put-at.ensures c.requires.2)))

pub arguments-others-requires : goal.arguments-others-requires
arguments-others-requires t c =
    let parts = arguments_some _ _ _ _ _ _ c.child-first.ensures c.if-first.false in
    let room = second_room parts c.put-at.ensures c.requires.2 in
    let after = behind_more (behind (first_room parts c.requires.2) c.put-at.ensures (omega arith)) (first_room (in_parts _ _) room) c.node-end.ensures in
    (omega (arith, c.decreases, less_left after), (c.requires.0, c.requires.1, second_room (in_parts _ _) c.node-end.ensures room))

pub arguments-returns : goal.arguments-returns
arguments-returns t c =
    both_written (arguments_some _ _ _ _ _ _ c.child-first.ensures c.if-first.false) c.put-at.ensures (both_written (in_parts _ _) c.node-end.ensures c.others.ensures)

pub hole-put-requires : goal.hole-put-requires
hole-put-requires t c =
    omega (arith, (same_room (hole_empty _ _ _ _ _ _ c.next-lowest.ensures c.if-lowest-above.true) c.requires.2).fits)

pub hole-returns-then-lowest-above : goal.hole-returns-then-lowest-above
hole-returns-then-lowest-above t c =
    same_written (hole_empty _ _ _ _ _ _ c.next-lowest.ensures c.if-lowest-above.true) c.put.ensures

pub hole-pair-requires : goal.hole-pair-requires
hole-pair-requires t c =
    let found = some_found _ _ c.next-lowest.ensures c.if-lowest-above.false in
    (omega (arith, c.decreases), (c.requires.0, found, same_room (hole_pair _ _ _ _ _ _ c.next-lowest.ensures found) c.requires.2))

pub hole-returns : goal.hole-returns
hole-returns t c =
    same_written (hole_pair _ _ _ _ _ _ c.next-lowest.ensures (some_found _ _ c.next-lowest.ensures c.if-lowest-above.false)) c.pair.ensures

pub node-put-requires : goal.node-put-requires
node-put-requires t c = omega (arith, (same_room (node_deep _ _ _ _ _ c.if-pen-eq0.true) c.requires.2).fits)

pub node-returns-then-pen-eq0 : goal.node-returns-then-pen-eq0
node-returns-then-pen-eq0 t c = same_written (node_deep _ _ _ _ _ c.if-pen-eq0.true) c.put.ensures

pub node-hole-requires : goal.node-hole-requires
node-hole-requires t c =
    let unlabelled = sym c.has.ensures ∙ c.if-not-has.true in
    (omega (arith, c.decreases), (c.requires.0, c.requires.1, same_room (node_hole _ _ _ _ _ c.if-pen-eq0.false unlabelled) c.requires.2))

pub node-returns-then-not-has : goal.node-returns-then-not-has
node-returns-then-not-has t c =
    same_written (node_hole _ _ _ _ _ c.if-pen-eq0.false (sym c.has.ensures ∙ c.if-not-has.true)) c.hole.ensures

pub node-decimal-at-requires : goal.node-decimal-at-requires
node-decimal-at-requires t c =
    (first_room (node_labelled _ _ _ _ _ c.if-pen-eq0.false (sym c.has.ensures ∙ c.if-not-has.false)) c.requires.2).fits

pub node-arguments-requires : goal.node-arguments-requires
node-arguments-requires t c =
    let rest = second_room (node_labelled _ _ _ _ _ c.if-pen-eq0.false (sym c.has.ensures ∙ c.if-not-has.false)) c.decimal-at.ensures c.requires.2 in
    (omega (arith, c.decreases, c.decimal-at.ensures.after, c.decimal-at.auto.out), (c.requires.0, c.requires.1, rest))

pub node-returns : goal.node-returns
node-returns t c =
    both_written (node_labelled _ _ _ _ _ c.if-pen-eq0.false (sym c.has.ensures ∙ c.if-not-has.false)) c.decimal-at.ensures c.arguments.ensures

pub others-put-requires : goal.others-put-requires
others-put-requires t c =
    omega (arith, (same_room (others_none _ _ _ _ _ _ c.child-next_child.ensures c.if-next_child.true) c.requires.2).fits)

pub others-returns-then-next_child : goal.others-returns-then-next_child
others-returns-then-next_child t c =
    same_written (others_none _ _ _ _ _ _ c.child-next_child.ensures c.if-next_child.true) c.put.ensures

pub others-put-at-requires : goal.others-put-at-requires
others-put-at-requires t c =
    omega (arith, (first_room (others_some _ _ _ _ _ _ c.child-next_child.ensures c.if-next_child.false) c.requires.2).fits)

pub others-node-end-requires : goal.others-node-end-requires
others-node-end-requires t c =
    let e = c.child-next_child.ensures in
    let parts = others_some _ _ _ _ _ _ e c.if-next_child.false in
    let child = c.requires.0.child_node _ _ c.requires.1 (λ i. c.if-next_child.false (e ∙ i)) in
    let after = behind (first_room parts c.requires.2) c.put-at.ensures (omega arith) in
    (omega (arith, c.decreases, less_left after), (c.requires.0, omega (arith, child, e), first_room (in_parts _ _) (second_room parts c.put-at.ensures c.requires.2)))

pub others-overflow_add-after : goal.others-overflow_add-after
others-overflow_add-after t c =
    omega (arith, child_few _ _ _ (λ i. c.if-next_child.false (c.child-next_child.ensures ∙ i)))

pub others-others-requires : goal.others-others-requires
others-others-requires t c =
    let parts = others_some _ _ _ _ _ _ c.child-next_child.ensures c.if-next_child.false in
    let room = second_room parts c.put-at.ensures c.requires.2 in
    let after = behind_more (behind (first_room parts c.requires.2) c.put-at.ensures (omega arith)) (first_room (in_parts _ _) room) c.node-end.ensures in
    (omega (arith, c.decreases, less_left after), (c.requires.0, c.requires.1, second_room (in_parts _ _) c.node-end.ensures room))

pub others-returns : goal.others-returns
others-returns t c =
    both_written (others_some _ _ _ _ _ _ c.child-next_child.ensures c.if-next_child.false) c.put-at.ensures (both_written (in_parts _ _) c.node-end.ensures c.others.ensures)

pub pair-open_pair-at-requires : goal.pair-open_pair-at-requires
pair-open_pair-at-requires t c = first_room (pair_parts _ _ _ _ _) c.requires.2

pub pair-node-comma-requires : goal.pair-node-comma-requires
pair-node-comma-requires t c =
    let parts = pair_parts _ _ _ _ _ in
    let after = behind (first_room parts c.requires.2) c.open_pair-at.ensures pair_long in
    (omega (arith, c.decreases, less_left after), (c.requires.0, omega (arith, c.requires.1, c.requires.0.few), first_room (in_parts _ _) (second_room parts c.open_pair-at.ensures c.requires.2)))

pub pair-put-second-requires : goal.pair-put-second-requires
pair-put-second-requires t c =
    omega (arith, (first_room (in_parts (44 ∷ []) _) (second_room (in_parts _ _) c.node-comma.ensures (second_room (pair_parts _ _ _ _ _) c.open_pair-at.ensures c.requires.2))).fits)

pub pair-topmost-close-requires : goal.pair-topmost-close-requires
pair-topmost-close-requires t c =
    let parts = pair_parts _ _ _ _ _ in
    let first = second_room parts c.open_pair-at.ensures c.requires.2 in
    let comma = second_room (in_parts _ _) c.node-comma.ensures first in
    let after = behind_more (behind_more (behind (first_room parts c.requires.2) c.open_pair-at.ensures pair_long) (first_room (in_parts _ _) first) c.node-comma.ensures) (first_room (in_parts _ _) comma) c.put-second.ensures in
    (omega (arith, c.decreases, less_left after), (c.requires.0, omega (arith, c.requires.1), first_room (in_parts _ _) (second_room (in_parts _ _) c.put-second.ensures comma)))

pub pair-put-requires : goal.pair-put-requires
pair-put-requires t c =
    let first = second_room (pair_parts _ _ _ _ _) c.open_pair-at.ensures c.requires.2 in
    let comma = second_room (in_parts _ _) c.node-comma.ensures first in
    omega (arith, (second_room (in_parts _ _) c.topmost-close.ensures (second_room (in_parts _ _) c.put-second.ensures comma)).fits)

pub pair-returns : goal.pair-returns
pair-returns t c =
    both_written (pair_parts _ _ _ _ _) c.open_pair-at.ensures
    (both_written (in_parts _ _) c.node-comma.ensures (both_written (in_parts _ _) c.put-second.ensures (both_written (in_parts _ _) c.topmost-close.ensures c.put.ensures)))

pub topmost-put-requires : goal.topmost-put-requires
topmost-put-requires t c =
    omega (arith, (same_room (topmost_none _ _ _ _ _ _ c.next-r.ensures c.if-r-above.true) c.requires.2).fits)

pub topmost-returns-then-r-above : goal.topmost-returns-then-r-above
topmost-returns-then-r-above t c =
    same_written (topmost_none _ _ _ _ _ _ c.next-r.ensures c.if-r-above.true) c.put.ensures

pub topmost-node-requires : goal.topmost-node-requires
topmost-node-requires t c =
    let found = some_found _ _ c.next-r.ensures c.if-r-above.false in
    (omega (arith, c.decreases), (c.requires.0, omega (arith, found, c.requires.0.few), same_room (topmost_alone _ _ _ _ _ _ _ c.next-r.ensures found c.next-s.ensures c.if-s-above.true) c.requires.2))

pub topmost-returns-then-s-above : goal.topmost-returns-then-s-above
topmost-returns-then-s-above t c =
    same_written (topmost_alone _ _ _ _ _ _ _ c.next-r.ensures (some_found _ _ c.next-r.ensures c.if-r-above.false) c.next-s.ensures c.if-s-above.true) c.node.ensures

pub topmost-pair-requires : goal.topmost-pair-requires
topmost-pair-requires t c =
    let found = some_found _ _ c.next-r.ensures c.if-r-above.false in
    let another = some_found _ _ c.next-s.ensures c.if-s-above.false in
    (omega (arith, c.decreases), (c.requires.0, omega (arith, found, another), same_room (topmost_several _ _ _ _ _ _ _ c.next-r.ensures found c.next-s.ensures another) c.requires.2))

pub topmost-returns : goal.topmost-returns
topmost-returns t c =
    same_written (topmost_several _ _ _ _ _ _ _ c.next-r.ensures (some_found _ _ c.next-r.ensures c.if-r-above.false) c.next-s.ensures (some_found _ _ c.next-s.ensures c.if-s-above.false)) c.pair.ensures
