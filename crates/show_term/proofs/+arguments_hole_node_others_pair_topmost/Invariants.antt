-- The measures go by the bytes left: each call is made after a byte is written, or goes to a function whose measure is less at the same place.
use Prim.Native.Nat.{◌+◌, ◌-◌, ◌*◌}
use lib.ListN.{length}
use Rattle.show_term.proofs.+arguments_hole_node_others_pair_topmost.Given as goal

abbrev pub decreases-arguments : goal.decreases-arguments
decreases-arguments l = 4 * (length l.out.now - l.pen.at)

abbrev pub decreases-hole : goal.decreases-hole
decreases-hole l = 4 * (length l.out.now - l.pen.at) + 1

abbrev pub decreases-node : goal.decreases-node
decreases-node l = 4 * (length l.out.now - l.pen.at) + 2

abbrev pub decreases-others : goal.decreases-others
decreases-others l = 4 * (length l.out.now - l.pen.at)

abbrev pub decreases-pair : goal.decreases-pair
decreases-pair l = 4 * (length l.out.now - l.pen.at)

abbrev pub decreases-topmost : goal.decreases-topmost
decreases-topmost l = 4 * (length l.out.now - l.pen.at) + 3
