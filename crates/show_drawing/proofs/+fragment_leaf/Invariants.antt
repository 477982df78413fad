-- The measures: a fragment counts itself and calls its leaves with fewer not yet drawn, and a leaf calls its fragments with no
-- more. Each loop draws a run, and hands the pen on from call to call.
use Prim.Native.Nat.{◌+◌, ◌*◌}
use Rattle.base_finite.specs.Stores.{entry_is}
use Rattle.show_drawing.specs.Drawn.{fragment_in, size_in, hung_leaf_in, hung_size_in}
use Rattle.show_drawing.proofs.Loops.{Marked}
use Rattle.show_drawing.proofs.+fragment_leaf.Given as goal

abbrev pub decreases-fragment : goal.decreases-fragment
decreases-fragment l = 2 * l.from.left

abbrev pub decreases-leaf : goal.decreases-leaf
decreases-leaf l = 2 * l.from.left + 1

abbrev pub invariant-fragment-loop-x : goal.invariant-fragment-loop-x
invariant-fragment-loop-x l =
    Marked 40 44 (λ v. hung_leaf_in l.n l.home l.placing v) (λ v. hung_size_in l.n l.home l.placing v) (entry_is l.home l.r) l.n l.initial.out l.initial.pen l.out l.pen l.mark l.x

abbrev pub invariant-leaf-loop-r : goal.invariant-leaf-loop-r
invariant-leaf-loop-r l =
    Marked 91 59 (λ s. fragment_in l.n l.n l.home l.placing s) (λ s. size_in l.n l.n l.home l.placing s) (entry_is l.placing l.l) l.n l.initial.out l.initial.pen l.out l.pen l.mark l.r
