-- A product calls sums of as much as is left to it, and a sum calls products of one less.
use Rattle.std.proofs.Common.{◌+◌, ◌*◌, ◌≤◌}
use Rattle.test_second.proofs.ways.+product_sum.Given as goal

abbrev pub decreases-product : goal.decreases-product
decreases-product l = 2 * l.left + 1

abbrev pub decreases-sum : goal.decreases-sum
decreases-sum l = 2 * l.left

abbrev pub invariant-product-loop-turn : goal.invariant-product-loop-turn
invariant-product-loop-turn l = l.total ≤ 65536

abbrev pub invariant-sum-loop-f : goal.invariant-sum-loop-f
invariant-sum-loop-f l = l.total ≤ 65536
