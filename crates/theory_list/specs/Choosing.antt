-- The choice of Rule 3, worked out.
use Rattle.std.specs.Prelude.{ℕ, ◌≡◌, List, Bool, ◌&&◌, ltb}
use Rattle.base_finite.specs.Below.{count, least}
use Rattle.graph.specs.Graph.{Graph}
use Rattle.graph.specs.Order.{Kept}
use Rattle.theory_edges.specs.Edges.{sum}
use Rattle.theory_forest.specs.Table.{look, descends}
use Rattle.theory_list.specs.Redundancy.{kept_table}

unfoldable pub lowest_above : ℕ → List (List Bool) → ℕ → ℕ
unfolding least look
lowest_above n m v = least n (λ l. look m l v)

-- the lowest after a
unfoldable pub next_above : ℕ → List (List Bool) → ℕ → ℕ → ℕ
unfolding least look
next_above n m v a = least n (λ l. ltb a l && look m l v)

unfoldable pub forked : ℕ → List (List Bool) → ℕ → Bool
unfolding lowest_above next_above
forked n m v = ltb (next_above n m v (lowest_above n m v)) n

-- the root and the two leaves
abbrev pub Triple : Type 0
Triple = ℕ × ℕ × ℕ

unfoldable pub leaves_of : ℕ → List (List Bool) → ℕ → ℕ → Triple
unfolding next_above
leaves_of n m v a = (v, a, next_above n m v a)

unfoldable pub root_of : ℕ → List (List Bool) → ℕ → Triple
unfolding leaves_of lowest_above
root_of n m v = leaves_of n m v (lowest_above n m v)

unfoldable pub chosen_by : ℕ → List (List Bool) → Triple
unfolding root_of forked least
chosen_by n m = root_of n m (least n (forked n m))

-- its root is no node where there is no choice
unfoldable pub chosen : Graph → Triple
unfolding chosen_by kept_table
chosen g = chosen_by g.nodes (kept_table g)

-- no root has two edges that stay
abbrev pub Unforked : Graph → Type 0
Unforked g = (w l m : ℕ) → Kept g l w → Kept g m w → l ≡ m

-- how many pairs the descent relation has
unfoldable pub pairs : Graph → ℕ
unfolding sum count descends
pairs g = sum g.nodes (λ u. count g.nodes (descends g u))
