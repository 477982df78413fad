-- The bytes of the commands that a loop has passed.
use Prim.Native.Nat.{ℕ, zero, suc, ◌+◌, ◌≤◌}
use mathlib.Core.Path.{◌≡◌, refl, ap, ◌∙◌}
use mathlib.Core.List.{List, [], ◌∷◌, ◌++◌}
use mathlib.Core.Bool.{Bool, true, false}
use native.Mathlib.Nat.{add-zero}
use native.Mathlib.Numerals.{add-one}
use native.Mathlib.Omega.{arith}
use lib.ListN.{length, get_or, take}
use Rattle.std.specs.Prelude.{count_by}
use Rattle.std.proofs.lemmas.List.Sums.{count_by_more_yes, count_by_more_no}
use Rattle.base_finite.specs.Below.{count, spread}
use Rattle.base_finite.proofs.Laws.{by_bool, spread_more}
use Rattle.base_finite.proofs.Runs.{spread_longer}
use Rattle.base_nodeset.specs.declared.NodeSet.{NodeSet}
use Rattle.base_tables.specs.Rows.{nothing}
use Rattle.sheet_encode.specs.Tidy.{tree_bytes, tree_part, row_bytes, dominance_part}

-- one node more

pub tree_part_none : (parents : List ℕ) → tree_part 0 parents ≡ []
unfolding tree_part spread
tree_part_none parents = refl

pub dominance_part_none : (heads : List NodeSet) → dominance_part 0 heads ≡ []
unfolding dominance_part spread
dominance_part_none heads = refl

pub tree_part_more : (c : ℕ) (parents : List ℕ) → tree_part (c + 1) parents ≡ tree_part c parents ++ tree_bytes (get_or parents c 0) c
unfolding tree_part
tree_part_more c parents = spread_more c (λ k. tree_bytes (get_or parents k 0) k)

pub tree_part_longer : (c n : ℕ) (parents : List ℕ) → c ≤ n → length (tree_part c parents) ≤ length (tree_part n parents)
unfolding tree_part
tree_part_longer c n parents h = spread_longer (λ k. tree_bytes (get_or parents k 0) k) c n h

pub dominance_part_more : (l : ℕ) (heads : List NodeSet) → dominance_part (l + 1) heads ≡ dominance_part l heads ++ row_bytes l (get_or heads l nothing)
unfolding dominance_part
dominance_part_more l heads = spread_more l (λ k. row_bytes k (get_or heads k nothing))

pub dominance_part_longer : (l n : ℕ) (heads : List NodeSet) → l ≤ n → length (dominance_part l heads) ≤ length (dominance_part n heads)
unfolding dominance_part
dominance_part_longer l n heads h = spread_longer (λ k. row_bytes k (get_or heads k nothing)) l n h

-- the command of the dominance edge from l to r
abbrev pub edge_command : ℕ → ℕ → List ℕ
edge_command l r = 3 ∷ l ∷ r ∷ []

-- as many of the first n entries pass a test as the library counts

pub counted : (p : ℕ → Bool) (xs : List ℕ) (n : ℕ) → n ≤ length xs → count_by p (take n xs) ≡ count n (λ c. p (get_or xs c 0))
unfolding count
counted p xs zero h = refl
counted p xs (suc n) h =
    let before : count_by p (take n xs) ≡ count n (λ c. p (get_or xs c 0)) = counted p xs n (omega arith) in
    rw (← add-one n)
    (by_bool (p (get_or xs n 0))
    (λ (e : p (get_or xs n 0) ≡ true). count_by_more_yes p xs n 0 (omega arith) e ∙ ap (λ (k : ℕ). k + 1) before ∙ rw e)
    (λ (e : p (get_or xs n 0) ≡ false). count_by_more_no p xs n 0 (omega arith) e ∙ before ∙ rw (e, add-zero)))
