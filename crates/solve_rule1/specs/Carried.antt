-- Which roots a leaf carries, read off the bytes of a placing, and which leaf is chosen among those that carry several.
use Rattle.std.specs.Prelude.{ℕ, ◌≤◌, ◌<◌, ◌≡◌, List, Bool, true, false, Option, MatchOption, cond, ◌&&◌, eqb, leb, ltb, get_or}
use Rattle.base_finite.specs.Below.{count}
use Rattle.base_nodeset.specs.Set.{mem}
use Rattle.base_nodeset.specs.declared.NodeSet.{NodeSet}
use Rattle.base_finite.specs.Stores.{entry_is}

-- the leaves that carry k roots or more of the first n
abbrev pub Carrying : ℕ → ℕ → List ℕ → NodeSet → Type 0
Carrying k n p r = (l : ℕ) → l < 128 → mem r l ≡ leb k (count n (entry_is p l))

-- the leaf l, where it is among the leaves and less deep than the best so far, and otherwise that one
unfoldable pub better : NodeSet → (ℕ → ℕ) → ℕ → ℕ → ℕ
better leaves deep best l = cond (mem leaves l && ltb (deep l) (deep best)) l best

-- of the leaves below l, and up to itself, the best is the least deep, and the lowest of these
pub record Best (leaves : NodeSet) (deep : ℕ → ℕ) (l best : ℕ) : Type 0 where
  pub among : mem leaves best ≡ true
  pub least_deep : (k : ℕ) → k < l → mem leaves k ≡ true → deep best ≤ deep k
  pub lowest : (k : ℕ) → k < best → mem leaves k ≡ true → deep best < deep k

-- the nodes after the one that stays that hung under `from` hang under `to`
abbrev pub Moved : ℕ → ℕ → ℕ → ℕ → List ℕ → List ℕ → Type 0
Moved n from stays to old new =
    (z : ℕ) → z < n → get_or new z 0 ≡ cond (ltb stays z && eqb (get_or old z 0) from) to (get_or old z 0)

-- the lowest number below n that p holds of
abbrev pub First : ℕ → (ℕ → Bool) → Option ℕ → Type 0
First n p r = MatchOption r ((k : ℕ) → k < n → p k ≡ false) (λ v. (v < n) × (p v ≡ true) × ((k : ℕ) → k < v → p k ≡ false))
