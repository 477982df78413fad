-- Free fragments, read off tables: `below u v` says that v is in row u of the descent relation, `near f h` that the roots f
-- and h are comparable, `leaves r x` that x is a leaf of the fragment of r. A set of fragments has their roots.
use Rattle.std.specs.Prelude.{ℕ, ◌≤◌, ◌<◌, ◌≡◌, Bool, true, false, not, ◌&&◌, ◌⊎◌, ◌↔◌, eqb}
use Rattle.base_finite.specs.Below.{count}
use Rattle.base_nodeset.specs.Set.{mem, Removed}
use Rattle.base_nodeset.specs.declared.NodeSet.{NodeSet}
use Rattle.base_tables.specs.Rows.{NoneAbove, Closed}

-- what is reached from `from` by near steps, all within a set
pub data Spread (near : ℕ → ℕ → Bool) (within from : ℕ → Bool) : ℕ → Type 0 where
  start : {f : ℕ} → from f ≡ true → within f ≡ true → Spread near within from f
  step : {f h : ℕ} → Spread near within from f → near f h ≡ true → within h ≡ true → Spread near within from h

abbrev pub Spreads : (ℕ → ℕ → Bool) → (ℕ → Bool) → (ℕ → Bool) → NodeSet → Type 0
Spreads near within from r = (f : ℕ) → (mem r f ≡ true) ↔ Spread near within from f

-- nothing within is reached from below two of the leaves
abbrev pub Apart : (ℕ → ℕ → Bool) → (ℕ → ℕ → Bool) → (ℕ → Bool) → (ℕ → Bool) → Type 0
Apart below near leaves within =
    (l m f : ℕ) → leaves l ≡ true → leaves m ≡ true → Spread near within (below l) f → Spread near within (below m) f → l ≡ m

-- the set without F
abbrev pub others : (ℕ → Bool) → ℕ → ℕ → Bool
others rem F k = not (eqb k F) && rem k

pub record FreeIn (below near leaves : ℕ → ℕ → Bool) (rem : ℕ → Bool) (F : ℕ) : Type 0 where
  pub member : rem F ≡ true
  pub none_above : NoneAbove below rem F
  pub one_leaf : Apart below near (leaves F) (others rem F)

-- F taken out, if its leaves are apart
abbrev pub Taken : (ℕ → ℕ → Bool) → (ℕ → ℕ → Bool) → (ℕ → ℕ → Bool) → NodeSet → ℕ → NodeSet → Type 0
Taken below near leaves rem F r =
    (Apart below near (leaves F) (others (mem rem) F) × Removed rem F r)
    ⊎ ((Apart below near (leaves F) (others (mem rem) F) → ⊥) × (r ≡ rem))

-- free fragments taken out of a set, one after the other
pub data Taking (below near leaves : ℕ → ℕ → Bool) (rem : NodeSet) : NodeSet → Type 0 where
  none_taken : Taking below near leaves rem rem
  then_taken : {s t : NodeSet} (F : ℕ) → Taking below near leaves rem s → FreeIn below near leaves (mem s) F → Removed s F t → Taking below near leaves rem t

-- no member is free
abbrev pub Stuck : (ℕ → ℕ → Bool) → (ℕ → ℕ → Bool) → (ℕ → ℕ → Bool) → NodeSet → Type 0
Stuck below near leaves rem = (F : ℕ) → FreeIn below near leaves (mem rem) F → ⊥

-- a round takes out free fragments, one at least if there is one, where the rows are closed
pub record Round (below near leaves : ℕ → ℕ → Bool) (rem r : NodeSet) : Type 0 where
  pub taking : Closed below → Taking below near leaves rem r
  pub fewer : count 128 (mem r) ≤ count 128 (mem rem)
  pub or_stuck : Closed below → count 128 (mem r) ≡ count 128 (mem rem) → Stuck below near leaves rem

-- true: all are taken out; false: some are left, and none of them is free
abbrev pub Ended : (ℕ → ℕ → Bool) → (ℕ → ℕ → Bool) → (ℕ → ℕ → Bool) → NodeSet → Bool → Type 0
Ended below near leaves roots true = (s : NodeSet) × Taking below near leaves roots s × ((v : ℕ) → v < 128 → mem s v ≡ false)
Ended below near leaves roots false = (s : NodeSet) × Taking below near leaves roots s × ((v : ℕ) × (mem s v ≡ true)) × Stuck below near leaves s
