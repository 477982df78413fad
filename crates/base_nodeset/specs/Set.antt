-- A set of the numbers below 128: the numbers below 64 are the bits of one word, the others the bits of a second.
-- A definition here says what is in such a set, or what an operation does to each number's membership.
use Rattle.std.specs.Prelude.{ℕ, ◌+◌, ◌-◌, ◌/◌, ◌%◌, ◌^◌, ◌<◌, ◌≡◌, Bool, true, false, cond, not, ◌||◌, ◌&&◌, eqb, ltb, Option, None, Some}
use Rattle.base_finite.specs.Below.{count}
use Rattle.base_nodeset.specs.declared.NodeSet.{NodeSet}

-- bit k of the word w is set
unfoldable pub bit : ℕ → ℕ → Bool
bit w k = eqb (w / 2 ^ k % 2) 1

-- k is in the set of two words
unfoldable pub member : ℕ → ℕ → ℕ → Bool
unfolding bit
member low high k = cond (ltb k 64) (bit low k) (bit high (k - 64))

abbrev pub mem : NodeSet → ℕ → Bool
mem s k = member s.low s.high k

-- What an operation's result r has, of every number.

abbrev pub Empty : NodeSet → Type 0
Empty r = (j : ℕ) → mem r j ≡ false

abbrev pub Only : ℕ → NodeSet → Type 0
Only k r = (j : ℕ) → mem r j ≡ eqb j k

abbrev pub OfByte : ℕ → NodeSet → Type 0
OfByte byte r = (j : ℕ) → mem r j ≡ (eqb j byte && ltb byte 128)

abbrev pub Inserted : NodeSet → ℕ → NodeSet → Type 0
Inserted s k r = (j : ℕ) → mem r j ≡ (eqb j k || mem s j)

abbrev pub Removed : NodeSet → ℕ → NodeSet → Type 0
Removed s k r = (j : ℕ) → mem r j ≡ (not (eqb j k) && mem s j)

abbrev pub Union : NodeSet → NodeSet → NodeSet → Type 0
Union s t r = (j : ℕ) → mem r j ≡ (mem s j || mem t j)

abbrev pub Intersection : NodeSet → NodeSet → NodeSet → Type 0
Intersection s t r = (j : ℕ) → mem r j ≡ (mem s j && mem t j)

abbrev pub Difference : NodeSet → NodeSet → NodeSet → Type 0
Difference s t r = (j : ℕ) → mem r j ≡ (mem s j && not (mem t j))

-- x is the lowest member of s, and rest has the others
pub record Lowest (s : NodeSet) (x : ℕ) (rest : NodeSet) : Type 0 where
  pub below : x < 128
  pub in_set : mem s x ≡ true
  pub none_lower : (k : ℕ) → k < x → mem s k ≡ false
  pub others : Removed s x rest
  pub one_less : count 128 (mem s) ≡ count 128 (mem rest) + 1

-- Taking the lowest member out of s leaves s' and answers r.
pub record Pops (s s' : NodeSet) (r : Option ℕ) : Type 0 where
  pub empty : r ≡ None → Empty s
  pub unchanged : r ≡ None → s' ≡ s
  pub lowest : (x : ℕ) → r ≡ Some x → Lowest s x s'
