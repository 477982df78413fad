-- Going through the members of a set, the lowest first: what `pop_first` finds, and what is in a set without a member.
-- All members are below 128, where the high word has its 64 bits.
use Prim.Native.Nat.{ℕ, ◌+◌, ◌^◌, ◌<◌}
use mathlib.Core.Path.{◌≡◌, refl, sym, ap, ◌∙◌}
use mathlib.Core.Bool.{Bool, true, false, not, true≢false}
use native.Mathlib.Omega.{arith}
use lib.Count.{count_trailing_zeros}
use lib.Dec.{eqb, ltb}
use borrow.Author.Tests.{eq-eqb, ne_eqb, eqb-true, eqb-false, lt-ltb, ltb-true, ltb-false, not-true}
use Rattle.base_finite.specs.Below.{any, count, least}
use Rattle.base_finite.proofs.Laws.{and_both, by_bool, not_not, any_false, count_one_more, least_below, least_holds}
use Rattle.base_nodeset.specs.Set.{mem, OfByte, Removed, Lowest, Pops, Difference}
use Rattle.base_nodeset.specs.declared.NodeSet.{NodeSet}
use Rattle.std.specs.Prelude.{None, Some}
use Rattle.base_nodeset.proofs.Words.{trailing_below}
use Rattle.base_nodeset.proofs.Laws.{member_zero, member_beyond, least_member}

abbrev pub Small : NodeSet → Type 0
Small s = (k : ℕ) → mem s k ≡ true → k < 128

pub small_set : (s : NodeSet) → s.high < 2 ^ 64 → Small s
small_set s h k m =
    by_bool (ltb k 128)
    (λ e. ltb-true k 128 e)
    (λ e. absurd (true≢false (sym m ∙ member_beyond s.low s.high k h (ltb-false k 128 e))))

-- the answer b of `is_empty`

pub some_member : (s : NodeSet) (b : Bool) → b ≡ not (any 128 (mem s)) → not b ≡ true → any 128 (mem s) ≡ true
some_member s b e t = sym (not_not (any 128 (mem s))) ∙ ap not (sym e) ∙ t

pub no_member : (s : NodeSet) (b : Bool) → b ≡ not (any 128 (mem s)) → not b ≡ false → (k : ℕ) → k < 128 → mem s k ≡ false
no_member s b e t = any_false 128 (mem s) (sym (not_not (any 128 (mem s))) ∙ ap not (sym e) ∙ t)

pub empty_set : (s : NodeSet) (b : Bool) → b ≡ not (any 128 (mem s)) → b ≡ true → (k : ℕ) → k < 128 → mem s k ≡ false
empty_set s b e t = no_member s b e (ap not t)

-- a set without a member

pub removed_member : (s : NodeSet) (k : ℕ) (t : NodeSet) → Removed s k t → (j : ℕ) → mem t j ≡ true → (mem s j ≡ true) × (j ≡ k → ⊥)
removed_member s k t r j m =
    let b = and_both (not (eqb j k)) (mem s j) (sym (r j) ∙ m) in
    (b.1, eqb-false j k (not-true (eqb j k) b.0))

pub removed_other : (s : NodeSet) (k : ℕ) (t : NodeSet) → Removed s k t → (j : ℕ) → (j ≡ k → ⊥) → mem t j ≡ mem s j
removed_other s k t r j n = r j ∙ rw (ne_eqb j k n)

pub removed_gone : (s : NodeSet) (k : ℕ) (t : NodeSet) → Removed s k t → mem t k ≡ false
removed_gone s k t r = r k ∙ rw (eq-eqb k k (omega arith))

-- what stays out stays out
pub removed_out : (s : NodeSet) (k : ℕ) (t : NodeSet) → Removed s k t → (j : ℕ) → mem s j ≡ false → mem t j ≡ false
removed_out s k t r j m = by_bool (mem t j) (λ e. absurd (true≢false (sym (removed_member s k t r j e).0 ∙ m))) (λ e. e)

-- what is out now is k, or was out before
pub removed_cases : {C : Type 0} (s : NodeSet) (k : ℕ) (t : NodeSet) → Removed s k t → (j : ℕ) → mem t j ≡ false → (j ≡ k → C) → ((j ≡ k → ⊥) → mem s j ≡ false → C) → C
removed_cases s k t r j m f g =
    by_bool (eqb j k)
    (λ e. f (eqb-true j k e))
    (λ e. let n : j ≡ k → ⊥ = eqb-false j k e in g n (sym (removed_other s k t r j n) ∙ m))

-- what is out stays out where more is taken away
pub difference_out : (s t r : NodeSet) → Difference s t r → (k : ℕ) → mem s k ≡ false → mem r k ≡ false
difference_out s t r is k e = is k ∙ rw e

pub one_less : (s : NodeSet) (k : ℕ) (t : NodeSet) → k < 128 → mem s k ≡ true → Removed s k t → count 128 (mem s) ≡ count 128 (mem t) + 1
one_less s k t h m r = count_one_more 128 (mem t) (mem s) k h (removed_gone s k t r) m (removed_other s k t r)

-- the least number below 128 that is in s

pub pops_lowest : (s : NodeSet) (k : ℕ) (t : NodeSet) → k ≡ least 128 (mem s) → k < 128 → Removed s k t → Pops s t (Some k)
pops_lowest s k t e h r =
    let m : mem s k ≡ true = rw e (least_holds 128 (mem s) (omega arith)) in
    let found : Lowest s k t = record {
      below = h;
      in_set = m;
      none_lower = λ j l. least_below 128 (mem s) j (omega arith);
      others = r;
      one_less = one_less s k t h m r;
    } in
    record {
      empty = λ q. let z : ◌≡◌ {A = ℕ} 0 1 = cc in absurd (omega arith);
      unchanged = λ q. let z : ◌≡◌ {A = ℕ} 0 1 = cc in absurd (omega arith);
      lowest = λ x q.
          let e : x ≡ k = cc in
          rw e found;
    }

-- the lowest member by words

pub pops_low : (s t : NodeSet) → s.low < 2 ^ 64 → (s.low ≡ 0 → ⊥) → Removed s (count_trailing_zeros 64 s.low) t → Pops s t (Some (count_trailing_zeros 64 s.low))
pops_low s t h some r =
    pops_lowest s (count_trailing_zeros 64 s.low) t (rw (least_member s.low s.high h, ne_eqb s.low 0 some))
    (omega (arith, trailing_below 64 s.low h some)) r

pub pops_high : (s t : NodeSet) → s.high < 2 ^ 64 → s.low ≡ 0 → (s.high ≡ 0 → ⊥) → Removed s (64 + count_trailing_zeros 64 s.high) t
    → Pops s t (Some (64 + count_trailing_zeros 64 s.high))
pops_high s t h none some r =
    pops_lowest s (64 + count_trailing_zeros 64 s.high) t (rw (least_member s.low s.high (omega arith), eq-eqb s.low 0 none))
    (omega (arith, trailing_below 64 s.high h some)) r

pub pops_zero : (s : NodeSet) → s.low ≡ 0 → s.high ≡ 0 → Pops s s None
pops_zero s e f = record {
  empty = λ _ j. rw (e, f) (member_zero j);
  unchanged = λ _. refl;
  lowest = λ x q. let z : ◌≡◌ {A = ℕ} 0 1 = cc in absurd (omega arith);
}

-- the set of a byte's node
pub of_byte_is : (byte : ℕ) (s : NodeSet) → OfByte byte s → (k : ℕ) → k < 128 → mem s k ≡ eqb byte k
of_byte_is byte s is k h =
    is k
    ∙ by_bool (eqb k byte)
    (λ (e : eqb k byte ≡ true).
    let q : k ≡ byte = eqb-true k byte e in
    rw (e, lt-ltb byte 128 (omega arith), eq-eqb byte k (omega arith)))
    (λ (e : eqb k byte ≡ false).
    let other : k ≡ byte → ⊥ = eqb-false k byte e in
    rw (e, ne_eqb byte k (λ q. other (omega arith))))
