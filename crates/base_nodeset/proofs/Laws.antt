-- The laws of a set of two words: what the machine's operations on both words do to each number's membership,
-- and that the members are all of the set. Each takes the words apart at 64 and cites the law of one word.
use Prim.Native.Nat.{ℕ, ◌+◌, ◌-◌, ◌^◌, ◌≤◌, ◌<◌}
use mathlib.Core.Path.{◌≡◌, sym, ap₂, ◌∙◌}
use mathlib.Core.Bool.{Bool, false, cond, not, not-not, ◌||◌, ◌&&◌, and_comm}
use native.Mathlib.Nat.{add-sub_cancel_left}
use native.Mathlib.Omega.{arith}
use lib.Bits.{bit_and, bit_or, bit_xor}
use lib.Count.{ones, count_trailing_zeros}
use lib.Dec.{eqb, ltb}
use borrow.Author.Tests.{lt-ltb, le-ltb, ltb-true, ltb-false, eqb-true, eqb-false, eq-eqb, ne_eqb}
use Rattle.base_finite.specs.Below.{any, count, least}
use Rattle.base_finite.proofs.Laws.{by_bool, any_ext, count_ext, and_true, and_false}
use Rattle.base_nodeset.specs.Set.{bit, member}
use Rattle.base_finite.proofs.Bounds.{any_join, count_join, least_join, least_ext}
use Rattle.base_nodeset.proofs.Words.{bit_zero, bit_beyond, bit_and_lem, bit_or_lem, bit_difference, bit_power, any_bit, ones_count, trailing_least}

-- Which word.

pub member_low : (low high k : ℕ) → k < 64 → member low high k ≡ bit low k
unfolding member
member_low low high k h = rw (lt-ltb k 64 h)

pub member_high : (low high k : ℕ) → 64 ≤ k → member low high k ≡ bit high (k - 64)
unfolding member
member_high low high k h = rw (le-ltb k 64 h)

-- the high word's numbers, from 0
pub member_above : (low high k : ℕ) → member low high (64 + k) ≡ bit high k
member_above low high k = rw (member_high low high (64 + k) (omega arith), add-sub_cancel_left)

pub member_zero : (k : ℕ) → member 0 0 k ≡ false
unfolding member
member_zero k = rw (bit_zero k, bit_zero (k - 64)) (by_bool (ltb k 64) (λ t. rw t) (λ f. rw f))

pub member_beyond : (low high k : ℕ) → high < 2 ^ 64 → 128 ≤ k → member low high k ≡ false
member_beyond low high k h l = member_high low high k (omega arith) ∙ bit_beyond {n = 64} (k - 64) h (omega arith)

-- An operation on both words that works bit by bit, as g does.
module _
    (op : ℕ → ℕ → ℕ)
    (g : Bool → Bool → Bool)
    (on : (a b k : ℕ) → bit (op a b) k ≡ g (bit a k) (bit b k)) where
  member_op : (low high low' high' k : ℕ) → member (op low low') (op high high') k ≡ g (member low high k) (member low' high' k)
  unfolding member
  member_op low high low' high' k =
      rw (on low low' k, on high high' (k - 64)) (by_bool (ltb k 64) (λ t. rw t) (λ f. rw f))

pub member_or : (low high low' high' k : ℕ) → member (bit_or low low') (bit_or high high') k ≡ (member low high k || member low' high' k)
member_or = member_op bit_or (λ x y. x || y) bit_or_lem

pub member_and : (low high low' high' k : ℕ) → member (bit_and low low') (bit_and high high') k ≡ (member low high k && member low' high' k)
member_and = member_op bit_and (λ x y. x && y) bit_and_lem

pub member_difference : (low high low' high' k : ℕ)
    → member (bit_xor low (bit_and low low')) (bit_xor high (bit_and high high')) k ≡ (member low high k && not (member low' high' k))
member_difference = member_op (λ a b. bit_xor a (bit_and a b)) (λ x y. x && not y) bit_difference

-- The set of one number.

pub member_only_low : (i k : ℕ) → i < 64 → member (2 ^ i) 0 k ≡ eqb k i
unfolding member
member_only_low i k h =
    rw (bit_power i k, bit_zero (k - 64))
    (by_bool (ltb k 64)
    (λ t. rw t)
    (λ f. rw (f, ne_eqb k i (λ e. omega (arith, ltb-false k 64 f)))))

pub member_only_high : (i k : ℕ) → 64 ≤ i → member 0 (2 ^ (i - 64)) k ≡ eqb k i
unfolding member
member_only_high i k h =
    rw (bit_zero k, bit_power (i - 64) (k - 64))
    (by_bool (ltb k 64)
    (λ t. rw (t, ne_eqb k i (λ e. omega (arith, ltb-true k 64 t))))
    (λ f.
    let above : 64 ≤ k = ltb-false k 64 f in
    rw f (by_bool (eqb k i)
    (λ t. rw (t, eq-eqb (k - 64) (i - 64) (omega (arith, eqb-true k i t))))
    (λ g. rw (g, ne_eqb (k - 64) (i - 64) (λ e. eqb-false k i g (omega arith)))))))

-- A set without one number, of which one word changes.

pub member_without_low : (low high i k : ℕ) → i < 64
    → member (bit_xor low (bit_and low (2 ^ i))) high k ≡ (not (eqb k i) && member low high k)
unfolding member
member_without_low low high i k h =
    rw (bit_difference low (2 ^ i) k, bit_power i k)
    (by_bool (ltb k 64)
    (λ t. rw t (and_comm (bit low k) (not (eqb k i))))
    (λ f. rw (f, ne_eqb k i (λ e. omega (arith, ltb-false k 64 f)))))

pub member_without_high : (low high i k : ℕ)
    → member low (bit_xor high (bit_and high (2 ^ i))) k ≡ (not (eqb k (64 + i)) && member low high k)
unfolding member
member_without_high low high i k =
    rw (bit_difference high (2 ^ i) (k - 64), bit_power i (k - 64))
    (by_bool (ltb k 64)
    (λ t. rw (t, ne_eqb k (64 + i) (λ e. omega (arith, ltb-true k 64 t))))
    (λ f.
    let above : 64 ≤ k = ltb-false k 64 f in
    rw f (by_bool (eqb k (64 + i))
    (λ t. rw (t, eq-eqb (k - 64) i (omega (arith, eqb-true k (64 + i) t))) (and_false (bit high (k - 64))))
    (λ g. rw (g, ne_eqb (k - 64) i (λ e. eqb-false k (64 + i) g (omega arith))) (and_true (bit high (k - 64)))))))

-- The members together.

pub none_member : (low high : ℕ) → low < 2 ^ 64 → high < 2 ^ 64 → not (any 128 (member low high)) ≡ (eqb low 0 && eqb high 0)
none_member low high h l =
    rw (any_join 64 64 (member low high), any_ext 64 (member low high) (bit low) (member_low low high), any_bit 64 low h)
    (simp member_above
    (rw (any_bit 64 high l)
    (by_bool (eqb low 0) (λ t. rw t (not-not (eqb high 0))) (λ f. rw f))))

pub count_member : (low high : ℕ) → low < 2 ^ 64 → high < 2 ^ 64 → ones low + ones high ≡ count 128 (member low high)
count_member low high h l =
    sym (count_join 64 64 (member low high)
    ∙ ap₂ (λ (x y : ℕ). x + y)
    (count_ext 64 (member low high) (bit low) (member_low low high) ∙ sym (ones_count 64 low h))
    (simp member_above (sym (ones_count 64 high l))))

pub least_member : (low high : ℕ) → low < 2 ^ 64 → least 128 (member low high) ≡ cond (eqb low 0) (64 + count_trailing_zeros 64 high) (count_trailing_zeros 64 low)
least_member low high h =
    least_join 64 64 (member low high)
    ∙ simp member_above
    (rw (
      any_ext 64 (member low high) (bit low) (member_low low high),
      least_ext 64 (member low high) (bit low) (member_low low high),
      any_bit 64 low h,
      trailing_least 64 low,
      trailing_least 64 high,
    )
    (by_bool (eqb low 0) (λ t. rw t) (λ f. rw f)))
