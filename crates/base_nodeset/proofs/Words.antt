-- The bits of one word, of any width n: what the machine's operations do to each bit, and that the bits are all of the word.
-- The inductions go by `bit_half`, that bit k + 1 of a word is bit k of its half.
use Prim.Native.Nat.{ℕ, zero, suc, ◌+◌, ◌*◌, ◌/◌, ◌%◌, ◌^◌, ◌≤◌, ◌<◌, min, max}
use mathlib.Core.Path.{◌≡◌, refl, sym, ap, ◌∙◌}
use mathlib.Core.Bool.{Bool, true, false, cond, not, ◌||◌, ◌&&◌, true≢false}
use mathlib.Core.Logic.{◌⊎◌, inl, inr, ⊎_elim}
use native.Mathlib.Nat.{zero-div, div-eq_of_lt, lt_of_lt_of_le, mul-div_cancel, mul-mod_left, pow-suc, div-one, one-mul}
use native.Mathlib.Numerals.{add-one, one-add}
use native.Mathlib.Omega.{arith}
use lib.Arith.{digits_mod}
use lib.Bits.{bit_and, bit_or, bit_xor, differ, and_shr, or_shr, xor_shr, and_step, or_step, xor_step}
use lib.Count.{ones, count_trailing_zeros, ones_step, ones-le}
use lib.Dec.{eqb, eqb-suc-zero, eqb-zero-suc, eqb-suc-suc}
use lib.Pow.{pow_pos, pow_mono, shl_exact, shr_lt, shr-shr}
use borrow.Author.Tests.{eq-eqb, ne_eqb}
use Rattle.base_finite.specs.Below.{any, count, least}
use Rattle.base_finite.proofs.Laws.{by_bool, any_none, any_false, count_le, least_le}
use Rattle.base_nodeset.specs.Set.{bit}
use Rattle.base_finite.proofs.Bounds.{count_first, least_first}
use Rattle.base_finite.proofs.Counting.{least_found}

digit_cases : (d : ℕ) → d < 2 → (d ≡ 0) ⊎ (d ≡ 1)
digit_cases zero h = inl refl
digit_cases (suc zero) h = inr refl
digit_cases (suc (suc d)) h = absurd (omega arith)

two_pos : 0 < 2
two_pos = omega arith

digit_lt : (n : ℕ) → n % 2 < 2
digit_lt n = omega arith

pub bit_first : (w : ℕ) → bit w 0 ≡ eqb (w % 2) 1
unfolding bit
bit_first w = rw div-one

pub bit_half : (w k : ℕ) → bit w (suc k) ≡ bit (w / 2) k
unfolding bit
bit_half w k = rw (shr-shr w 1 k, one-add)

-- the lowest bit as a number
pub bit_digit : (w : ℕ) → cond (bit w 0) 1 0 ≡ w % 2
bit_digit w =
    rw bit_first
    (⊎_elim (λ (e : w % 2 ≡ 0). rw e) (λ (e : w % 2 ≡ 1). rw e) (digit_cases (w % 2) (digit_lt w)))

pub bit_zero : (k : ℕ) → bit 0 k ≡ false
unfolding bit
bit_zero k = rw zero-div

pub bit_beyond : {w n : ℕ} (k : ℕ) → w < 2 ^ n → n ≤ k → bit w k ≡ false
unfolding bit
bit_beyond {w} {n} k h l = rw (div-eq_of_lt (lt_of_lt_of_le h (pow_mono l)))

-- an operation that works digit by digit, as f does, works bit by bit, as g does
module _
    (op f : ℕ → ℕ → ℕ)
    (g : Bool → Bool → Bool)
    (shr : (a b k : ℕ) → op a b / 2 ^ k ≡ op (a / 2 ^ k) (b / 2 ^ k))
    (step : (a b : ℕ) → op a b ≡ op (a / 2) (b / 2) * 2 + f (a % 2) (b % 2))
    (on : (d e : ℕ) → d < 2 → e < 2 → (f d e < 2) × (eqb (f d e) 1 ≡ g (eqb d 1) (eqb e 1))) where
  bit_op : (a b k : ℕ) → bit (op a b) k ≡ g (bit a k) (bit b k)
  unfolding bit
  bit_op a b k =
      let both = on (a / 2 ^ k % 2) (b / 2 ^ k % 2) (digit_lt (a / 2 ^ k)) (digit_lt (b / 2 ^ k)) in
      rw (shr a b k, step (a / 2 ^ k) (b / 2 ^ k), digits_mod (op (a / 2 ^ k / 2) (b / 2 ^ k / 2)) both.0) both.1

-- what holds of the four pairs of digits
digits_4 : (P : ℕ → ℕ → Type 0) → P 0 0 → P 0 1 → P 1 0 → P 1 1 → (d e : ℕ) → d < 2 → e < 2 → P d e
digits_4 P a b c d zero zero h l = a
digits_4 P a b c d zero (suc zero) h l = b
digits_4 P a b c d (suc zero) zero h l = c
digits_4 P a b c d (suc zero) (suc zero) h l = d
digits_4 P a b c d (suc (suc x)) y h l = absurd (omega arith)
digits_4 P a b c d zero (suc (suc y)) h l = absurd (omega arith)
digits_4 P a b c d (suc zero) (suc (suc y)) h l = absurd (omega arith)

abbrev Digitwise : (ℕ → ℕ → ℕ) → (Bool → Bool → Bool) → ℕ → ℕ → Type 0
Digitwise f g d e = (f d e < 2) × (eqb (f d e) 1 ≡ g (eqb d 1) (eqb e 1))

pub bit_and_lem : (a b k : ℕ) → bit (bit_and a b) k ≡ (bit a k && bit b k)
bit_and_lem = bit_op bit_and min (λ x y. x && y) and_shr and_step
    (digits_4 (Digitwise min (λ x y. x && y)) (omega arith, refl) (omega arith, refl) (omega arith, refl) (omega arith, refl))

pub bit_or_lem : (a b k : ℕ) → bit (bit_or a b) k ≡ (bit a k || bit b k)
bit_or_lem = bit_op bit_or max (λ x y. x || y) or_shr or_step
    (digits_4 (Digitwise max (λ x y. x || y)) (omega arith, refl) (omega arith, refl) (omega arith, refl) (omega arith, refl))

-- one of the two, and not both
abbrev pub one_of : Bool → Bool → Bool
one_of true b = not b
one_of false b = b

pub bit_xor_lem : (a b k : ℕ) → bit (bit_xor a b) k ≡ one_of (bit a k) (bit b k)
bit_xor_lem = bit_op bit_xor differ one_of xor_shr xor_step
    (digits_4 (Digitwise differ one_of) (omega arith, refl) (omega arith, refl) (omega arith, refl) (omega arith, refl))

-- a ^ (a & b): the bits of a that b lacks
pub bit_difference : (a b k : ℕ) → bit (bit_xor a (bit_and a b)) k ≡ (bit a k && not (bit b k))
bit_difference a b k = rw (bit_xor_lem, bit_and_lem) (without (bit a k) (bit b k))
  where
    without : (x y : Bool) → one_of x (x && y) ≡ (x && not y)
    without true y = refl
    without false y = refl

-- 1 << i, at the width n
pub shift_one : (n i : ℕ) → i < n → (1 * 2 ^ i) % 2 ^ n ≡ 2 ^ i
shift_one n i h = shl_exact 1 i n (omega arith) (omega arith) ∙ one-mul (2 ^ i)

pub bit_power : (i k : ℕ) → bit (2 ^ i) k ≡ eqb k i
bit_power zero zero = bit_first 1
bit_power zero (suc k) = rw (bit_half 1 k, bit_zero k, eqb-suc-zero)
bit_power (suc i) zero = rw (bit_first, pow-suc, mul-mod_left, eqb-zero-suc i)
bit_power (suc i) (suc k) = rw (bit_half, pow-suc, mul-div_cancel (2 ^ i) two_pos, eqb-suc-suc) (bit_power i k)

-- words of n bits that have the same bits are the same
pub bit_ext : (n a b : ℕ) → a < 2 ^ n → b < 2 ^ n → ((k : ℕ) → k < n → bit a k ≡ bit b k) → a ≡ b
bit_ext zero a b h l f = omega arith
bit_ext (suc n) a b h l f =
    let lo : a % 2 ≡ b % 2 = sym (bit_digit a) ∙ ap (λ (x : Bool). cond x 1 0) (f 0 (omega arith)) ∙ bit_digit b in
    let hi : a / 2 ≡ b / 2 =
    bit_ext n (a / 2) (b / 2) (shr_lt n 1 (rw add-one h)) (shr_lt n 1 (rw add-one l))
    (λ k q. sym (bit_half a k) ∙ f (suc k) (omega arith) ∙ bit_half b k)
    in
    omega arith

-- a word of n bits is 0 where no bit is set
pub any_bit : (n w : ℕ) → w < 2 ^ n → any n (bit w) ≡ not (eqb w 0)
any_bit n w h =
    by_bool (any n (bit w))
    (λ t. rw (t, ne_eqb w 0 (λ (e : w ≡ 0). true≢false (sym t ∙ rw e (any_none n (bit 0) (λ k _. bit_zero k))))))
    (λ f. rw (f, eq-eqb w 0 (bit_ext n w 0 h (pow_pos n) (λ k l. any_false n (bit w) f k l ∙ sym (bit_zero k)))))

pub ones_count : (n w : ℕ) → w < 2 ^ n → ones w ≡ count n (bit w)
ones_count zero w h = omega (arith, ones-le 0 w h, count_le 0 (bit w))
ones_count (suc n) w h =
    rw (count_first, bit_digit)
    (simp bit_half (rw (ones_step, ones_count n (w / 2) (shr_lt n 1 (rw add-one h)))))

-- the lowest set bit
pub trailing_least : (n w : ℕ) → count_trailing_zeros n w ≡ least n (bit w)
unfolding count_trailing_zeros
trailing_least zero w = omega (arith, least_le 0 (bit w))
trailing_least (suc n) w =
    rw (least_first, bit_first)
    (simp bit_half
    (rw (← trailing_least n (w / 2))
    (⊎_elim (λ (e : w % 2 ≡ 0). rw e) (λ (e : w % 2 ≡ 1). rw e) (digit_cases (w % 2) (digit_lt w)))))

-- a word that has a bit has its lowest one below n
pub trailing_below : (n w : ℕ) → w < 2 ^ n → (w ≡ 0 → ⊥) → count_trailing_zeros n w < n
trailing_below n w h some = rw (trailing_least n w) (least_found n (bit w) (rw (any_bit n w h, ne_eqb w 0 some))).0
