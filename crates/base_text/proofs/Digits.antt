-- The digits of a number, decimal and hexadecimal: one digit more, and how many there are.
use Prim.Native.Nat.{ℕ, zero, suc, ◌+◌, ◌*◌, ◌/◌, ◌%◌, ◌^◌, ◌≤◌, ◌<◌}
use mathlib.Core.Path.{◌≡◌, refl, sym, ◌∙◌}
use mathlib.Core.List.{List, [], ◌∷◌, ◌++◌}
use mathlib.Core.Bool.{true, false}
use native.Mathlib.Nat.{pow-suc, div-lt_iff_lt-mul}
use native.Mathlib.Numerals.{add-one}
use native.Mathlib.Omega.{arith}
use lib.Dec.{ltb}
use lib.ListN.{length, get_or, set, take, length-append}
use lib.Seq.{take-suc}
use borrow.Author.Tests.{lt-ltb, le-ltb, ltb-true, ltb-false}
use Rattle.base_finite.specs.Stores.{Written}
use Rattle.base_finite.proofs.Laws.{by_bool}
use Rattle.base_finite.proofs.Runs.{three_stored}
use Rattle.base_finite.proofs.Stores.{written_none, written_one, written_two}
use Rattle.format.specs.Text.{digits, decimal}
use Rattle.base_text.specs.Lines.{hex_digit, hex_bytes}

digits_last : (f k : ℕ) → k < 10 → digits (suc f) k ≡ (48 + k) ∷ []
unfolding digits
digits_last f k h = rw (lt-ltb k 10 h)

digits_more : (f k : ℕ) → 10 ≤ k → digits (suc f) k ≡ digits f (k / 10) ++ (48 + k % 10) ∷ []
unfolding digits
digits_more f k h = rw (le-ltb k 10 h)

-- where f digits are enough, one more allowed adds none
digits_enough : (f k : ℕ) → k < 10 ^ suc f → digits (suc (suc f)) k ≡ digits (suc f) k
digits_enough zero k h = digits_last 1 k h ∙ sym (digits_last 0 k h)
digits_enough (suc f) k h =
    by_bool (ltb k 10)
    (λ (e : ltb k 10 ≡ true).
    let l = ltb-true k 10 e in
    digits_last (suc (suc f)) k l ∙ sym (digits_last (suc f) k l))
    (λ (e : ltb k 10 ≡ false).
    let l = ltb-false k 10 e in
    let less : k / 10 < 10 ^ suc f = (div-lt_iff_lt-mul (omega arith)).1 (rw (← pow-suc 10 (suc f)) h) in
    rw (digits_more (suc (suc f)) k l, digits_more (suc f) k l, digits_enough f (k / 10) less))

digits_short : (f k : ℕ) → length (digits f k) ≤ f
unfolding digits
digits_short zero k = omega arith
digits_short (suc f) k =
    by_bool (ltb k 10)
    (λ (e : ltb k 10 ≡ true). rw e (omega arith))
    (λ (e : ltb k 10 ≡ false). rw (e, length-append) (omega (arith, digits_short f (k / 10))))

pub decimal_last : (k : ℕ) → k < 10 → decimal k ≡ (48 + k) ∷ []
unfolding decimal
decimal_last k h = digits_last 19 k h

pub decimal_more : (k : ℕ) → 10 ≤ k → k < 2 ^ 64 → decimal k ≡ decimal (k / 10) ++ (48 + k % 10) ∷ []
unfolding decimal
decimal_more k l h = digits_more 19 k l ∙ rw (digits_enough 18 (k / 10) (omega arith))

-- how many digits

pub decimal_more_length : (k : ℕ) → 10 ≤ k → k < 2 ^ 64 → length (decimal k) ≡ length (decimal (k / 10)) + 1
decimal_more_length k l h = rw (decimal_more k l h, length-append)

pub decimal_short : (k : ℕ) → length (decimal k) ≤ 20
unfolding decimal
decimal_short k = digits_short 20 k

decimal_fewer : (k : ℕ) → k < 2 ^ 64 → length (decimal k) ≤ 1 + length (decimal (k / 10))
decimal_fewer k h =
    by_bool (ltb k 10)
    (λ (e : ltb k 10 ≡ true). rw (decimal_last k (ltb-true k 10 e)) (omega arith))
    (λ (e : ltb k 10 ≡ false). omega (arith, decimal_more_length k (ltb-false k 10 e) h))

pub decimal_some : (k : ℕ) → k < 2 ^ 64 → 1 ≤ length (decimal k)
decimal_some k h =
    by_bool (ltb k 10)
    (λ (e : ltb k 10 ≡ true). rw (decimal_last k (ltb-true k 10 e)) (omega arith))
    (λ (e : ltb k 10 ≡ false). omega (arith, decimal_more_length k (ltb-false k 10 e) h))

-- where k is below ten, a hundred, a thousand

pub decimal_one : (k : ℕ) → k < 10 → length (decimal k) ≡ 1
decimal_one k h = rw (decimal_last k h)

pub decimal_two : (k : ℕ) → k < 100 → length (decimal k) ≤ 2
decimal_two k h = omega (arith, decimal_fewer k (omega arith), decimal_one (k / 10) (omega arith))

pub decimal_three : (k : ℕ) → k < 1000 → length (decimal k) ≤ 3
decimal_three k h = omega (arith, decimal_fewer k (omega arith), decimal_two (k / 10) (omega arith))

-- what is stored of one, two and three digits

pub one_digit : (old : List ℕ) (at k : ℕ) → k < 10 → Written old at (decimal k) (set old at (48 + k)) (at + 1)
one_digit old at k h = rw (decimal_last k h) (written_one old at (48 + k))

decimal_tens : (k : ℕ) → 10 ≤ k → k < 100 → decimal k ≡ (48 + k / 10) ∷ (48 + k % 10) ∷ []
decimal_tens k l h = decimal_more k l (omega arith) ∙ rw (decimal_last (k / 10) (omega arith))

pub two_digits : (old : List ℕ) (at k : ℕ) → 10 ≤ k → k < 100 → Written old at (decimal k) (set (set old at (48 + k / 10)) (at + 1) (48 + k % 10)) (at + 2)
two_digits old at k l h = rw (decimal_tens k l h) (written_two old at [] old at (48 + k / 10) (48 + k % 10) (written_none old at))

decimal_hundreds : (k : ℕ) → 100 ≤ k → k < 1000 → decimal k ≡ (48 + k / 100) ∷ (48 + k / 10 % 10) ∷ (48 + k % 10) ∷ []
decimal_hundreds k l h =
    let first : k / 10 / 10 ≡ k / 100 = omega arith in
    decimal_more k (omega arith) (omega arith) ∙ rw (decimal_tens (k / 10) (omega arith) (omega arith), first)

pub three_digits : (old : List ℕ) (at k : ℕ) → 100 ≤ k → k < 1000 → Written old at (decimal k) (set (set (set old at (48 + k / 100)) (at + 1) (48 + k / 10 % 10)) (at + 2) (48 + k % 10)) (at + 3)
three_digits old at k l h = rw (decimal_hundreds k l h) (record { stored = three_stored old at (48 + k / 100) (48 + k / 10 % 10) (48 + k % 10); after = refl })

pub tens_length : (k : ℕ) → 10 ≤ k → k < 100 → length (decimal k) ≡ 2
tens_length k l h = rw (decimal_tens k l h)

pub hundreds_length : (k : ℕ) → 100 ≤ k → k < 1000 → length (decimal k) ≡ 3
hundreds_length k l h = rw (decimal_hundreds k l h)

-- hexadecimal

pub hex_low : (d : ℕ) → d < 10 → hex_digit d ≡ 48 + d
unfolding hex_digit
hex_low d h = rw (lt-ltb d 10 h)

pub hex_high : (d : ℕ) → 10 ≤ d → hex_digit d ≡ 87 + d
unfolding hex_digit
hex_high d h = rw (le-ltb d 10 h)

hex_append : (xs ys : List ℕ) → hex_bytes (xs ++ ys) ≡ hex_bytes xs ++ hex_bytes ys
unfolding hex_bytes
hex_append [] ys = refl
hex_append (x ∷ xs) ys = rw (hex_append xs ys)

pub hex_none : (bs : List ℕ) → hex_bytes (take 0 bs) ≡ []
unfolding hex_bytes
hex_none bs = refl

pub hex_more : (bs : List ℕ) (i : ℕ) → i < length bs → hex_bytes (take (i + 1) bs) ≡ hex_bytes (take i bs) ++ hex_digit (get_or bs i 0 / 16) ∷ hex_digit (get_or bs i 0 % 16) ∷ []
unfolding hex_bytes
hex_more bs i h = rw (add-one, take-suc bs i 0) (hex_append (take i bs) (get_or bs i 0 ∷ []))

pub hex_length : (bs : List ℕ) → length (hex_bytes bs) ≡ 2 * length bs
unfolding hex_bytes
hex_length [] = refl
hex_length (b ∷ bs) = omega (arith, hex_length bs)
