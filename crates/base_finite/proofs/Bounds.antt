-- `any`, `count` and `least` below a sum of two bounds, from those below each: by induction on the second.
-- With the bounds 1 and n they take the first number off; with 64 and 64 they take a set's two words apart. Then
-- bounds that may be cut, and counts with one number taken away.
use Prim.Native.Nat.{ℕ, zero, suc, ◌+◌, ◌-◌, ◌≤◌, ◌<◌}
use mathlib.Core.Path.{◌≡◌, refl, sym, ap, ◌∙◌}
use mathlib.Core.Bool.{Bool, true, false, cond, not, ◌||◌, ◌&&◌, or-false, or_assoc}
use native.Mathlib.Nat.{add-zero, add-suc, add_assoc, zero-add, add-sub_of_le}
use native.Mathlib.Numerals.{one-add}
use native.Mathlib.Omega.{arith}
use lib.Dec.{eqb}
use borrow.Author.Tests.{eq-eqb, ne_eqb, eqb-true, eqb-false}
use Rattle.base_finite.specs.Below.{any, count, least}
use Rattle.base_finite.proofs.Laws.{by_bool, not_holding, and_true, and_false, any_ext, any_false, count_none, count_one_more, least_none, least_is, least_at, least_below, least_holds}

pub any_join : (m n : ℕ) (p : ℕ → Bool) → any (m + n) p ≡ (any m p || any n (λ k. p (m + k)))
unfolding any
any_join m zero p = rw (add-zero, or-false)
any_join m (suc n) p = rw (add-suc, any_join m n p, or_assoc)

pub count_join : (m n : ℕ) (p : ℕ → Bool) → count (m + n) p ≡ count m p + count n (λ k. p (m + k))
unfolding count
count_join m zero p = rw (add-zero m, add-zero)
count_join m (suc n) p = rw (add-suc, count_join m n p, add_assoc)

pub least_join : (m n : ℕ) (p : ℕ → Bool) → least (m + n) p ≡ cond (any m p) (least m p) (m + least n (λ k. p (m + k)))
unfolding any least
least_join m zero p =
    by_bool (any m p)
    (λ t. rw (add-zero m, t))
    (λ f. rw (add-zero m, f) (least_none m p (any_false m p f)))
least_join m (suc n) p =
    rw (add-suc m n, any_join m n p, least_join m n p)
    (by_bool (any m p)
    (λ t. rw t)
    (λ f. rw f
    (by_bool (any n (λ k. p (m + k)))
    (λ t. rw t)
    (λ g. rw g (by_bool (p (m + n)) (λ t. rw t) (λ h. rw (h, add-suc)))))))

pub least_ext : (n : ℕ) (p q : ℕ → Bool) → ((k : ℕ) → k < n → p k ≡ q k) → least n p ≡ least n q
unfolding least
least_ext zero p q f = refl
least_ext (suc n) p q f =
    rw (any_ext n p q (λ k h. f k (omega arith)), least_ext n p q (λ k h. f k (omega arith)), f n (omega arith))

-- The first number taken off.

pub count_first : (n : ℕ) (p : ℕ → Bool) → count (suc n) p ≡ cond (p 0) 1 0 + count n (λ k. p (suc k))
unfolding count
count_first n p = ap (λ (m : ℕ). count m p) (sym (one-add n)) ∙ count_join 1 n p ∙ simp (one-add, zero-add)

pub least_first : (n : ℕ) (p : ℕ → Bool) → least (suc n) p ≡ cond (p 0) 0 (suc (least n (λ k. p (suc k))))
unfolding any least
least_first n p = ap (λ (m : ℕ). least m p) (sym (one-add n)) ∙ least_join 1 n p ∙ simp one-add (by_bool (p 0) (λ t. rw t) (λ f. rw f))

-- a bound that no number with p reaches may be cut to n

pub count_cut : (m n : ℕ) (p : ℕ → Bool) → n ≤ m → ((k : ℕ) → k < m → p k ≡ true → k < n) → count m p ≡ count n p
count_cut m n p le f =
    let e : count m p ≡ count n p + count (m - n) (λ k. p (n + k)) = ap (λ (k : ℕ). count k p) (sym (add-sub_of_le le)) ∙ count_join n (m - n) p in
    let none : count (m - n) (λ k. p (n + k)) ≡ 0 = count_none (m - n) (λ k. p (n + k)) (λ k h. not_holding (p (n + k)) (λ t. omega (arith, f (n + k) (omega arith) t))) in
    omega arith

pub least_cut : (m n : ℕ) (p : ℕ → Bool) (k : ℕ) → n ≤ m → k < n → p k ≡ true → least m p ≡ least n p
least_cut m n p k le h e =
    let at : least n p ≤ k = least_at n p k h e in
    least_is m p (least n p) (omega arith) (least_holds n p (omega arith)) (least_below n p)

-- one of the numbers that have it taken away: the count is one less
pub count_without : (n : ℕ) (p : ℕ → Bool) (i : ℕ) → i < n → p i ≡ true → count n p ≡ count n (λ k. p k && not (eqb k i)) + 1
count_without n p i h t =
    count_one_more n (λ k. p k && not (eqb k i)) p i h (rw (eq-eqb i i refl) (and_false (p i))) t (λ k d. rw (ne_eqb k i d) (and_true (p k)))

-- where the count is one at most, two numbers that have it are equal
pub count_single : (n : ℕ) (p : ℕ → Bool) (i j : ℕ) → count n p ≤ 1 → i < n → j < n → p i ≡ true → p j ≡ true → i ≡ j
count_single n p i j c hi hj ti tj =
    by_bool (eqb i j)
    (λ (e : eqb i j ≡ true). eqb-true i j e)
    (λ (e : eqb i j ≡ false).
    let rest : ℕ → Bool = λ k. p k && not (eqb k i) in
    let first : count n p ≡ count n rest + 1 = count_without n p i hi ti in
    let t : rest j ≡ true = rw (tj, ne_eqb j i (λ q. eqb-false i j e (sym q))) in
    let second = count_without n rest j hj t in
    absurd (omega (arith, c, first, second)))
