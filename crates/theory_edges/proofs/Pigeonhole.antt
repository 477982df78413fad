-- The pigeonhole: n + 1 numbers below n are not all different.
-- By induction on n. Either the last number has stood before, or it takes the place of the numbers equal to n - 1, and
-- then the first n numbers are below n - 1.
use Prim.Native.Nat.{ℕ, zero, suc, ◌≤◌, ◌<◌}
use mathlib.Core.Path.{◌≡◌, sym, ◌∙◌}
use mathlib.Core.Bool.{true, false, cond}
use native.Mathlib.Omega.{arith}
use lib.Dec.{eqb}
use borrow.Author.Tests.{eqb-true, eqb-false}
use Rattle.base_finite.specs.Below.{any}
use Rattle.base_finite.proofs.Laws.{by_bool, any_found, any_false}

-- two places up to n, the one before the other, with one number
abbrev pub Twice : ℕ → (ℕ → ℕ) → Type 0
Twice n f = (i : ℕ) × (j : ℕ) × (i < j) × (j ≤ n) × (f i ≡ f j)

-- x, or where x is m, y in its place
unfoldable swapped : ℕ → ℕ → ℕ → ℕ
swapped m y x = cond (eqb x m) y x

swapped_below : (m y x : ℕ) → y < suc m → x < suc m → (x ≡ y → ⊥) → swapped m y x < m
unfolding swapped
swapped_below m y x h k apart =
    by_bool (eqb x m)
    (λ (t : eqb x m ≡ true).
    let xm : x ≡ m = eqb-true x m t in
    let other : y ≡ m → ⊥ = λ ym. apart (xm ∙ sym ym) in
    rw t (omega arith))
    (λ (t : eqb x m ≡ false).
    let other : x ≡ m → ⊥ = eqb-false x m t in
    rw t (omega arith))

swapped_same : (m y x z : ℕ) → (x ≡ y → ⊥) → (z ≡ y → ⊥) → swapped m y x ≡ swapped m y z → x ≡ z
unfolding swapped
swapped_same m y x z xy zy =
    by_bool (eqb x m)
    (λ (t : eqb x m ≡ true).
    by_bool (eqb z m)
    (λ (s : eqb z m ≡ true). λ _. eqb-true x m t ∙ sym (eqb-true z m s))
    (λ (s : eqb z m ≡ false). rw (t, s) (λ (e : y ≡ z). absurd (zy (sym e)))))
    (λ (t : eqb x m ≡ false).
    by_bool (eqb z m)
    (λ (s : eqb z m ≡ true). rw (t, s) (λ (e : x ≡ y). absurd (xy e)))
    (λ (s : eqb z m ≡ false). rw (t, s) (λ (e : x ≡ z). e)))

pub pigeonhole : (n : ℕ) (f : ℕ → ℕ) → ((i : ℕ) → i ≤ n → f i < n) → Twice n f
pigeonhole zero f h = absurd (omega (arith, h 0 (omega arith)))
pigeonhole (suc m) f h =
    by_bool (any (suc m) (λ i. eqb (f i) (f (suc m))))
    (λ t.
    let r = any_found (suc m) (λ i. eqb (f i) (f (suc m))) t in
    (r.0, suc m, r.1, omega arith, eqb-true (f r.0) (f (suc m)) r.2))
    (λ t.
    let apart : (i : ℕ) → i ≤ m → f i ≡ f (suc m) → ⊥ = λ i l. eqb-false (f i) (f (suc m)) (any_false (suc m) (λ i. eqb (f i) (f (suc m))) t i (omega arith)) in
    let r : Twice m (λ i. swapped m (f (suc m)) (f i)) = pigeonhole m (λ i. swapped m (f (suc m)) (f i)) (λ i l. swapped_below m (f (suc m)) (f i) (h (suc m) (omega arith)) (h i (omega arith)) (apart i l)) in
    (r.0, r.1, r.2, omega arith, swapped_same m (f (suc m)) (f r.0) (f r.1) (apart r.0 (omega arith)) (apart r.1 (omega arith)) r.4))
