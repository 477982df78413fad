-- The laws of `any`, `all`, `count`, `least`, `spread` and `select`: each by induction on the bound.
-- A law named `..-more` is the step of a loop that counts up: what holds at n + 1.
use Prim.Native.Nat.{ℕ, zero, suc, ◌+◌, ◌≤◌, ◌<◌}
use mathlib.Core.Path.{◌≡◌, refl, sym, ◌∙◌}
use mathlib.Core.List.{List, ◌++◌}
use mathlib.Core.Bool.{Bool, true, false, cond, not, ◌||◌, ◌&&◌, true≢false, false≢true}
use mathlib.Core.Logic.{◌⊎◌, inl, inr, ⊎_elim}
use native.Mathlib.Nat.{eq-or-lt_of_le, le_of_suc-le-suc}
use native.Mathlib.Numerals.{add-one}
use native.Mathlib.Omega.{arith}
use lib.Dec.{eqb}
use borrow.Author.Tests.{eq-eqb, ne_eqb, eqb-true, eqb-false}
use Rattle.base_finite.specs.Below.{any, all, count, least, spread}

-- below suc n is below n, or n
pub last_or_below : {k n : ℕ} → k < suc n → (k ≡ n) ⊎ (k < n)
last_or_below h = eq-or-lt_of_le (le_of_suc-le-suc h)

-- a Boolean by cases, with the equation kept
pub by_bool : {C : Type 0} (b : Bool) → (b ≡ true → C) → (b ≡ false → C) → C
by_bool true f g = f refl
by_bool false f g = g refl

-- a test that cannot hold is false
pub not_holding : (b : Bool) → (b ≡ true → ⊥) → b ≡ false
not_holding true h = absurd (h refl)
not_holding false h = refl

-- two tests that hold together are equal
pub test_ext : (a b : Bool) → (a ≡ true → b ≡ true) → (b ≡ true → a ≡ true) → a ≡ b
test_ext true b f g = sym (f refl)
test_ext false b f g = sym (not_holding b (λ h. false≢true (g h)))

pub or_left : (a b : Bool) → a ≡ true → (a || b) ≡ true
or_left a b h = rw h

pub or_right : (a b : Bool) → b ≡ true → (a || b) ≡ true
or_right true b h = refl
or_right false b h = h

pub or_cases : (a b : Bool) → (a || b) ≡ true → (a ≡ true) ⊎ (b ≡ true)
or_cases true b h = inl refl
or_cases false b h = inr h

pub or_none : (a b : Bool) → (a || b) ≡ false → (a ≡ false) × (b ≡ false)
or_none true b h = absurd (true≢false h)
or_none false b h = (refl, h)

pub and_both : (a b : Bool) → (a && b) ≡ true → (a ≡ true) × (b ≡ true)
and_both true b h = (refl, h)
and_both false b h = absurd (false≢true h)

pub and_intro : (a b : Bool) → a ≡ true → b ≡ true → (a && b) ≡ true
and_intro a b h k = rw (h, k)

pub or_false : (a : Bool) → (a || false) ≡ a
or_false true = refl
or_false false = refl

pub or_comm : (a b : Bool) → (a || b) ≡ (b || a)
or_comm true true = refl
or_comm true false = refl
or_comm false true = refl
or_comm false false = refl

pub and_true : (a : Bool) → (a && true) ≡ a
and_true true = refl
and_true false = refl

pub and_false : (a : Bool) → (a && false) ≡ false
and_false true = refl
and_false false = refl

pub not_not : (a : Bool) → not (not a) ≡ a
not_not true = refl
not_not false = refl

pub neither : (a b : Bool) → not (a || b) ≡ (not a && not b)
neither true b = refl
neither false b = refl

pub eqb_sym : (a b : ℕ) → eqb a b ≡ eqb b a
eqb_sym a b =
    by_bool (eqb a b)
    (λ (e : eqb a b ≡ true). rw (e, eq-eqb b a (sym (eqb-true a b e))))
    (λ (e : eqb a b ≡ false). rw (e, ne_eqb b a (λ q. eqb-false a b e (sym q))))

-- some

pub any_more : (n : ℕ) (p : ℕ → Bool) → any (n + 1) p ≡ (any n p || p n)
unfolding any
any_more n p = rw add-one

pub any_at : (n : ℕ) (p : ℕ → Bool) (k : ℕ) → k < n → p k ≡ true → any n p ≡ true
unfolding any
any_at zero p k h e = absurd (omega arith)
any_at (suc n) p k h e =
    ⊎_elim
    (λ (q : k ≡ n). or_right (any n p) (p n) (rw q at e))
    (λ (l : k < n). or_left (any n p) (p n) (any_at n p k l e))
    (last_or_below h)

pub any_found : (n : ℕ) (p : ℕ → Bool) → any n p ≡ true → (k : ℕ) × (k < n) × (p k ≡ true)
unfolding any
any_found zero p e = absurd (false≢true e)
any_found (suc n) p e =
    ⊎_elim
    (λ (l : any n p ≡ true). let r = any_found n p l in (r.0, omega (arith, r.1), r.2))
    (λ (q : p n ≡ true). (n, omega arith, q))
    (or_cases (any n p) (p n) e)

pub any_none : (n : ℕ) (p : ℕ → Bool) → ((k : ℕ) → k < n → p k ≡ false) → any n p ≡ false
unfolding any
any_none zero p f = refl
any_none (suc n) p f = rw (any_none n p (λ k h. f k (omega arith)), f n (omega arith))

pub any_false : (n : ℕ) (p : ℕ → Bool) → any n p ≡ false → (k : ℕ) → k < n → p k ≡ false
any_false n p e k h = by_bool (p k) (λ t. absurd (true≢false (sym (any_at n p k h t) ∙ e))) (λ f. f)

pub any_ext : (n : ℕ) (p q : ℕ → Bool) → ((k : ℕ) → k < n → p k ≡ q k) → any n p ≡ any n q
unfolding any
any_ext zero p q f = refl
any_ext (suc n) p q f = rw (any_ext n p q (λ k h. f k (omega arith)), f n (omega arith))

-- a bound that no number with p reaches may be cut to n
pub any_cut : (m n : ℕ) (p : ℕ → Bool) → n ≤ m → ((k : ℕ) → k < m → p k ≡ true → k < n) → any m p ≡ any n p
any_cut m n p le f =
    by_bool (any m p)
    (λ (e : any m p ≡ true).
    let r = any_found m p e in
    e ∙ sym (any_at n p r.0 (f r.0 r.1 r.2) r.2))
    (λ (e : any m p ≡ false). e ∙ sym (any_none n p (λ k h. any_false m p e k (omega arith))))

-- every

pub all_at : (n : ℕ) (p : ℕ → Bool) → all n p ≡ true → (k : ℕ) → k < n → p k ≡ true
unfolding all
all_at zero p e k h = absurd (omega arith)
all_at (suc n) p e k h =
    let b = and_both (all n p) (p n) e in
    ⊎_elim
    (λ (q : k ≡ n). rw q b.1)
    (λ (l : k < n). all_at n p b.0 k l)
    (last_or_below h)

pub all_every : (n : ℕ) (p : ℕ → Bool) → ((k : ℕ) → k < n → p k ≡ true) → all n p ≡ true
unfolding all
all_every zero p f = refl
all_every (suc n) p f = rw (all_every n p (λ k h. f k (omega arith)), f n (omega arith))

pub all_fails : (n : ℕ) (p : ℕ → Bool) (k : ℕ) → k < n → p k ≡ false → all n p ≡ false
all_fails n p k h e = by_bool (all n p) (λ t. absurd (true≢false (sym (all_at n p t k h) ∙ e))) (λ f. f)

pub all_ext : (n : ℕ) (p q : ℕ → Bool) → ((k : ℕ) → k < n → p k ≡ q k) → all n p ≡ all n q
unfolding all
all_ext zero p q f = refl
all_ext (suc n) p q f = rw (all_ext n p q (λ k h. f k (omega arith)), f n (omega arith))

-- how many

pub count_more : (n : ℕ) (p : ℕ → Bool) → count (n + 1) p ≡ count n p + cond (p n) 1 0
unfolding count
count_more n p = rw add-one

pub count_ext : (n : ℕ) (p q : ℕ → Bool) → ((k : ℕ) → k < n → p k ≡ q k) → count n p ≡ count n q
unfolding count
count_ext zero p q f = refl
count_ext (suc n) p q f = rw (count_ext n p q (λ k h. f k (omega arith)), f n (omega arith))

pub count_none : (n : ℕ) (p : ℕ → Bool) → ((k : ℕ) → k < n → p k ≡ false) → count n p ≡ 0
unfolding count
count_none zero p f = refl
count_none (suc n) p f = rw (count_none n p (λ k h. f k (omega arith)), f n (omega arith))

pub count_le : (n : ℕ) (p : ℕ → Bool) → count n p ≤ n
unfolding count
count_le zero p = omega arith
count_le (suc n) p =
    let ih : count n p ≤ n = count_le n p in
    by_bool (p n) (λ e. rw e (omega arith)) (λ e. rw e (omega arith))

-- one number more has it: the count is one more
pub count_one_more : (n : ℕ) (p q : ℕ → Bool) (k : ℕ) → k < n → p k ≡ false → q k ≡ true → ((j : ℕ) → (j ≡ k → ⊥) → p j ≡ q j) → count n q ≡ count n p + 1
unfolding count
count_one_more zero p q k h e t f = absurd (omega arith)
count_one_more (suc n) p q k h e t f =
    ⊎_elim
    (λ (i : k ≡ n).
    let pe : p n ≡ false = rw i at e in
    let qt : q n ≡ true = rw i at t in
    let same : count n q ≡ count n p = count_ext n q p (λ j l. sym (f j (λ x. omega arith))) in
    rw (pe, qt, same) (omega arith))
    (λ (l : k < n).
    let ih : count n q ≡ count n p + 1 = count_one_more n p q k l e t f in
    let qn : p n ≡ q n = f n (λ x. omega arith) in
    rw (ih, qn) (omega arith))
    (last_or_below h)

-- the least

pub least_le : (n : ℕ) (p : ℕ → Bool) → least n p ≤ n
unfolding least any
least_le zero p = omega arith
least_le (suc n) p =
    let ih : least n p ≤ n = least_le n p in
    by_bool (any n p) (λ e. rw e (omega arith)) (λ e. rw e (by_bool (p n) (λ t. rw t (omega arith)) (λ t. rw t (omega arith))))

pub least_none : (n : ℕ) (p : ℕ → Bool) → ((k : ℕ) → k < n → p k ≡ false) → least n p ≡ n
unfolding least
least_none zero p f = refl
least_none (suc n) p f = rw (any_none n p (λ k h. f k (omega arith)), f n (omega arith))

pub least_is : (n : ℕ) (p : ℕ → Bool) (k : ℕ) → k < n → p k ≡ true → ((j : ℕ) → j < k → p j ≡ false) → least n p ≡ k
unfolding least
least_is zero p k h e f = absurd (omega arith)
least_is (suc n) p k h e f =
    ⊎_elim
    (λ (i : k ≡ n).
    let pn : p n ≡ true = rw i at e in
    let none : any n p ≡ false = any_none n p (λ j l. f j (omega arith)) in
    rw (none, pn) (sym i))
    (λ (l : k < n). rw (any_at n p k l e) (least_is n p k l e f))
    (last_or_below h)

pub least_at : (n : ℕ) (p : ℕ → Bool) (k : ℕ) → k < n → p k ≡ true → least n p ≤ k
unfolding least
least_at zero p k h e = absurd (omega arith)
least_at (suc n) p k h e =
    ⊎_elim
    (λ (i : k ≡ n).
    let pn : p n ≡ true = rw i at e in
    let le : least n p ≤ n = least_le n p in
    by_bool (any n p) (λ t. rw t (omega arith)) (λ t. rw (t, pn) (omega arith)))
    (λ (l : k < n). rw (any_at n p k l e) (least_at n p k l e))
    (last_or_below h)

-- no number before the least has it
pub least_below : (n : ℕ) (p : ℕ → Bool) (j : ℕ) → j < least n p → p j ≡ false
least_below n p j h =
    let le : least n p ≤ n = least_le n p in
    by_bool (p j)
    (λ (t : p j ≡ true). absurd (omega (arith, least_at n p j (omega arith) t)))
    (λ (f : p j ≡ false). f)

pub least_holds : (n : ℕ) (p : ℕ → Bool) → least n p < n → p (least n p) ≡ true
unfolding least
least_holds zero p = λ h. absurd (omega arith)
least_holds (suc n) p =
    by_bool (any n p)
    (λ (e : any n p ≡ true).
    rw e (λ (h : least n p < suc n).
    let r = any_found n p e in
    let below : least n p < n = omega (arith, least_at n p r.0 r.1 r.2, r.1) in
    least_holds n p below))
    (λ (e : any n p ≡ false).
    rw e (by_bool (p n) (λ (t : p n ≡ true). rw t (λ (h : n < suc n). t)) (λ (t : p n ≡ false). rw t (λ (h : suc n < suc n). absurd (omega arith)))))

pub spread_more : {A : Type 0} (n : ℕ) (f : ℕ → List A) → spread (n + 1) f ≡ spread n f ++ f n
unfolding spread
spread_more n f = rw add-one

pub spread_ext : {A : Type 0} (n : ℕ) (f g : ℕ → List A) → ((k : ℕ) → k < n → f k ≡ g k) → spread n f ≡ spread n g
unfolding spread
spread_ext zero f g h = refl
spread_ext (suc n) f g h = rw (spread_ext n f g (λ k l. h k (omega arith)), h n (omega arith))
