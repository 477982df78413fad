-- Laws of counts, searches and lists below a bound: what holds more often counts more, a count of one or two has as many
-- numbers behind it, a search among numbers that there are finds one, and a list spread out of single entries holds each
-- at its place.
use Prim.Native.Nat.{ℕ, zero, suc, ◌+◌, ◌≤◌, ◌<◌}
use mathlib.Core.Path.{◌≡◌, refl, sym, ◌∙◌}
use mathlib.Core.List.{[], ◌∷◌}
use mathlib.Core.Bool.{Bool, true, false, not, ◌&&◌, ◌||◌, true≢false}
use mathlib.Core.Logic.{⊎_elim}
use native.Mathlib.Numerals.{add-one}
use native.Mathlib.Omega.{arith}
use lib.Dec.{eqb, ltb, leb}
use lib.ListN.{length, get_or, length-append, get_or-append}
use lib.Seq.{get_or_at}
use borrow.Author.Tests.{eqb-false, ne_eqb, ltb-true, ltb-false, le-leb, lt-leb, leb-true, leb-false, not-true}
use Rattle.base_finite.specs.Below.{any, all, count, least, spread}
use Rattle.base_finite.proofs.Laws.{last_or_below, by_bool, not_holding, and_both, any_found, any_false, all_every, count_more, count_none, least_at, least_holds}
use Rattle.base_finite.proofs.Bounds.{count_without}

-- how many

-- where the count is two or more, another number than i has it
pub another : (n : ℕ) (p : ℕ → Bool) (i : ℕ) → 2 ≤ count n p → i < n → p i ≡ true → (j : ℕ) × (j < n) × (p j ≡ true) × (j ≡ i → ⊥)
another n p i c h t =
    let rest : ℕ → Bool = λ k. p k && not (eqb k i) in
    let fewer : count n p ≡ count n rest + 1 = count_without n p i h t in
    by_bool (any n rest)
    (λ (e : any n rest ≡ true).
    let r = any_found n rest e in
    let b = and_both (p r.0) (not (eqb r.0 i)) r.2 in
    (r.0, r.1, b.0, eqb-false r.0 i (not-true (eqb r.0 i) b.1)))
    (λ (e : any n rest ≡ false). absurd (omega (arith, c, fewer, count_none n rest (any_false n rest e))))

pub some_counted : (n : ℕ) (p : ℕ → Bool) → 1 ≤ count n p → any n p ≡ true
some_counted n p c =
    by_bool (any n p)
    (λ (e : any n p ≡ true). e)
    (λ (e : any n p ≡ false). absurd (omega (arith, count_none n p (any_false n p e))))

pub count_mono : (n : ℕ) (p q : ℕ → Bool) → ((k : ℕ) → k < n → p k ≡ true → q k ≡ true) → count n p ≤ count n q
unfolding count
count_mono zero p q f = omega arith
count_mono (suc n) p q f =
    let ih : count n p ≤ count n q = count_mono n p q (λ k l. f k (omega arith)) in
    by_bool (p n)
    (λ (e : p n ≡ true). rw (e, f n (omega arith) e) (omega arith))
    (λ (e : p n ≡ false). rw e (omega arith))

pub count_grows : (n : ℕ) (p q : ℕ → Bool) (i : ℕ) → ((k : ℕ) → k < n → p k ≡ true → q k ≡ true) → i < n → p i ≡ false → q i ≡ true → count n p < count n q
count_grows n p q i f h e t =
    let rest : ℕ → Bool = λ k. q k && not (eqb k i) in
    let fewer : count n q ≡ count n rest + 1 = count_without n q i h t in
    let le : count n p ≤ count n rest = count_mono n p rest (λ k l pk. let d : k ≡ i → ⊥ = λ j. true≢false (sym pk ∙ (rw j e)) in rw (f k l pk, ne_eqb k i d)) in
    omega arith

-- two tests that never hold together are counted one after the other
pub count_apart : (n : ℕ) (p q : ℕ → Bool) → ((k : ℕ) → k < n → p k ≡ true → q k ≡ true → ⊥) → count n p + count n q ≤ count n (λ k. p k || q k)
unfolding count
count_apart zero p q f = omega arith
count_apart (suc n) p q f =
    let ih : count n p + count n q ≤ count n (λ k. p k || q k) = count_apart n p q (λ k l. f k (omega arith)) in
    by_bool (p n)
    (λ (e : p n ≡ true).
    let other : q n ≡ false = not_holding (q n) (f n (omega arith) e) in
    rw (e, other) (omega arith))
    (λ (e : p n ≡ false). rw e (omega arith))

-- none, and one number more

-- and their counts add up
pub count_or : (n : ℕ) (p q : ℕ → Bool) → ((k : ℕ) → p k ≡ true → q k ≡ true → ⊥) → count n (λ k. p k || q k) ≡ count n p + count n q
unfolding count
count_or zero p q f = refl
count_or (suc n) p q f =
    let ih : count n (λ k. p k || q k) ≡ count n p + count n q = count_or n p q f in
    by_bool (p n)
    (λ (e : p n ≡ true).
    let no : q n ≡ false = not_holding (q n) (f n e) in
    rw (e, no) (omega arith))
    (λ (e : p n ≡ false). rw e (omega arith))

pub none_counted : (k : ℕ) (p : ℕ → Bool) → 0 < k → leb k (count 0 p) ≡ false
unfolding count
none_counted k p h = lt-leb k 0 h

pub once_more : (n : ℕ) (p : ℕ → Bool) → (p n || leb 1 (count n p)) ≡ leb 1 (count (n + 1) p)
once_more n p =
    rw (count_more n p)
    (by_bool (p n)
    (λ t. rw (t, le-leb 1 (count n p + 1) (omega arith)))
    (λ t.
    let same : count n p + 0 ≡ count n p = omega arith in
    rw (t, same)))

pub twice_more : (n : ℕ) (p : ℕ → Bool) → (leb 1 (count n p) && p n || leb 2 (count n p)) ≡ leb 2 (count (n + 1) p)
twice_more n p =
    rw (count_more n p)
    (by_bool (p n)
    (λ t.
    rw t
    (by_bool (leb 1 (count n p))
    (λ e. rw (e, le-leb 2 (count n p + 1) (omega (arith, leb-true 1 (count n p) e))))
    (λ e.
    let none : count n p < 1 = leb-false 1 (count n p) e in
    rw (e, lt-leb 2 (count n p) (omega arith), lt-leb 2 (count n p + 1) (omega arith)))))
    (λ t.
    let same : count n p + 0 ≡ count n p = omega arith in
    rw (t, same) (by_bool (leb 1 (count n p)) (λ e. rw e) (λ e. rw e))))

-- where no two have it, the count is one at most
pub count_one : (n : ℕ) (p : ℕ → Bool) → ((i j : ℕ) → i < n → j < i → p i ≡ true → p j ≡ true → ⊥) → count n p ≤ 1
unfolding count
count_one zero p f = omega arith
count_one (suc n) p f =
    by_bool (p n)
    (λ (t : p n ≡ true).
    let zeros : count n p ≡ 0 = count_none n p (λ k h. not_holding (p k) (λ u. f n k (omega arith) h t u)) in
    rw (t, zeros) (omega arith))
    (λ (t : p n ≡ false).
    let ih : count n p ≤ 1 = count_one n p (λ i j h. f i j (omega arith)) in
    rw t (omega arith))

-- two different numbers

-- no test holds at two places below n
pub all_apart : (n : ℕ) (r : ℕ → ℕ → Bool) → ((i j : ℕ) → i < n → j < i → r i j ≡ true → ⊥) → all n (λ i. all i (λ j. not (r i j))) ≡ true
all_apart n r f =
    all_every n (λ i. all i (λ j. not (r i j))) (λ i h.
    all_every i (λ j. not (r i j)) (λ j k.
    let e : r i j ≡ false = not_holding (r i j) (λ t. f i j h k t) in
    rw e))

-- searches

pub least_found : (n : ℕ) (p : ℕ → Bool) → any n p ≡ true → (least n p < n) × (p (least n p) ≡ true)
least_found n p e =
    let r = any_found n p e in
    let l : least n p < n = omega (arith, r.1, least_at n p r.0 r.1 r.2) in
    (l, least_holds n p l)

-- of the numbers that have it, one where d is smallest: from k to one with a smaller d, as long as there is such a one
smallest_from : (n : ℕ) (p : ℕ → Bool) (d : ℕ → ℕ) (b k : ℕ) → d k ≤ b → k < n → p k ≡ true → (j : ℕ) × (j < n) × (p j ≡ true) × ((m : ℕ) → m < n → p m ≡ true → d j ≤ d m)
smallest_from n p d zero k le h t = (k, h, t, λ m l q. omega arith)
smallest_from n p d (suc b) k le h t =
    by_bool (any n (λ m. p m && ltb (d m) (d k)))
    (λ e.
    let r = any_found n (λ m. p m && ltb (d m) (d k)) e in
    let c = and_both (p r.0) (ltb (d r.0) (d k)) r.2 in
    let smaller : d r.0 < d k = ltb-true (d r.0) (d k) c.1 in
    smallest_from n p d b r.0 (omega arith) r.1 c.0)
    (λ e. (k, h, t, λ m l q. ltb-false (d m) (d k) (rw q at (any_false n (λ m. p m && ltb (d m) (d k)) e m l))))

pub smallest : (n : ℕ) (p : ℕ → Bool) (d : ℕ → ℕ) → any n p ≡ true → (k : ℕ) × (k < n) × (p k ≡ true) × ((m : ℕ) → m < n → p m ≡ true → d k ≤ d m)
smallest n p d e = let r = any_found n p e in smallest_from n p d (d r.0) r.0 (omega arith) r.1 r.2

-- lists

pub length_entries : {A : Type 0} (n : ℕ) (f : ℕ → A) → length (spread n (λ k. f k ∷ [])) ≡ n
unfolding spread
length_entries zero f = refl
length_entries (suc n) f = rw (length-append, length_entries n f) (add-one n)

pub entry_at : {A : Type 0} (n : ℕ) (f : ℕ → A) (d : A) (i : ℕ) → i < n → get_or (spread n (λ k. f k ∷ [])) i d ≡ f i
unfolding spread
entry_at zero f d i h = absurd (omega arith)
entry_at (suc n) f d i h =
    ⊎_elim
    (λ (e : i ≡ n). rw e (get_or_at (spread n (λ k. f k ∷ [])) (f n) [] d n (length_entries n f)))
    (λ (l : i < n). get_or-append (spread n (λ k. f k ∷ [])) (f n ∷ []) d i (rw (length_entries n f) l) ∙ entry_at n f d i l)
    (last_or_below h)
