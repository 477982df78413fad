-- Laws of lists of edges: which edges are among them, which nodes they enter and leave, and who is whose parent.
-- A list with no two entries to one node gives each node one parent. A list of edges between numbers below n has as many
-- different ones as there are pairs among it; so their number depends only on which pairs those are.
use Prim.Native.Nat.{ℕ, zero, suc, ◌+◌, ◌*◌, ◌≤◌, ◌<◌}
use mathlib.Core.Path.{◌≡◌, refl, sym, ◌∙◌}
use mathlib.Core.List.{List, [], ◌∷◌}
use mathlib.Core.Bool.{Bool, true, false, not, ◌&&◌, ◌||◌, true≢false, false≢true}
use mathlib.Core.Logic.{◌⊎◌, inl, inr, ⊎_elim}
use native.Mathlib.Nat.{suc-mul}
use native.Mathlib.Omega.{arith}
use lib.Dec.{eqb}
use lib.ListN.{length}
use borrow.Author.Tests.{eqb-true, eq-eqb, not-true}
use Rattle.base_finite.specs.Below.{count}
use Rattle.base_finite.proofs.Laws.{last_or_below, by_bool, or_right, or_cases, or_none, and_both, count_ext, count_none, count_one_more, not_holding, test_ext}
use Rattle.graph.specs.Graph.{Edge, among, entered, left, different, single, none, parent}
use Rattle.theory_edges.specs.Edges.{Within, distinct, sum, total}

pub among_cases : (e : Edge) (es : List Edge) (u v : ℕ) → among (e ∷ es) u v ≡ true → ((e.0 ≡ u) × (e.1 ≡ v)) ⊎ (among es u v ≡ true)
unfolding among
among_cases e es u v h =
    ⊎_elim
    (λ (a : (eqb e.0 u && eqb e.1 v) ≡ true).
    let b = and_both (eqb e.0 u) (eqb e.1 v) a in
    inl (eqb-true e.0 u b.0, eqb-true e.1 v b.1))
    (λ (t : among es u v ≡ true). inr t)
    (or_cases (eqb e.0 u && eqb e.1 v) (among es u v) h)

pub among_first : (e : Edge) (es : List Edge) (u v : ℕ) → e.0 ≡ u → e.1 ≡ v → among (e ∷ es) u v ≡ true
unfolding among
among_first e es u v p q = rw (eq-eqb e.0 u p, eq-eqb e.1 v q)

pub among_rest : (e : Edge) (es : List Edge) (u v : ℕ) → among es u v ≡ true → among (e ∷ es) u v ≡ true
unfolding among
among_rest e es u v h = or_right (eqb e.0 u && eqb e.1 v) (among es u v) h

pub among_none : (u v : ℕ) → among [] u v ≡ true → ⊥
unfolding among
among_none u v h = false≢true h

pub entered_of_among : (es : List Edge) (u v : ℕ) → among es u v ≡ true → entered es v ≡ true
unfolding entered
entered_of_among [] u v h = absurd (among_none u v h)
entered_of_among (e ∷ es) u v h =
    ⊎_elim
    (λ (b : (e.0 ≡ u) × (e.1 ≡ v)). rw (eq-eqb e.1 v b.1))
    (λ (t : among es u v ≡ true). or_right (eqb e.1 v) (entered es v) (entered_of_among es u v t))
    (among_cases e es u v h)

pub left_of_among : (es : List Edge) (u v : ℕ) → among es u v ≡ true → left es u ≡ true
unfolding left
left_of_among [] u v h = absurd (among_none u v h)
left_of_among (e ∷ es) u v h =
    ⊎_elim
    (λ (b : (e.0 ≡ u) × (e.1 ≡ v)). rw (eq-eqb e.0 u b.0))
    (λ (t : among es u v ≡ true). or_right (eqb e.0 u) (left es u) (left_of_among es u v t))
    (among_cases e es u v h)

pub parent_among : (es : List Edge) (v : ℕ) → entered es v ≡ true → among es (parent es v) v ≡ true
unfolding entered parent
parent_among [] v h = absurd (false≢true h)
parent_among (e ∷ es) v h =
    by_bool (eqb e.1 v)
    (λ (t : eqb e.1 v ≡ true). rw t (among_first e es e.0 v refl (eqb-true e.1 v t)))
    (λ (f : eqb e.1 v ≡ false). rw f (among_rest e es (parent es v) v (parent_among es v (rw f at h))))

pub left_found : (es : List Edge) (u : ℕ) → left es u ≡ true → (v : ℕ) × (among es u v ≡ true)
unfolding left
left_found [] u h = absurd (false≢true h)
left_found (e ∷ es) u h =
    ⊎_elim
    (λ (t : eqb e.0 u ≡ true). (e.1, among_first e es u e.1 (eqb-true e.0 u t) refl))
    (λ (t : left es u ≡ true). let r = left_found es u t in (r.0, among_rest e es u r.0 r.1))
    (or_cases (eqb e.0 u) (left es u) h)

pub among_unentered : (es : List Edge) (u v : ℕ) → entered es v ≡ false → among es u v ≡ false
among_unentered es u v h = not_holding (among es u v) (λ t. true≢false (sym (entered_of_among es u v t) ∙ h))

pub parent_unentered : (es : List Edge) (v : ℕ) → entered es v ≡ false → parent es v ≡ none
unfolding entered parent
parent_unentered [] v h = refl
parent_unentered (e ∷ es) v h =
    let b = or_none (eqb e.1 v) (entered es v) h in
    rw b.0 (parent_unentered es v b.1)

-- which nodes are entered and left follows from which edges are among the list
pub entered_ext : (es fs : List Edge) → ((u v : ℕ) → among es u v ≡ among fs u v) → (v : ℕ) → entered es v ≡ entered fs v
entered_ext es fs same v =
    test_ext (entered es v) (entered fs v)
    (λ h. entered_of_among fs (parent es v) v (sym (same (parent es v) v) ∙ parent_among es v h))
    (λ h. entered_of_among es (parent fs v) v (same (parent fs v) v ∙ parent_among fs v h))

pub left_ext : (es fs : List Edge) → ((u v : ℕ) → among es u v ≡ among fs u v) → (u : ℕ) → left es u ≡ left fs u
left_ext es fs same u =
    test_ext (left es u) (left fs u)
    (λ h. let r = left_found es u h in left_of_among fs u r.0 (sym (same u r.0) ∙ r.1))
    (λ h. let r = left_found fs u h in left_of_among es u r.0 (same u r.0 ∙ r.1))

-- one parent

pub single_cons : (e : Edge) (es : List Edge) → single (e ∷ es) ≡ true → (entered es e.1 ≡ false) × (single es ≡ true)
unfolding single
single_cons e es h =
    let b = and_both (not (entered es e.1)) (single es) h in
    (not-true (entered es e.1) b.0, b.1)

pub parent_only : (es : List Edge) (p c : ℕ) → single es ≡ true → among es p c ≡ true → p ≡ parent es c
unfolding parent
parent_only [] p c s h = absurd (among_none p c h)
parent_only (e ∷ es) p c s h =
    let b = single_cons e es s in
    ⊎_elim
    (λ (q : (e.0 ≡ p) × (e.1 ≡ c)). rw (eq-eqb e.1 c q.1) (sym q.0))
    (λ (t : among es p c ≡ true).
    let apart : eqb e.1 c ≡ false = not_holding (eqb e.1 c) (λ i. true≢false (sym (entered_of_among es p c t) ∙ (rw (eqb-true e.1 c i) at b.0))) in
    rw apart (parent_only es p c b.1 t))
    (among_cases e es p c h)

pub one_parent : (es : List Edge) (p q c : ℕ) → single es ≡ true → among es p c ≡ true → among es q c ≡ true → p ≡ q
one_parent es p q c s h k = parent_only es p c s h ∙ sym (parent_only es q c s k)

-- different edges

pub distinct_cons : (e : Edge) (es : List Edge) → distinct (e ∷ es) ≡ true → (among es e.0 e.1 ≡ false) × (distinct es ≡ true)
unfolding distinct
distinct_cons e es h =
    let b = and_both (not (among es e.0 e.1)) (distinct es) h in
    (not-true (among es e.0 e.1) b.0, b.1)

pub within_cons : (n : ℕ) (e : Edge) (es : List Edge) → Within n (e ∷ es) → (e.0 < n) × (e.1 < n) × Within n es
within_cons n e es w =
    let b = w e.0 e.1 (among_first e es e.0 e.1 refl refl) in
    (b.0, b.1, λ u v h. w u v (among_rest e es u v h))

pub within_more : (n : ℕ) (x y : ℕ) (es : List Edge) → x < n → y < n → Within n es → Within n ((x, y) ∷ es)
within_more n x y es a b w u v h =
    ⊎_elim
    (λ (q : (x ≡ u) × (y ≡ v)). (omega arith, omega arith))
    (λ (t : among es u v ≡ true). w u v t)
    (among_cases (x, y) es u v h)

pub sum_ext : (n : ℕ) (f g : ℕ → ℕ) → ((k : ℕ) → k < n → f k ≡ g k) → sum n f ≡ sum n g
unfolding sum
sum_ext zero f g h = refl
sum_ext (suc n) f g h = rw (sum_ext n f g (λ k l. h k (omega arith)), h n (omega arith))

pub sum_one_more : (n : ℕ) (f g : ℕ → ℕ) (k : ℕ) → k < n → g k ≡ f k + 1 → ((j : ℕ) → (j ≡ k → ⊥) → f j ≡ g j) → sum n g ≡ sum n f + 1
unfolding sum
sum_one_more zero f g k h e s = absurd (omega arith)
sum_one_more (suc n) f g k h e s =
    ⊎_elim
    (λ (i : k ≡ n).
    let more : g n ≡ f n + 1 = rw i at e in
    let same : sum n g ≡ sum n f = sum_ext n g f (λ j l. sym (s j (λ x. omega arith))) in
    omega arith)
    (λ (l : k < n).
    let ih : sum n g ≡ sum n f + 1 = sum_one_more n f g k l e s in
    let same : f n ≡ g n = s n (λ x. omega arith) in
    omega arith)
    (last_or_below h)

pub sum_mono : (n : ℕ) (f g : ℕ → ℕ) → ((k : ℕ) → k < n → f k ≤ g k) → sum n f ≤ sum n g
unfolding sum
sum_mono zero f g h = omega arith
sum_mono (suc n) f g h = omega (arith, sum_mono n f g (λ k l. h k (omega arith)), h n (omega arith))

pub sum_grows : (n : ℕ) (f g : ℕ → ℕ) (i : ℕ) → ((k : ℕ) → k < n → f k ≤ g k) → i < n → f i < g i → sum n f < sum n g
unfolding sum
sum_grows zero f g i h l e = absurd (omega arith)
sum_grows (suc n) f g i h l e =
    ⊎_elim
    (λ (j : i ≡ n).
    let last : f n < g n = rw j at e in
    omega (arith, sum_mono n f g (λ k b. h k (omega arith))))
    (λ (b : i < n). omega (arith, sum_grows n f g i (λ k b. h k (omega arith)) b e, h n (omega arith)))
    (last_or_below l)

pub sum_bound : (n m : ℕ) (f : ℕ → ℕ) → ((k : ℕ) → k < n → f k ≤ m) → sum n f ≤ n * m
unfolding sum
sum_bound zero m f h = omega arith
sum_bound (suc n) m f h = rw (suc-mul n m) (omega (arith, sum_bound n m f (λ k l. h k (omega arith)), h n (omega arith)))

pub total_none : (n : ℕ) → total n [] ≡ 0
unfolding total among sum
total_none n = sum_none n n
  where
    sum_none : (k m : ℕ) → sum k (λ u. count m (among [] u)) ≡ 0
    sum_none zero m = refl
    sum_none (suc k) m = rw (sum_none k m, count_none m (among [] k) (λ j l. refl))

pub among_same : (e : Edge) (es : List Edge) (u v : ℕ) → ((e.0 ≡ u) × (e.1 ≡ v) → ⊥) → among es u v ≡ among (e ∷ es) u v
among_same e es u v apart =
    test_ext (among es u v) (among (e ∷ es) u v)
    (λ h. among_rest e es u v h)
    (λ h. ⊎_elim (λ (b : (e.0 ≡ u) × (e.1 ≡ v)). absurd (apart b)) (λ (t : among es u v ≡ true). t) (among_cases e es u v h))

pub total_cons : (n : ℕ) (e : Edge) (es : List Edge) → e.0 < n → e.1 < n → among es e.0 e.1 ≡ false → total n (e ∷ es) ≡ total n es + 1
unfolding total
total_cons n e es u v fresh =
    sum_one_more n (λ u. count n (among es u)) (λ u. count n (among (e ∷ es) u)) e.0 u
    (count_one_more n (among es e.0) (among (e ∷ es) e.0) e.1 v fresh (among_first e es e.0 e.1 refl refl)
    (λ j apart. among_same e es e.0 j (λ b. apart (sym b.1))))
    (λ j apart. count_ext n (among es j) (among (e ∷ es) j) (λ k l. among_same e es j k (λ b. apart (sym b.0))))

pub total_ext : (n : ℕ) (es fs : List Edge) → ((u v : ℕ) → among es u v ≡ among fs u v) → total n es ≡ total n fs
unfolding total
total_ext n es fs same = sum_ext n (λ u. count n (among es u)) (λ u. count n (among fs u)) (λ u l. count_ext n (among es u) (among fs u) (λ v k. same u v))

-- a pair that is there already adds nothing
pub adds_nothing : (p : ℕ → ℕ → Bool) (l r : ℕ) → p l r ≡ true → (u v : ℕ) → (eqb l u && eqb r v || p u v) ≡ p u v
adds_nothing p l r there u v =
    by_bool (eqb l u && eqb r v)
    (λ (e : (eqb l u && eqb r v) ≡ true).
    let b = and_both (eqb l u) (eqb r v) e in
    rw (e, ← eqb-true l u b.0, ← eqb-true r v b.1) (sym there))
    (λ (e : (eqb l u && eqb r v) ≡ false). rw e)

pub among_again : (e : Edge) (es : List Edge) → among es e.0 e.1 ≡ true → (u v : ℕ) → among (e ∷ es) u v ≡ among es u v
unfolding among
among_again e es = adds_nothing (among es) e.0 e.1

pub different_total : (n : ℕ) (es : List Edge) → Within n es → different es ≡ total n es
unfolding different
different_total n [] w = sym (total_none n)
different_total n (e ∷ es) w =
    let b = within_cons n e es w in
    let ih : different es ≡ total n es = different_total n es b.2 in
    by_bool (among es e.0 e.1)
    (λ (a : among es e.0 e.1 ≡ true). rw a (ih ∙ sym (total_ext n (e ∷ es) es (among_again e es a))))
    (λ (a : among es e.0 e.1 ≡ false). rw a (omega (arith, ih, total_cons n e es b.0 b.1 a)))

-- how many there are depends only on which they are
pub different_same : (n : ℕ) (es fs : List Edge) → Within n es → ((u v : ℕ) → among es u v ≡ among fs u v) → different es ≡ different fs
different_same n es fs w same =
    different_total n es w ∙ total_ext n es fs same ∙ sym (different_total n fs (λ u v h. w u v (same u v ∙ h)))

-- where none stands twice, they are the list's length
pub distinct_different : (es : List Edge) → distinct es ≡ true → different es ≡ length es
unfolding different
distinct_different [] d = refl
distinct_different (e ∷ es) d = let a = distinct_cons e es d in rw (a.0, distinct_different es a.1)

pub different_short : (es : List Edge) → different es ≤ length es
unfolding different
different_short [] = omega arith
different_short (e ∷ es) =
    by_bool (among es e.0 e.1)
    (λ (a : among es e.0 e.1 ≡ true). rw a (omega (arith, different_short es)))
    (λ (a : among es e.0 e.1 ≡ false). rw a (omega (arith, different_short es)))
