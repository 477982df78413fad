-- Lists of edges put together: joined, reversed, and read off a table by rows. What is among such a list follows from
-- what is among its parts. An edge stands in it twice only where it stands twice in a part or in two parts.
-- A table of n rows and n columns gives the edge `f a b` at row a and column b, where the test `p a b` holds.
use Prim.Native.Nat.{ℕ, zero, suc, ◌<◌}
use mathlib.Core.Path.{◌≡◌, refl, sym, ◌∙◌}
use mathlib.Core.List.{List, [], ◌∷◌, ◌++◌, reverse, reverse-cons}
use mathlib.Core.Bool.{Bool, true, false, cond, ◌||◌, ◌&&◌, true≢false}
use mathlib.Core.Logic.{⊎_elim}
use native.Mathlib.Omega.{arith}
use lib.Dec.{eqb}
use lib.ListN.{length, length-append}
use Rattle.base_finite.specs.Below.{any, count, spread}
use Rattle.base_finite.proofs.Laws.{any_at, any_found, not_holding}
use Rattle.graph.specs.Graph.{Edge, among, entered, single, parent}
use Rattle.theory_edges.proofs.Edges.{among_cases, among_first, among_rest, among_none, parent_among, distinct_cons, sum_ext}
use Rattle.theory_edges.specs.Edges.{distinct, sum}

or_assoc : (a b c : Bool) → (a || (b || c)) ≡ (a || b || c)
or_assoc true b c = refl
or_assoc false b c = refl

or_last : (a b : Bool) → (b || (a || false)) ≡ (a || b)
or_last true true = refl
or_last true false = refl
or_last false true = refl
or_last false false = refl

-- joined and reversed

pub among_append : (es fs : List Edge) (u v : ℕ) → among (es ++ fs) u v ≡ (among es u v || among fs u v)
unfolding among
among_append [] fs u v = refl
among_append (e ∷ es) fs u v = rw (among_append es fs u v) (or_assoc (eqb e.0 u && eqb e.1 v) (among es u v) (among fs u v))

pub distinct_append : (es fs : List Edge) → distinct es ≡ true → distinct fs ≡ true → ((u v : ℕ) → among es u v ≡ true → among fs u v ≡ true → ⊥) → distinct (es ++ fs) ≡ true
unfolding distinct
distinct_append [] fs d c apart = c
distinct_append (e ∷ es) fs d c apart =
    let b = distinct_cons e es d in
    let other : among fs e.0 e.1 ≡ false = not_holding (among fs e.0 e.1) (apart e.0 e.1 (among_first e es e.0 e.1 refl refl)) in
    let rest : distinct (es ++ fs) ≡ true = distinct_append es fs b.1 c (λ u v h. apart u v (among_rest e es u v h)) in
    let fresh : among (es ++ fs) e.0 e.1 ≡ false = rw (among_append, b.0, other) in
    rw (fresh, rest)

pub among_reverse : (es : List Edge) (u v : ℕ) → among (reverse es) u v ≡ among es u v
unfolding among
among_reverse [] u v = refl
among_reverse (e ∷ es) u v = rw (reverse-cons, among_append, among_reverse es u v) (or_last (eqb e.0 u && eqb e.1 v) (among es u v))

distinct_one : (e : Edge) → distinct (e ∷ []) ≡ true
unfolding distinct among
distinct_one e = refl

pub distinct_reverse : (es : List Edge) → distinct es ≡ true → distinct (reverse es) ≡ true
distinct_reverse [] d = d
distinct_reverse (e ∷ es) d =
    let b = distinct_cons e es d in
    let apart : (u v : ℕ) → among (reverse es) u v ≡ true → among (e ∷ []) u v ≡ true → ⊥ = λ u v h k.
    ⊎_elim
    (λ (q : (e.0 ≡ u) × (e.1 ≡ v)). true≢false (sym (sym (among_reverse es u v) ∙ h) ∙ (rw (q.0, q.1) at b.0)))
    (λ (t : among [] u v ≡ true). among_none u v t)
    (among_cases e [] u v k) in
    rw reverse-cons (distinct_append (reverse es) (e ∷ []) (distinct_reverse es b.1) (distinct_one e) apart)

-- all edges different and no two from different nodes to one: no two entries to one node
pub single_of_distinct : (es : List Edge) → distinct es ≡ true → ((p q c : ℕ) → among es p c ≡ true → among es q c ≡ true → p ≡ q) → single es ≡ true
unfolding single
single_of_distinct [] d only = refl
single_of_distinct (e ∷ es) d only =
    let b = distinct_cons e es d in
    let fresh : entered es e.1 ≡ false = not_holding (entered es e.1) (λ h.
    let up : among es (parent es e.1) e.1 ≡ true = parent_among es e.1 h in
    let same : parent es e.1 ≡ e.0 = only (parent es e.1) e.0 e.1 (among_rest e es (parent es e.1) e.1 up) (among_first e es e.0 e.1 refl refl) in
    true≢false (sym (rw same at up) ∙ b.0)) in
    let rest : single es ≡ true = single_of_distinct es b.1 (λ p q c h k. only p q c (among_rest e es p c h) (among_rest e es q c k)) in
    rw (fresh, rest)

-- spread

pub among_spread : (n : ℕ) (f : ℕ → List Edge) (u v : ℕ) → among (spread n f) u v ≡ any n (λ k. among (f k) u v)
unfolding spread any among
among_spread zero f u v = refl
among_spread (suc n) f u v = rw (among_append, among_spread n f u v)

pub distinct_spread : (n : ℕ) (f : ℕ → List Edge) → ((k : ℕ) → distinct (f k) ≡ true) → ((j k u v : ℕ) → among (f j) u v ≡ true → among (f k) u v ≡ true → j ≡ k) → distinct (spread n f) ≡ true
unfolding spread distinct
distinct_spread zero f d apart = refl
distinct_spread (suc n) f d apart =
    distinct_append (spread n f) (f n) (distinct_spread n f d apart) (d n)
    (λ u v h k.
    let r = any_found n (λ k. among (f k) u v) (sym (among_spread n f u v) ∙ h) in
    omega (arith, r.1, apart r.0 n u v r.2 k))

pub length_spread : {A : Type 0} (n : ℕ) (f : ℕ → List A) → length (spread n f) ≡ sum n (λ k. length (f k))
unfolding spread sum
length_spread zero f = refl
length_spread (suc n) f = rw (length-append, length_spread n f)

-- tables

unfoldable pub cell : Bool → Edge → List Edge
cell b e = cond b (e ∷ []) []

unfoldable pub row : ℕ → (ℕ → Bool) → (ℕ → Edge) → List Edge
row n p f = spread n (λ b. cell (p b) (f b))

unfoldable pub table : ℕ → (ℕ → ℕ → Bool) → (ℕ → ℕ → Edge) → List Edge
table n p f = spread n (λ a. row n (p a) (f a))

among_cell : (b : Bool) (e : Edge) (u v : ℕ) → among (cell b e) u v ≡ true → (b ≡ true) × (e.0 ≡ u) × (e.1 ≡ v)
unfolding cell
among_cell true e u v h =
    ⊎_elim
    (λ (q : (e.0 ≡ u) × (e.1 ≡ v)). (refl, q.0, q.1))
    (λ (t : among [] u v ≡ true). absurd (among_none u v t))
    (among_cases e [] u v h)
among_cell false e u v h = absurd (among_none u v h)

distinct_cell : (b : Bool) (e : Edge) → distinct (cell b e) ≡ true
unfolding cell distinct
distinct_cell true e = distinct_one e
distinct_cell false e = refl

length_cell : (b : Bool) (e : Edge) → length (cell b e) ≡ cond b 1 0
unfolding cell
length_cell true e = refl
length_cell false e = refl

among_row : (n : ℕ) (p : ℕ → Bool) (f : ℕ → Edge) (u v : ℕ) → among (row n p f) u v ≡ true → (b : ℕ) × (b < n) × (p b ≡ true) × ((f b).0 ≡ u) × ((f b).1 ≡ v)
unfolding row
among_row n p f u v h =
    let r = any_found n (λ b. among (cell (p b) (f b)) u v) (sym (among_spread n (λ b. cell (p b) (f b)) u v) ∙ h) in
    let q = among_cell (p r.0) (f r.0) u v r.2 in
    (r.0, r.1, q.0, q.1, q.2)

pub among_table : (n : ℕ) (p : ℕ → ℕ → Bool) (f : ℕ → ℕ → Edge) (u v : ℕ) → among (table n p f) u v ≡ true → (a : ℕ) × (b : ℕ) × (a < n) × (b < n) × (p a b ≡ true) × ((f a b).0 ≡ u) × ((f a b).1 ≡ v)
unfolding table
among_table n p f u v h =
    let r = any_found n (λ a. among (row n (p a) (f a)) u v) (sym (among_spread n (λ a. row n (p a) (f a)) u v) ∙ h) in
    let s = among_row n (p r.0) (f r.0) u v r.2 in
    (r.0, s.0, r.1, s.1, s.2, s.3, s.4)

pub table_among : (n : ℕ) (p : ℕ → ℕ → Bool) (f : ℕ → ℕ → Edge) (a b : ℕ) → a < n → b < n → p a b ≡ true → among (table n p f) (f a b).0 (f a b).1 ≡ true
unfolding table row cell
table_among n p f a b l k h =
    let u : ℕ = (f a b).0 in
    let v : ℕ = (f a b).1 in
    let here : among (cell (p a b) (f a b)) u v ≡ true = rw h (among_first (f a b) [] u v refl refl) in
    let along : among (row n (p a) (f a)) u v ≡ true = among_spread n (λ b. cell (p a b) (f a b)) u v ∙ any_at n (λ b. among (cell (p a b) (f a b)) u v) b k here in
    among_spread n (λ a. row n (p a) (f a)) u v ∙ any_at n (λ a. among (row n (p a) (f a)) u v) a l along

-- an edge shows its place: no edge stands in the table twice
pub distinct_table : (n : ℕ) (p : ℕ → ℕ → Bool) (f : ℕ → ℕ → Edge) → ((a b c d : ℕ) → (f a b).0 ≡ (f c d).0 → (f a b).1 ≡ (f c d).1 → (a ≡ c) × (b ≡ d)) → distinct (table n p f) ≡ true
unfolding table row
distinct_table n p f place =
    distinct_spread n (λ a. row n (p a) (f a))
    (λ a. distinct_spread n (λ b. cell (p a b) (f a b)) (λ b. distinct_cell (p a b) (f a b))
    (λ j k u v h i.
    let q = among_cell (p a j) (f a j) u v h in
    let r = among_cell (p a k) (f a k) u v i in
    (place a j a k (q.1 ∙ sym r.1) (q.2 ∙ sym r.2)).1))
    (λ j k u v h i.
    let q = among_row n (p j) (f j) u v h in
    let r = among_row n (p k) (f k) u v i in
    (place j q.0 k r.0 (q.3 ∙ sym r.3) (q.4 ∙ sym r.4)).0)

length_row : (n : ℕ) (p : ℕ → Bool) (f : ℕ → Edge) → length (row n p f) ≡ count n p
unfolding row spread count
length_row zero p f = refl
length_row (suc n) p f = rw (length-append, length_row n p f, length_cell)

pub length_table : (n : ℕ) (p : ℕ → ℕ → Bool) (f : ℕ → ℕ → Edge) → length (table n p f) ≡ sum n (λ a. count n (p a))
unfolding table
length_table n p f = length_spread n (λ a. row n (p a) (f a)) ∙ sum_ext n (λ a. length (row n (p a) (f a))) (λ a. count n (p a)) (λ a _. length_row n (p a) (f a))
