-- Laws of lists and of lists of edges that constraints need: what is in a list that is joined or spread out, the edges from one node to
-- each node of a list, and when no two entries of a joined list go to one node.
use Prim.Native.Nat.{ℕ, zero, suc, ◌<◌}
use mathlib.Core.Path.{◌≡◌, refl, sym, ◌∙◌}
use mathlib.Core.List.{List, [], ◌∷◌, ◌++◌, map}
use mathlib.Core.Bool.{Bool, true, false, cond, ◌||◌, true≢false, false≢true, or_assoc}
use mathlib.Core.Logic.{◌⊎◌, inl, inr, ⊎_elim}
use native.Mathlib.Omega.{arith}
use lib.Dec.{eqb}
use borrow.Author.Tests.{eqb-true}
use Rattle.base_finite.specs.Below.{spread}
use Rattle.base_finite.proofs.Laws.{last_or_below, or_cases, or_none, or_right, not_holding}
use Rattle.graph.specs.Graph.{Edge, among, entered, single}
use Rattle.graph.specs.Constraint.{In}
use Rattle.theory_edges.proofs.Edges.{among_cases, among_first, among_rest, among_none, entered_of_among, single_cons}

-- joined

pub in_left : {A : Type 0} (a : A) (xs ys : List A) → In a xs → In a (xs ++ ys)
in_left a [] ys h = absurd h
in_left a (x ∷ xs) ys h = ⊎_elim (λ (e : a ≡ x). inl e) (λ (t : In a xs). inr (in_left a xs ys t)) h

pub in_right : {A : Type 0} (a : A) (xs ys : List A) → In a ys → In a (xs ++ ys)
in_right a [] ys h = h
in_right a (x ∷ xs) ys h = inr (in_right a xs ys h)

pub in_cases : {A : Type 0} (a : A) (xs ys : List A) → In a (xs ++ ys) → In a xs ⊎ In a ys
in_cases a [] ys h = inr h
in_cases a (x ∷ xs) ys h =
    ⊎_elim
    (λ (e : a ≡ x). inl (inl e))
    (λ (t : In a (xs ++ ys)). ⊎_elim (λ (l : In a xs). inl (inr l)) (λ (r : In a ys). inr r) (in_cases a xs ys t))
    h

pub in_one : {A : Type 0} (a x : A) → In a (x ∷ []) → a ≡ x
in_one a x h = ⊎_elim (λ (e : a ≡ x). e) (λ (n : ⊥). absurd n) h

-- a list that is there under a condition
pub in_if : {A : Type 0} (b : Bool) (a : A) (xs : List A) → In a (cond b xs []) → (b ≡ true) × In a xs
in_if true a xs h = (refl, h)
in_if false a xs h = absurd h

-- spread out

pub in_spread : {A : Type 0} (a : A) (n : ℕ) (f : ℕ → List A) (k : ℕ) → k < n → In a (f k) → In a (spread n f)
unfolding spread
in_spread a zero f k l h = absurd (omega arith)
in_spread a (suc n) f k l h =
    ⊎_elim
    (λ (e : k ≡ n). in_right a (spread n f) (f n) (rw e at h))
    (λ (b : k < n). in_left a (spread n f) (f n) (in_spread a n f k b h))
    (last_or_below l)

pub spread_found : {A : Type 0} (a : A) (n : ℕ) (f : ℕ → List A) → In a (spread n f) → (k : ℕ) × (k < n) × In a (f k)
unfolding spread
spread_found a zero f h = absurd h
spread_found a (suc n) f h =
    ⊎_elim
    (λ (l : In a (spread n f)). let r = spread_found a n f l in (r.0, omega (arith, r.1), r.2))
    (λ (i : In a (f n)). (n, omega arith, i))
    (in_cases a (spread n f) (f n) h)

-- from one node to each node of a list

abbrev pub fan : ℕ → List ℕ → List Edge
fan x ys = map (λ y. (x, y)) ys

pub among_fan : (x : ℕ) (ys : List ℕ) (u v : ℕ) → among (fan x ys) u v ≡ true → (x ≡ u) × In v ys
among_fan x [] u v h = absurd (among_none u v h)
among_fan x (y ∷ ys) u v h =
    ⊎_elim
    (λ (b : (x ≡ u) × (y ≡ v)). (b.0, inl (sym b.1)))
    (λ (t : among (fan x ys) u v ≡ true). let r = among_fan x ys u v t in (r.0, inr r.1))
    (among_cases (x, y) (fan x ys) u v h)

pub fan_among : (x : ℕ) (ys : List ℕ) (v : ℕ) → In v ys → among (fan x ys) x v ≡ true
fan_among x [] v h = absurd h
fan_among x (y ∷ ys) v h =
    ⊎_elim
    (λ (e : v ≡ y). among_first (x, y) (fan x ys) x v refl (sym e))
    (λ (t : In v ys). among_rest (x, y) (fan x ys) x v (fan_among x ys v t))
    h

-- no two entries to one node

entered_append : (es fs : List Edge) (v : ℕ) → entered (es ++ fs) v ≡ (entered es v || entered fs v)
unfolding entered
entered_append [] fs v = refl
entered_append (e ∷ es) fs v = rw (entered_append es fs v) (sym (or_assoc (eqb e.1 v) (entered es v) (entered fs v)))

entered_first : (e : Edge) (es : List Edge) → entered (e ∷ es) e.1 ≡ true
entered_first e es = entered_of_among (e ∷ es) e.0 e.1 (among_first e es e.0 e.1 refl refl)

entered_rest : (e : Edge) (es : List Edge) (v : ℕ) → entered es v ≡ true → entered (e ∷ es) v ≡ true
unfolding entered
entered_rest e es v h = or_right (eqb e.1 v) (entered es v) h

-- a list that is joined of two has no two entries to one node where neither has, and no node is entered by both
pub single_append : (es fs : List Edge) → single es ≡ true → single fs ≡ true → ((v : ℕ) → entered es v ≡ true → entered fs v ≡ true → ⊥) → single (es ++ fs) ≡ true
unfolding single
single_append [] fs s t apart = t
single_append (e ∷ es) fs s t apart =
    let b = single_cons e es s in
    let other : entered fs e.1 ≡ false = not_holding (entered fs e.1) (apart e.1 (entered_first e es)) in
    let rest : single (es ++ fs) ≡ true = single_append es fs b.1 t (λ v h. apart v (entered_rest e es v h)) in
    rw (entered_append es fs e.1, b.0, other, rest)

-- and only there
pub single_parts : (es fs : List Edge) → single (es ++ fs) ≡ true → (single es ≡ true) × (single fs ≡ true) × ((v : ℕ) → entered es v ≡ true → entered fs v ≡ true → ⊥)
unfolding single entered
single_parts [] fs s = (refl, s, λ v h. absurd (false≢true h))
single_parts (e ∷ es) fs s =
    let b = single_cons e (es ++ fs) s in
    let c = or_none (entered es e.1) (entered fs e.1) (sym (entered_append es fs e.1) ∙ b.0) in
    let r = single_parts es fs b.1 in (
      rw (c.0, r.0),
      r.1,
      λ v h k.
          ⊎_elim
          (λ (q : eqb e.1 v ≡ true). true≢false (sym k ∙ (rw (eqb-true e.1 v q) at c.1)))
          (λ (t : entered es v ≡ true). r.2 v t k)
          (or_cases (eqb e.1 v) (entered es v) h),
    )
