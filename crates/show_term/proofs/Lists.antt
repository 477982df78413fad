-- The lists that the tables hold: what stands directly below a node, and the children of a node.
use Prim.Native.Nat.{ℕ, zero, suc, ◌+◌, ◌-◌, ◌≤◌, ◌<◌}
use mathlib.Core.Path.{◌≡◌, refl, sym, ◌∙◌}
use mathlib.Core.List.{List, [], ◌∷◌, ◌++◌, append-nil, append_assoc}
use mathlib.Core.Bool.{true, false}
use mathlib.Core.Logic.{inl, inr}
use native.Mathlib.Nat.{add-zero}
use native.Mathlib.Numerals.{add-one}
use native.Mathlib.Omega.{arith}
use lib.Dec.{ltb}
use lib.ListN.{length, get_or}
use borrow.Author.Tests.{eq-eqb, ne_eqb, ltb-true}
use Rattle.base_finite.specs.Below.{spread, select}
use Rattle.base_finite.specs.Stores.{entry_is}
use Rattle.base_finite.proofs.Laws.{by_bool}
use Rattle.graph.specs.Constraint.{In}
use Rattle.graph.specs.Graph.{none}
use Rattle.show_term.specs.Terms.{roots_in, roots_from, child_in, children_in, children_from, Next}

-- from r on

module _ (above : List ℕ) (v : ℕ) where
  pub roots_none : (r : ℕ) → length above ≤ r → roots_from above v r ≡ []
  unfolding roots_in
  roots_none r h = let z : length above - r ≡ 0 = omega arith in rw z

  pub roots_skip : (r : ℕ) → r < length above → (get_or above r 0 ≡ v → ⊥) → roots_from above v r ≡ roots_from above v (r + 1)
  unfolding roots_in
  roots_skip r h d =
      let more : length above - r ≡ suc (length above - (r + 1)) = omega arith in
      rw (more, ne_eqb (get_or above r 0) v d)

  pub roots_take : (r : ℕ) → r < length above → get_or above r 0 ≡ v → roots_from above v r ≡ r ∷ roots_from above v (r + 1)
  unfolding roots_in
  roots_take r h e =
      let more : length above - r ≡ suc (length above - (r + 1)) = omega arith in
      rw (more, eq-eqb (get_or above r 0) v e)

  -- what a loop has passed is not below v, and what it stops at is the lowest

  module _ (from r : ℕ) (same : roots_from above v from ≡ roots_from above v r) where
    pub next_found : r < length above → get_or above r 0 ≡ v → Next above v from r
    next_found h e =
        record {
          within = omega arith;
          nothing = λ (i : r ≡ length above). absurd (omega arith);
          lowest = λ _. same ∙ roots_take r h e;
          is_below = λ _. e;
        }

    pub next_none : r ≤ length above → length above ≤ r → Next above v from r
    next_none few all =
        record {
          within = few;
          nothing = λ _. same ∙ roots_none r all;
          lowest = λ (h : r < length above). absurd (omega arith);
          is_below = λ (h : r < length above). absurd (omega arith);
        }

  pub some_found : {from r : ℕ} → Next above v from r → (r ≡ length above → ⊥) → r < length above
  some_found n d = omega (arith, n.within)

  -- those below n, and then k from n on
  select_more : (k n : ℕ) → select n (entry_is above v) ++ roots_in k above v n ≡ select (n + k) (entry_is above v)
  unfolding roots_in select spread
  select_more zero n = rw add-zero (append-nil (select n (entry_is above v)))
  select_more (suc k) n =
      let all : n + suc k ≡ (n + 1) + k = omega arith in
      let rest : select (suc n) (entry_is above v) ++ roots_in k above v (n + 1) ≡ select ((n + 1) + k) (entry_is above v) = rw add-one (select_more k (suc n)) in
      rw all
      (by_bool (entry_is above v n)
      (λ (e : entry_is above v n ≡ true). rw e (sym (append_assoc (select n (entry_is above v)) (n ∷ []) (roots_in k above v (n + 1))) ∙ rw e at rest))
      (λ (e : entry_is above v n ≡ false). rw e (rw (e, append-nil) at rest)))

  pub roots_select : roots_from above v 0 ≡ select (length above) (entry_is above v)
  unfolding select spread
  roots_select =
      let all : length above - 0 ≡ length above = omega arith in
      let none : 0 + length above ≡ length above = omega arith in
      rw all (rw none at (select_more (length above) 0))

-- children

module _ (table : List ℕ) (v : ℕ) where
  none_in : (k i : ℕ) → child_in table v i ≡ none → children_in k table v i ≡ []
  unfolding children_in
  none_in zero i e = refl
  none_in (suc k) i e = rw (eq-eqb (child_in table v i) none e)

  pub children_none : (i : ℕ) → child_in table v i ≡ none → children_from table v i ≡ []
  children_none i e = none_in (3 - i) i e

  -- no node has more than three
  pub child_few : (i : ℕ) → (child_in table v i ≡ none → ⊥) → i < 3
  unfolding child_in
  child_few i d =
      by_bool (ltb i 3)
      (λ (l : ltb i 3 ≡ true). ltb-true i 3 l)
      (λ (l : ltb i 3 ≡ false). absurd (d (rw l)))

  pub children_some : (i : ℕ) → (child_in table v i ≡ none → ⊥) → children_from table v i ≡ child_in table v i ∷ children_from table v (i + 1)
  unfolding children_in
  children_some i d =
      let few = child_few i d in
      let more : 3 - i ≡ suc (3 - (i + 1)) = omega arith in
      rw (more, ne_eqb (child_in table v i) none d)

  -- a list of nodes of which the table has each entry, k at most
  pub children_listed : (k i : ℕ) (ys : List ℕ) → length ys ≤ k → ((y : ℕ) → In y ys → y ≡ none → ⊥) → ((j : ℕ) → j < k → child_in table v (i + j) ≡ get_or ys j none) → children_in k table v i ≡ ys
  unfolding children_in
  children_listed zero i [] few nodes is = refl
  children_listed zero i (y ∷ ys) few nodes is = absurd (omega arith)
  children_listed (suc k) i [] few nodes is =
      let first : child_in table v i ≡ none = rw add-zero at (is 0 (omega arith)) in
      rw (eq-eqb (child_in table v i) none first)
  children_listed (suc k) i (y ∷ ys) few nodes is =
      let first : child_in table v i ≡ y = rw add-zero at (is 0 (omega arith)) in
      let rest : children_in k table v (i + 1) ≡ ys =
      children_listed k (i + 1) ys (omega arith) (λ x h. nodes x (inr h)) (λ j h. let after : (i + 1) + j ≡ i + suc j = omega arith in rw after (is (suc j) (omega arith))) in
      rw (first, ne_eqb y none (nodes y (inl refl)), rest)
