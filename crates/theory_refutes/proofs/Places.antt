-- The places of a cycle's bytes: where their nodes and kinds stand, and which node is next.
use Prim.Native.Nat.{ℕ, ◌+◌, ◌/◌, ◌%◌, ◌<◌}
use mathlib.Core.Path.{◌≡◌, refl, sym, ap, subst, ◌∙◌}
use mathlib.Core.List.{List}
use mathlib.Core.Logic.{◌⊎◌, ⊎_elim}
use native.Mathlib.Nat.{eq-or-lt_of_le, mod-eq_of_lt, mod_self, mod-lt}
use native.Mathlib.Omega.{arith}
use lib.ListN.{length}
use Rattle.graph.specs.Cycle.{pairs, node, kind, next}
use Rattle.theory_refutes.proofs.Cycles.{SameEdge, equal_places}

pub pairs_are : (bs : List ℕ) → pairs bs ≡ length bs / 2
unfolding pairs
pairs_are bs = refl

pub next_inner : (bs : List ℕ) (i : ℕ) → i + 1 < pairs bs → next bs i ≡ node bs (i + 1)
next_inner bs i h = ap (node bs) (mod-eq_of_lt h)

pub next_last : (bs : List ℕ) (i : ℕ) → i + 1 ≡ pairs bs → next bs i ≡ node bs 0
next_last bs i e = ap (node bs) (subst (λ (n : ℕ). (i + 1) % n ≡ 0) e (mod_self (i + 1)))

-- a place is the last, or before it
pub place_cases : (bs : List ℕ) (i : ℕ) → i < pairs bs → (i + 1 ≡ pairs bs) ⊎ (i + 1 < pairs bs)
place_cases bs i h = eq-or-lt_of_le (omega arith)

-- the next place is a place
pub next_below : (bs : List ℕ) (n i : ℕ) → ((j : ℕ) → j < pairs bs → node bs j < n) → i < pairs bs → next bs i < n
next_below bs n i f h = f ((i + 1) % pairs bs) (mod-lt (i + 1) (omega arith))

-- where no two places hold one node, two edges join the same two nodes only in a cycle of two
module _ (bs : List ℕ) (different : (i j : ℕ) → i < pairs bs → j < i → node bs i ≡ node bs j → ⊥) where
  one_place : (i j : ℕ) → i < pairs bs → j < pairs bs → node bs i ≡ node bs j → i ≡ j
  one_place = equal_places (pairs bs) (λ i j. node bs i ≡ node bs j) different (λ i j e. sym e)

  pub edges_differ : (pairs bs ≡ 2 → kind bs 1 ≡ kind bs 0 → ⊥) → (i j : ℕ) → i < pairs bs → j < i → SameEdge bs i j → ⊥
  edges_differ two i j h d e =
      let ahead : next bs j ≡ node bs (j + 1) = next_inner bs j (omega arith) in
      ⊎_elim
      (λ (q : (node bs i ≡ node bs j) × (next bs i ≡ next bs j)). different i j h d q.0)
      (λ (q : (node bs i ≡ next bs j) × (next bs i ≡ node bs j)).
      let a : i ≡ j + 1 = one_place i (j + 1) h (omega arith) (q.0 ∙ ahead) in
      ⊎_elim
      (λ (last : i + 1 ≡ pairs bs).
      let b : 0 ≡ j = one_place 0 j (omega arith) (omega arith) (sym (next_last bs i last) ∙ q.1) in
      let one : 1 ≡ i = omega arith in
      two (omega arith) (ap (kind bs) one ∙ e.0 ∙ ap (kind bs) (sym b)))
      (λ (inner : i + 1 < pairs bs).
      different (i + 1) j inner (omega arith) (sym (next_inner bs i inner) ∙ q.1))
      (place_cases bs i h))
      e.1
