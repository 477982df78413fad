-- One edge up, one entry more in the table of roots, and an edge between two nodes.
use Prim.Native.Nat.{ℕ, zero, suc, ◌+◌, ◌≤◌, ◌<◌}
use mathlib.Core.Path.{◌≡◌, refl, ◌∙◌}
use mathlib.Core.List.{List}
use mathlib.Core.Bool.{true, false}
use native.Mathlib.Omega.{arith}
use lib.Dec.{eqb}
use lib.ListN.{length, get_or, set, length-set}
use lib.Seq.{get_or-set_same, get_or-set_other}
use borrow.Author.Tests.{eq-eqb, ne_eqb, eqb-true, eqb-false}
use Rattle.base_finite.proofs.Laws.{by_bool}
use Rattle.base_finite.proofs.Stores.{entry_more}
use Rattle.graph.specs.Graph.{none}
use Rattle.base_tables.specs.Trees.{top_in, Filled, tied_in}

-- one edge up

pub top_ends : (k : ℕ) (parents : List ℕ) (v : ℕ) → get_or parents v 0 ≡ none → top_in k parents v ≡ v
unfolding top_in
top_ends zero parents v e = refl
top_ends (suc k) parents v e = rw (eq-eqb (get_or parents v 0) none e)

pub top_goes_on : (k j : ℕ) (parents : List ℕ) (v : ℕ) → k ≡ j + 1 → (get_or parents v 0 ≡ none → ⊥) → top_in j parents (get_or parents v 0) ≡ top_in k parents v
unfolding top_in
top_goes_on zero j parents v h e = absurd (omega arith)
top_goes_on (suc k) j parents v h e =
    let same : j ≡ k = omega arith in
    rw (same, ne_eqb (get_or parents v 0) none e)

pub top_stops : (k : ℕ) (parents : List ℕ) (v : ℕ) → k ≤ 0 → top_in k parents v ≡ v
unfolding top_in
top_stops zero parents v h = refl
top_stops (suc k) parents v h = absurd (omega arith)

-- one entry more

pub filled_none : (n : ℕ) (parents old : List ℕ) → Filled n parents old old 0
filled_none n parents old =
    record {
      long = refl;
      top_is = λ v h. absurd (omega arith);
      within = λ v h. absurd (omega arith);
      others = λ v h. refl;
    }

pub filled_more : (n : ℕ) (parents old owners : List ℕ) (k r : ℕ) → Filled n parents old owners k → k < length owners → r ≡ top_in n parents k → r < n → Filled n parents old (set owners k r) (k + 1)
filled_more n parents old owners k r f long is bound =
    record {
      long = simp length-set f.long;
      top_is = entry_more (top_in n parents) owners k r long is f.top_is;
      within = λ v h.
          by_bool (eqb v k)
          (λ (e : eqb v k ≡ true). rw (eqb-true v k e, get_or-set_same owners k r 0 long) bound)
          (λ (e : eqb v k ≡ false).
          let other : v ≡ k → ⊥ = eqb-false v k e in
          rw (get_or-set_other owners k v r 0 other) (f.within v (omega arith)));
      others = λ v h.
          let other : v ≡ k → ⊥ = λ (e : v ≡ k). omega arith in
          get_or-set_other owners k v r 0 other ∙ f.others v (omega arith);
    }

-- the answers of `tied`, by cases

pub tied_first : (parents : List ℕ) (u v : ℕ) → get_or parents v 0 ≡ u → true ≡ tied_in parents u v
unfolding tied_in
tied_first parents u v e = rw (eq-eqb (get_or parents v 0) u e)

pub tied_second : (parents : List ℕ) (u v : ℕ) → (get_or parents v 0 ≡ u → ⊥) → eqb (get_or parents u 0) v ≡ tied_in parents u v
unfolding tied_in
tied_second parents u v e = rw (ne_eqb (get_or parents v 0) u e)
