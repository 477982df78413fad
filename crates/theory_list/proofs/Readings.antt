-- The list of the readings, by the recursion of Rule 3: none where there is a cycle, the settled placing where no choice
-- is left, and else the readings of the first half and then those of the second. It ends, as the descent relation grows.
-- Each entry is a solved form, and each solved form contains exactly one entry, by its index. From this alone: the entries
-- are the readings, each once, in the order of Rule 3 (`listing_exists`); and as that order is asymmetric, no other list
-- is (`listing_unique`). There is a solved form where the list is not empty, so it is decided whether there is one.
use Prim.Native.Nat.{ℕ, zero, suc, ◌+◌, ◌*◌, ◌<◌}
use mathlib.Core.Path.{◌≡◌, refl, sym, subst, subst₂, ◌∙◌}
use mathlib.Core.List.{List, [], ◌∷◌, ◌++◌}
use mathlib.Core.Bool.{true, false, true≢false}
use mathlib.Core.Logic.{◌⊎◌, inl, inr, ⊎_elim, ◌↔◌}
use native.Mathlib.Omega.{arith}
use lib.Dec.{ltb}
use lib.ListN.{length}
use borrow.Author.Tests.{ltb-true, ltb-false}
use Rattle.base_finite.specs.Below.{any}
use Rattle.base_finite.proofs.Laws.{by_bool, any_at, any_found, not_holding}
use Rattle.graph.specs.Graph.{Graph, root, leaf, own, Descent}
use Rattle.graph.specs.Order.{Choice, adding, Before, halves, within_first, within_second, entry, Listing, ExactlyOne}
use Rattle.graph.specs.Placing.{hangs, Below, Contains, SolvedForm, Reading, Solvable}
use Rattle.theory_forest.specs.Shape.{Shaped}
use Rattle.theory_forest.specs.Table.{acyclic, descends, under}
use Rattle.theory_forest.proofs.Table.{acyclic_iff, descends_iff, descent_within, under_iff}
use Rattle.theory_forest.proofs.Forests.{determined, solved_adding}
use Rattle.theory_list.proofs.Entries.{Every, Covered, Ordered, every_joined, only_first, only_second, ordered_joined, same_lists}
use Rattle.theory_list.specs.Redundancy.{Loopless}
use Rattle.theory_list.specs.Choosing.{Unforked, chosen, pairs}
use Rattle.theory_list.proofs.Choosing.{choice_made, choice_none, choice_unique, choice_splits, choice_disjoint, first_shaped, second_shaped, pairs_le, first_grows, second_grows}
use Rattle.theory_list.specs.Settled.{settled}
use Rattle.theory_list.proofs.Settled.{settled_descent, settled_solved}
use Rattle.theory_list.specs.Readings.{readings, listed}

-- how the list comes about, without the tests and the bound
pub data Lists : Graph → List (List ℕ) → Type 0 where
  looped : {g : Graph} (u : ℕ) → Descent g u u → Lists g []
  alone : {g : Graph} → Loopless g → Unforked g → Lists g (settled g ∷ [])
  split : {g : Graph} {ps qs : List (List ℕ)} (v a b : ℕ) → Loopless g → Choice g v a b → Lists (adding g a (own g b)) ps → Lists (adding g b (own g a)) qs → Lists g (ps ++ qs)

-- a cycle, or none
pub loop_or_none : (g : Graph) → Shaped g → ((u : ℕ) × Descent g u u) ⊎ Loopless g
loop_or_none g s =
    by_bool (any g.nodes (λ u. descends g u u))
    (λ (t : any g.nodes (λ u. descends g u u) ≡ true).
    let r = any_found g.nodes (λ u. descends g u u) t in
    inl (r.0, (descends_iff g s r.0 r.0).0 r.2))
    (λ (t : any g.nodes (λ u. descends g u u) ≡ false).
    inr (λ u d.
    true≢false (sym (any_at g.nodes (λ u. descends g u u) u (descent_within g s d).0 ((descends_iff g s u u).1 d)) ∙ t)))

readings_looped : (k : ℕ) (g : Graph) → acyclic g ≡ false → readings (suc k) g ≡ []
unfolding readings
readings_looped k g e = rw (e, readings)

readings_alone : (k : ℕ) (g : Graph) → acyclic g ≡ true → ltb (chosen g).0 g.nodes ≡ false → readings (suc k) g ≡ settled g ∷ []
unfolding readings
readings_alone k g e f = rw (e, f, readings)

readings_split : (k : ℕ) (g : Graph) → acyclic g ≡ true → ltb (chosen g).0 g.nodes ≡ true
    → readings (suc k) g ≡ readings k (adding g (chosen g).1 (own g (chosen g).2)) ++ readings k (adding g (chosen g).2 (own g (chosen g).1))
unfolding readings
readings_split k g e f = rw (e, f, readings)

readings_lists : (k : ℕ) (g : Graph) → Shaped g → g.nodes * g.nodes < k + pairs g → Lists g (readings k g)
unfolding readings adding
readings_lists zero g s h = absurd (omega (arith, pairs_le g))
readings_lists (suc k) g s h =
    ⊎_elim
    (λ (c : (u : ℕ) × Descent g u u).
    let e : acyclic g ≡ false = not_holding (acyclic g) (λ t. (acyclic_iff g s).0 t c.0 c.1) in
    subst (Lists g) (sym (readings_looped k g e)) (looped c.0 c.1))
    (λ (n : Loopless g).
    let e : acyclic g ≡ true = (acyclic_iff g s).1 n in
    by_bool (ltb (chosen g).0 g.nodes)
    (λ (t : ltb (chosen g).0 g.nodes ≡ true).
    let v : ℕ = (chosen g).0 in
    let a : ℕ = (chosen g).1 in
    let b : ℕ = (chosen g).2 in
    let c : Choice g v a b = choice_made g s n (ltb-true v g.nodes t) in
    let more_first : pairs g < pairs (adding g a (own g b)) = first_grows g s n c in
    let more_second : pairs g < pairs (adding g b (own g a)) = second_grows g s n c in
    subst (Lists g) (sym (readings_split k g e t))
    (split v a b n c
    (readings_lists k (adding g a (own g b)) (first_shaped g s c) (omega arith))
    (readings_lists k (adding g b (own g a)) (second_shaped g s c) (omega arith))))
    (λ (t : ltb (chosen g).0 g.nodes ≡ false).
    subst (Lists g) (sym (readings_alone k g e t)) (alone n (choice_none g s n (ltb-false (chosen g).0 g.nodes t)))))
    (loop_or_none g s)

pub listed_lists : (g : Graph) → Shaped g → Lists g (listed g)
unfolding listed
listed_lists g s = readings_lists (suc (g.nodes * g.nodes)) g s (omega arith)

-- the theorem, by the recursion

pub lists_solved : {g : Graph} {ps : List (List ℕ)} → Lists g ps → Shaped g → Every (SolvedForm g) ps
lists_solved (looped u d) s i h = absurd (omega arith)
lists_solved (alone {g = g} n o) s zero h = settled_solved g s n o
lists_solved (alone {g = g} n o) s (suc i) h = absurd (omega arith)
lists_solved (split {g = g} {ps = ps} {qs = qs} v a b n c x y) s i h =
    every_joined (SolvedForm g) ps qs
    (λ j l. ((solved_adding g a (own g b) (entry ps j)).0 (lists_solved x (first_shaped g s c) j l)).0)
    (λ j l. ((solved_adding g b (own g a) (entry qs j)).0 (lists_solved y (second_shaped g s c) j l)).0) i h

-- the entries of each half have its edge downward
module _ {g : Graph} {ps qs : List (List ℕ)} (s : Shaped g) {v a b : ℕ} (c : Choice g v a b) (x : Lists (adding g a (own g b)) ps) (y : Lists (adding g b (own g a)) qs) where
  in_first : (i : ℕ) → i < length ps → Below g (entry ps i) a (own g b)
  in_first i h = ((solved_adding g a (own g b) (entry ps i)).0 (lists_solved x (first_shaped g s c) i h)).1

  in_second : (i : ℕ) → i < length qs → Below g (entry qs i) b (own g a)
  in_second i h = ((solved_adding g b (own g a) (entry qs i)).0 (lists_solved y (second_shaped g s c) i h)).1

-- p has below each node what q has there, and perhaps more
abbrev Containing : Graph → List ℕ → List ℕ → Type 0
Containing g p q = Contains (Below g p) (Below g q)

pub lists_one : {g : Graph} {ps : List (List ℕ)} → Lists g ps → Shaped g → (p : List ℕ) → SolvedForm g p → ExactlyOne (Containing g p) ps
unfolding adding hangs root leaf
lists_one {g} (looped u d) s p f = absurd (f.is_forest.no_loop u (f.contains u u d))
lists_one (alone {g = g} n o) s p f = (0, omega arith, λ u v b. f.contains u v (settled_descent g s n b), λ j h y. omega arith)
lists_one (split {g = g} {ps = ps} {qs = qs} v a b n c x y) s p f =
    ⊎_elim
    (λ (d : Below g p a (own g b)).
    only_first (Containing g p) ps qs (lists_one x (first_shaped g s c) p ((solved_adding g a (own g b) p).1 (f, d)))
    (λ i h k. choice_disjoint g s c p f d (k b (own g a) (in_second s c x y i h))))
    (λ (d : Below g p b (own g a)).
    only_second (Containing g p) ps qs
    (λ i h k. choice_disjoint g s c p f (k a (own g b) (in_first s c x y i h)) d)
    (lists_one y (second_shaped g s c) p ((solved_adding g b (own g a) p).1 (f, d))))
    (choice_splits g s c p f)

pub lists_ordered : {g : Graph} {ps : List (List ℕ)} → Lists g ps → Shaped g → Ordered (Before g) ps
lists_ordered (looped u d) s = λ i j lt h. absurd (omega arith)
lists_ordered (alone n o) s = λ i j lt h. absurd (omega arith)
lists_ordered (split {g = g} {ps = ps} {qs = qs} v a b n c x y) s =
    let f = in_first s c x y in
    let k = in_second s c x y in
    ordered_joined (Before g) ps qs
    (λ i j lt h. within_first v a b c (f i (omega arith)) (f j h) (lists_ordered x (first_shaped g s c) i j lt h))
    (λ i j lt h. within_second v a b c (k i (omega arith)) (k j h) (lists_ordered y (second_shaped g s c) i j lt h))
    (λ i j hi hj. halves v a b c (f i hi) (k j hj))

-- a solved form that a reading contains is that reading
pub reading_least : (g : Graph) → Shaped g → (p q : List ℕ) → Reading g p → SolvedForm g q → Contains (Below g p) (Below g q) → q ≡ p
reading_least g s p q r f c =
    let d : Contains (Below g q) (Below g p) = λ u v b.
    by_bool (under g q u v)
    (λ (t : under g q u v ≡ true). (under_iff g s q u v).0 t)
    (λ (t : under g q u v ≡ false). absurd (r.minimal q f (c, λ k. true≢false (sym ((under_iff g s q u v).1 (k u v b)) ∙ t)))) in
    determined g q p f.is_placing r.solved.is_placing f.is_forest r.solved.is_forest d c

module _ {g : Graph} {ps : List (List ℕ)} (x : Lists g ps) (s : Shaped g) where
  -- the one index of an entry is its own
  own_index : (i j : ℕ) → i < length ps → j < length ps → Contains (Below g (entry ps i)) (Below g (entry ps j)) → j ≡ i
  own_index i j hi hj c =
      let o = lists_one x s (entry ps i) (lists_solved x s i hi) in
      o.3 j hj c ∙ sym (o.3 i hi (λ u v b. b))

  entry_reading : (i : ℕ) → i < length ps → Reading g (entry ps i)
  entry_reading i h =
      record {
        solved = lists_solved x s i h;
        minimal = λ q f small.
            let o = lists_one x s q f in
            let e : o.0 ≡ i = own_index i o.0 h o.1 (λ u v b. small.0 u v (o.2 u v b)) in
            small.1 (λ u v b. o.2 u v (subst (λ (z : ℕ). Below g (entry ps z) u v) (sym e) b));
      }

  pub lists_listing : Listing g ps
  lists_listing =
      record {
        only_readings = entry_reading;
        every_reading = λ p r.
            let o = lists_one x s p r.solved in
            (o.0, o.1, reading_least g s p (entry ps o.0) r (lists_solved x s o.0 o.1) o.2);
        each_once = λ i j lt h e.
            let k : j ≡ i = own_index i j (omega arith) h (λ u v b. subst (λ (p : List ℕ). Below g p u v) (sym e) b) in
            omega arith;
        in_order = lists_ordered x s;
      }

pub listed_solved : (g : Graph) → Shaped g → (i : ℕ) → i < length (listed g) → SolvedForm g (entry (listed g) i)
listed_solved g s = lists_solved (listed_lists g s) s

pub one_below : (g : Graph) → Shaped g → (p : List ℕ) → SolvedForm g p → ExactlyOne (λ q. Contains (Below g p) (Below g q)) (listed g)
one_below g s p f = lists_one (listed_lists g s) s p f

pub listing_exists : (g : Graph) → Shaped g → Listing g (listed g)
listing_exists g s = lists_listing (listed_lists g s) s

-- the order is asymmetric, so the list is the only one

-- where p and q stand, seen from the graph's choice
abbrev Sides : Graph → ℕ → ℕ → List ℕ → List ℕ → Type 0
Sides g a b p q =
    (Below g p a (own g b) × Below g q b (own g a))
    ⊎ ((Below g p a (own g b) × Before (adding g a (own g b)) p q) ⊎ (Below g p b (own g a) × Below g q b (own g a) × Before (adding g b (own g a)) p q))

before_sides : {g : Graph} {v a b : ℕ} {p q : List ℕ} → Choice g v a b → Before g p q → Sides g a b p q
before_sides {g} {v} {a} {b} {p} {q} c (halves w x y d up down) =
    let e = choice_unique d c in
    subst₂ (λ (i j : ℕ). Sides g i j p q) e.1 e.2 (inl (up, down))
before_sides {g} {v} {a} {b} {p} {q} c (within_first w x y d up down r) =
    let e = choice_unique d c in
    subst₂ (λ (i j : ℕ). Sides g i j p q) e.1 e.2 (inr (inl (up, r)))
before_sides {g} {v} {a} {b} {p} {q} c (within_second w x y d up down r) =
    let e = choice_unique d c in
    subst₂ (λ (i j : ℕ). Sides g i j p q) e.1 e.2 (inr (inr (up, down, r)))

pub before_asymmetric : {g : Graph} {p q : List ℕ} → Before g p q → Before g q p → Shaped g → SolvedForm g p → SolvedForm g q → ⊥
before_asymmetric (halves {g = g} {p = p} {q = q} v a b c up down) r s fp fq =
    ⊎_elim
    (λ (x : Below g q a (own g b) × Below g p b (own g a)). choice_disjoint g s c p fp up x.1)
    (⊎_elim
    (λ (x : Below g q a (own g b) × Before (adding g a (own g b)) q p). choice_disjoint g s c q fq x.0 down)
    (λ (x : Below g q b (own g a) × Below g p b (own g a) × Before (adding g b (own g a)) q p). choice_disjoint g s c p fp up x.1))
    (before_sides c r)
before_asymmetric (within_first {g = g} {p = p} {q = q} v a b c up down k) r s fp fq =
    ⊎_elim
    (λ (x : Below g q a (own g b) × Below g p b (own g a)). choice_disjoint g s c p fp up x.1)
    (⊎_elim
    (λ (x : Below g q a (own g b) × Before (adding g a (own g b)) q p).
    before_asymmetric k x.1 (first_shaped g s c) ((solved_adding g a (own g b) p).1 (fp, up)) ((solved_adding g a (own g b) q).1 (fq, down)))
    (λ (x : Below g q b (own g a) × Below g p b (own g a) × Before (adding g b (own g a)) q p). choice_disjoint g s c p fp up x.1))
    (before_sides c r)
before_asymmetric (within_second {g = g} {p = p} {q = q} v a b c up down k) r s fp fq =
    ⊎_elim
    (λ (x : Below g q a (own g b) × Below g p b (own g a)). choice_disjoint g s c q fq x.0 down)
    (⊎_elim
    (λ (x : Below g q a (own g b) × Before (adding g a (own g b)) q p). choice_disjoint g s c q fq x.0 down)
    (λ (x : Below g q b (own g a) × Below g p b (own g a) × Before (adding g b (own g a)) q p).
    before_asymmetric k x.2 (second_shaped g s c) ((solved_adding g b (own g a) p).1 (fp, up)) ((solved_adding g b (own g a) q).1 (fq, down))))
    (before_sides c r)

listing_covered : (g : Graph) (ps qs : List (List ℕ)) → Listing g ps → Listing g qs → Covered ps qs
listing_covered g ps qs x y i h = y.every_reading (entry ps i) (x.only_readings i h)

pub listing_unique : (g : Graph) → Shaped g → {ps qs : List (List ℕ)} → Listing g ps → Listing g qs → ps ≡ qs
listing_unique g s {ps} {qs} x y =
    same_lists (SolvedForm g) (Before g) (λ p q fp fq a b. before_asymmetric a b s fp fq) ps qs
    (λ i h. (x.only_readings i h).solved)
    (λ i h. (y.only_readings i h).solved)
    x.in_order y.in_order (listing_covered g ps qs x y) (listing_covered g qs ps y x)

-- whether there is a solved form

pub solvable_reading : (g : Graph) → Shaped g → Solvable g ↔ ((p : List ℕ) × Reading g p)
solvable_reading g s = (
  λ f. let o = one_below g s f.0 f.1 in (entry (listed g) o.0, (listing_exists g s).only_readings o.0 o.1),
  λ r. (r.0, r.1.solved),
)

solvable_entry : (g : Graph) → Shaped g → (p : List ℕ) (ps : List (List ℕ)) → listed g ≡ p ∷ ps → Solvable g
solvable_entry g s p ps e = (entry (listed g) 0, ((listing_exists g s).only_readings 0 (rw e (omega arith))).solved)

empty_unsolvable : (g : Graph) → Shaped g → listed g ≡ [] → Solvable g → ⊥
empty_unsolvable g s e f =
    let o = one_below g s f.0 f.1 in
    let none_there : length (listed g) ≡ 0 = rw e in
    omega (arith, o.1)

pub unsolvable_empty : (g : Graph) → Shaped g → (Solvable g → ⊥) ↔ (listed g ≡ [])
unsolvable_empty g s = (λ n. go n (listed g) refl, empty_unsolvable g s)
  where
    go : (Solvable g → ⊥) → (ps : List (List ℕ)) → listed g ≡ ps → listed g ≡ []
    go n [] e = e
    go n (p ∷ ps) e = absurd (n (solvable_entry g s p ps e))

pub solvable_decided : (g : Graph) → Shaped g → Dec (Solvable g)
solvable_decided g s = go (listed g) refl
  where
    go : (ps : List (List ℕ)) → listed g ≡ ps → Dec (Solvable g)
    go [] e = no (empty_unsolvable g s e)
    go (p ∷ ps) e = yes (solvable_entry g s p ps e)
