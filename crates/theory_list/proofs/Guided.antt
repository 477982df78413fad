-- Guided descent: from a solved form p, follow at each choice of Rule 3 the half that p is in. It ends in a reading that p
-- contains, the one entry of the list that it contains; so p is a reading where the end is p itself. This checks a
-- placing without going through the list.
use Prim.Native.Nat.{ℕ, zero, suc, ◌+◌, ◌*◌, ◌<◌}
use mathlib.Core.Path.{◌≡◌, sym, subst, ◌∙◌}
use mathlib.Core.List.{List}
use mathlib.Core.Bool.{true, false, true≢false}
use mathlib.Core.Logic.{⊎_elim, ◌↔◌}
use native.Mathlib.Omega.{arith}
use lib.Dec.{ltb}
use borrow.Author.Tests.{ltb-true, ltb-false}
use Rattle.base_finite.proofs.Laws.{by_bool}
use Rattle.graph.specs.Graph.{Graph, root, leaf, own}
use Rattle.graph.specs.Order.{Choice, adding}
use Rattle.graph.specs.Placing.{hangs, Below, Contains, SolvedForm, Reading}
use Rattle.theory_forest.specs.Shape.{Shaped}
use Rattle.theory_forest.specs.Table.{under}
use Rattle.theory_forest.proofs.Table.{under_iff}
use Rattle.theory_forest.proofs.Forests.{solved_adding}
use Rattle.theory_list.specs.Redundancy.{Loopless}
use Rattle.theory_list.specs.Choosing.{chosen, pairs}
use Rattle.theory_list.proofs.Choosing.{choice_made, choice_none, choice_splits, choice_disjoint, first_shaped, second_shaped, pairs_le, first_grows, second_grows}
use Rattle.theory_list.specs.Settled.{settled}
use Rattle.theory_list.proofs.Settled.{settled_descent, settled_solved}
use Rattle.theory_list.proofs.Readings.{reading_least}
use Rattle.theory_list.specs.Guided.{guide, guided, Leads, arrived, to_first, to_second}

guide_arrived : (k : ℕ) (g : Graph) (p : List ℕ) → ltb (chosen g).0 g.nodes ≡ false → guide (suc k) g p ≡ settled g
unfolding guide
guide_arrived k g p e = rw (e, guide)

guide_first : (k : ℕ) (g : Graph) (p : List ℕ) → ltb (chosen g).0 g.nodes ≡ true → under g p (chosen g).1 (own g (chosen g).2) ≡ true
    → guide (suc k) g p ≡ guide k (adding g (chosen g).1 (own g (chosen g).2)) p
unfolding guide
guide_first k g p e f = rw (e, f, guide)

guide_second : (k : ℕ) (g : Graph) (p : List ℕ) → ltb (chosen g).0 g.nodes ≡ true → under g p (chosen g).1 (own g (chosen g).2) ≡ false
    → guide (suc k) g p ≡ guide k (adding g (chosen g).2 (own g (chosen g).1)) p
unfolding guide
guide_second k g p e f = rw (e, f, guide)

pub solved_loopless : {g : Graph} {p : List ℕ} → SolvedForm g p → Loopless g
solved_loopless f u d = f.is_forest.no_loop u (f.contains u u d)

guide_leads : (k : ℕ) (g : Graph) (p : List ℕ) → Shaped g → SolvedForm g p → g.nodes * g.nodes < k + pairs g → Leads g p (guide k g p)
unfolding adding
guide_leads zero g p s f h = absurd (omega (arith, pairs_le g))
guide_leads (suc k) g p s f h =
    let n : Loopless g = solved_loopless f in
    let v : ℕ = (chosen g).0 in
    let a : ℕ = (chosen g).1 in
    let b : ℕ = (chosen g).2 in
    by_bool (ltb v g.nodes)
    (λ (t : ltb v g.nodes ≡ true).
    let c : Choice g v a b = choice_made g s n (ltb-true v g.nodes t) in
    by_bool (under g p a (own g b))
    (λ (x : under g p a (own g b) ≡ true).
    let d : Below g p a (own g b) = (under_iff g s p a (own g b)).0 x in
    let grown : pairs g < pairs (adding g a (own g b)) = first_grows g s n c in
    subst (Leads g p) (sym (guide_first k g p t x))
    (to_first v a b c d (guide_leads k (adding g a (own g b)) p (first_shaped g s c) ((solved_adding g a (own g b) p).1 (f, d)) (omega arith))))
    (λ (x : under g p a (own g b) ≡ false).
    let d : Below g p b (own g a) = ⊎_elim (λ (z : Below g p a (own g b)). absurd (true≢false (sym ((under_iff g s p a (own g b)).1 z) ∙ x))) (λ (z : Below g p b (own g a)). z) (choice_splits g s c p f) in
    let grown : pairs g < pairs (adding g b (own g a)) = second_grows g s n c in
    subst (Leads g p) (sym (guide_second k g p t x))
    (to_second v a b c d (guide_leads k (adding g b (own g a)) p (second_shaped g s c) ((solved_adding g b (own g a) p).1 (f, d)) (omega arith)))))
    (λ (t : ltb v g.nodes ≡ false).
    subst (Leads g p) (sym (guide_arrived k g p t)) (arrived n (choice_none g s n (ltb-false v g.nodes t))))

pub guided_leads : (g : Graph) → Shaped g → (p : List ℕ) → SolvedForm g p → Leads g p (guided g p)
unfolding guided
guided_leads g s p f = guide_leads (suc (g.nodes * g.nodes)) g p s f (omega arith)

-- its end

pub leads_solved : {g : Graph} {p q : List ℕ} → Leads g p q → Shaped g → SolvedForm g q
leads_solved (arrived {g = g} n o) s = settled_solved g s n o
leads_solved (to_first {g = g} {q = q} v a b c d r) s = ((solved_adding g a (own g b) q).0 (leads_solved r (first_shaped g s c))).0
leads_solved (to_second {g = g} {q = q} v a b c d r) s = ((solved_adding g b (own g a) q).0 (leads_solved r (second_shaped g s c))).0

pub leads_within : {g : Graph} {p q : List ℕ} → Leads g p q → Shaped g → SolvedForm g p → Contains (Below g p) (Below g q)
unfolding adding hangs root leaf
leads_within (arrived {g = g} n o) s f = λ u v b. f.contains u v (settled_descent g s n b)
leads_within (to_first {g = g} {p = p} v a b c d r) s f = leads_within r (first_shaped g s c) ((solved_adding g a (own g b) p).1 (f, d))
leads_within (to_second {g = g} {p = p} v a b c d r) s f = leads_within r (second_shaped g s c) ((solved_adding g b (own g a) p).1 (f, d))

-- a solved form that the end contains is in the same half at each choice, so it contains the end
pub leads_least : {g : Graph} {p q : List ℕ} → Leads g p q → Shaped g → (r : List ℕ) → SolvedForm g r → Contains (Below g q) (Below g r) → Contains (Below g r) (Below g q)
unfolding adding hangs root leaf
leads_least (arrived {g = g} n o) s r f k = λ u v b. f.contains u v (settled_descent g s n b)
leads_least (to_first {g = g} {q = q} v a b c d x) s r f k =
    let e = (solved_adding g a (own g b) q).0 (leads_solved x (first_shaped g s c)) in
    ⊎_elim
    (λ (y : Below g r a (own g b)). leads_least x (first_shaped g s c) r ((solved_adding g a (own g b) r).1 (f, y)) k)
    (λ (y : Below g r b (own g a)). absurd (choice_disjoint g s c q e.0 e.1 (k b (own g a) y)))
    (choice_splits g s c r f)
leads_least (to_second {g = g} {q = q} v a b c d x) s r f k =
    let e = (solved_adding g b (own g a) q).0 (leads_solved x (second_shaped g s c)) in
    ⊎_elim
    (λ (y : Below g r a (own g b)). absurd (choice_disjoint g s c q e.0 (k a (own g b) y) e.1))
    (λ (y : Below g r b (own g a)). leads_least x (second_shaped g s c) r ((solved_adding g b (own g a) r).1 (f, y)) k)
    (choice_splits g s c r f)

pub leads_reading : {g : Graph} {p q : List ℕ} → Leads g p q → Shaped g → Reading g q
leads_reading x s =
    record { solved = leads_solved x s; minimal = λ r f small. small.1 (leads_least x s r f small.0) }

pub guided_is_reading : (g : Graph) → Shaped g → (p : List ℕ) → SolvedForm g p → Reading g (guided g p)
guided_is_reading g s p f = leads_reading (guided_leads g s p f) s

pub guided_within : (g : Graph) → Shaped g → (p : List ℕ) → SolvedForm g p → Contains (Below g p) (Below g (guided g p))
guided_within g s p f = leads_within (guided_leads g s p f) s f

pub guided_reading : (g : Graph) → Shaped g → (p : List ℕ) → SolvedForm g p → Reading g p ↔ (guided g p ≡ p)
guided_reading g s p f = (
  λ r. reading_least g s p (guided g p) r (guided_is_reading g s p f).solved (guided_within g s p f),
  λ e. subst (Reading g) e (guided_is_reading g s p f),
)
