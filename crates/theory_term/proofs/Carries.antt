-- In a reading a leaf without a dominance edge carries nothing. Where no choice is left, what hangs under a leaf lies below it in the graph, and
-- the way there starts with a dominance edge. At a choice the added edge starts from a leaf that has one already, so that the entries of both
-- halves of the list hang roots only under leaves with a dominance edge of the graph itself; and each reading is an entry.
use Prim.Native.Nat.{ℕ, zero, suc, ◌<◌}
use mathlib.Core.Path.{◌≡◌, subst, sym, ◌∙◌}
use mathlib.Core.List.{List}
use mathlib.Core.Bool.{true, false, true≢false}
use mathlib.Core.Logic.{⊎_elim}
use native.Mathlib.Omega.{arith}
use lib.Dec.{eqb}
use lib.ListN.{length}
use borrow.Author.Tests.{eqb-true}
use Rattle.base_finite.proofs.Laws.{or_cases, not_holding}
use Rattle.graph.specs.Graph.{Graph, left, root, leaf, own, TreeEdge, DominanceEdge, GraphEdge, Descent}
use Rattle.graph.specs.Order.{Kept, adding, entry}
use Rattle.graph.specs.Placing.{hangs, Reading}
use Rattle.theory_edges.proofs.Edges.{left_of_among}
use Rattle.theory_forest.specs.Shape.{Shaped}
use Rattle.theory_forest.proofs.Closure.{path_first}
use Rattle.theory_forest.proofs.Table.{hangs_parts}
use Rattle.theory_forest.proofs.Fragments.{leaf_childless}
use Rattle.theory_forest.proofs.Forests.{hung_below}
use Rattle.theory_list.specs.Redundancy.{Loopless}
use Rattle.theory_list.specs.Settled.{settled}
use Rattle.theory_list.proofs.Entries.{every_joined}
use Rattle.theory_list.proofs.Choosing.{first_shaped, second_shaped}
use Rattle.theory_list.proofs.Settled.{settled_descent}
use Rattle.theory_list.proofs.Readings.{Lists, looped, alone, split, listed_lists, listing_exists}

-- each leaf that carries a root starts a dominance edge
abbrev Carried : Graph → List ℕ → Type 0
Carried g p = (l r : ℕ) → hangs g p l r ≡ true → left g.dominance l ≡ true

-- a way down from a leaf starts with a dominance edge
descent_leaves : (g : Graph) (l v : ℕ) → leaf g l ≡ true → Descent g l v → left g.dominance l ≡ true
descent_leaves g l v h d =
    ⊎_elim
    (λ (e : GraphEdge g l v). edge v e)
    (λ (x : (u : ℕ) × GraphEdge g l u × Descent g u v). edge x.0 x.1)
    (path_first d)
  where
    edge : (u : ℕ) → GraphEdge g l u → left g.dominance l ≡ true
    edge u = ⊎_elim (λ (t : TreeEdge g l u). absurd (leaf_childless g l u h t)) (λ (e : DominanceEdge g l u). left_of_among g.dominance l u e)

settled_carried : (g : Graph) → Shaped g → Loopless g → Carried g (settled g)
settled_carried g s n l r h = descent_leaves g l r (hangs_parts g (settled g) l r h).0 (settled_descent g s n (hung_below g (settled g) h))

-- with an edge more from a leaf that has one
carried_adding : (g : Graph) (a v r : ℕ) (p : List ℕ) → Kept g a v → Carried (adding g a r) p → Carried g p
unfolding adding hangs root leaf left
carried_adding g a v r p k c l x h =
    ⊎_elim
    (λ (e : eqb a l ≡ true). subst (λ (z : ℕ). left g.dominance z ≡ true) (eqb-true a l e) (left_of_among g.dominance a v k.0))
    (λ (t : left g.dominance l ≡ true). t)
    (or_cases (eqb a l) (left g.dominance l) (c l x h))

lists_carried : {g : Graph} {ps : List (List ℕ)} → Lists g ps → Shaped g → (i : ℕ) → i < length ps → Carried g (entry ps i)
lists_carried (looped u d) s i h = absurd (omega arith)
lists_carried (alone {g = g} n o) s zero h = settled_carried g s n
lists_carried (alone n o) s (suc i) h = absurd (omega arith)
lists_carried (split {g = g} {ps = ps} {qs = qs} v a b n c x y) s i h =
    every_joined (Carried g) ps qs
    (λ j l. carried_adding g a v (own g b) (entry ps j) c.first (lists_carried x (first_shaped g s c) j l))
    (λ j l. carried_adding g b v (own g a) (entry qs j) c.second (lists_carried y (second_shaped g s c) j l)) i h

-- a leaf that carries a root has a dominance edge
pub carrier_has_edge : (g : Graph) → Shaped g → (p : List ℕ) → Reading g p → (l r : ℕ) → hangs g p l r ≡ true → left g.dominance l ≡ true
carrier_has_edge g s p x l r h =
    let o = (listing_exists g s).every_reading p x in
    lists_carried (listed_lists g s) s o.0 o.1 l r (subst (λ (q : List ℕ). hangs g q l r ≡ true) (sym o.2) h)

-- a leaf without a dominance edge carries nothing
pub no_edge_carries_nothing : (g : Graph) → Shaped g → (p : List ℕ) → Reading g p → (l r : ℕ) → left g.dominance l ≡ false → hangs g p l r ≡ false
no_edge_carries_nothing g s p x l r free = not_holding (hangs g p l r) (λ h. true≢false (sym (carrier_has_edge g s p x l r h) ∙ free))
