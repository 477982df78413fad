-- One-word fragments (02, Two): the fragment of a bare node is that node, and its added leaf. So its record in the fragment table is the
-- node, the leaf, and 1.
use Prim.Native.Nat.{ℕ, suc, ◌<◌}
use mathlib.Core.Path.{◌≡◌, refl, sym, subst, ◌∙◌}
use mathlib.Core.Bool.{true, false, ◌||◌}
use native.Mathlib.Omega.{arith}
use lib.Dec.{eqb}
use borrow.Author.Tests.{eqb-true, eq-eqb, ne_eqb, not-true}
use Rattle.base_finite.specs.Below.{count, least}
use Rattle.base_finite.proofs.Laws.{and_both, and_intro, not_holding, or_none, test_ext, count_none, count_one_more, least_is}
use Rattle.graph.specs.Graph.{Graph, entered, left, root, leaf, own, leaf_of, TreeEdge, Path, one, more, bare, added_leaf, grown, WellWritten}
use Rattle.graph.specs.Rule1.{lowest_leaf_of}
use Rattle.graph.specs.Table.{fragment}
use Rattle.theory_edges.proofs.Edges.{left_found}
use Rattle.theory_edges.proofs.Growing.{leaf_next, leaf_from, leaf_mono, added_edge, only_added, added_childless, root_grown, grown_well_formed}
use Rattle.theory_forest.specs.Shape.{Shaped}
use Rattle.theory_forest.proofs.Shape.{well_formed_shaped}
use Rattle.theory_forest.proofs.Fragments.{childless_leaf, own_edge, own_of_root, leaf_below_own}

module _ (g : Graph) (w : WellWritten g) (v : ℕ) (node : v < g.nodes) (alone : bare g v ≡ true) where
  shaped : Shaped (grown g)
  shaped = well_formed_shaped (grown_well_formed g w)

  is_root : root (grown g) v ≡ true
  unfolding bare
  is_root = root_grown g v node ∙ rw (or_none (entered g.tree v) (left g.tree v) (not-true (entered g.tree v || left g.tree v) alone)).0

  its_leaf : added_leaf g v < (grown g).nodes
  unfolding added_leaf
  its_leaf = omega (arith, leaf_next g v alone, leaf_mono g (suc v) g.nodes node)

  edge : TreeEdge (grown g) v (added_leaf g v)
  edge = added_edge g g.nodes v node alone

  none_below : (c : ℕ) → TreeEdge (grown g) (added_leaf g v) c → ⊥
  none_below c e = added_childless g w.tree_within g.nodes (added_leaf g v) c (omega arith) (leaf_from g v) e

  is_leaf : leaf (grown g) (added_leaf g v) ≡ true
  is_leaf =
      childless_leaf (grown g) (added_leaf g v) its_leaf
      (not_holding (left (grown g).tree (added_leaf g v)) (λ h. let r = left_found (grown g).tree (added_leaf g v) h in none_below r.0 r.1))

  its_root : own (grown g) (added_leaf g v) ≡ v
  its_root = own_edge (grown g) shaped v (added_leaf g v) edge ∙ own_of_root (grown g) v is_root

  -- no other node is below it
  below : {x : ℕ} → Path (TreeEdge (grown g)) v x → x ≡ added_leaf g v
  below (one {v = x} e) = only_added g g.nodes v x alone e
  below (more {v = y} {w = x} p e) = absurd (none_below x (subst (λ (z : ℕ). TreeEdge (grown g) z x) (below p) e))

  pub word_leaf : (x : ℕ) → leaf_of (grown g) v x ≡ eqb x (added_leaf g v)
  unfolding leaf_of
  word_leaf x =
      test_ext (leaf_of (grown g) v x) (eqb x (added_leaf g v))
      (λ h.
      let b = and_both (leaf (grown g) x) (eqb (own (grown g) x) v) h in
      let path = leaf_below_own (grown g) shaped x b.0 in
      eq-eqb x (added_leaf g v) (below (subst (λ (r : ℕ). Path (TreeEdge (grown g)) r x) (eqb-true (own (grown g) x) v b.1) path)))
      (λ h.
      let q : x ≡ added_leaf g v = eqb-true x (added_leaf g v) h in
      rw q (and_intro (leaf (grown g) (added_leaf g v)) (eqb (own (grown g) (added_leaf g v)) v) is_leaf (eq-eqb (own (grown g) (added_leaf g v)) v its_root)))

  found : leaf_of (grown g) v (added_leaf g v) ≡ true
  found = word_leaf (added_leaf g v) ∙ eq-eqb (added_leaf g v) (added_leaf g v) refl

  other : (x : ℕ) → (x ≡ added_leaf g v → ⊥) → leaf_of (grown g) v x ≡ false
  other x apart = word_leaf x ∙ ne_eqb x (added_leaf g v) apart

  lowest : least (grown g).nodes (leaf_of (grown g) v) ≡ added_leaf g v
  lowest = least_is (grown g).nodes (leaf_of (grown g) v) (added_leaf g v) its_leaf found (λ x h. other x (λ q. omega (arith, h, q)))

  one_leaf : count (grown g).nodes (leaf_of (grown g) v) ≡ 1
  one_leaf =
      let n : ℕ = (grown g).nodes in
      omega (arith, count_one_more n (λ _. false) (leaf_of (grown g) v) (added_leaf g v) its_leaf refl found (λ x apart. sym (other x apart)), count_none n (λ _. false) (λ _ _. refl))

  pub word_fragment : fragment (grown g) v ≡ record { root = v; lowest_leaf = added_leaf g v; leaves = 1 }
  unfolding fragment lowest_leaf_of
  word_fragment = λ i. record { root = v; lowest_leaf = lowest i; leaves = one_leaf i }
