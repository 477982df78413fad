-- Tables that hold a graph's edges, with room for more nodes, and with one tree edge more.
use Prim.Native.Nat.{ℕ, ◌≤◌, ◌<◌}
use mathlib.Core.Path.{◌≡◌, sym, ◌∙◌}
use mathlib.Core.List.{List, ◌∷◌}
use mathlib.Core.Bool.{true, false}
use native.Mathlib.Omega.{arith}
use lib.Dec.{eqb}
use lib.ListN.{get_or, set, length-set}
use lib.Seq.{get_or-set_same, get_or-set_other}
use borrow.Author.Tests.{eqb-true, eqb-false}
use Rattle.base_finite.proofs.Laws.{by_bool}
use Rattle.base_nodeset.specs.declared.NodeSet.{NodeSet}
use Rattle.graph.specs.Graph.{Edge, entered, single, parent}
use Rattle.theory_edges.proofs.Edges.{within_more}
use Rattle.base_tables.specs.Tables.{Holds}

module _ (n : ℕ) (t d : List Edge) (parents : List ℕ) (heads : List NodeSet) (edges : ℕ) (holds : Holds n t d parents heads edges) where
  pub held_more : (m : ℕ) → n ≤ m → Holds m t d parents heads edges
  held_more m h =
      record {
        tree_within = λ p c e. let b = holds.tree_within p c e in (omega (arith, b.0), omega (arith, b.1));
        one_parent = holds.one_parent;
        dominance_within = λ l r e. let b = holds.dominance_within l r e in (omega (arith, b.0), omega (arith, b.1));
        parents_long = holds.parents_long;
        heads_long = holds.heads_long;
        parent_is = holds.parent_is;
        heads_are = holds.heads_are;
        edges_are = holds.edges_are;
      }

  pub held_tree : n ≤ 128 → (p c : ℕ) → p < n → c < n → entered t c ≡ false → Holds n ((p, c) ∷ t) d (set parents c p) heads edges
  unfolding parent single
  held_tree few p c pn cn fresh =
      record {
        tree_within = within_more n p c t pn cn holds.tree_within;
        one_parent = rw (fresh, holds.one_parent);
        dominance_within = holds.dominance_within;
        parents_long = length-set parents c p ∙ holds.parents_long;
        heads_long = holds.heads_long;
        parent_is = parent_now;
        heads_are = holds.heads_are;
        edges_are = holds.edges_are;
      }
    where
      parent_now : (v : ℕ) → v < 128 → get_or (set parents c p) v 0 ≡ parent ((p, c) ∷ t) v
      parent_now v h =
          by_bool (eqb c v)
          (λ (e : eqb c v ≡ true).
          let long = holds.parents_long in
          rw (e, ← eqb-true c v e, get_or-set_same parents c p 0 (omega arith)))
          (λ (e : eqb c v ≡ false). rw (e, get_or-set_other parents c v p 0 (λ q. eqb-false c v e (sym q)), holds.parent_is v h))
