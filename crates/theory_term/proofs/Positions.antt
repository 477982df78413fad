-- Where the nodes of a labelled sheet stand in the term of a reading. The position of a top root is the way to it among the top roots, and that of
-- another node goes on from the position of the node above it (`position_edge`). In a reading each edge to a written node is one that the term
-- follows: a tree edge starts from a labelled node, and a root hangs under a leaf with a dominance edge, which is a hole. So at the position of a
-- written node the term has that node's own term, and from there the node is found again (`standing`): no two nodes share a position
-- (`position_apart`), and a node below another stands below it in the term (`position_below`). The term goes deep enough: the weight of a node
-- falls along each edge, and is at most the number of nodes.
use Prim.Native.Nat.{ℕ, zero, suc, ◌+◌, ◌≤◌, ◌<◌}
use mathlib.Core.Path.{◌≡◌, refl, sym, ap, subst, ◌∙◌}
use mathlib.Core.List.{List, [], ◌++◌, append-nil, append_assoc}
use mathlib.Core.Bool.{true, false, cond}
use mathlib.Core.Logic.{inl, inr, ⊎_elim}
use native.Mathlib.Omega.{arith}
use Rattle.base_finite.specs.Below.{count}
use Rattle.base_finite.proofs.Laws.{not_holding}
use Rattle.graph.specs.Graph.{Graph, entered, parent, bare, TreeEdge, DominanceEdge, one, more}
use Rattle.graph.specs.Placing.{at, hangs, PlacingEdge, Below, Forest, Reading}
use Rattle.graph.specs.Constraint.{In}
use Rattle.graph.specs.Term.{At, Dominance}
use Rattle.format.specs.Sheet.{Content, labelled}
use Rattle.format.specs.Term.{term_at, term}
use Rattle.theory_edges.proofs.Edges.{entered_of_among, left_found, parent_only}
use Rattle.theory_edges.proofs.Ends.{root_below}
use Rattle.theory_forest.specs.Shape.{Shaped}
use Rattle.theory_forest.proofs.Table.{hangs_parts}
use Rattle.theory_forest.proofs.Fragments.{root_unentered}
use Rattle.theory_forest.proofs.Weights.{top, weight, weight_few, weight_less, top_highest, top_or_below}
use Rattle.theory_constraint.proofs.Literals.{in_children, has_dominates, is_labelled}
use Rattle.theory_term.proofs.Carries.{carrier_has_edge}
use Rattle.theory_term.proofs.Successors.{successors, tops, in_select, in_tops, Fitting, sheet_shaped, tree_written, parent_labelled, labelled_successors, hole_successors}
use Rattle.theory_term.proofs.Ways.{way, way_top, at_append, at_way, at_term, walk, found, walk_here, walk_way, found_top}

-- the node above v: its parent, or the leaf that it hangs under
above : Content → List ℕ → ℕ → ℕ
above s p v = cond (entered s.graph.tree v) (parent s.graph.tree v) (at p v)

-- the position of v, where j nodes at most stand above it
placed : ℕ → Content → List ℕ → ℕ → List ℕ
placed zero s p v = way_top (tops s p) v
placed (suc j) s p v = cond (top s.graph p v) (way_top (tops s p) v) (placed j s p (above s p v) ++ way s p (above s p v) v)

pub position : Content → List ℕ → ℕ → List ℕ
position s p v = placed s.graph.nodes s p v

-- At the position w the term has the term of v, deep enough, and from there v is found.
pub record Standing (s : Content) (p : List ℕ) (v : ℕ) (w : List ℕ) : Type 0 where
  pub deep : ℕ
  pub enough : weight s.graph p v ≤ deep
  pub subtree : At (term s p) w (term_at deep s p v)
  pub leads : (x : List ℕ) → found s p (w ++ x) ≡ walk deep s p v x

module _ (s : Content) (f : Fitting s) (p : List ℕ) (r : Reading s.graph p) where
  abbrev shaped : Shaped s.graph
  shaped = sheet_shaped s f

  abbrev forest : Forest (PlacingEdge s.graph p)
  forest = r.solved.is_forest

  -- a written node is one of the grown graph
  pub grown_within : (v : ℕ) → v < s.written.nodes → v < s.graph.nodes
  grown_within v h =
      let e : s.graph.nodes ≡ s.written.nodes + count s.written.nodes (bare s.written) = ap (λ (g : Graph). g.nodes) f.grows in
      omega arith

  -- its dominance edges are those written
  edge_written : (u v : ℕ) → DominanceEdge s.graph u v → DominanceEdge s.written u v
  edge_written u v h = subst (λ (g : Graph). DominanceEdge g u v) f.grows h

  -- a node with a dominance edge is a hole
  edge_hole : (u v : ℕ) → DominanceEdge s.written u v → labelled s.labels.symbols u ≡ false
  edge_hole u v h =
      not_holding (labelled s.labels.symbols u) (λ t.
      (f.normal_sheet.normal.hole_to_root u v ((has_dominates s.written s.labels u v).1 h)).0 ((is_labelled s.written s.labels u).1 t))

  -- an edge to a written node starts from one, and the term follows it
  pub edge_followed : (u v : ℕ) → v < s.written.nodes → PlacingEdge s.graph p u v → (u < s.written.nodes) × In v (successors s p u)
  edge_followed u v l (inl t) =
      let e : TreeEdge s.written u v = tree_written s f u v l t in (
        (f.well_written.tree_within u v e).0,
        subst (In v) (sym (labelled_successors s f p u (parent_labelled s f u v e))) ((in_children s.written.tree u v).1 e),
      )
  edge_followed u v l (inr h) =
      let d = left_found s.graph.dominance u (carrier_has_edge s.graph shaped p r u v h) in
      let e : DominanceEdge s.written u d.0 = edge_written u d.0 d.1 in
      let b = hangs_parts s.graph p u v h in (
        (f.well_written.dominance_within u d.0 e).0,
        subst (In v) (sym (hole_successors s f p u (edge_hole u d.0 e))) ((in_select s.graph.nodes (hangs s.graph p u) v).1 (root_below s.graph v b.1, h)),
      )

  -- the position goes on along an edge

  edge_above : (u v : ℕ) → PlacingEdge s.graph p u v → above s p v ≡ u
  unfolding above
  edge_above u v (inl t) = rw (entered_of_among s.graph.tree u v t) (sym (parent_only s.graph.tree u v shaped.one_parent t))
  edge_above u v (inr h) = let b = hangs_parts s.graph p u v h in rw (root_unentered s.graph v b.1) b.2

  placed_edge : (j u v : ℕ) → PlacingEdge s.graph p u v → placed (suc j) s p v ≡ placed j s p u ++ way s p u v
  unfolding placed
  placed_edge j u v e =
      let below_u : top s.graph p v ≡ false = not_holding (top s.graph p v) (λ t. top_highest s.graph p shaped forest u v t (one e)) in
      rw (below_u, edge_above u v e)

  placed_top : (j v : ℕ) → top s.graph p v ≡ true → placed j s p v ≡ way_top (tops s p) v
  unfolding placed
  placed_top zero v t = refl
  placed_top (suc j) v t = rw t

  -- steps up that are enough, and one more
  placed_more : (j v : ℕ) → v < s.written.nodes → s.graph.nodes ≤ weight s.graph p v + j → placed (suc j) s p v ≡ placed j s p v
  placed_more zero v l b =
      ⊎_elim
      (λ (t : top s.graph p v ≡ true). placed_top 1 v t ∙ sym (placed_top 0 v t))
      (λ (e : (u : ℕ) × PlacingEdge s.graph p u v).
      absurd (omega (arith, weight_less s.graph p shaped forest e.0 v e.1, weight_few s.graph p shaped forest e.0)))
      (top_or_below s.graph p shaped forest r.solved.is_placing v (grown_within v l))
  placed_more (suc j) v l b =
      ⊎_elim
      (λ (t : top s.graph p v ≡ true). placed_top (suc (suc j)) v t ∙ sym (placed_top (suc j) v t))
      (λ (e : (u : ℕ) × PlacingEdge s.graph p u v).
      let u : ℕ = e.0 in
      let ih = placed_more j u (edge_followed u v l e.1).0 (omega (arith, weight_less s.graph p shaped forest u v e.1)) in
      placed_edge (suc j) u v e.1 ∙ ap (λ (w : List ℕ). w ++ way s p u v) ih ∙ sym (placed_edge j u v e.1))
      (top_or_below s.graph p shaped forest r.solved.is_placing v (grown_within v l))

  pub position_edge : (u v : ℕ) → v < s.written.nodes → PlacingEdge s.graph p u v → position s p v ≡ position s p u ++ way s p u v
  unfolding position
  position_edge u v l e = sym (placed_more s.graph.nodes v l (omega arith)) ∙ placed_edge s.graph.nodes u v e

  -- each written node stands at its position

  standing_top : (j v : ℕ) → top s.graph p v ≡ true → v < s.graph.nodes → Standing s p v (placed j s p v)
  standing_top j v t l =
      let i : In v (tops s p) = (in_tops s p v).1 (l, t) in
      subst (Standing s p v) (sym (placed_top j v t))
      (record {
        deep = s.graph.nodes;
        enough = weight_few s.graph p shaped forest v;
        subtree = at_term s p v i;
        leads = λ x. found_top s p v x i;
      })

  -- along an edge that the term follows, one step less deep
  standing_next : (u v k : ℕ) (w : List ℕ) → weight s.graph p v < weight s.graph p u
      → In v (successors s p u) → weight s.graph p u ≤ k → At (term s p) w (term_at k s p u) → ((x : List ℕ) → found s p (w ++ x) ≡ walk k s p u x)
      → Standing s p v (w ++ way s p u v)
  standing_next u v zero w less i enough subtree leads = absurd (omega arith)
  standing_next u v (suc k) w less i enough subtree leads =
      record {
        deep = k;
        enough = omega arith;
        subtree = at_append subtree (at_way s p k u v i);
        leads = λ x. ap (found s p) (append_assoc w (way s p u v) x) ∙ leads (way s p u v ++ x) ∙ walk_way s p k u v x i;
      }

  standing_placed : (j v : ℕ) → v < s.written.nodes → s.graph.nodes ≤ weight s.graph p v + j → Standing s p v (placed j s p v)
  standing_placed zero v l b =
      ⊎_elim
      (λ (t : top s.graph p v ≡ true). standing_top 0 v t (grown_within v l))
      (λ (e : (u : ℕ) × PlacingEdge s.graph p u v).
      absurd (omega (arith, weight_less s.graph p shaped forest e.0 v e.1, weight_few s.graph p shaped forest e.0)))
      (top_or_below s.graph p shaped forest r.solved.is_placing v (grown_within v l))
  standing_placed (suc j) v l b =
      ⊎_elim
      (λ (t : top s.graph p v ≡ true). standing_top (suc j) v t (grown_within v l))
      (λ (e : (u : ℕ) × PlacingEdge s.graph p u v).
      let u : ℕ = e.0 in
      let less = weight_less s.graph p shaped forest u v e.1 in
      let c = edge_followed u v l e.1 in
      let ih = standing_placed j u c.0 (omega (arith, less)) in
      subst (Standing s p v) (sym (placed_edge j u v e.1)) (standing_next u v ih.deep (placed j s p u) less c.1 ih.enough ih.subtree ih.leads))
      (top_or_below s.graph p shaped forest r.solved.is_placing v (grown_within v l))

  pub standing : (v : ℕ) → v < s.written.nodes → Standing s p v (position s p v)
  unfolding position
  standing v l = standing_placed s.graph.nodes v l (omega arith)

  -- the position tells the node
  found_position : (v : ℕ) → v < s.written.nodes → found s p (position s p v) ≡ v
  found_position v l =
      let t = standing v l in
      ap (found s p) (sym (append-nil (position s p v))) ∙ t.leads [] ∙ walk_here s p t.deep v

  pub position_apart : (u v : ℕ) → u < s.written.nodes → v < s.written.nodes → position s p u ≡ position s p v → u ≡ v
  position_apart u v a b e = sym (found_position u a) ∙ ap (found s p) e ∙ found_position v b

  -- what lies below stands below
  pub position_below : {u v : ℕ} → Below s.graph p u v → v < s.written.nodes → Dominance (position s p u) (position s p v)
  position_below (one {u = u} {v = v} e) l = (way s p u v, position_edge u v l e)
  position_below (more {u = u} {v = x} {w = v} d e) l =
      let ih = position_below d (edge_followed x v l e).0 in
      (ih.0 ++ way s p x v, position_edge x v l e ∙ ap (λ (w : List ℕ). w ++ way s p x v) ih.1 ∙ append_assoc (position s p u) ih.0 (way s p x v))
