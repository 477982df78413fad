-- Rule 2 by the descent relation alone, and what an edge more does to the edges that stay. Let a graph without a cycle get an edge
-- from a leaf a to a root r that a did not lead to, which closes no cycle. The new edge stays. Of the others just those go that
-- lead from a leaf at or above a to a root at or below r: they have the new edge between their ends, and no other has.
use Prim.Native.Nat.{ℕ}
use mathlib.Core.Path.{◌≡◌, refl, sym, subst, ◌∙◌}
use mathlib.Core.Bool.{true}
use mathlib.Core.Logic.{◌⊎◌, inl, inr, ⊎_elim, ◌↔◌}
use Rattle.graph.specs.Graph.{Graph, root, leaf, TreeEdge, DominanceEdge, GraphEdge, Descent, one, own}
use Rattle.graph.specs.Order.{Kept, Choice, adding}
use Rattle.theory_edges.proofs.Ends.{leaf_below}
use Rattle.theory_forest.specs.Shape.{Shaped}
use Rattle.theory_forest.proofs.Shape.{adding_shaped}
use Rattle.theory_forest.proofs.Closure.{path_trans, path_first, descent_adding, descent_added, added_edge}
use Rattle.theory_forest.proofs.Fragments.{leaf_childless, root_adding, leaf_adding, own_root}
use Rattle.theory_list.specs.Redundancy.{Loopless}
use Rattle.theory_list.proofs.Redundancy.{kept_iff}
use Rattle.theory_list.proofs.Choosing.{lower_leaf, upper_leaf, choice_grows}
use Rattle.theory_list.specs.Keeping.{Fresh}

pub kept_rows_lem : (g : Graph) → Shaped g → Loopless g → (l r : ℕ)
    → Kept g l r ↔ ((leaf g l ≡ true) × (root g r ≡ true) × Descent g l r × ((x : ℕ) → Descent g l x → Descent g x r → ⊥))
kept_rows_lem g s n l r = (
  λ k.
      let d = (kept_iff g s n l r).0 k in
      let e = s.leaf_to_root l r d.0 in
      (e.0, e.1, one (inr d.0), d.1),
  λ k.
      (kept_iff g s n l r).1 (
        ⊎_elim
            (λ (e : GraphEdge g l r).
            ⊎_elim (λ (t : TreeEdge g l r). absurd (leaf_childless g l r k.0 t)) (λ (d : DominanceEdge g l r). d) e)
            (λ (x : (v : ℕ) × GraphEdge g l v × Descent g v r). absurd (k.3 x.0 (one x.1) x.2))
            (path_first k.2),
        k.3,
      ),
)

-- fewer edges, no cycle
pub loopless_fewer : (g : Graph) (a r : ℕ) → Loopless (adding g a r) → Loopless g
loopless_fewer g a r n u d = n u (descent_added g a r d)

-- an edge that closes a cycle closes one at the leaf that it starts from
pub closes : (g : Graph) (a r : ℕ) → Loopless g → (u : ℕ) → Descent (adding g a r) u u → Descent (adding g a r) a a
closes g a r n u d =
    ⊎_elim
    (λ (p : Descent g u u). absurd (n u p))
    (λ (p : ((u ≡ a) ⊎ Descent g u a) × ((u ≡ r) ⊎ Descent g r u)).
    (descent_adding g a r a a).1 (inr (
      inl refl,
      ⊎_elim
          (λ (i : u ≡ r). ⊎_elim (λ (j : u ≡ a). inl (sym j ∙ i)) (λ (q : Descent g u a). inr (subst (λ (z : ℕ). Descent g z a) i q)) p.0)
          (λ (q : Descent g r u). ⊎_elim (λ (j : u ≡ a). inr (subst (λ (z : ℕ). Descent g r z) j q)) (λ (o : Descent g u a). inr (path_trans q o)) p.0)
          p.1,
    )))
    ((descent_adding g a r u u).0 d)

module _ (g : Graph) (s : Shaped g) {v a b : ℕ} (c : Choice g v a b) where
  pub first_fresh : Fresh g a (own g b)
  first_fresh =
      record {
        from_leaf = lower_leaf g s c;
        to_root = own_root g s b (leaf_below g b (upper_leaf g s c));
        apart = λ n. (choice_grows g s (loopless_fewer g a (own g b) n) c).0;
      }

  pub second_fresh : Fresh g b (own g a)
  second_fresh =
      record {
        from_leaf = upper_leaf g s c;
        to_root = own_root g s a (leaf_below g a (lower_leaf g s c));
        apart = λ n. (choice_grows g s (loopless_fewer g b (own g a) n) c).1;
      }

module _ (g : Graph) (s : Shaped g) (a r : ℕ) (new : Fresh g a r) (n : Loopless (adding g a r)) where
  abbrev h : Graph
  h = adding g a r

  shaped : Shaped h
  shaped = adding_shaped g a r s new.from_leaf new.to_root

  before : Loopless g
  before = loopless_fewer g a r n

  abbrev Rising : ℕ → Type 0
  Rising l = (l ≡ a) ⊎ Descent g l a

  abbrev Falling : ℕ → Type 0
  Falling v = (v ≡ r) ⊎ Descent g r v

  across : (l v : ℕ) → Rising l → Falling v → Descent h l v
  across l v p q = (descent_adding g a r l v).1 (inr (p, q))

  -- with nothing between its ends, what leads across is the new edge
  the_edge : (l v : ℕ) → ((x : ℕ) → Descent h l x → Descent h x v → ⊥) → Rising l → Falling v → (l ≡ a) × (v ≡ r)
  the_edge l v free p q = (
    ⊎_elim (λ (i : l ≡ a). i) (λ (d : Descent g l a). absurd (free a (descent_added g a r d) (across a v (inl refl) q))) p,
    ⊎_elim (λ (i : v ≡ r). i) (λ (d : Descent g r v). absurd (free r (across l r p (inl refl)) (descent_added g a r d))) q,
  )

  rising_up : {l x : ℕ} → Descent g l x → Rising x → Rising l
  rising_up {l} p = ⊎_elim (λ i. inr (subst (λ (z : ℕ). Descent g l z) i p)) (λ q. inr (path_trans p q))

  falling_down : {x v : ℕ} → Falling x → Descent g x v → Falling v
  falling_down {v = v} f q = ⊎_elim (λ i. inr (subst (λ (z : ℕ). Descent g z v) i q)) (λ p. inr (path_trans p q)) f

  new_kept : Kept h a r
  new_kept =
      (kept_rows_lem h shaped n a r).1 (
        leaf_adding g a r a ∙ new.from_leaf,
        root_adding g a r r ∙ new.to_root,
        added_edge g a r,
        λ x p q.
            let from_r : Falling x → ⊥ = ⊎_elim (λ (i : x ≡ r). n r (subst (λ (z : ℕ). Descent h z r) i q)) (λ (d : Descent g r x). n r (path_trans (descent_added g a r d) q)) in
            let to_a : Rising x → ⊥ = ⊎_elim (λ (i : x ≡ a). n a (subst (λ (z : ℕ). Descent h a z) i p)) (λ (d : Descent g x a). n a (path_trans p (descent_added g a r d))) in
            ⊎_elim
            (λ (d : Descent g a x). ⊎_elim (λ (e : Descent g x r). new.apart n (path_trans d e)) (λ (e : Rising x × Falling r). to_a e.0) ((descent_adding g a r x r).0 q))
            (λ (d : Rising a × Falling x). from_r d.1)
            ((descent_adding g a r a x).0 p),
      )

  old_kept : (l v : ℕ) → Kept g l v → (Rising l → Falling v → ⊥) → Kept h l v
  old_kept l v k clear =
      let d = (kept_rows_lem g s before l v).0 k in
      (kept_rows_lem h shaped n l v).1 (
        leaf_adding g a r l ∙ d.0,
        root_adding g a r v ∙ d.1,
        descent_added g a r d.2,
        λ x p q.
            ⊎_elim
            (λ (e : Descent g l x).
            ⊎_elim (λ (f : Descent g x v). d.3 x e f) (λ (f : Rising x × Falling v). clear (rising_up e f.0) f.1) ((descent_adding g a r x v).0 q))
            (λ (e : Rising l × Falling x).
            ⊎_elim (λ (f : Descent g x v). clear e.0 (falling_down e.1 f)) (λ (f : Rising x × Falling v). clear e.0 f.1) ((descent_adding g a r x v).0 q))
            ((descent_adding g a r l x).0 p),
      )

  pub kept_adding : (l v : ℕ) → Kept h l v ↔ ((Kept g l v × (Rising l → Falling v → ⊥)) ⊎ ((l ≡ a) × (v ≡ r)))
  kept_adding l v = (
    λ k.
        let d = (kept_rows_lem h shaped n l v).0 k in
        ⊎_elim
        (λ (p : Descent g l v).
        inl (
          (kept_rows_lem g s before l v).1 (
            sym (leaf_adding g a r l) ∙ d.0,
            sym (root_adding g a r v) ∙ d.1,
            p,
            λ x e f. d.3 x (descent_added g a r e) (descent_added g a r f),
          ),
          λ e f.
              let i = the_edge l v d.3 e f in
              new.apart n (subst (λ (z : ℕ). Descent g z r) i.0 (subst (λ (z : ℕ). Descent g l z) i.1 p)),
        ))
        (λ (p : Rising l × Falling v). inr (the_edge l v d.3 p.0 p.1))
        ((descent_adding g a r l v).0 d.2),
    ⊎_elim
        (λ (k : Kept g l v × (Rising l → Falling v → ⊥)). old_kept l v k.0 k.1)
        (λ (i : (l ≡ a) × (v ≡ r)). subst (λ (z : ℕ). Kept h z v) (sym i.0) (subst (λ (z : ℕ). Kept h a z) (sym i.1) new_kept)),
  )
