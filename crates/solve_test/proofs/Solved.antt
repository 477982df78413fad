-- The tables of a graph: what is free by the tables is free in the graph, so that the answer is whether the graph has a
-- solved form.
use Prim.Native.Nat.{ℕ, ◌≤◌}
use mathlib.Core.Path.{◌≡◌, refl, sym, subst, fun_ext, ◌∙◌}
use mathlib.Core.List.{List}
use mathlib.Core.Bool.{Bool, true, false, not, false≢true, and_comm}
use mathlib.Core.Logic.{inl, inr, ⊎_elim, ◌↔◌}
use native.Mathlib.Omega.{arith}
use lib.Dec.{eqb}
use borrow.Author.Tests.{ne_eqb, eqb-false, not-true}
use Rattle.base_finite.proofs.Laws.{and_both}
use Rattle.base_nodeset.specs.Set.{mem}
use Rattle.base_nodeset.specs.declared.NodeSet.{NodeSet}
use Rattle.graph.specs.Graph.{Graph, Descent, root, leaf, leaf_of}
use Rattle.graph.specs.Placing.{Solvable}
use Rattle.theory_forest.specs.Shape.{Shaped}
use Rattle.theory_forest.proofs.Fragments.{leaf_of_parts}
use Rattle.theory_solvable.proofs.Free.{OfRoots, Related, Joined, start as joined_start, step as joined_step, joined_member, Free, less, Eliminates, done, take}
use Rattle.theory_solvable.proofs.Topmost.{stuck_unsolvable}
use Rattle.theory_solvable.proofs.Eliminated.{eliminates_iff}
use Rattle.base_tables.specs.Rows.{Rows, Closed}
use Rattle.base_tables.proofs.Tops.{descent_closed}
use Rattle.solve_test.specs.Tables.{Near, End, EndRows}
use Rattle.solve_test.specs.Free.{Spread, start, step, others, FreeIn, Taking, none_taken, then_taken, Ended}

-- rows of the whole relation are such rows
pub end_rows : (g : Graph) {rows : List NodeSet} → Rows (Descent g) rows → EndRows g rows
end_rows g rows = record { closed = descent_closed g rows; row_is = λ u v end. rows.row_is u v }

-- the set without F

others_less : (rem : ℕ → Bool) (F k : ℕ) → others rem F k ≡ less rem F k
unfolding less
others_less rem F k = and_comm (not (eqb k F)) (rem k)

others_intro : (rem : ℕ → Bool) (F k : ℕ) → rem k ≡ true → (k ≡ F → ⊥) → others rem F k ≡ true
others_intro rem F k m n = rw (ne_eqb k F n, m)

others_parts : (rem : ℕ → Bool) (F k : ℕ) → others rem F k ≡ true → (rem k ≡ true) × (k ≡ F → ⊥)
others_parts rem F k h =
    let b = and_both (not (eqb k F)) (rem k) h in
    (b.1, eqb-false k F (not-true (eqb k F) b.0))

module _
    (g : Graph)
    (s : Shaped g)
    (below near leaves : ℕ → ℕ → Bool)
    (roots : NodeSet)
    (is_root : (v : ℕ) → mem roots v ≡ root g v)
    (closed : Closed below)
    (is_below : (u v : ℕ) → End g u → (below u v ≡ true) ↔ Descent g u v)
    (is_near : (f h : ℕ) → (near f h ≡ true) ↔ Near below (mem roots) f h)
    (of_leaf : (r x : ℕ) → leaves r x ≡ leaf_of g r x) where
  related : (f h : ℕ) → near f h ≡ true → Related g f h
  related f h e =
      let n = (is_near f h).0 e in
      ⊎_elim
      (λ (d : below f h ≡ true). inl ((is_below f h (inl (sym (is_root f) ∙ n.0))).0 d))
      (λ (d : below h f ≡ true). inr ((is_below h f (inl (sym (is_root h) ∙ n.1))).0 d))
      n.2

  spread_joined : (rem : ℕ → Bool) (F l : ℕ) → leaf g l ≡ true → {f : ℕ} → Spread near (others rem F) (below l) f → Joined g rem F l f
  spread_joined rem F l is (start {f = f} e w) =
      let o = others_parts rem F f w in
      joined_start o.0 o.1 ((is_below l f (inr is)).0 e)
  spread_joined rem F l is (step {f = f} {h = h} p n w) =
      let o = others_parts rem F h w in
      joined_step (spread_joined rem F l is p) o.0 o.1 (related f h n)

  -- the leaves of a fragment
  a_leaf : (F l : ℕ) → leaf_of g F l ≡ true → leaf g l ≡ true
  a_leaf F l h = (leaf_of_parts g F l h).0

  module _ (rem : ℕ → Bool) (sub : OfRoots g rem) where
    in_roots : (k : ℕ) → rem k ≡ true → mem roots k ≡ true
    in_roots k h = is_root k ∙ sub k h

    joined_spread : (F l : ℕ) → leaf g l ≡ true → {f : ℕ} → Joined g rem F l f → Spread near (others rem F) (below l) f
    joined_spread F l is (joined_start {f = f} m n d) = start ((is_below l f (inr is)).1 d) (others_intro rem F f m n)
    joined_spread F l is (joined_step {f = f} {h = h} j m n c) =
        step (joined_spread F l is j)
        ((is_near f h).1 (
          in_roots f (joined_member j).0,
          in_roots h m,
          ⊎_elim (λ (d : Descent g f h). inl ((is_below f h (inl (sub f (joined_member j).0))).1 d)) (λ (d : Descent g h f). inr ((is_below h f (inl (sub h m))).1 d)) c,
        ))
        (others_intro rem F h m n)

    pub is_free : (F : ℕ) → FreeIn below near leaves rem F → Free g rem F
    is_free F x =
        record {
          member = x.member;
          none_above = λ y m d. x.none_above y m ((is_below y F (inl (sub y m))).1 d);
          one_leaf = λ l m f hl hm p q.
              x.one_leaf l m f (of_leaf F l ∙ hl) (of_leaf F m ∙ hm) (joined_spread F l (a_leaf F l hl) p) (joined_spread F m (a_leaf F m hm) q);
        }

    pub free_is : (F : ℕ) → Free g rem F → FreeIn below near leaves rem F
    free_is F x =
        record {
          member = x.member;
          none_above = λ y m d. x.none_above y m ((is_below y F (inl (sub y m))).0 d);
          one_leaf = λ l m f hl hm p q.
              let l_of : leaf_of g F l ≡ true = sym (of_leaf F l) ∙ hl in
              let m_of : leaf_of g F m ≡ true = sym (of_leaf F m) ∙ hm in
              x.one_leaf l m f l_of m_of (spread_joined rem F l (a_leaf F l l_of) p) (spread_joined rem F m (a_leaf F m m_of) q);
        }

  taking_roots : {t : NodeSet} → Taking below near leaves roots t → OfRoots g (mem t)
  taking_roots none_taken k h = sym (is_root k) ∙ h
  taking_roots (then_taken {s = u} F p x r) k h = taking_roots p k (and_both (not (eqb k F)) (mem u k) (sym (r k) ∙ h)).1

  -- what is left eliminates, so the roots do
  taking_eliminates : {t : NodeSet} → Taking below near leaves roots t → Eliminates g (mem t) → Eliminates g (root g)
  taking_eliminates none_taken e = subst (λ (z : ℕ → Bool). Eliminates g z) (fun_ext is_root) e
  taking_eliminates (then_taken {s = u} {t = t} F p x r) e =
      let same : mem t ≡ less (mem u) F = fun_ext (λ k. r k ∙ others_less (mem u) F k) in
      taking_eliminates p (take F (is_free (mem u) (taking_roots p) F x) (subst (λ (z : ℕ → Bool). Eliminates g z) same e))

  pub answer_is : (b : Bool) → (Closed below → Ended below near leaves roots b) → (b ≡ true) ↔ Solvable g
  answer_is b ended = answer b (ended closed)
    where
      answer : (b : Bool) → Ended below near leaves roots b → (b ≡ true) ↔ Solvable g
      answer true (t, p, none) =
          let few : g.nodes ≤ 128 = s.few_nodes in (
            λ e. (eliminates_iff g s).0 (taking_eliminates p (done (λ v h. none v (omega arith)))),
            λ x. refl,
          )
      answer false (t, p, some, stuck) = (
        λ e. absurd (false≢true e),
        λ x. absurd (stuck_unsolvable g s (mem t) (taking_roots p) some.0 some.1 (λ F f. stuck F (free_is (mem t) (taking_roots p) F f)) x),
      )
