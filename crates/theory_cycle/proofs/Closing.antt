-- Connected nodes make a cycle: where a root r and a leaf l are joined by tree edges and edges of M, and one more edge
-- goes from l to r, the simple trail from l to r, closed by that edge, is spelled as bytes: each node, then the kind of the
-- edge to the next one. With at most one edge from each leaf these bytes are a simple hypernormal cycle.
use Prim.Native.Nat.{ℕ, zero, suc, ◌+◌, ◌*◌, ◌≤◌, ◌<◌}
use mathlib.Core.Path.{◌≡◌, refl, sym, ◌∙◌}
use mathlib.Core.List.{List, [], ◌∷◌}
use mathlib.Core.Bool.{Bool, true, false, cond, ◌||◌, true≢false}
use mathlib.Core.Logic.{◌≢◌, ◌⊎◌, inl, inr, ⊎_elim}
use native.Mathlib.Omega.{arith}
use native.Mathlib.Nat.{le_of_suc-le-suc}
use lib.ListN.{length, get_or, get_or-eq_default}
use Rattle.base_finite.proofs.Laws.{by_bool, or_left, or_right, or_cases}
use Rattle.graph.specs.Graph.{Graph, among, TreeEdge}
use Rattle.graph.specs.Cycle.{pairs, node, kind, hypernormal_cycle}
use Rattle.theory_forest.specs.Shape.{Shaped}
use Rattle.theory_forest.proofs.Fragments.{leaf_not_root}
use Rattle.theory_ring.proofs.Ways.{◌∉◌}
use Rattle.theory_cycle.specs.Connected.{Connected}
use Rattle.theory_cycle.proofs.Trails.{EitherWay, Trail, here, along, simple_trail, trail_start, trail_steps, trail_different}
use Rattle.theory_cycle.proofs.Spelt.{Step, Spelt, Sparse, spelt_hypernormal}

-- a tree edge joins u and v
unfoldable treed : Graph → ℕ → ℕ → Bool
treed g u v = among g.tree u v || among g.tree v u

-- the kind of the edge that a step from u to v takes
unfoldable step_kind : Graph → ℕ → ℕ → ℕ
unfolding treed
step_kind g u v = cond (treed g u v) 2 3

-- the nodes that a trail to v leaves, and v, each with the kind of the edge that follows
unfoldable spell : Graph → List ℕ → ℕ → List ℕ
unfolding step_kind
spell g [] v = v ∷ 3 ∷ []
spell g (u ∷ l) v = u ∷ step_kind g u (get_or l 0 v) ∷ spell g l v

-- tree edges, and the edges of M
abbrev pub TreeOr : Graph → (ℕ → ℕ → Type 0) → ℕ → ℕ → Type 0
TreeOr g M u v = TreeEdge g u v ⊎ M u v

kind_step : (g : Graph) (M : ℕ → ℕ → Type 0) (u v : ℕ) → EitherWay (TreeOr g M) u v → Step g M (step_kind g u v) u v
unfolding step_kind treed
kind_step g M u v e =
    by_bool (treed g u v)
    (λ (t : treed g u v ≡ true). inl (rw t, or_cases (among g.tree u v) (among g.tree v u) t))
    (λ (t : treed g u v ≡ false).
    let off : treed g u v ≡ true → ⊥ = λ y. true≢false (sym y ∙ t) in
    inr (
      rw t,
      ⊎_elim
          (⊎_elim (λ (a : TreeEdge g u v). absurd (off (or_left (among g.tree u v) (among g.tree v u) a))) inl)
          (⊎_elim (λ (a : TreeEdge g v u). absurd (off (or_right (among g.tree u v) (among g.tree v u) a))) inr)
          e,
    ))

-- what the bytes hold

twice : (n : ℕ) → 2 * suc n ≡ suc (suc (2 * n))
twice n = omega arith

spell_length : (g : Graph) (l : List ℕ) (v : ℕ) → length (spell g l v) ≡ 2 * suc (length l)
unfolding spell
spell_length g [] v = refl
spell_length g (u ∷ l) v = rw (spell_length g l v) (omega arith)

spell_pairs : (g : Graph) (l : List ℕ) (v : ℕ) → pairs (spell g l v) ≡ suc (length l)
unfolding pairs
spell_pairs g l v = omega (arith, spell_length g l v)

spell_node : (g : Graph) (l : List ℕ) (v i : ℕ) → i ≤ length l → node (spell g l v) i ≡ get_or l i v
unfolding spell
spell_node g [] v zero h = refl
spell_node g [] v (suc i) h = absurd (omega arith)
spell_node g (u ∷ l) v zero h = refl
spell_node g (u ∷ l) v (suc i) h = rw twice (spell_node g l v i (le_of_suc-le-suc h))

spell_last : (g : Graph) (l : List ℕ) (v i : ℕ) → i ≡ length l → kind (spell g l v) i ≡ 3
unfolding spell
spell_last g [] v i h = rw h
spell_last g (u ∷ l) v zero h = absurd (omega arith)
spell_last g (u ∷ l) v (suc i) h =
    let e : 2 * suc i + 1 ≡ suc (suc (2 * i + 1)) = omega arith in
    rw e (spell_last g l v i (omega arith))

spell_kind : (g : Graph) (l : List ℕ) (v i : ℕ) → i < length l → kind (spell g l v) i ≡ step_kind g (get_or l i v) (get_or l (suc i) v)
unfolding spell
spell_kind g [] v i h = absurd (omega arith)
spell_kind g (u ∷ l) v zero h = refl
spell_kind g (u ∷ l) v (suc i) h =
    let e : 2 * suc i + 1 ≡ suc (suc (2 * i + 1)) = omega arith in
    rw e (spell_kind g l v i (le_of_suc-le-suc h))

-- a trail to another node leaves some node
trail_some : {E : ℕ → ℕ → Type 0} {u v : ℕ} {l : List ℕ} → Trail E u v l → u ≢ v → 1 ≤ length l
trail_some here d = absurd (d refl)
trail_some (along n e t) d = omega arith

trail_spelt : (g : Graph) (M : ℕ → ℕ → Type 0) (l r : ℕ) (ls : List ℕ) → Trail (TreeOr g M) l r ls → r ∉ ls → l ≢ r → Spelt g M l r (spell g ls r)
trail_spelt g M l r ls t f d =
    let bs : List ℕ = spell g ls r in
    let size : pairs bs ≡ suc (length ls) = spell_pairs g ls r in
    let some : 1 ≤ length ls = trail_some t d in
    let at : (i : ℕ) → i < pairs bs → node bs i ≡ get_or ls i r = λ i h. spell_node g ls r i (omega arith) in
    record {
      even = omega (arith, spell_length g ls r);
      two = omega arith;
      different = λ i j h k e.
          trail_different t f i j (omega arith) k (sym (at i h) ∙ e ∙ at j (omega arith));
      steps = λ i h.
          let e : i + 1 ≡ suc i = omega arith in
          rw (e, at i (omega arith), at (suc i) (omega arith), spell_kind g ls r i (omega arith))
          (kind_step g M (get_or ls i r) (get_or ls (suc i) r) (trail_steps t i (omega arith)));
      closing_kind = λ i e. spell_last g ls r i (omega arith);
      closing = λ i e.
          inr (at 0 (omega arith) ∙ trail_start t, at i (omega arith) ∙ get_or-eq_default ls r (omega arith));
    }

pub connected_cycle : (g : Graph) → Shaped g → (M : ℕ → ℕ → Type 0) (l r : ℕ) → Sparse g M l r → Connected (TreeOr g M) r l
    → (bs : List ℕ) × (hypernormal_cycle g bs ≡ true)
connected_cycle g s M l r k c =
    let t = simple_trail c in
    let ends = s.leaf_to_root l r k.edge in
    let apart : l ≢ r = λ (e : l ≡ r). leaf_not_root g s r (rw e at ends.0) ends.1 in
    (spell g t.0 r, spelt_hypernormal g s M l r k (spell g t.0 r) (trail_spelt g M l r t.0 t.1 t.2 apart))
