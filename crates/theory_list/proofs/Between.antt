-- What the edges with nothing between their ends make, in a graph without a cycle: the whole descent relation. A descent
-- with a node between is two descents, each with fewer nodes between.
use Prim.Native.Nat.{ℕ, zero, suc, ◌<◌}
use mathlib.Core.Path.{◌≡◌, sym, ◌∙◌}
use mathlib.Core.Bool.{Bool, true, false, ◌&&◌, true≢false}
use mathlib.Core.Logic.{⊎_elim, ◌↔◌}
use native.Mathlib.Omega.{arith}
use Rattle.base_finite.specs.Below.{count}
use Rattle.base_finite.proofs.Laws.{by_bool, not_holding}
use Rattle.base_finite.proofs.Counting.{count_grows}
use Rattle.graph.specs.Graph.{Graph, GraphEdge, Descent, one}
use Rattle.theory_forest.specs.Shape.{Shaped}
use Rattle.theory_forest.proofs.Closure.{path_trans, path_last}
use Rattle.theory_forest.proofs.Table.{and_holds, descends_iff, descent_within}
use Rattle.theory_forest.specs.Table.{descent_table, descends}
use Rattle.theory_list.specs.Redundancy.{Loopless, NoneBetween, between}
use Rattle.theory_list.proofs.Redundancy.{between_iff}

inside : Graph → ℕ → ℕ → ℕ → Bool
inside g u v x = descends g u x && descends g x v

-- how many nodes are between u and v
interval : Graph → ℕ → ℕ → ℕ
interval g u v = count g.nodes (inside g u v)

inside_iff : (g : Graph) → Shaped g → (u v x : ℕ) → (inside g u v x ≡ true) ↔ (Descent g u x × Descent g x v)
unfolding inside
inside_iff g s u v x = and_holds (descends g u x) (descends g x v) (descends_iff g s u x) (descends_iff g s x v)

-- fewer nodes lie between u and v than between y and z, where those are between y and z too and x is so besides
interval_grows : (g : Graph) → Shaped g → (u v y z x : ℕ) → ((w : ℕ) → Descent g u w → Descent g w v → Descent g y w × Descent g w z) → Descent g y x → Descent g x z → (Descent g u x × Descent g x v → ⊥) → interval g u v < interval g y z
unfolding interval
interval_grows g s u v y z x f a b out =
    count_grows g.nodes (inside g u v) (inside g y z) x
    (λ w _ t. let d = (inside_iff g s u v w).0 t in (inside_iff g s y z w).1 (f w d.0 d.1)) (descent_within g s a).1
    (not_holding (inside g u v x) (λ t. out ((inside_iff g s u v x).0 t)))
    ((inside_iff g s y z x).1 (a, b))

module _ (g : Graph) (s : Shaped g) (n : Loopless g) (R : ℕ → ℕ → Type 0) (together : (u x v : ℕ) → R u x → R x v → R u v)
    (direct : (u v : ℕ) → NoneBetween g u v → GraphEdge g u v → R u v) where
  unsplit : (u v : ℕ) → NoneBetween g u v → Descent g u v → R u v
  unsplit u v free d =
      ⊎_elim
      (λ (e : GraphEdge g u v). direct u v free e)
      (λ (x : (w : ℕ) × Descent g u w × GraphEdge g w v). absurd (free x.0 x.1 (one x.2)))
      (path_last d)

  split : (k u v : ℕ) → interval g u v < k → Descent g u v → R u v
  split zero u v h d = absurd (omega arith)
  split (suc k) u v h d =
      by_bool (between g.nodes (descent_table g) u v)
      (λ (t : between g.nodes (descent_table g) u v ≡ true).
      let m = (between_iff g s u v).0 t in
      let x : ℕ = m.0 in
      let upper : interval g u x < interval g u v = interval_grows g s u x u v x (λ w a b. (a, path_trans b m.2)) m.1 m.2 (λ y. n x y.1) in
      let lower : interval g x v < interval g u v = interval_grows g s x v u v x (λ w a b. (path_trans m.1 a, b)) m.1 m.2 (λ y. n x y.0) in
      together u x v (split k u x (omega arith) m.1) (split k x v (omega arith) m.2))
      (λ (t : between g.nodes (descent_table g) u v ≡ false).
      unsplit u v (λ x a b. true≢false (sym ((between_iff g s u v).1 (x, a, b)) ∙ t)) d)

  pub descent_by_edges : (u v : ℕ) → Descent g u v → R u v
  descent_by_edges u v d = split (suc (interval g u v)) u v (omega arith) d
