-- Rule 1 ends. Each step adds a pair to what lies below what and takes none away, and there are at most n * n pairs of n
-- nodes; so after n * n steps no problem leaf is left, and then no leaf carries two roots: the solved form has become a
-- configuration, whose descent relation contains the first one. A step is a function of the placing, so the end is too;
-- `configured` computes it.
use Prim.Native.Nat.{ℕ, zero, suc, ◌+◌, ◌*◌, ◌≤◌, ◌<◌}
use mathlib.Core.Path.{◌≡◌, refl, sym, ◌∙◌}
use mathlib.Core.List.{List}
use mathlib.Core.Bool.{true, false, cond, true≢false}
use native.Mathlib.Omega.{arith}
use borrow.Author.Tests.{leb-false}
use Rattle.base_finite.specs.Below.{any, count}
use Rattle.base_finite.proofs.Laws.{by_bool, any_false, count_le, not_holding}
use Rattle.graph.specs.Graph.{Graph}
use Rattle.graph.specs.Placing.{hangs, SolvedForm, Configuration}
use Rattle.graph.specs.Rule1.{problem, shifted, Rule1, done, again}
use Rattle.theory_edges.proofs.Edges.{sum_grows, sum_bound}
use Rattle.theory_edges.specs.Edges.{sum}
use Rattle.theory_edges.proofs.Ends.{leaf_below, root_below}
use Rattle.theory_forest.specs.Shape.{Shaped}
use Rattle.theory_forest.specs.Table.{under}
use Rattle.theory_forest.proofs.Table.{under_iff, hangs_parts, below_within}
use Rattle.base_finite.proofs.Bounds.{count_single}
use Rattle.base_finite.proofs.Counting.{count_mono, count_grows}
use Rattle.theory_rule1.proofs.Shifting.{Problem, target, shifted_solved, shifted_contains, shifted_grows}

-- how many pairs of nodes there are of which the one lies below the other
unfoldable pub pairs_below : Graph → List ℕ → ℕ
pairs_below g p = sum g.nodes (λ u. count g.nodes (under g p u))

pub pairs_bound : (g : Graph) (p : List ℕ) → pairs_below g p ≤ g.nodes * g.nodes
unfolding pairs_below
pairs_bound g p = sum_bound g.nodes g.nodes (λ u. count g.nodes (under g p u)) (λ u l. count_le g.nodes (under g p u))

pub pairs_grow : (g : Graph) (p : List ℕ) → Shaped g → SolvedForm g p → Problem g p → pairs_below g p < pairs_below g (shifted g p)
unfolding pairs_below
pairs_grow g p s o t =
    let n : ℕ = g.nodes in
    let q : List ℕ = shifted g p in
    let wider : (u v : ℕ) → under g p u v ≡ true → under g q u v ≡ true =
    λ u v h. (under_iff g s q u v).1 (shifted_contains g p s t u v ((under_iff g s p u v).0 h)) in
    let new = shifted_grows g p s t o.is_forest in
    let b : ℕ = target g p in
    let z : ℕ = new.0 in
    let within = below_within g q s new.1 in
    sum_grows n (λ u. count n (under g p u)) (λ u. count n (under g q u)) b
    (λ u l. count_mono n (under g p u) (under g q u) (λ v k. wider u v))
    within.0
    (count_grows n (under g p b) (under g q b) z (λ v k. wider b v) within.1 (not_holding (under g p b z) (λ h. new.2 ((under_iff g s p b z).0 h))) ((under_iff g s q b z).1 new.1))

-- one end

pub rule1_function : {g : Graph} {p q q' : List ℕ} → Rule1 g p q → Rule1 g p q' → q ≡ q'
rule1_function (done a) (done b) = refl
rule1_function (done a) (again b r) = absurd (true≢false (sym b ∙ a))
rule1_function (again a r) (done b) = absurd (true≢false (sym a ∙ b))
rule1_function (again a r) (again b r') = rule1_function r r'

-- where Rule 1 ends

-- no leaf carries two roots where none is a problem leaf
pub no_problem : (g : Graph) (p : List ℕ) → any g.nodes (problem g p) ≡ false → (l r z : ℕ) → hangs g p l r ≡ true → hangs g p l z ≡ true → r ≡ z
unfolding problem
no_problem g p e l r z h k =
    let c : ℕ = count g.nodes (hangs g p l) in
    let b = hangs_parts g p l r h in
    let few : c < 2 = leb-false 2 c (any_false g.nodes (problem g p) e l (leaf_below g l b.0)) in
    count_single g.nodes (hangs g p l) r z (omega arith) (root_below g r b.1) (root_below g z (hangs_parts g p l z k).1) h k

pub rule1_configuration : {g : Graph} {p q : List ℕ} → Shaped g → Rule1 g p q → SolvedForm g p → Configuration g q
rule1_configuration s (done {p = p} e) o = record { solved = o; one_root = no_problem _ p e }
rule1_configuration s (again {p = p} t r) o = rule1_configuration s r (shifted_solved _ p s t o)

-- Rule 1 as a function

-- k steps at most
unfoldable pub steps : ℕ → Graph → List ℕ → List ℕ
steps zero g p = p
steps (suc k) g p = let q = steps k g (shifted g p) in cond (any g.nodes (problem g p)) q p

unfoldable pub configured : Graph → List ℕ → List ℕ
unfolding steps
configured g p = steps (g.nodes * g.nodes) g p

steps_reach : (g : Graph) → Shaped g → (k : ℕ) (p : List ℕ) → SolvedForm g p → g.nodes * g.nodes ≤ k + pairs_below g p → Rule1 g p (steps k g p)
unfolding steps
steps_reach g s zero p o h =
    done (not_holding (any g.nodes (problem g p)) (λ t. omega (arith, h, pairs_grow g p s o t, pairs_bound g (shifted g p))))
steps_reach g s (suc k) p o h =
    by_bool (any g.nodes (problem g p))
    (λ (t : any g.nodes (problem g p) ≡ true). rw t (again t (steps_reach g s k (shifted g p) (shifted_solved g p s t o) (omega (arith, h, pairs_grow g p s o t)))))
    (λ (e : any g.nodes (problem g p) ≡ false). rw e (done e))

pub configured_reaches : (g : Graph) (p : List ℕ) → Shaped g → SolvedForm g p → Rule1 g p (configured g p)
unfolding configured
configured_reaches g p s o = steps_reach g s (g.nodes * g.nodes) p o (omega arith)

pub rule1_ends : (g : Graph) (p : List ℕ) → Shaped g → SolvedForm g p → (q : List ℕ) × Rule1 g p q × Configuration g q
rule1_ends g p s o =
    let r = configured_reaches g p s o in
    (configured g p, r, rule1_configuration s r o)
