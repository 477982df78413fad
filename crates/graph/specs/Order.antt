-- Rules 2 and 3 of document 000, Section 5, and the order in which document 01 lists the readings.
use Rattle.std.specs.Prelude.{ℕ, ◌<◌, ◌≡◌, List, [], ◌∷◌, cond, ◌&&◌, ◌⊎◌, eqb, leb, length, get_or}
use Rattle.graph.specs.Graph.{Edge, Graph, DominanceEdge, Descent, own}
use Rattle.graph.specs.Placing.{Below, Reading}
use Rattle.graph.specs.declared.Count.{Count}
use Rattle.graph.specs.declared.Count.TheVariants.{Exactly, More}

-- the edges but the one from l to r
unfoldable pub without : List Edge → ℕ → ℕ → List Edge
without [] l r = []
without (e ∷ es) l r = cond (eqb e.0 l && eqb e.1 r) (without es l r) (e ∷ without es l r)

-- G \ d, for the dominance edge d from l to r
unfoldable pub removed : Graph → ℕ → ℕ → Graph
removed g l r = record { nodes = g.nodes; tree = g.tree; dominance = without g.dominance l r }

-- "A dominance edge d = (v, w) is redundant if there is a path from v to w in G \ d." (document 000, Section 4)
abbrev pub Redundant : Graph → ℕ → ℕ → Type 0
Redundant g l r = DominanceEdge g l r × Descent (removed g l r) l r

-- "Remove redundant dominance edges (Rule 2)": the edges that stay
abbrev pub Kept : Graph → ℕ → ℕ → Type 0
Kept g l r = DominanceEdge g l r × (Redundant g l r → ⊥)

-- "Take the lowest root with two or more incoming dominance edges and, of the leaves they start from, the two with the
-- lowest numbers, a the lower and b the next."
pub record Choice (g : Graph) (v a b : ℕ) : Type 0 where
  pub first : Kept g a v
  pub second : Kept g b v
  pub lower : a < b
  pub lowest_leaves : (l : ℕ) → Kept g l v → (l ≡ a) ⊎ ((l ≡ b) ⊎ (b < l))
  pub lowest_root : (w l m : ℕ) → w < v → Kept g l w → Kept g m w → l ≡ m

-- the graph with the dominance edge from l to r added
unfoldable pub adding : Graph → ℕ → ℕ → Graph
adding g l r = record { nodes = g.nodes; tree = g.tree; dominance = (l, r) ∷ g.dominance }

-- "All readings with a above b's root come before all with b above a's root. Add that edge and go on within each half
-- (Rule 3)." Before g p q: the order puts p before q. The edge is added to g as it is; adding it to what Rule 2 leaves of g
-- gives the same order (crates/theory_list, Reduced.before_reduced).
pub data Before : Graph → List ℕ → List ℕ → Type 0 where
  halves : {g : Graph} {p q : List ℕ} (v a b : ℕ) → Choice g v a b → Below g p a (own g b) → Below g q b (own g a) → Before g p q
  within_first : {g : Graph} {p q : List ℕ} (v a b : ℕ) → Choice g v a b → Below g p a (own g b) → Below g q a (own g b) → Before (adding g a (own g b)) p q → Before g p q
  within_second : {g : Graph} {p q : List ℕ} (v a b : ℕ) → Choice g v a b → Below g p b (own g a) → Below g q b (own g a) → Before (adding g b (own g a)) p q → Before g p q

-- "Readings are numbered from 1": the one with the number i + 1 stands at i.
abbrev pub entry : List (List ℕ) → ℕ → List ℕ
entry ps i = get_or ps i []

-- what is said of a list's entries holds of exactly one
abbrev pub ExactlyOne : (List ℕ → Type 0) → List (List ℕ) → Type 0
ExactlyOne P qs = (i : ℕ) × (i < length qs) × P (entry qs i) × ((j : ℕ) → j < length qs → P (entry qs j) → j ≡ i)

-- The list of the readings in order: "the minimal solved forms, each once, in document 01's order".
pub record Listing (g : Graph) (ps : List (List ℕ)) : Type 0 where
  pub only_readings : (i : ℕ) → i < length ps → Reading g (entry ps i)
  pub every_reading : (p : List ℕ) → Reading g p → (i : ℕ) × (i < length ps) × (entry ps i ≡ p)
  pub each_once : (i j : ℕ) → i < j → j < length ps → entry ps i ≡ entry ps j → ⊥
  pub in_order : (i j : ℕ) → i < j → j < length ps → Before g (entry ps i) (entry ps j)

-- "The count is exact up to 65,535 and otherwise the answer "more", given only then."
abbrev pub limit : ℕ
limit = 65535

unfoldable pub count_answer : ℕ → Count
count_answer k = cond (leb k limit) (Exactly k) More
