-- Rule 1 of document 000, Section 4.1, with the choices that document 01 makes: the configuration that is handed out.
use Rattle.std.specs.Prelude.{ℕ, zero, suc, ◌≡◌, List, [], ◌∷◌, Bool, true, false, cond, not, ◌&&◌, ◌||◌, eqb, leb}
use Rattle.base_finite.specs.Below.{any, all, count, least, spread}
use Rattle.graph.specs.Graph.{Graph, entered, parent, leaf_of, none}
use Rattle.graph.specs.Placing.{at, hangs}
use Rattle.graph.specs.Order.{Listing, entry}

-- "leaves carrying several roots": the problem leaves of Lemma 4.4
unfoldable pub problem : Graph → List ℕ → ℕ → Bool
problem g p l = leb 2 (count g.nodes (hangs g p l))

-- the node above v, over a tree edge or a hanging, and `none` above a top root
unfoldable pub up : Graph → List ℕ → ℕ → ℕ
up g p v = cond (entered g.tree v) (parent g.tree v) (at p v)

-- how many edges lead up from v, k at most
unfoldable pub rise : ℕ → Graph → List ℕ → ℕ → ℕ
rise zero g p v = 0
rise (suc k) g p v = cond (eqb (up g p v) none) 0 (suc (rise k g p (up g p v)))

-- "Depth counts edges from the top root." In a forest fewer than `nodes` edges lead up from a node.
unfoldable pub depth : Graph → List ℕ → ℕ → ℕ
depth g p v = rise g.nodes g p v

-- "among leaves carrying several roots take those of least depth, then the lowest"
unfoldable pub shallowest : Graph → List ℕ → ℕ → Bool
shallowest g p l = problem g p l && all g.nodes (λ m. not (problem g p m) || leb (depth g p l) (depth g p m))

unfoldable pub problem_leaf : Graph → List ℕ → ℕ
problem_leaf g p = least g.nodes (shallowest g p)

-- "Its lowest root stays."
unfoldable pub staying : Graph → List ℕ → ℕ
staying g p = least g.nodes (hangs g p (problem_leaf g p))

-- "the lowest leaf of that root's fragment"
unfoldable pub lowest_leaf_of : Graph → ℕ → ℕ
lowest_leaf_of g r = least g.nodes (leaf_of g r)

-- "The others go to the lowest leaf of that root's fragment."
unfoldable pub shifted : Graph → List ℕ → List ℕ
shifted g p =
    spread g.nodes (λ z.
    cond (hangs g p (problem_leaf g p) z && not (eqb z (staying g p))) (lowest_leaf_of g (staying g p)) (at p z) ∷ [])

-- "Repeat.": from p, Rule 1 ends in q
pub data Rule1 (g : Graph) : List ℕ → List ℕ → Type 0 where
  done : {p : List ℕ} → any g.nodes (problem g p) ≡ false → Rule1 g p p
  again : {p q : List ℕ} → any g.nodes (problem g p) ≡ true → Rule1 g (shifted g p) q → Rule1 g p q

-- "The configuration handed out comes from reading 1 by Rule 1."
pub record HandedOut (g : Graph) (q : List ℕ) : Type 0 where
  pub readings : List (List ℕ)
  pub listing : Listing g readings
  pub reached : Rule1 g (entry readings 0) q
