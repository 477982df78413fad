-- The drawing as it is read off tables: of each leaf the root of its fragment, of each root the leaf it hangs under.
use Rattle.std.specs.Prelude.{ℕ, zero, suc, ◌+◌, ◌-◌, ◌≤◌, ◌<◌, ◌≡◌, List, [], ◌∷◌, ◌++◌, Bool, cond, ◌&&◌, eqb, length, get_or, take, drop}
use Rattle.base_finite.specs.Below.{any, count, spread}
use Rattle.graph.specs.Graph as spec
use Rattle.graph.specs.Placing.{SolvedForm}
use Rattle.format.specs.Text.{decimal}
use Rattle.base_nodeset.specs.declared.NodeSet.{NodeSet}
use Rattle.base_tables.specs.Tables.{Tables}
use Rattle.base_tables.specs.Trees.{top_in, inner_in, root_in}
use Rattle.base_finite.specs.Stores.{Written, entry_is}
use Rattle.theory_edges.specs.Edges.{sum}
use Rattle.show_drawing.specs.declared.Pen.{Pen}

-- the texts of the numbers below k that have t, o before the first and b before each other
unfoldable pub run : List ℕ → List ℕ → (ℕ → List ℕ) → (ℕ → Bool) → ℕ → List ℕ
run o b f t k = spread k (λ x. cond (t x) (cond (any x t) b o ++ f x) [])

-- the root of the fragment that the leaf v is of, and `none` for a node that isn't a leaf
unfoldable pub home_in : ℕ → List ℕ → ℕ → ℕ
home_in n parents v = cond (inner_in n parents v) spec.none (top_in n parents v)

-- A table of 128 entries that has the home of each node.
pub record Homes (n : ℕ) (parents home : List ℕ) : Type 0 where
  pub long : length home ≡ 128
  pub home_is : (v : ℕ) → v < n → get_or home v 0 ≡ home_in n parents v

abbrev pub top_at : List ℕ → List ℕ → ℕ → Bool
top_at parents p r = eqb (get_or parents r 0) spec.none && eqb (get_or p r 0) spec.none

-- a leaf, where draw gives the texts of fragments
unfoldable pub leaf_in : (ℕ → List ℕ) → ℕ → List ℕ → ℕ → List ℕ
leaf_in draw n p l = decimal l ++ run (91 ∷ []) (59 ∷ []) draw (entry_is p l) n ++ cond (any n (entry_is p l)) (93 ∷ []) []

-- a fragment, with fragments hung k deep at most
unfoldable pub fragment_in : ℕ → ℕ → List ℕ → List ℕ → ℕ → List ℕ
fragment_in zero n home p r = []
fragment_in (suc k) n home p r =
    decimal r ++ run (40 ∷ []) (44 ∷ []) (leaf_in (λ s. fragment_in k n home p s) n p) (entry_is home r) n ++ 41 ∷ []

-- the sum of f over the numbers below k that have t
unfoldable pub sum_where : (ℕ → ℕ) → (ℕ → Bool) → ℕ → ℕ
sum_where f t k = sum k (λ x. cond (t x) (f x) 0)

-- how many fragments there are from the root r down, k below it at most
unfoldable pub size_in : ℕ → ℕ → List ℕ → List ℕ → ℕ → ℕ
size_in zero n home p r = 1
size_in (suc k) n home p r = 1 + sum_where (λ l. sum_where (λ s. size_in k n home p s) (entry_is p l) n) (entry_is home r) n

-- the leaf l of a fragment; here and below the bound is n, which cuts nothing off where n or fewer fragments are drawn
abbrev pub hung_leaf_in : ℕ → List ℕ → List ℕ → ℕ → List ℕ
hung_leaf_in n home p l = leaf_in (λ s. fragment_in n n home p s) n p l

-- the fragments hung under a leaf, the leaves of a fragment and the top fragments, each with how many fragments they are
abbrev pub hung_in : ℕ → List ℕ → List ℕ → ℕ → List ℕ
hung_in n home p l = run (91 ∷ []) (59 ∷ []) (λ s. fragment_in n n home p s) (entry_is p l) n

abbrev pub hung_size_in : ℕ → List ℕ → List ℕ → ℕ → ℕ
hung_size_in n home p l = sum_where (λ s. size_in n n home p s) (entry_is p l) n

abbrev pub leaves_in : ℕ → List ℕ → List ℕ → ℕ → List ℕ
leaves_in n home p r = run (40 ∷ []) (44 ∷ []) (λ l. hung_leaf_in n home p l) (entry_is home r) n

abbrev pub leaves_size_in : ℕ → List ℕ → List ℕ → ℕ → ℕ
leaves_size_in n home p r = sum_where (λ l. hung_size_in n home p l) (entry_is home r) n

abbrev pub tops_in : ℕ → List ℕ → List ℕ → List ℕ → List ℕ
tops_in n parents home p = run [] (59 ∷ []) (λ s. fragment_in n n home p s) (top_at parents p) n

abbrev pub tops_size_in : ℕ → List ℕ → List ℕ → List ℕ → ℕ
tops_size_in n parents home p = sum_where (λ s. size_in n n home p s) (top_at parents p) n

-- what stands before a top fragment that begins at `at`
abbrev pub joint : ℕ → List ℕ
joint at = cond (eqb at 0) [] (59 ∷ [])

-- The tables that a text is read off are long enough.
pub record Lent (n : ℕ) (home placing : List ℕ) : Type 0 where
  pub few : n ≤ 128
  pub homes : length home ≡ 128
  pub placed : n ≤ length placing

-- A pen can go on with a text of so many fragments: there is room for it, and as many are not yet drawn, n at most.
pub record Ready (text : List ℕ) (size n : ℕ) (pen : Pen) (out : List ℕ) : Type 0 where
  pub room : pen.at + length text ≤ length out
  pub enough : size ≤ pen.left
  pub few : pen.left ≤ n

-- The text is written, and so many fragments fewer are not yet drawn.
pub record Moved (text : List ℕ) (size : ℕ) (from : Pen) (old : List ℕ) (pen : Pen) (new : List ℕ) : Type 0 where
  pub written : Written old from.at text new pen.at
  pub counted : pen.left ≡ from.left - size

-- The fragments from the top roots down are the fragments of the sheet, n at most.
pub record Counted (n : ℕ) (parents home placing : List ℕ) : Type 0 where
  pub all_drawn : tops_size_in n parents home placing ≡ count 128 (root_in n parents)
  pub few : count 128 (root_in n parents) ≤ n

-- The parents and the placing, in its first n bytes, of a graph and of one of its solved forms.
pub record Drawable (n : ℕ) (parents placing : List ℕ) : Type 0 where
  pub graph : spec.Graph
  pub heads : List NodeSet
  pub edges : ℕ
  pub tables : Tables graph n parents heads edges
  pub solved : SolvedForm graph (take n placing)

-- "tidying and drawing the length they hand back. Bytes past a result stay unwritten"
pub record Drawn (text : List ℕ) (r : ℕ) (old new : List ℕ) : Type 0 where
  pub long : r ≡ length text
  pub bytes : new ≡ text ++ drop (length text) old
