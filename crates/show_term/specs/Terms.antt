-- The term as it is read off tables: of each node its symbol and its children, and what stands directly above it.
use Rattle.std.specs.Prelude.{ℕ, zero, suc, ◌+◌, ◌-◌, ◌*◌, ◌≤◌, ◌<◌, ◌≡◌, List, [], ◌∷◌, cond, eqb, ltb, length, get_or}
use Rattle.base_finite.specs.Stores.{entry_is}
use Rattle.base_nodeset.specs.Set.{mem}
use Rattle.base_nodeset.specs.declared.NodeSet.{NodeSet}
use Rattle.graph.specs.Graph.{none}
use Rattle.graph.specs.Term.{Term, node}
use Rattle.format.specs.Term.{both, filler, each, carrying, topmost, text, arguments, others}
use Rattle.show_term.specs.declared.Place.{Place}
use Rattle.show_term.specs.declared.Roots.{Roots}

-- what stands directly above a node: its parent, and above a root the leaf that it hangs under
abbrev pub above_in : List ℕ → List ℕ → ℕ → ℕ
above_in parents placing v = cond (eqb (get_or parents v 0) none) (get_or placing v 0) (get_or parents v 0)

-- A table of 128 entries that has it of each node.
pub record Above (n : ℕ) (parents placing above : List ℕ) : Type 0 where
  pub long : length above ≡ 128
  pub above_is : (v : ℕ) → v < n → get_or above v 0 ≡ above_in parents placing v

-- the nodes that stand directly below v, from r on, k at most
unfoldable pub roots_in : ℕ → List ℕ → ℕ → ℕ → List ℕ
roots_in zero above v r = []
roots_in (suc k) above v r = cond (entry_is above v r) (r ∷ roots_in k above v (r + 1)) (roots_in k above v (r + 1))

abbrev pub roots_from : List ℕ → ℕ → ℕ → List ℕ
roots_from above v r = roots_in (length above - r) above v r

-- the i-th child of v, counted from 0, and `none` where there is no such
unfoldable pub child_in : List ℕ → ℕ → ℕ → ℕ
child_in table v i = cond (ltb i 3) (get_or table (4 * v + suc i) 0) none

-- the children of v from the i-th on, k at most
unfoldable pub children_in : ℕ → List ℕ → ℕ → ℕ → List ℕ
children_in zero table v i = []
children_in (suc k) table v i = cond (eqb (child_in table v i) none) [] (child_in table v i ∷ children_in k table v (i + 1))

abbrev pub children_from : List ℕ → ℕ → ℕ → List ℕ
children_from table v i = children_in (3 - i) table v i

-- the term of the node v, where nodes stand k deep at most
unfoldable pub term_in : ℕ → List ℕ → NodeSet → List ℕ → ℕ → Term
term_in zero table labelled above v = filler
term_in (suc k) table labelled above v =
    cond (mem labelled v)
    (node (get_or table (4 * v) 0) (each (λ c. term_in k table labelled above c) (children_from table v 0)))
    (carrying (λ r. term_in k table labelled above r) (roots_from above v 0))

-- the texts that the functions write, each with nodes k deep at most
module _ (k : ℕ) (table : List ℕ) (labelled : NodeSet) (above : List ℕ) where
  abbrev pub node_text : ℕ → List ℕ
  node_text v = text (term_in k table labelled above v)

  abbrev pub arguments_text : ℕ → List ℕ
  arguments_text v = arguments (each (λ c. term_in k table labelled above c) (children_from table v 0))

  abbrev pub others_text : Place → List ℕ
  others_text c = others (each (λ c. term_in k table labelled above c) (children_from table c.of c.number))

  abbrev pub hole_text : ℕ → List ℕ
  hole_text v = text (carrying (λ r. term_in k table labelled above r) (roots_from above v 0))

  abbrev pub topmost_text : Roots → List ℕ
  topmost_text s = text (topmost (λ r. term_in k table labelled above r) (roots_from above s.under s.from))

  abbrev pub pair_text : ℕ → List ℕ
  pair_text r = text (both (term_in k table labelled above r) (topmost (λ r. term_in k table labelled above r) (roots_from above (get_or above r 0) (r + 1))))

-- The lowest of the nodes from `from` on that stand directly below v, and the length where there is none.
pub record Next (above : List ℕ) (v from r : ℕ) : Type 0 where
  pub within : r ≤ length above
  pub nothing : r ≡ length above → roots_from above v from ≡ []
  pub lowest : r < length above → roots_from above v from ≡ r ∷ roots_from above v (r + 1)
  pub is_below : r < length above → get_or above r 0 ≡ v

-- The tables that a text is read off: they are long enough, and children are nodes.
pub record Lent (table above : List ℕ) : Type 0 where
  pub few : length above ≤ 128
  pub long : length table ≡ 512
  pub child_node : (v i : ℕ) → v < 128 → (child_in table v i ≡ none → ⊥) → child_in table v i < 128

-- There is room for the text.
pub record Room (bytes : List ℕ) (at : ℕ) (out : List ℕ) : Type 0 where
  pub fits : at + length bytes ≤ length out
