-- Small facts that hold the definitions to document 01's own examples and 02's: one that fits a definition, one that just misses it.
-- The chain of two is the document's; the others are its smallest sheets.
use Prim.Native.Nat.{ℕ}
use mathlib.Core.Path.{◌≡◌, refl}
use mathlib.Core.List.{List, [], ◌∷◌, map}
use mathlib.Core.Bool.{true, false}
use Rattle.base_finite.specs.Below.{any, all, count, least, spread, select}
use Rattle.graph.specs.Graph.{Graph, among, single, entered, left, root, leaf, parent, top, own, leaf_of, bare, added_leaf, grown_tree, grown}
use Rattle.graph.specs.Placing.{placing, hangs}
use Rattle.graph.specs.Constraint.{arity, labels, dominates, differs, positions, parents, dominances, graph_of}
use Rattle.graph.specs.Order.{count_answer}
use Rattle.graph.specs.Rule1.{problem, up, rise, depth, shallowest, problem_leaf, staying, lowest_leaf_of, shifted}
use Rattle.graph.specs.Cycle.{pairs, joined, same_edge, cycle, dominance_at, hypernormal, hypernormal_cycle}
use Rattle.graph.specs.Table.{fragment}
use Rattle.graph.specs.declared.Count.TheVariants.{Exactly, More}

-- The chain of two, as the document writes it.
unfoldable pub chain : Graph
chain =
    record {
      nodes = 12;
      tree = (0, 1) ∷ (0, 2) ∷ (3, 4) ∷ (3, 5) ∷ (6, 7) ∷ (8, 9) ∷ (10, 11) ∷ [];
      dominance = (1, 6) ∷ (2, 8) ∷ (4, 8) ∷ (5, 10) ∷ [];
    }

-- its reading 1, "3:2 6:1 8:4 10:5"
unfoldable pub chain_first : List ℕ
chain_first = 255 ∷ 255 ∷ 255 ∷ 2 ∷ 255 ∷ 255 ∷ 1 ∷ 255 ∷ 4 ∷ 255 ∷ 5 ∷ 255 ∷ []

-- own, root, leaf: 5 is a leaf of 3's fragment, 3 is not
own_of_leaf : own chain 5 ≡ 3
unfolding chain own top entered parent
own_of_leaf = refl

leaves_of_three : select 12 (leaf_of chain 3) ≡ 4 ∷ 5 ∷ []
unfolding chain leaf_of leaf left own top entered parent select spread
leaves_of_three = refl

roots_of_chain : select 12 (root chain) ≡ 0 ∷ 3 ∷ 6 ∷ 8 ∷ 10 ∷ []
unfolding chain root entered select spread
roots_of_chain = refl

-- placings: reading 1 is one; a root hung under a root, or too few bytes, is none
first_is_placing : placing chain chain_first ≡ true
unfolding chain chain_first placing root leaf entered left all
first_is_placing = refl

under_a_root_is_none : placing chain (255 ∷ 255 ∷ 255 ∷ 0 ∷ 255 ∷ 255 ∷ 1 ∷ 255 ∷ 4 ∷ 255 ∷ 5 ∷ 255 ∷ []) ≡ false
unfolding chain placing root leaf entered left all
under_a_root_is_none = refl

short_is_none : placing chain (255 ∷ []) ≡ false
unfolding chain placing root leaf entered left all
short_is_none = refl

-- "readings more than 65535" is one line, and the count is "more" just past 65,535
at_the_limit : count_answer 65535 ≡ Exactly 65535
unfolding count_answer
at_the_limit = refl

past_the_limit : count_answer 65536 ≡ More
unfolding count_answer
past_the_limit = refl

-- 0-1 with dominance 1-0: the cycle 0 2 1 3 is one; a single pair, an odd number of bytes and another kind are not
loop : Graph
loop = record { nodes = 2; tree = (0, 1) ∷ []; dominance = (1, 0) ∷ [] }

loop_is_cycle : hypernormal_cycle loop (0 ∷ 2 ∷ 1 ∷ 3 ∷ []) ≡ true
unfolding loop hypernormal_cycle hypernormal cycle pairs joined same_edge dominance_at among leaf left all count
loop_is_cycle = refl

one_edge_twice_is_none : hypernormal_cycle loop (0 ∷ 2 ∷ 1 ∷ 2 ∷ []) ≡ false
unfolding loop hypernormal_cycle hypernormal cycle pairs joined same_edge dominance_at among leaf left all count
one_edge_twice_is_none = refl

one_pair_is_none : hypernormal_cycle (record { nodes = 1; tree = (0, 0) ∷ []; dominance = [] }) (0 ∷ 2 ∷ []) ≡ false
unfolding hypernormal_cycle hypernormal cycle pairs joined same_edge dominance_at among leaf left all count
one_pair_is_none = refl

odd_is_none : hypernormal_cycle loop (0 ∷ 2 ∷ 1 ∷ 3 ∷ 0 ∷ []) ≡ false
unfolding loop hypernormal_cycle hypernormal cycle pairs joined same_edge dominance_at among leaf left all count
odd_is_none = refl

-- 0-1, 2-3, 4-5, 6-7 with 1-4, 1-6, 3-4, 3-6: "an undirected cycle, not hypernormal"
square : Graph
square =
    record {
      nodes = 8;
      tree = (0, 1) ∷ (2, 3) ∷ (4, 5) ∷ (6, 7) ∷ [];
      dominance = (1, 4) ∷ (1, 6) ∷ (3, 4) ∷ (3, 6) ∷ [];
    }

square_is_cycle : cycle square (1 ∷ 3 ∷ 4 ∷ 3 ∷ 3 ∷ 3 ∷ 6 ∷ 3 ∷ []) ≡ true
unfolding square cycle pairs joined same_edge among all
square_is_cycle = refl

square_is_not_hypernormal : hypernormal_cycle square (1 ∷ 3 ∷ 4 ∷ 3 ∷ 3 ∷ 3 ∷ 6 ∷ 3 ∷ []) ≡ false
unfolding square hypernormal_cycle hypernormal cycle pairs joined same_edge dominance_at among leaf left all count
square_is_not_hypernormal = refl

-- its reading 1 is 2:1 4:3 6:3; Rule 1 shifts 6 to 5, the configuration 2:1 4:3 6:5, which has no problem leaf
square_shifted : shifted square (255 ∷ 255 ∷ 1 ∷ 255 ∷ 3 ∷ 255 ∷ 3 ∷ 255 ∷ []) ≡ 255 ∷ 255 ∷ 1 ∷ 255 ∷ 3 ∷ 255 ∷ 5 ∷ 255 ∷ []
unfolding square shifted problem_leaf staying lowest_leaf_of shallowest problem depth rise up hangs leaf_of own top root leaf entered left parent any all count least spread
square_shifted = refl

square_done : any 8 (problem square (255 ∷ 255 ∷ 1 ∷ 255 ∷ 3 ∷ 255 ∷ 5 ∷ 255 ∷ [])) ≡ false
unfolding square problem hangs root leaf entered left any count
square_done = refl

-- the table of the chain: the record of 3 has lowest leaf 4 and 2 leaves
record_of_three : fragment chain 3 ≡ record { root = 3; lowest_leaf = 4; leaves = 2 }
unfolding chain fragment lowest_leaf_of leaf_of own top leaf entered left parent any least count
record_of_three = refl

-- 02, Two: 1-2 of four nodes; 0 and 3 stand alone, and get the leaves 4 and 5
words : Graph
words = record { nodes = 4; tree = (1, 2) ∷ []; dominance = (2, 3) ∷ [] }

words_grown : grown words ≡ record { nodes = 6; tree = (3, 5) ∷ (0, 4) ∷ (1, 2) ∷ []; dominance = (2, 3) ∷ [] }
unfolding words bare added_leaf grown_tree entered left count
words_grown = refl

-- "root, lowest leaf, number of leaves"
word_fragment : fragment (grown words) 3 ≡ record { root = 3; lowest_leaf = 5; leaves = 1 }
unfolding words bare added_leaf grown_tree entered left parent top own leaf leaf_of lowest_leaf_of least any count fragment
word_fragment = refl

-- 02, Three: "Symbols 0 to 63 take no children, 64 to 127 one, 128 to 191 two, 192 to 255 three"
arities : map arity (0 ∷ 63 ∷ 64 ∷ 127 ∷ 128 ∷ 191 ∷ 192 ∷ 255 ∷ []) ≡ 0 ∷ 0 ∷ 1 ∷ 1 ∷ 2 ∷ 2 ∷ 3 ∷ 3 ∷ []
unfolding arity
arities = refl

-- Document 000 on condition 2 of Definition 3.3: "This excludes many constraints, as for instance X:f(Y,Y), X:f(Y1,Y2) ∧ X:f(Z1,Z2) or
-- Y:f(X) ∧ Z:f(X)"; not X:f(Y) ∧ Y:f(Z)
child_twice : single (positions (labels 0 128 (1 ∷ 1 ∷ []) ∷ [])) ≡ false
unfolding single positions entered
child_twice = refl

parent_twice : single (parents (labels 0 128 (1 ∷ 2 ∷ []) ∷ labels 0 128 (3 ∷ 4 ∷ []) ∷ [])) ≡ false
unfolding single parents entered
parent_twice = refl

child_of_two : single (positions (labels 1 64 (0 ∷ []) ∷ labels 2 64 (0 ∷ []) ∷ [])) ≡ false
unfolding single positions entered
child_of_two = refl

parent_and_child : (single (positions (labels 0 64 (1 ∷ []) ∷ labels 1 64 (2 ∷ []) ∷ [])) ≡ true) × (single (parents (labels 0 64 (1 ∷ []) ∷ labels 1 64 (2 ∷ []) ∷ [])) ≡ true)
unfolding single positions parents entered
parent_and_child = (refl, refl)

-- G(φ): X:f(Y,Z) ∧ Z ◁* X is a tree edge to each child, and a dominance edge
graph_of_lem : graph_of (record { variables = 3; literals = labels 0 128 (1 ∷ 2 ∷ []) ∷ differs 0 1 ∷ dominates 2 0 ∷ [] }) ≡ record { nodes = 3; tree = (0, 1) ∷ (0, 2) ∷ []; dominance = (2, 0) ∷ [] }
unfolding positions dominances
graph_of_lem = refl
