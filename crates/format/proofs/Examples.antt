-- Small facts that hold the definitions to document 01's own examples and 02's: the drawing and the line of the chain's reading 1,
-- the order of refusals, a tidy sheet, an edge that is repeated, the longest sheet, one-word fragments.
use Prim.Native.Nat.{suc}
use mathlib.Core.Path.{◌≡◌, refl}
use mathlib.Core.List.{[], ◌∷◌}
use lib.ListN.{replicate}
use Rattle.base_finite.specs.Below.{any, count, spread, select}
use Rattle.graph.specs.Graph.{Graph, among, different, entered, left, root, leaf, parent, top, own, leaf_of, rises, cyclic, bare, added_leaf, grown_tree}
use Rattle.format.specs.Sheet.{refused, accepted, content, overgrown, astray, fitted, whole, takes_two, takes_none, beyond, commands, all_commands, longest, outcome_of, outcome, tidy_tree, tidy_dominance, tidy}
use Rattle.graph.specs.Placing.{hangs}
use Rattle.format.specs.Text.{digits, decimal, reading_line}
use Rattle.format.specs.Drawing.{separated, leaf_text, fragment_text, drawing}
use Rattle.format.specs.declared.Refusal.TheVariants.{Missing, Command, Range, Tree, Ends, TooLong, Overgrown}
use Rattle.graph.proofs.Examples.{chain, chain_first}

-- "Reading 1 is drawn 0(1[6(7)],2[3(4[8(9)],5[10(11)])])."
drawn : drawing chain chain_first
    ≡ 48 ∷ 40 ∷ 49 ∷ 91 ∷ 54 ∷ 40 ∷ 55 ∷ 41 ∷ 93 ∷ 44 ∷ 50 ∷ 91 ∷ 51 ∷ 40 ∷ 52 ∷ 91 ∷ 56 ∷ 40 ∷ 57 ∷ 41 ∷ 93 ∷ 44
    ∷ 53 ∷ 91 ∷ 49 ∷ 48 ∷ 40 ∷ 49 ∷ 49 ∷ 41 ∷ 93 ∷ 41 ∷ 93 ∷ 41 ∷ []
unfolding chain chain_first drawing fragment_text leaf_text separated decimal digits hangs root leaf entered left leaf_of own top parent any select spread
drawn = refl

-- the line "1 3:2 6:1 8:4 10:5", and "1" alone where nothing hangs
first_line : reading_line chain 1 chain_first
    ≡ 49 ∷ 32 ∷ 51 ∷ 58 ∷ 50 ∷ 32 ∷ 54 ∷ 58 ∷ 49 ∷ 32 ∷ 56 ∷ 58 ∷ 52 ∷ 32 ∷ 49 ∷ 48 ∷ 58 ∷ 53 ∷ 10 ∷ []
unfolding chain chain_first reading_line decimal digits root entered spread
first_line = refl

-- The order of refusals: operands are missed before they are out of range.
nothing : outcome [] ≡ refused Missing
unfolding outcome_of all_commands
nothing = refl

unknown_first : outcome (5 ∷ []) ≡ refused Command
unfolding outcome_of all_commands
unknown_first = refl

too_many_nodes : outcome (1 ∷ 129 ∷ []) ≡ refused Range
unfolding outcome_of all_commands
too_many_nodes = refl

most_nodes : outcome (1 ∷ 128 ∷ []) ≡ refused Missing
unfolding outcome_of all_commands commands
most_nodes = refl

no_nodes : outcome (1 ∷ 0 ∷ []) ≡ refused Range
unfolding outcome_of all_commands
no_nodes = refl

one_node : outcome (1 ∷ 1 ∷ []) ≡ refused Missing
unfolding outcome_of all_commands commands
one_node = refl

operand_missing_first : outcome (1 ∷ 2 ∷ 2 ∷ 9 ∷ []) ≡ refused Missing
unfolding outcome_of all_commands commands takes_two takes_none
operand_missing_first = refl

astray_edge : outcome (1 ∷ 2 ∷ 2 ∷ 0 ∷ 1 ∷ 3 ∷ 0 ∷ 0 ∷ 0 ∷ []) ≡ refused Ends
unfolding outcome_of all_commands commands takes_two takes_none beyond whole fitted cyclic rises overgrown bare added_leaf grown_tree count astray among different entered left parent root leaf any
astray_edge = refl

-- the tidy sheet of the chain's first fragment, whatever the order of its commands
tidied : tidy (record { nodes = 3; tree = (0, 2) ∷ (0, 1) ∷ []; dominance = (2, 0) ∷ (1, 0) ∷ [] })
    ≡ 1 ∷ 3 ∷ 2 ∷ 0 ∷ 1 ∷ 2 ∷ 0 ∷ 2 ∷ 3 ∷ 1 ∷ 0 ∷ 3 ∷ 2 ∷ 0 ∷ 0 ∷ []
unfolding tidy tidy_tree tidy_dominance among spread
tidied = refl

-- 02, One: four nodes, 0-1, 2-3, with 1-2 twice; the edge is read as one, and the tidy sheet has it once
one_edge : Graph
one_edge = record { nodes = 4; tree = (2, 3) ∷ (0, 1) ∷ []; dominance = (1, 2) ∷ [] }

read_once : outcome (1 ∷ 4 ∷ 2 ∷ 0 ∷ 1 ∷ 2 ∷ 2 ∷ 3 ∷ 3 ∷ 1 ∷ 2 ∷ 3 ∷ 1 ∷ 2 ∷ 0 ∷ []) ≡ accepted (content one_edge)
unfolding one_edge outcome_of all_commands commands takes_two takes_none beyond whole fitted cyclic rises overgrown bare added_leaf grown_tree count astray among different entered left parent root leaf any
read_once = refl

-- the other edges stay
two_edges : Graph
two_edges = record { nodes = 4; tree = (2, 3) ∷ (0, 1) ∷ []; dominance = (1, 2) ∷ (3, 0) ∷ [] }

others_kept : outcome (1 ∷ 4 ∷ 2 ∷ 0 ∷ 1 ∷ 2 ∷ 2 ∷ 3 ∷ 3 ∷ 3 ∷ 0 ∷ 3 ∷ 1 ∷ 2 ∷ 3 ∷ 3 ∷ 0 ∷ 0 ∷ []) ≡ accepted (content two_edges)
unfolding two_edges outcome_of all_commands commands takes_two takes_none beyond whole fitted cyclic rises overgrown bare added_leaf grown_tree count astray among different entered left parent root leaf any
others_kept = refl

tidied_once : tidy one_edge ≡ 1 ∷ 4 ∷ 2 ∷ 0 ∷ 1 ∷ 2 ∷ 2 ∷ 3 ∷ 3 ∷ 1 ∷ 2 ∷ 0 ∷ []
unfolding one_edge tidy tidy_tree tidy_dominance among spread
tidied_once = refl

-- a tree edge twice is 4, and a repeat of an edge that is astray is 6
tree_edge_twice : outcome (1 ∷ 4 ∷ 2 ∷ 0 ∷ 1 ∷ 2 ∷ 0 ∷ 1 ∷ 2 ∷ 2 ∷ 3 ∷ 0 ∷ []) ≡ refused Tree
unfolding outcome_of all_commands commands takes_two takes_none beyond entered
tree_edge_twice = refl

astray_twice : outcome (1 ∷ 4 ∷ 2 ∷ 0 ∷ 1 ∷ 2 ∷ 2 ∷ 3 ∷ 3 ∷ 0 ∷ 2 ∷ 3 ∷ 0 ∷ 2 ∷ 0 ∷ []) ≡ refused Ends
unfolding outcome_of all_commands commands takes_two takes_none beyond whole fitted cyclic rises overgrown bare added_leaf grown_tree count astray among different entered left parent root leaf any
astray_twice = refl

-- 2,048 zeros are 2, and one more is 12
zeros_read : outcome (replicate longest 0) ≡ refused Command
unfolding outcome_of all_commands
zeros_read = refl

zeros_too_long : outcome (replicate (suc longest) 0) ≡ refused TooLong
unfolding outcome_of
zeros_too_long = refl

-- 02, Two: a node alone is a fragment with a leaf added, which tidying does not write
word : Graph
word = record { nodes = 1; tree = []; dominance = [] }

word_read : outcome (1 ∷ 1 ∷ 0 ∷ []) ≡ accepted (content word)
unfolding word outcome_of all_commands commands takes_two takes_none whole fitted cyclic rises overgrown bare added_leaf grown_tree count astray among entered left any
word_read = refl

word_tidy : tidy word ≡ 1 ∷ 1 ∷ 0 ∷ []
unfolding word tidy tidy_tree tidy_dominance among spread
word_tidy = refl

-- 64 nodes alone are 128 with their leaves; 65 are 13, also where an edge is astray, and after a cycle of tree edges
words_64 : outcome (1 ∷ 64 ∷ 0 ∷ []) ≡ accepted (content (record { nodes = 64; tree = []; dominance = [] }))
unfolding outcome_of all_commands commands takes_two takes_none whole fitted cyclic rises overgrown bare added_leaf grown_tree count astray among entered left any
words_64 = refl

words_65 : outcome (1 ∷ 65 ∷ 0 ∷ []) ≡ refused Overgrown
unfolding outcome_of all_commands commands takes_two takes_none whole fitted cyclic rises overgrown bare added_leaf count entered left any
words_65 = refl

overgrown_before_astray : outcome (1 ∷ 65 ∷ 3 ∷ 0 ∷ 0 ∷ 0 ∷ []) ≡ refused Overgrown
unfolding outcome_of all_commands commands takes_two takes_none beyond whole fitted cyclic rises overgrown bare added_leaf count among different entered left any
overgrown_before_astray = refl

tree_loop_before_overgrown : outcome (1 ∷ 67 ∷ 2 ∷ 0 ∷ 1 ∷ 2 ∷ 1 ∷ 0 ∷ 0 ∷ []) ≡ refused Tree
unfolding outcome_of all_commands commands takes_two takes_none beyond whole cyclic rises overgrown bare count entered left parent any
tree_loop_before_overgrown = refl

-- an edge from a node alone is astray, even to itself, and its leaf cannot be named
word_astray : outcome (1 ∷ 1 ∷ 3 ∷ 0 ∷ 0 ∷ 0 ∷ []) ≡ refused Ends
unfolding outcome_of all_commands commands takes_two takes_none beyond whole fitted cyclic rises overgrown bare added_leaf grown_tree count astray among different entered left parent root leaf any
word_astray = refl

leaf_unnamed : outcome (1 ∷ 1 ∷ 3 ∷ 1 ∷ 0 ∷ 0 ∷ []) ≡ refused Range
unfolding outcome_of all_commands commands takes_two takes_none beyond
leaf_unnamed = refl

-- two sheets that mean one graph, and have two tidy forms
words : Graph
words = record { nodes = 2; tree = []; dominance = [] }

fragments : Graph
fragments = record { nodes = 4; tree = (1, 3) ∷ (0, 2) ∷ []; dominance = [] }

words_read : outcome (1 ∷ 2 ∷ 0 ∷ []) ≡ accepted (content words)
unfolding words outcome_of all_commands commands takes_two takes_none whole fitted cyclic rises overgrown bare added_leaf grown_tree count astray among entered left any
words_read = refl

fragments_read : outcome (1 ∷ 4 ∷ 2 ∷ 0 ∷ 2 ∷ 2 ∷ 1 ∷ 3 ∷ 0 ∷ []) ≡ accepted (content fragments)
unfolding fragments outcome_of all_commands commands takes_two takes_none beyond whole fitted cyclic rises overgrown bare added_leaf grown_tree count astray among entered left parent any
fragments_read = refl

one_graph : (content words).graph ≡ (content fragments).graph
unfolding words fragments bare added_leaf grown_tree count entered left
one_graph = refl

words_tidy : tidy words ≡ 1 ∷ 2 ∷ 0 ∷ []
unfolding words tidy tidy_tree tidy_dominance among spread
words_tidy = refl

fragments_tidy : tidy fragments ≡ 1 ∷ 4 ∷ 2 ∷ 0 ∷ 2 ∷ 2 ∷ 1 ∷ 3 ∷ 0 ∷ []
unfolding fragments tidy tidy_tree tidy_dominance among spread
fragments_tidy = refl
