-- Labelled sheets: the worked cases of 02, Three, by computation. Each has the bytes of a labelled sheet, the number of its refusal or 0, and
-- the bytes of the plain sheet that is handed back. Plain sheets refuse the two commands.
use Prim.Native.Nat.{ℕ}
use mathlib.Core.Path.{◌≡◌, refl}
use mathlib.Core.List.{List, [], ◌∷◌, map}
use lib.ListN.{replicate}
use Rattle.base_finite.specs.Below.{any, count, spread}
use Rattle.graph.specs.Graph.{among, different, entered, left, root, leaf, parent, rises, cyclic, bare, added_leaf, grown_tree}
use Rattle.graph.specs.Constraint.{arity, labels, dominates, differs}
use Rattle.format.specs.Sheet.{unlabelled, Outcome, refused, accepted, children, symbol, twice, mislabelled, overlapping, holed, fitted, overgrown, astray, whole, takes_two, takes_none, beyond, commands, all_commands, outcome_of, outcome, tree_edge, dominance_edge, label, differ, written, labels_of, spells, tidy_tree, tidy_dominance, tidy}
use Rattle.format.specs.Labelled.{label_literals, dominance_literals, inequalities, constraint}
use Rattle.format.specs.Refusal.{number}
use Rattle.format.specs.declared.Form.TheVariants.{Labelled}
use Rattle.format.specs.declared.Refusal.TheVariants.{Command}

abbrev answer : Outcome → ℕ × List ℕ
answer (refused why) = (number why, [])
answer (accepted s) = (0, tidy s.written)

abbrev answers : List (List ℕ) → List (ℕ × List ℕ)
answers = map (λ bs. answer (outcome_of Labelled bs))

-- one node 0:7; one node, no label; 0:64 with no child; 0:64, 1:3 and 0-1, with 0x06 and without; 0:64 twice; 0-1, no label; 0:3, 1:4 and
-- dominance 0-1; 65 nodes alone, and 64; p = n; 0x04 and 0x11; a symbol that is missing
given : answers (
    (1 ∷ 1 ∷ 5 ∷ 0 ∷ 7 ∷ 0 ∷ [])
    ∷ (1 ∷ 1 ∷ 0 ∷ [])
    ∷ (1 ∷ 1 ∷ 5 ∷ 0 ∷ 64 ∷ 0 ∷ [])
    ∷ (1 ∷ 2 ∷ 5 ∷ 0 ∷ 64 ∷ 5 ∷ 1 ∷ 3 ∷ 2 ∷ 0 ∷ 1 ∷ 6 ∷ 0 ∷ [])
    ∷ (1 ∷ 2 ∷ 5 ∷ 0 ∷ 64 ∷ 5 ∷ 1 ∷ 3 ∷ 2 ∷ 0 ∷ 1 ∷ 0 ∷ [])
    ∷ (1 ∷ 2 ∷ 5 ∷ 0 ∷ 64 ∷ 2 ∷ 0 ∷ 1 ∷ 5 ∷ 0 ∷ 64 ∷ 0 ∷ [])
    ∷ (1 ∷ 2 ∷ 2 ∷ 0 ∷ 1 ∷ 0 ∷ [])
    ∷ (1 ∷ 2 ∷ 5 ∷ 0 ∷ 3 ∷ 5 ∷ 1 ∷ 4 ∷ 6 ∷ 3 ∷ 0 ∷ 1 ∷ 0 ∷ [])
    ∷ (1 ∷ 65 ∷ 0 ∷ [])
    ∷ (1 ∷ 64 ∷ 0 ∷ [])
    ∷ (1 ∷ 1 ∷ 5 ∷ 1 ∷ 7 ∷ 0 ∷ [])
    ∷ (1 ∷ 1 ∷ 4 ∷ 0 ∷ 0 ∷ [])
    ∷ (1 ∷ 1 ∷ 17 ∷ [])
    ∷ (1 ∷ 1 ∷ 5 ∷ 1 ∷ [])
    ∷ []
    )
    ≡ (0, 1 ∷ 1 ∷ 0 ∷ []) ∷ (16, []) ∷ (14, []) ∷ (0, 1 ∷ 2 ∷ 2 ∷ 0 ∷ 1 ∷ 0 ∷ []) ∷ (15, []) ∷ (14, []) ∷ (14, []) ∷ (6, []) ∷ (13, []) ∷ (16, []) ∷ (3, []) ∷ (2, []) ∷ (2, []) ∷ (1, []) ∷ []
unfolding outcome_of all_commands commands takes_two takes_none beyond whole fitted mislabelled overlapping holed twice symbol children arity cyclic rises overgrown bare added_leaf grown_tree count astray among different entered left parent root leaf any tidy tidy_tree tidy_dominance spread
given = refl

-- the borders of the arities: 63 with a child, 64 without and with one, 127 with two, 128 with one, 191 with three, 192 with two, 255 with three
borders : answers (
    (1 ∷ 2 ∷ 5 ∷ 0 ∷ 63 ∷ 2 ∷ 0 ∷ 1 ∷ 0 ∷ [])
    ∷ (1 ∷ 1 ∷ 5 ∷ 0 ∷ 63 ∷ 0 ∷ [])
    ∷ (1 ∷ 2 ∷ 5 ∷ 0 ∷ 64 ∷ 2 ∷ 0 ∷ 1 ∷ 0 ∷ [])
    ∷ (1 ∷ 2 ∷ 5 ∷ 0 ∷ 127 ∷ 2 ∷ 0 ∷ 1 ∷ 0 ∷ [])
    ∷ (1 ∷ 3 ∷ 5 ∷ 0 ∷ 127 ∷ 2 ∷ 0 ∷ 1 ∷ 2 ∷ 0 ∷ 2 ∷ 0 ∷ [])
    ∷ (1 ∷ 2 ∷ 5 ∷ 0 ∷ 128 ∷ 2 ∷ 0 ∷ 1 ∷ 0 ∷ [])
    ∷ (1 ∷ 3 ∷ 5 ∷ 0 ∷ 191 ∷ 2 ∷ 0 ∷ 1 ∷ 2 ∷ 0 ∷ 2 ∷ 0 ∷ [])
    ∷ (1 ∷ 3 ∷ 5 ∷ 0 ∷ 192 ∷ 2 ∷ 0 ∷ 1 ∷ 2 ∷ 0 ∷ 2 ∷ 0 ∷ [])
    ∷ (1 ∷ 4 ∷ 5 ∷ 0 ∷ 255 ∷ 2 ∷ 0 ∷ 3 ∷ 2 ∷ 0 ∷ 1 ∷ 2 ∷ 0 ∷ 2 ∷ 0 ∷ [])
    ∷ (1 ∷ 5 ∷ 5 ∷ 0 ∷ 255 ∷ 2 ∷ 0 ∷ 3 ∷ 2 ∷ 0 ∷ 1 ∷ 2 ∷ 0 ∷ 2 ∷ 2 ∷ 0 ∷ 4 ∷ 0 ∷ [])
    ∷ []
    )
    ≡ (14, []) ∷ (0, 1 ∷ 1 ∷ 0 ∷ []) ∷ (0, 1 ∷ 2 ∷ 2 ∷ 0 ∷ 1 ∷ 0 ∷ []) ∷ (0, 1 ∷ 2 ∷ 2 ∷ 0 ∷ 1 ∷ 0 ∷ []) ∷ (14, []) ∷ (14, []) ∷ (0, 1 ∷ 3 ∷ 2 ∷ 0 ∷ 1 ∷ 2 ∷ 0 ∷ 2 ∷ 0 ∷ []) ∷ (14, [])
    ∷ (0, 1 ∷ 4 ∷ 2 ∷ 0 ∷ 1 ∷ 2 ∷ 0 ∷ 2 ∷ 2 ∷ 0 ∷ 3 ∷ 0 ∷ []) ∷ (14, []) ∷ []
unfolding outcome_of all_commands commands takes_two takes_none beyond whole fitted mislabelled overlapping holed twice symbol children arity cyclic rises overgrown bare added_leaf grown_tree count astray among different entered left parent root leaf any tidy tidy_tree tidy_dominance spread
borders = refl

-- the order: 14 where 15 would hold, 15 where 16 would, and 6 before 14; a dominance edge from a constant is 16
order : answers (
    (1 ∷ 2 ∷ 5 ∷ 0 ∷ 64 ∷ 5 ∷ 1 ∷ 64 ∷ 2 ∷ 0 ∷ 1 ∷ 0 ∷ [])
    ∷ (1 ∷ 3 ∷ 5 ∷ 0 ∷ 64 ∷ 5 ∷ 1 ∷ 3 ∷ 2 ∷ 0 ∷ 1 ∷ 0 ∷ [])
    ∷ (1 ∷ 3 ∷ 2 ∷ 0 ∷ 1 ∷ 3 ∷ 2 ∷ 0 ∷ 0 ∷ [])
    ∷ (1 ∷ 3 ∷ 5 ∷ 0 ∷ 64 ∷ 5 ∷ 1 ∷ 3 ∷ 5 ∷ 2 ∷ 4 ∷ 6 ∷ 2 ∷ 0 ∷ 1 ∷ 3 ∷ 1 ∷ 2 ∷ 0 ∷ [])
    ∷ (1 ∷ 3 ∷ 5 ∷ 0 ∷ 64 ∷ 5 ∷ 2 ∷ 4 ∷ 6 ∷ 2 ∷ 0 ∷ 1 ∷ 3 ∷ 1 ∷ 2 ∷ 0 ∷ [])
    ∷ []
    )
    ≡ (14, []) ∷ (15, []) ∷ (6, []) ∷ (16, []) ∷ (0, 1 ∷ 3 ∷ 2 ∷ 0 ∷ 1 ∷ 3 ∷ 1 ∷ 2 ∷ 0 ∷ []) ∷ []
unfolding outcome_of all_commands commands takes_two takes_none beyond whole fitted mislabelled overlapping holed twice symbol children arity cyclic rises overgrown bare added_leaf grown_tree count astray among different entered left parent root leaf any tidy tidy_tree tidy_dominance spread
order = refl

-- "repeating 0x06 adds nothing", before and after the labels; 2,049 bytes are 12
repeats : answers ((1 ∷ 2 ∷ 6 ∷ 5 ∷ 0 ∷ 64 ∷ 6 ∷ 6 ∷ 2 ∷ 0 ∷ 1 ∷ 5 ∷ 1 ∷ 7 ∷ 6 ∷ 0 ∷ []) ∷ (1 ∷ 1 ∷ 6 ∷ []) ∷ replicate 2049 6 ∷ []) ≡ (0, 1 ∷ 2 ∷ 2 ∷ 0 ∷ 1 ∷ 0 ∷ []) ∷ (1, []) ∷ (12, []) ∷ []
unfolding outcome_of all_commands commands takes_two takes_none beyond whole fitted mislabelled overlapping holed twice symbol children arity cyclic rises overgrown bare added_leaf grown_tree count astray among different entered left parent root leaf any tidy tidy_tree tidy_dominance spread
repeats = refl

-- "Plain sheets still refuse the two commands by 2", even where operands are missing
label_in_plain : outcome (1 ∷ 1 ∷ 5 ∷ []) ≡ refused Command
unfolding outcome_of all_commands commands takes_two takes_none
label_in_plain = refl

differ_in_plain : outcome (1 ∷ 1 ∷ 6 ∷ []) ≡ refused Command
unfolding outcome_of all_commands commands takes_two takes_none
differ_in_plain = refl

-- "Children are ordered as their 0x02 commands come": 4 nodes 0:129 with 0-2 then 0-1, 2:9, 3:5, dominance 1-3, and 0x06
ordered : constraint (spells 4 (label 0 129 ∷ tree_edge 0 2 ∷ tree_edge 0 1 ∷ label 2 9 ∷ label 3 5 ∷ dominance_edge 1 3 ∷ []))
    (labels_of (unlabelled Labelled) (label 0 129 ∷ tree_edge 0 2 ∷ tree_edge 0 1 ∷ label 2 9 ∷ label 3 5 ∷ dominance_edge 1 3 ∷ []))
    ≡ record { variables = 4; literals = labels 3 5 [] ∷ labels 2 9 [] ∷ labels 0 129 (2 ∷ 1 ∷ []) ∷ dominates 1 3 ∷ [] }
unfolding spells written labels_of label_literals dominance_literals children
ordered = refl

-- "0x06 says that all labelled nodes differ"
all_differ : constraint (spells 2 (label 0 64 ∷ differ ∷ tree_edge 0 1 ∷ label 1 3 ∷ [])) (labels_of (unlabelled Labelled) (label 0 64 ∷ differ ∷ tree_edge 0 1 ∷ label 1 3 ∷ []))
    ≡ record { variables = 2; literals = labels 1 3 [] ∷ labels 0 64 (1 ∷ []) ∷ differs 0 1 ∷ differs 1 0 ∷ [] }
unfolding spells written labels_of label_literals dominance_literals inequalities children left spread
all_differ = refl
