-- The sheet: how its bytes spell a graph, which refusal is the first to hold, and the tidy sheet (document 01, "The
-- sheet" and "Who can cause which refusal"; document 02, One to Three).
use Rattle.std.specs.Prelude.{ℕ, ◌≤◌, ◌≡◌, List, [], ◌∷◌, ◌++◌, Bool, true, false, cond, not, ◌&&◌, ◌||◌, eqb, leb, ltb, length}
use Rattle.base_finite.specs.Below.{any, count, spread}
use Rattle.graph.specs.Graph.{Edge, Graph, among, different, entered, left, root, leaf, cyclic, bare, grown, WellWritten}
use Rattle.graph.specs.Constraint.{arity}
use Rattle.format.specs.declared.Form.{Form}
use Rattle.format.specs.declared.Form.TheVariants.{Plain, Labelled}
use Rattle.format.specs.declared.Refusal.{Refusal}
use Rattle.format.specs.declared.Refusal.TheVariants.{Missing, Command, Range, Tree, Ends, TooMany, TooLong, Overgrown, Label, Overlap, Hole}

-- "Labelled sheets have a call of their own", and two commands of their own
abbrev pub takes_labels : Form → Bool
takes_labels Plain = false
takes_labels Labelled = true

-- What a sheet says of labels: its form, each node that is labelled with its symbol, the latest first, and whether "all labelled nodes
-- differ".
pub record Labels : Type 0 where
  pub form : Form
  pub symbols : List Edge
  pub differ : Bool

-- before the first command
abbrev pub unlabelled : Form → Labels
unlabelled f = record { form = f; symbols = []; differ = false }

-- "0x05 p s gives node p the symbol s"
abbrev pub labelling : Labels → ℕ → ℕ → Labels
labelling m p s = record { form = m.form; symbols = (p, s) ∷ m.symbols; differ = m.differ }

-- "0x06 says that all labelled nodes differ; repeating 0x06 adds nothing"
abbrev pub differing : Labels → Labels
differing m = record { form = m.form; symbols = m.symbols; differ = true }

-- What a sheet says: the nodes and edges that it writes, and the graph that they mean. 02, Two: tidying goes by the one, "Readings
-- and the no-reading verdict are those of the grown graph". A plain sheet has no labels.
pub record Content : Type 0 where
  pub written : Graph
  pub graph : Graph
  pub labels : Labels

abbrev pub says : Graph → Labels → Content
says g m = record { written = g; graph = grown g; labels = m }

abbrev pub content : Graph → Content
content g = says g (unlabelled Plain)

-- What the bytes of a sheet come to.
pub data Outcome : Type 0 where
  refused : Refusal → Outcome
  accepted : Content → Outcome

-- 02, Two: "13 when the grown number exceeds 128"
unfoldable pub overgrown : Graph → Bool
overgrown g = ltb 128 (grown g).nodes

-- 6: "a dominance edge doesn't go from a leaf to a root"
unfoldable pub astray : Graph → Bool
astray g = any g.nodes (λ l. any g.nodes (λ r. among g.dominance l r && not (leaf g l && root g r)))

-- "Children are ordered as their 0x02 commands come", the latest of which is the first edge of the list
unfoldable pub children : List Edge → ℕ → List ℕ
children [] p = []
children (e ∷ t) p = children t p ++ cond (eqb e.0 p) (e.1 ∷ []) []

-- some label of the list is v's
abbrev pub labelled : List Edge → ℕ → Bool
labelled = left

-- the symbol that v was given last, and 0 where it has none
unfoldable pub symbol : List Edge → ℕ → ℕ
symbol [] v = 0
symbol (e ∷ ls) v = cond (eqb e.0 v) e.1 (symbol ls v)

-- "a node labelled twice", with the same symbol or another
unfoldable pub twice : List Edge → Bool
twice [] = false
twice (e ∷ ls) = labelled ls e.0 || twice ls

-- "whose children don't fit its symbol, unlabelled nodes having none"
abbrev pub misfit : Graph → List Edge → ℕ → Bool
misfit g ls v = not (eqb (length (children g.tree v)) (cond (labelled ls v) (arity (symbol ls v)) 0))

-- 14
unfoldable pub mislabelled : Graph → List Edge → Bool
mislabelled g ls = twice ls || any g.nodes (misfit g ls)

-- 15: "two labelled nodes without 0x06"
unfoldable pub overlapping : Graph → Labels → Bool
overlapping g m = not m.differ && ltb 1 (count g.nodes (labelled m.symbols))

-- 16: "a dominance edge from a labelled leaf, or an unlabelled node without tree edges"; after 6 a dominance edge starts from a leaf
unfoldable pub holed : Graph → List Edge → Bool
holed g ls = any g.nodes (λ v. cond (labelled ls v) (left g.dominance v) (bare g v))

-- "14 .. 15 .. 16 .. after 6, in this order", of a labelled sheet
unfoldable pub fitted : Graph → Labels → Outcome
fitted g m =
    cond (takes_labels m.form && mislabelled g m.symbols)
    (refused Label)
    (cond (takes_labels m.form && overlapping g m)
    (refused Overlap)
    (cond (takes_labels m.form && holed g m.symbols) (refused Hole) (accepted (says g m))))

-- "After the last command, in this order": 4, 13 "where 5 stood", 6. A node without tree edges is a root of its own and never a leaf, so
-- that 6 is about the grown graph, too.
unfoldable pub whole : Graph → Labels → Outcome
whole g m = cond (cyclic g) (refused Tree) (cond (overgrown g) (refused Overgrown) (cond (astray (grown g)) (refused Ends) (fitted g m)))

-- 0x02 and 0x03 take two operands, and 0x05 where labels are in place
unfoldable pub takes_two : Form → ℕ → Bool
takes_two f b = eqb b 2 || (eqb b 3 || (takes_labels f && eqb b 5))

-- 0x06 takes none
unfoldable pub takes_none : Form → ℕ → Bool
takes_none f b = takes_labels f && eqb b 6

-- an operand is n or more
unfoldable pub beyond : ℕ → ℕ → ℕ → Bool
beyond n x y = leb n x || leb n y

-- One of two outcomes. Only that one is worked out, so that the commands of a sheet of any length can be computed.
abbrev pub pick : Bool → (Unit {0} → Outcome) → (Unit {0} → Outcome) → Outcome
pick b x y = cond b x y tt

-- The commands after the first, with n nodes, the tree edges t and the dominance edges d read so far (the latest first), and what is
-- said of labels. "Within a command: 1 for the command byte, 2, 1 for operands, 3, then 4", or 8. 02, One: "a repeat is to be read as a
-- single edge", and "8 counts different edges".
unfoldable pub commands : ℕ → List Edge → List Edge → Labels → List ℕ → Outcome
commands n t d m [] = refused Missing
commands n t d m (b ∷ []) =
    cond (eqb b 0) (whole (record { nodes = n; tree = t; dominance = d }) m) (refused (cond (takes_none m.form b || takes_two m.form b) Missing Command))
commands n t d m (b ∷ x ∷ []) =
    cond (takes_none m.form b) (commands n t d (differing m) (x ∷ [])) (refused (cond (takes_two m.form b) Missing Command))
commands n t d m (b ∷ x ∷ y ∷ rest) =
    pick (takes_none m.form b)
    (λ _. commands n t d (differing m) (x ∷ y ∷ rest))
    (λ _. pick (eqb b 2)
    (λ _. cond (beyond n x y)
    (refused Range)
    (cond (eqb x y || entered t y)
    (refused Tree)
    (commands n ((x, y) ∷ t) d m rest)))
    (λ _. pick (eqb b 3)
    (λ _. cond (beyond n x y)
    (refused Range)
    (pick (among d x y)
    (λ _. commands n t d m rest)
    (λ _. cond (leb 255 (different d))
    (refused TooMany)
    (commands n t ((x, y) ∷ d) m rest))))
    (λ _. cond (takes_two m.form b)
    (cond (leb n x)
    (refused Range)
    (commands n t d (labelling m x y) rest))
    (refused Command))))

-- "0x01 n: there are n nodes, 2 to 128, numbered from 0. First command, once." 02, Two: "n may be 1".
unfoldable pub all_commands : Form → List ℕ → Outcome
all_commands f [] = refused Missing
all_commands f (b ∷ []) = refused (cond (eqb b 1) Missing Command)
all_commands f (b ∷ n ∷ rest) = cond (eqb b 1) (cond (leb 1 n && leb n 128) (commands n [] [] (unlabelled f) rest) (refused Range)) (refused Command)

-- the most bytes of a sheet
abbrev pub longest : ℕ
longest = 2048

-- 02, One: "12 for more than 2,048 bytes, before every other check"
unfoldable pub outcome_of : Form → List ℕ → Outcome
outcome_of f bs = cond (ltb longest (length bs)) (refused TooLong) (all_commands f bs)

-- of a plain sheet
abbrev pub outcome : List ℕ → Outcome
outcome = outcome_of Plain

-- A command after the first.
pub data SheetCommand : Type 0 where
  -- 0x02 p c: a tree edge from parent p to child c
  tree_edge : ℕ → ℕ → SheetCommand
  -- 0x03 l r: a dominance edge from leaf l to root r
  dominance_edge : ℕ → ℕ → SheetCommand
  -- 0x05 p s: the symbol of node p
  label : ℕ → ℕ → SheetCommand
  -- 0x06: all labelled nodes differ
  differ : SheetCommand

-- the bytes of the commands, up to the end
unfoldable pub spelt : List SheetCommand → List ℕ
spelt [] = 0 ∷ []
spelt (tree_edge p c ∷ cs) = 2 ∷ p ∷ c ∷ spelt cs
spelt (dominance_edge l r ∷ cs) = 3 ∷ l ∷ r ∷ spelt cs
spelt (label p s ∷ cs) = 5 ∷ p ∷ s ∷ spelt cs
spelt (differ ∷ cs) = 6 ∷ spelt cs

-- the edges that the commands write, on top of t and d; one that is written twice is in the list twice
unfoldable pub written : ℕ → List Edge → List Edge → List SheetCommand → Graph
written n t d [] = record { nodes = n; tree = t; dominance = d }
written n t d (tree_edge p c ∷ cs) = written n ((p, c) ∷ t) d cs
written n t d (dominance_edge l r ∷ cs) = written n t ((l, r) ∷ d) cs
written n t d (label p s ∷ cs) = written n t d cs
written n t d (differ ∷ cs) = written n t d cs

-- what they say of labels, on top of m
unfoldable pub labels_of : Labels → List SheetCommand → Labels
labels_of m [] = m
labels_of m (tree_edge p c ∷ cs) = labels_of m cs
labels_of m (dominance_edge l r ∷ cs) = labels_of m cs
labels_of m (label p s ∷ cs) = labels_of (labelling m p s) cs
labels_of m (differ ∷ cs) = labels_of (differing m) cs

-- "Plain sheets still refuse the two commands"
unfoldable pub in_form : Form → List SheetCommand → Bool
in_form f [] = true
in_form f (tree_edge p c ∷ cs) = in_form f cs
in_form f (dominance_edge l r ∷ cs) = in_form f cs
in_form f (label p s ∷ cs) = takes_labels f && in_form f cs
in_form f (differ ∷ cs) = takes_labels f && in_form f cs

-- The sheet with n nodes and these commands, and the graph that it writes.
unfoldable pub sheet : ℕ → List SheetCommand → List ℕ
sheet n cs = 1 ∷ n ∷ spelt cs

unfoldable pub spells : ℕ → List SheetCommand → Graph
spells n cs = written n [] [] cs

-- The bytes are a well-formed sheet: what they spell grows into a dominance graph with 01's bounds. 02, One: "A sheet that gets 12 isn't
-- well-formed."
abbrev pub WellFormedSheet : List ℕ → Type 0
WellFormedSheet bs =
    (n : ℕ) × (cs : List SheetCommand) × (bs ≡ sheet n cs) × (in_form Plain cs ≡ true) × WellWritten (spells n cs) × (length bs ≤ longest)

-- "The tidy sheet has 0x01, then tree edges by ascending child, then dominance edges by ascending leaf and then root,
-- then 0x00." 02, One: "The tidy sheet has each edge once". 02, Two: "Tidying writes no added leaf", as g is what is written.
unfoldable pub tidy_tree : Graph → List ℕ
tidy_tree g = spread g.nodes (λ c. spread g.nodes (λ p. cond (among g.tree p c) (2 ∷ p ∷ c ∷ []) []))

unfoldable pub tidy_dominance : Graph → List ℕ
tidy_dominance g = spread g.nodes (λ l. spread g.nodes (λ r. cond (among g.dominance l r) (3 ∷ l ∷ r ∷ []) []))

unfoldable pub tidy : Graph → List ℕ
tidy g = 1 ∷ g.nodes ∷ tidy_tree g ++ tidy_dominance g ++ 0 ∷ []
