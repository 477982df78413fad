-- The table after some commands, and what a command adds to it.
use Rattle.std.specs.Prelude.{ℕ, suc, ◌+◌, ◌*◌, ◌<◌, ◌≡◌, List, ◌∷◌, Bool, true, false, ◌&&◌, ltb, length, get_or}
use Rattle.base_nodeset.specs.Set.{mem}
use Rattle.base_nodeset.specs.declared.NodeSet.{NodeSet}
use Rattle.graph.specs.Graph.{Edge, none}
use Rattle.format.specs.Sheet as spec
use Rattle.sheet_commands.specs.declared.command.Command.{Command}
use Rattle.sheet_commands.specs.declared.command.Command.TheVariants.{Nodes, Tree, Dominance, Label, Differ, End}

-- It holds the tree edges t and the symbols m, of both the latest first. No child is `none`, so that a place which is `none` is free.
pub record Holding (t m : List Edge) (table : List ℕ) (labelled : NodeSet) : Type 0 where
  pub labelled_are : (v : ℕ) → mem labelled v ≡ spec.labelled m v
  pub symbol_is : (v : ℕ) → v < 128 → spec.labelled m v ≡ true → get_or table (4 * v) 0 ≡ spec.symbol m v
  pub child_is : (v i : ℕ) → v < 128 → i < 3 → get_or table (4 * v + suc i) 0 ≡ get_or (spec.children t v) i none
  pub child_below : (v i : ℕ) → i < length (spec.children t v) → get_or (spec.children t v) i none < 128

-- another command follows, and the table has room for the nodes that this one is about
abbrev pub goes_on : Command → Bool
goes_on (Nodes n) = false
goes_on (Tree p c) = ltb p 128 && ltb c 128
goes_on (Dominance l r) = true
goes_on (Label p s) = ltb p 128
goes_on Differ = true
goes_on End = false

abbrev pub tree_with : List Edge → Command → List Edge
tree_with t (Nodes n) = t
tree_with t (Tree p c) = (p, c) ∷ t
tree_with t (Dominance l r) = t
tree_with t (Label p s) = t
tree_with t Differ = t
tree_with t End = t

abbrev pub symbols_with : List Edge → Command → List Edge
symbols_with m (Nodes n) = m
symbols_with m (Tree p c) = m
symbols_with m (Dominance l r) = m
symbols_with m (Label p s) = (p, s) ∷ m
symbols_with m Differ = m
symbols_with m End = m
