-- The tests after the last command, on the tables: what they are of a graph's edges once the tables hold them.
use Rattle.std.specs.Prelude.{ℕ, zero, suc, ◌≡◌, List, Bool, true, not, ◌&&◌, eqb, get_or, Result, MatchResult}
use Rattle.base_finite.specs.Below.{any}
use Rattle.base_nodeset.specs.Set.{mem}
use Rattle.base_tables.specs.Rows.{in_row}
use Rattle.base_nodeset.specs.declared.NodeSet.{NodeSet}
use Rattle.graph.specs.Graph.{Edge, none}
use Rattle.theory_edges.specs.Edges.{graph_with}
use Rattle.format.specs.declared.Refusal.{Refusal}
use Rattle.format.specs.Sheet.{Labels, refused, accepted, says, fitted, whole}

unfoldable pub rises_in : ℕ → List ℕ → ℕ → Bool
rises_in zero parents v = true
rises_in (suc k) parents v = not (eqb (get_or parents v 0) none) && rises_in k parents (get_or parents v 0)

unfoldable pub cyclic_in : ℕ → List ℕ → Bool
cyclic_in n parents = any n (rises_in n parents)

-- some r among the row's is no root, or there is one though l is no leaf
abbrev pub strays : (ℕ → Bool) → ℕ → NodeSet → NodeSet → Bool
strays row l inner roots = any 128 (λ r. row r && not (not (mem inner l) && mem roots r))

unfoldable pub astray_in : ℕ → List NodeSet → NodeSet → NodeSet → Bool
astray_in n heads inner roots = any n (λ l. strays (in_row heads l) l inner roots)

-- What a verdict on the edges says of `whole`, whatever is said of labels.
abbrev pub Judged : ℕ → List Edge → List Edge → Result Unit Refusal → Type 0
Judged n t d r = (m : Labels) → MatchResult r (λ _. whole (graph_with n t d) m ≡ fitted (graph_with n t d) m) (λ why. whole (graph_with n t d) m ≡ refused why)

-- What a verdict on the labels m says.
abbrev pub Fitted : ℕ → List Edge → List Edge → Labels → Result Unit Refusal → Type 0
Fitted n t d m r = MatchResult r (λ _. fitted (graph_with n t d) m ≡ accepted (says (graph_with n t d) m)) (λ why. fitted (graph_with n t d) m ≡ refused why)
