-- One step of Rule 1, and all of them.
use Rattle.std.specs.Prelude.{◌≡◌, ℕ, List, Bool, cond, take, drop}
use Rattle.base_finite.specs.Below.{any}
use Rattle.graph.specs.Graph.{Graph}
use Rattle.graph.specs.Rule1.{problem, shifted, Rule1}
use Rattle.solve_rule1.specs.Solved.{Solved}

-- whether a leaf carries several roots, and the placing afterwards
pub record Stepped (g : Graph) (p : List ℕ) (r : Bool) (q : List ℕ) : Type 0 where
  pub answer : r ≡ any g.nodes (problem g p)
  pub placing : q ≡ cond r (shifted g p) p

-- "Repeat.": the first n bytes are where Rule 1 ends, and the others are as before
pub record Configured (n : ℕ) (parents old new : List ℕ) : Type 0 where
  pub reached : (s : Solved n parents (take n old)) → Rule1 s.sheet.graph (take n old) (take n new)
  pub others : drop n new ≡ drop n old
