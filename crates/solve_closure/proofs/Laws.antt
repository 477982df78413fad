-- Rows and paths of equivalent relations.
use Prim.Native.Nat.{ℕ}
use mathlib.Core.List.{List}
use mathlib.Core.Logic.{◌↔◌}
use Rattle.base_nodeset.specs.declared.NodeSet.{NodeSet}
use Rattle.graph.specs.Graph.{Path}
use Rattle.theory_forest.proofs.Closure.{path_map}
use Rattle.base_tables.specs.Rows.{Rows}

pub rows_map : {R S : ℕ → ℕ → Type 0} {rows : List NodeSet} → ((u v : ℕ) → R u v ↔ S u v) → Rows R rows → Rows S rows
rows_map f h =
    record {
      long = h.long;
      row_is = λ u v. (λ t. (f u v).0 ((h.row_is u v).0 t), λ s. (h.row_is u v).1 ((f u v).1 s));
    }

pub path_iff : {E F : ℕ → ℕ → Type 0} → ((u v : ℕ) → E u v ↔ F u v) → (u v : ℕ) → Path E u v ↔ Path F u v
path_iff f u v = (λ p. path_map (λ x y. (f x y).0) p, λ p. path_map (λ x y. (f x y).1) p)
