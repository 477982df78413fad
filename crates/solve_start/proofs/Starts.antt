-- The tables as the parts fill them are those that a walk is given.
use Prim.Native.Nat.{ℕ}
use mathlib.Core.Path.{◌≡◌, refl, sym, ◌∙◌}
use mathlib.Core.List.{List}
use mathlib.Core.Bool.{Bool, true, false, true≢false}
use mathlib.Core.Logic.{◌↔◌}
use native.Mathlib.Omega.{arith}
use Rattle.std.specs.Prelude.{None, Some}
use Rattle.base_nodeset.specs.declared.NodeSet.{NodeSet}
use Rattle.graph.specs.Graph.{Graph, Descent}
use Rattle.graph.specs.Placing.{Solvable}
use Rattle.theory_forest.specs.Shape.{Shaped}
use Rattle.theory_forest.proofs.Shape.{well_formed_shaped}
use Rattle.base_tables.specs.Rows.{Rows}
use Rattle.base_tables.specs.Trees.{Parents, TreeOf, Owners, Fits}
use Rattle.base_tables.specs.declared.trees.Trees.{Trees}
use Rattle.base_tables.specs.declared.Graph.{Graph as Value}
use Rattle.base_tables.specs.Tables.{SheetTables}
use Rattle.base_tables.proofs.TreeLaws.{tree_of, tables_parents}
use Rattle.solve_test.specs.Tables.{EndRows}
use Rattle.solve_test.proofs.Solved.{end_rows}
use Rattle.solve_start.specs.Started.{Started}

module _ {value : Value} (s : SheetTables value) where
  pub parents_table : Parents value.n value.parent
  parents_table = tables_parents s.tables

  module _ (t : Trees) (owned : Owners t) (fits : (g : Graph) → Shaped g → TreeOf g value.n value.parent → Fits g t) {rows : List NodeSet} (closed : Rows (Descent s.graph) rows) (b : Bool) (tests : (g : Graph) → Fits g t → EndRows g rows → (b ≡ true) ↔ Solvable g) where
    here : Fits s.graph t
    here = fits s.graph (well_formed_shaped s.tables.well_formed) (tree_of s.tables)

    is_solvable : (b ≡ true) ↔ Solvable s.graph
    is_solvable = tests s.graph here (end_rows s.graph closed)

    pub started : b ≡ true → Started s.graph rows (Some t)
    started e =
        record {
          solved = λ u is.
              let same : u ≡ t = cc in
              rw same (record { sheet = record { walked = record { graph = s.graph; table = owned; fits = here }; solvable = is_solvable.0 e; rows_are = closed }; is = refl });
          unsolved = λ is. let z : ◌≡◌ {A = ℕ} 0 1 = cc in absurd (omega arith);
        }

    pub not_started : b ≡ false → Started s.graph rows None
    not_started e =
        record {
          solved = λ u is. let z : ◌≡◌ {A = ℕ} 0 1 = cc in absurd (omega arith);
          unsolved = λ is x. true≢false (sym (is_solvable.1 x) ∙ e);
        }
