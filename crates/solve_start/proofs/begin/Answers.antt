-- What the parts promise, put together.
use Prim.Native.Nat.{ℕ}
use mathlib.Core.Path.{◌≡◌}
use native.Mathlib.Omega.{arith}
use Rattle.solve_start.proofs.Starts.{parents_table, started, not_started}
use Rattle.solve_start.proofs.begin.Goals as goal

pub graph_rows-requires : goal.graph_rows-requires
graph_rows-requires c = (parents_table c.requires.0, c.requires.1)

pub read_trees-trees-requires : goal.read_trees-trees-requires
read_trees-trees-requires c = parents_table c.requires.0

pub solvable-requires : goal.solvable-requires
solvable-requires c = (c.read_trees-trees.ensures.bounded.0, omega (arith, c.requires.1, c.graph_rows.auto))

pub returns-then-solvable : goal.returns-then-solvable
returns-then-solvable c =
    let t = c.read_trees-trees in
    record {
      n_value = λ trees is.
          let same : trees ≡ t.result = cc in
          rw same t.ensures.bounded.1;
      started = λ s. started s t.result t.ensures.bounded.0 t.ensures.trees_of (c.graph_rows.ensures s.graph s.edges s.tables) c.solvable.result c.solvable.ensures c.if-solvable.true;
    }

pub returns-else-solvable : goal.returns-else-solvable
returns-else-solvable c =
    let t = c.read_trees-trees in
    record {
      n_value = λ trees is. let z : ◌≡◌ {A = ℕ} 0 1 = cc in absurd (omega arith);
      started = λ s. not_started s t.result t.ensures.bounded.0 t.ensures.trees_of (c.graph_rows.ensures s.graph s.edges s.tables) c.solvable.result c.solvable.ensures c.if-solvable.false;
    }
