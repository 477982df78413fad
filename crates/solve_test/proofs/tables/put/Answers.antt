-- The union of both stored in the row.
use mathlib.Core.Path.{refl}
use native.Mathlib.Omega.{arith}
use lib.ListN.{get_or}
use Rattle.base_tables.specs.Rows.{nothing}
use Rattle.base_tables.proofs.Stored.{row_put}
use Rattle.solve_test.proofs.Filled.{put_row}
use Rattle.solve_test.proofs.tables.put.Goals as goal

pub returns : goal.returns
returns c =
    let a = c.args in
    put_row _ _ (get_or a.rows.now a.u nothing) c.requires.0 (λ v. refl) c.union.ensures (row_put a.u c.union.result a.rows.now (omega (arith, c.requires)))
