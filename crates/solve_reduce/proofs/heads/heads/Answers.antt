-- The tops of the roots in the row.
use mathlib.Core.Path.{refl}
use lib.ListN.{get_or}
use Rattle.base_tables.specs.Rows.{nothing}
use native.Mathlib.Omega.{arith}
use Rattle.base_nodeset.proofs.Members.{small_set}
use Rattle.solve_reduce.proofs.Staying.{heads_row}
use Rattle.solve_reduce.proofs.heads.heads.Goals as goal

pub returns : goal.returns
returns c = heads_row c.args.roots _ c.args.l (get_or c.args.rows.now c.args.l nothing) c.intersection.result c.tops.result (small_set c.args.roots (omega (arith, c.well_formed))) (λ v. refl) c.intersection.ensures c.tops.ensures
