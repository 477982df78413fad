-- The row without r stored.
use mathlib.Core.Path.{refl}
use native.Mathlib.Omega.{arith}
use Rattle.solve_cycle.proofs.Thins.{row_out}
use Rattle.base_tables.proofs.Stored.{row_put}
use Rattle.solve_cycle.proofs.minimal.take_out.Goals as goal

pub returns : goal.returns
returns c =
    row_out _ _ _ (record { nodes = refl; parents = refl }) (λ v. refl) c.without.ensures (row_put _ _ _ (omega arith))
