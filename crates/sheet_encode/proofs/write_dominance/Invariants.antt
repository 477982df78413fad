use lib.ListN.{length}
use Rattle.sheet_encode.specs.Tidy.{dominance_part}
use mathlib.Core.Path.{◌≡◌}
use Rattle.base_finite.specs.Stores.{Written}
use Rattle.sheet_encode.proofs.write_dominance.Given as goal

abbrev pub invariant-loop-l : goal.invariant-loop-l
invariant-loop-l l = (length l.out ≡ length l.initial.out) × Written l.initial.out l.start (dominance_part l.l l.heads) l.out l.at
