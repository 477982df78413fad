use lib.ListN.{length}
use Rattle.sheet_encode.specs.Tidy.{tree_part}
use mathlib.Core.Path.{◌≡◌}
use Rattle.base_finite.specs.Stores.{Written}
use Rattle.sheet_encode.proofs.write_tree.Given as goal

abbrev pub invariant-loop-c : goal.invariant-loop-c
invariant-loop-c l = (length l.out ≡ length l.initial.out) × Written l.initial.out l.start (tree_part l.c l.parent) l.out l.at
