-- The records of the roots below r stand at the front.
use Rattle.std.proofs.Common.{◌≡◌, ◌≤◌, length, take}
use Rattle.sheet_fragments.specs.Owner.{records_below}
use Rattle.sheet_fragments.proofs.records.fill.Given as goal

abbrev pub invariant-loop-r : goal.invariant-loop-r
invariant-loop-r l = (take l.count l.fragments ≡ records_below l.r l.n l.owner l.inner l.roots) × (l.count ≤ l.r) × (length l.fragments ≡ 128)
