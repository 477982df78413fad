use Rattle.std.proofs.Common.{◌≡◌, ◌*◌, take}
use Rattle.std.proofs.lemmas.List.Edits.{sets}
use Rattle.sheet_fragments.specs.Table.{flat}
use Rattle.sheet_fragments.proofs.put.Given as goal

abbrev pub invariant-loop-fragment : goal.invariant-loop-fragment
invariant-loop-fragment l = (l.at ≡ 3 * l.fragment-index) × (l.out ≡ sets l.initial.out 0 (flat (take l.fragment-index l.records)))
