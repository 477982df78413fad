use native.Mathlib.Omega.{arith}
use Rattle.base_finite.proofs.Laws.{least_le, count_le}
use Rattle.base_nodeset.specs.Set.{mem}
use Rattle.sheet_fragments.proofs.Owned.{fragment_of}
use Rattle.sheet_fragments.proofs.records.record.Goals as goal

pub overflow_cast-result : goal.overflow_cast-result
overflow_cast-result c = omega (arith, least_le 128 (mem c.difference-leaves.result), count_le 128 (mem c.difference-leaves.result))

pub overflow_cast-result-2 : goal.overflow_cast-result-2
overflow_cast-result-2 c = omega (arith, count_le 128 (mem c.difference-leaves.result))

pub returns : goal.returns
returns c = fragment_of _ _ _ _ _ _ _ _ c.nodes_with.ensures c.difference-leaves.ensures (omega arith) (omega arith)
