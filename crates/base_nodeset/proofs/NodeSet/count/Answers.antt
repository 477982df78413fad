-- The set bits of both words, at most 64 of each.
use native.Mathlib.Nat.{add-le-add, lt_of_le_of_lt}
use native.Mathlib.Omega.{arith}
use lib.Count.{ones-le}
use Rattle.base_nodeset.proofs.Laws.{count_member}
use Rattle.base_nodeset.proofs.NodeSet.count.Goals as goal

pub overflow_cast-result : goal.overflow_cast-result
overflow_cast-result c = record { fits = lt_of_le_of_lt (ones-le 64 _ (omega arith)) (omega arith) }

pub overflow_cast-result-2 : goal.overflow_cast-result-2
overflow_cast-result-2 c = record { fits = lt_of_le_of_lt (ones-le 64 _ (omega arith)) (omega arith) }

pub overflow_add-result : goal.overflow_add-result
overflow_add-result c = record { fits = lt_of_le_of_lt (add-le-add (ones-le 64 _ (omega arith)) (ones-le 64 _ (omega arith))) (omega arith) }

pub returns : goal.returns
returns c = count_member _ _ (omega arith) (omega arith)
