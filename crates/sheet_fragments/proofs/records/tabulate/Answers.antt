use native.Mathlib.Omega.{arith}
use Rattle.base_finite.proofs.Laws.{count_le}
use Rattle.base_nodeset.specs.Set.{mem}
use Rattle.sheet_fragments.proofs.GraphRecords.{tabulated}
use Rattle.sheet_fragments.proofs.records.tabulate.Goals as goal

pub fill-requires : goal.fill-requires
fill-requires c = (omega (arith, c.requires.0.few, count_le 128 (mem c.args.roots)), c.owners.ensures.long)

pub returns : goal.returns
returns c = tabulated _ _ _ _ _ _ _ c.requires.1 c.inner_nodes-inner.ensures c.owners.ensures c.fill.ensures
