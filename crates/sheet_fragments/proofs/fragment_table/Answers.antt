-- There are as many records as roots: what has room for three bytes a root has room for the records.
use native.Mathlib.Omega.{arith}
use Rattle.base_finite.proofs.Laws.{count_le}
use Rattle.base_nodeset.specs.Set.{mem}
use Rattle.sheet_fragments.proofs.Answers.{read_parents, records_read, one_each, small_table}
use Rattle.sheet_fragments.proofs.Storing.{all_stored}
use Rattle.sheet_fragments.proofs.fragment_table.Goals as goal

pub root_nodes-roots-requires : goal.root_nodes-roots-requires
root_nodes-roots-requires c = read_parents c.args.sheet.now c.in_ok-graph.graph c.in_ok-graph.ensures

pub overflow_mul-fragments : goal.overflow_mul-fragments
overflow_mul-fragments c =
    let p = read_parents c.args.sheet.now c.in_ok-graph.graph c.in_ok-graph.ensures in
    omega (arith, p.few, count_le 128 (mem c.root_nodes-roots.result))

pub returns-then-out-fragments : goal.returns-then-out-fragments
returns-then-out-fragments c =
    let r = c.in_ok-graph in
    small_table c.args.sheet.now r.graph r.ensures c.root_nodes-roots.result c.root_nodes-roots.ensures c.args.out.now (omega arith)

pub tabulate-records-requires : goal.tabulate-records-requires
tabulate-records-requires c = (read_parents c.args.sheet.now c.in_ok-graph.graph c.in_ok-graph.ensures, c.root_nodes-roots.ensures)

pub as_slice-requires : goal.as_slice-requires
as_slice-requires c =
    let r = c.in_ok-graph in
    omega (arith, (records_read c.args.sheet.now r.graph r.ensures _ c.tabulate-records.ensures).2.few)

pub put-requires : goal.put-requires
put-requires c =
    let r = c.in_ok-graph in
    let p = c.tabulate-records in
    omega (arith, one_each c.args.sheet.now r.graph r.ensures c.root_nodes-roots.result c.root_nodes-roots.ensures p.result p.ensures)

pub returns : goal.returns
returns c =
    let r = c.in_ok-graph in
    let p = c.tabulate-records in
    let e = one_each c.args.sheet.now r.graph r.ensures c.root_nodes-roots.result c.root_nodes-roots.ensures p.result p.ensures in
    all_stored _ p.result _ _ _ (records_read c.args.sheet.now r.graph r.ensures p.result p.ensures) (omega (arith, e)) c.as_slice.ensures.value c.put.ensures
