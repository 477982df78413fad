use Rattle.sheet_fragments.proofs.Answers.{read_parents, records_read}
use Rattle.sheet_fragments.proofs.records.read_records.Goals as goal

pub root_nodes-roots-requires : goal.root_nodes-roots-requires
root_nodes-roots-requires c = read_parents c.args.sheet.now c.in_ok-graph.graph c.in_ok-graph.ensures

pub tabulate-requires : goal.tabulate-requires
tabulate-requires c = (read_parents c.args.sheet.now c.in_ok-graph.graph c.in_ok-graph.ensures, c.root_nodes-roots.ensures)

pub returns : goal.returns
returns c = records_read c.args.sheet.now c.in_ok-graph.graph c.in_ok-graph.ensures c.tabulate.result c.tabulate.ensures
