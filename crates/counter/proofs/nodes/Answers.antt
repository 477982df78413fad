-- The sheet's refusal, or the number of nodes in its tables.
use mathlib.Core.Path.{refl, ap}
use Rattle.std.specs.Prelude.{Ok}
use Rattle.std.proofs.lemmas.Result.{err_from_is_err_and}
use Rattle.solve_start.proofs.Accepted.{sheet_of}
use Rattle.counter.proofs.nodes.Goals as goal

pub returns-in_err-graph : goal.returns-in_err-graph
returns-in_err-graph c =
    let p = err_from_is_err_and c.from_residual.result c.from_residual.ensures.1 in
    rw (p.1, p.2, c.in_err-graph.ensures) (record { nodes_of = refl; sheet_numbered = refl })

pub returns : goal.returns
returns c =
    let x = sheet_of c.args.sheet.now _ c.in_ok-graph.ensures in
    rw x.is (record { nodes_of = ap Ok x.tables.nodes; sheet_numbered = refl })
