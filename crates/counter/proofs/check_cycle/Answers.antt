-- The sheet's refusal, or the answer of its tables.
use mathlib.Core.Path.{refl, ap}
use Rattle.std.specs.Prelude.{Ok}
use Rattle.std.proofs.lemmas.Result.{err_from_is_err_and}
use Rattle.solve_start.proofs.Accepted.{sheet_of, tables_of}
use Rattle.solve_start.proofs.Starts.{parents_table}
use Rattle.counter.proofs.check_cycle.Goals as goal

pub check-requires : goal.check-requires
check-requires c = (parents_table (tables_of (sheet_of c.args.sheet.now _ c.in_ok-graph.ensures))).few

pub returns-in_err-graph : goal.returns-in_err-graph
returns-in_err-graph c =
    let p = err_from_is_err_and c.from_residual.result c.from_residual.ensures.1 in
    rw (p.1, p.2, c.in_err-graph.ensures) (record { cycle_of = refl; sheet_numbered = refl })

pub returns : goal.returns
returns c =
    let x = sheet_of c.args.sheet.now _ c.in_ok-graph.ensures in
    let called = c.check.ensures x.content.graph _ x.tables in
    rw x.is (record { cycle_of = ap Ok called; sheet_numbered = refl })
