-- The sheet's refusal, or the answer of its tables.
use mathlib.Core.Path.{refl}
use Rattle.std.proofs.lemmas.Result.{err_from_is_err_and}
use Rattle.solve_start.proofs.Accepted.{sheet_of, tables_of}
use Rattle.counter.proofs.Numbers.{placing_numbered}
use Rattle.counter.proofs.check_placing.Goals as goal

pub checked_placing-requires : goal.checked_placing-requires
checked_placing-requires c = tables_of (sheet_of c.args.sheet.now _ c.in_ok-graph.ensures)

pub returns-in_err-graph : goal.returns-in_err-graph
returns-in_err-graph c =
    let p = err_from_is_err_and c.from_residual.result c.from_residual.ensures.1 in
    rw (p.1, p.2, c.in_err-graph.ensures) (record { placing_of = refl; placing_numbered = refl })

pub returns : goal.returns
returns c =
    let x = sheet_of c.args.sheet.now _ c.in_ok-graph.ensures in
    let called = c.checked_placing.ensures (tables_of x) in
    rw x.is (record { placing_of = called; placing_numbered = placing_numbered x.content called })
