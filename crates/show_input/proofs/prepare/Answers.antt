-- The sheet's refusal, no reading, or the tables that the walk starts from.
use mathlib.Core.Path.{refl}
use Rattle.std.proofs.lemmas.Result.{err_from_is_err_and}
use Rattle.solve_start.proofs.Accepted.{sheet_of, tables_of}
use Rattle.show_input.specs.Input.{Prepared}
use Rattle.show_input.proofs.prepare.Goals as goal

pub begin-requires : goal.begin-requires
begin-requires c =
    let s = tables_of (sheet_of c.args.sheet.now _ c.in_ok-graph.ensures) in (s, refl)

pub returns-in_err-graph : goal.returns-in_err-graph
returns-in_err-graph c =
    let p = err_from_is_err_and c.from_residual.result c.from_residual.ensures.1 in
    rw (p.1, p.2, c.in_err-graph.ensures) (Prepared.refusal refl)

pub returns-in_default : goal.returns-in_default
returns-in_default c =
    let x = sheet_of c.args.sheet.now _ c.in_ok-graph.ensures in
    rw x.is (Prepared.no_reading ((c.begin.ensures.started (tables_of x)).unsolved c.in_default.is) refl)

pub returns : goal.returns
returns c =
    let x = sheet_of c.args.sheet.now _ c.in_ok-graph.ensures in
    rw x.is
    (Prepared.ready refl
    (record { walkable = (c.begin.ensures.started (tables_of x)).solved _ c.in-Some.is }))
