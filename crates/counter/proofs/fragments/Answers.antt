-- The records that are prepared are stored, or the refusal's.
use mathlib.Core.Path.{refl}
use Rattle.std.proofs.lemmas.Result.{err_from_is_err_and}
use Rattle.format.specs.Sheet.{outcome}
use Rattle.sheet_fragments.proofs.Storing.{prepares_recorded, prepares_refused}
use Rattle.counter.proofs.Numbers.{records_numbered}
use Rattle.counter.proofs.fragments.Goals as goal

pub returns-in_err-records : goal.returns-in_err-records
returns-in_err-records c =
    let p = err_from_is_err_and c.from_residual.result c.from_residual.ensures.1 in
    let refused = prepares_refused c.args.table.now (outcome c.args.sheet.now) _ c.in_err-records.ensures in
    rw (p.1, p.2) (record { recorded = refused; records_numbered = records_numbered (outcome c.args.sheet.now) refused })

pub returns : goal.returns
returns c =
    let stored = prepares_recorded c.args.table.now (outcome c.args.sheet.now) _ _ c.in_ok-records.ensures (rw (c.copy_from_slice.ensures.after, c.as_slice.ensures.value) refl) in
    record { recorded = stored; records_numbered = records_numbered (outcome c.args.sheet.now) stored }
