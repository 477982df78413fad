-- Reading 1 and Rule 1; the refusals are those of the call for reading 1.
use mathlib.Core.Path.{refl}
use native.Mathlib.Omega.{arith}
use Rattle.std.proofs.lemmas.Result.{err_from_is_err_and}
use Rattle.solve_answer.proofs.Answering.{next_reading, solved_first, configured_so, passed_on}
use Rattle.solve_answer.proofs.configuration_of.Goals as goal

pub readings_of-requires : goal.readings_of-requires
readings_of-requires c = record { sheet_tables = c.requires; n_le_room = λ h. (omega arith, omega (arith, h)) }

pub configure-requires : goal.configure-requires
configure-requires c =
    let s = c.requires in
    solved_first s (next_reading s (c.in_ok-readings_of.ensures s)) refl

pub returns-in_err-readings_of : goal.returns-in_err-readings_of
returns-in_err-readings_of c =
    let p = err_from_is_err_and c.from_residual.result c.from_residual.ensures.1 in
    λ s. rw (p.1, p.2) (passed_on s (next_reading s (c.in_err-readings_of.ensures s)) refl)

pub returns : goal.returns
returns c =
    λ s. configured_so s (next_reading s (c.in_ok-readings_of.ensures s)) refl _ c.configure.ensures
