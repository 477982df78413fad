-- The sheet's refusal, or the answer of its tables.
use Rattle.solve_start.proofs.Accepted.{sheet_of, tables_of}
use native.Mathlib.Omega.{arith}
use Rattle.theory_forest.proofs.Shape.{well_formed_shaped}
use Rattle.counter.proofs.Numbers.{stretch_numbered}
use Rattle.counter.proofs.Place.fill.Goals as goal

pub hand_out-requires : goal.hand_out-requires
hand_out-requires c = record { sheet_tables = tables_of (sheet_of c.args.sheet.now _ c.in-Ok.ensures); n_le_room = λ h. (omega arith, omega (arith, h)) }

pub returns-in-Ok : goal.returns-in-Ok
returns-in-Ok c =
    let x = sheet_of c.args.sheet.now _ c.in-Ok.ensures in
    let called = c.hand_out.ensures (tables_of x) in
    rw x.is (record { stretch_of = called; reading_numbered = stretch_numbered x.content (well_formed_shaped x.tables.well_formed) called })
