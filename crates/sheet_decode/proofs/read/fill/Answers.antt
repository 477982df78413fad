-- A sheet that is too long, or what its commands come to.
use native.Mathlib.Omega.{arith}
use Rattle.theory_format.proofs.Length.{too_long, short_enough}
use Rattle.sheet_decode.proofs.read.fill.Goals as goal

pub returns-then-sheet-gt-LONGEST : goal.returns-then-sheet-gt-LONGEST
returns-then-sheet-gt-LONGEST c = too_long c.args.form c.args.sheet.now (omega (arith, c.if-sheet-gt-LONGEST.true))

pub returns : goal.returns
returns c = rw (short_enough c.args.form c.args.sheet.now (omega arith)) c.read_commands.ensures
