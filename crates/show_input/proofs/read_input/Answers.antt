-- The bytes are judged; the line is written, and it is short.
use mathlib.Core.Path.{refl, sym}
use native.Mathlib.Omega.{arith}
use lib.Seq.{length-take-le}
use Rattle.base_text.proofs.Lines.{refused_short}
use Rattle.show_input.proofs.Comes.{line_shown, list_begun}
use Rattle.show_input.proofs.read_input.Goals as goal

pub slice_bounds-prepare-end : goal.slice_bounds-prepare-end
slice_bounds-prepare-end c = sym (length-take-le _ c.args.input.now (omega (arith, c.requires)))

pub refused_line-requires : goal.refused_line-requires
refused_line-requires c = omega (arith, refused_short c.in-Err.why, c.requires)

pub returns-in-Ok : goal.returns-in-Ok
returns-in-Ok c = list_begun c.in-Ok.ensures refl

pub returns-in-Err : goal.returns-in-Err
returns-in-Err c =
    line_shown c.in-Err.ensures refl (record { written = c.refused_line.ensures; fits = omega (arith, refused_short c.in-Err.why, c.requires, c.refused_line.ensures.after) })
