-- The line has two digits for each byte.
use mathlib.Core.Path.{sym}
use native.Mathlib.Omega.{arith}
use lib.Seq.{length-take-le}
use Rattle.base_text.proofs.Lines.{hex_line_length}
use Rattle.test_sheets.proofs.print_bytes.Goals as goal

pub hex_line-end-requires : goal.hex_line-end-requires
hex_line-end-requires g c = omega (arith, hex_line_length c.args.bytes.now)

pub slice_bounds-out-end : goal.slice_bounds-out-end
slice_bounds-out-end g c = omega (arith, hex_line_length c.args.bytes.now, c.hex_line-end.ensures.after)

pub slice_bounds-write_all-end : goal.slice_bounds-write_all-end
slice_bounds-write_all-end g c = sym (length-take-le _ _ (omega (arith, hex_line_length c.args.bytes.now, c.hex_line-end.ensures.after)))
