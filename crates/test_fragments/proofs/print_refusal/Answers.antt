-- The line of a refusal is short.
use mathlib.Core.Path.{sym}
use native.Mathlib.Omega.{arith}
use lib.Seq.{length-take-le}
use Rattle.base_text.proofs.Lines.{refused_short}
use Rattle.test_fragments.proofs.print_refusal.Goals as goal

pub refused_line-end-requires : goal.refused_line-end-requires
refused_line-end-requires g c = omega (arith, refused_short c.args.why)

pub slice_bounds-out-end : goal.slice_bounds-out-end
slice_bounds-out-end g c = omega (arith, refused_short c.args.why, c.refused_line-end.ensures.after)

pub slice_bounds-write_all-end : goal.slice_bounds-write_all-end
slice_bounds-write_all-end g c = sym (length-take-le _ _ (omega (arith, refused_short c.args.why, c.refused_line-end.ensures.after)))
