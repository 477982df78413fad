use mathlib.Core.Path.{◌≡◌}
use native.Mathlib.Omega.{arith}
use lib.ListN.{length, length-set}
use lib.Seq.{take-length}
use Rattle.base_finite.proofs.Stores.{written_none, written_byte, written_two}
use Rattle.base_text.proofs.Digits.{hex_none, hex_more}
use Rattle.base_text.proofs.Lines.{hex_line_is, hex_line_length}
use Rattle.base_text.proofs.hex_line.Goals as goal

pub loop-byte-init : goal.loop-byte-init
loop-byte-init c = (omega arith, rw hex_none (written_none _ _))

pub bounds-out-end-in-loop-byte : goal.bounds-out-end-in-loop-byte
bounds-out-end-in-loop-byte c = rw length-set (omega (arith, hex_line_length c.args.bytes.now))

pub loop-byte-preserved : goal.loop-byte-preserved
loop-byte-preserved c =
    let l = c.loop-byte in (
      omega arith,
      rw (hex_more c.args.bytes.now l.byte-index c.loop-byte-test.true, ← c.hex_digit.ensures, ← c.hex_digit-in-loop-byte.ensures) (written_two _ _ _ _ _ _ _ l.invariant.1),
    )

pub returns : goal.returns
returns c =
    let l = c.loop-byte in
    let p = c.args.bytes.now in
    let all : l.byte-index ≡ length p = omega arith in
    rw hex_line_is (written_byte _ _ _ _ _ _ (rw (all, take-length) at l.invariant.1))
