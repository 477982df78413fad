-- The loop has stored two digits for each of the first i bytes.
use Prim.Native.Nat.{◌+◌, ◌*◌}
use mathlib.Core.Path.{◌≡◌}
use lib.ListN.{take}
use Rattle.base_finite.specs.Stores.{Written}
use Rattle.base_text.specs.Lines.{hex_bytes}
use Rattle.base_text.proofs.hex_line.Given as goal

abbrev pub invariant-loop-byte : goal.invariant-loop-byte
invariant-loop-byte l =
    (l.end ≡ l.at + 2 * l.byte-index) × Written l.initial.out l.at (hex_bytes (take l.byte-index l.bytes)) l.out l.end
