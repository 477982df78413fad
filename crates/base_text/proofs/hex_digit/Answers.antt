-- Ten is where the letters begin.
use mathlib.Core.Path.{sym}
use Rattle.base_text.proofs.Digits.{hex_low, hex_high}
use Rattle.base_text.proofs.hex_digit.Goals as goal

pub returns-then-d-lt10 : goal.returns-then-d-lt10
returns-then-d-lt10 c = sym (hex_low _ c.if-d-lt10.true)

pub returns-else-d-lt10 : goal.returns-else-d-lt10
returns-else-d-lt10 c = sym (hex_high _ c.if-d-lt10.false)
