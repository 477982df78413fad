use mathlib.Core.Path.{refl}
use Rattle.sheet_commands.proofs.Turns.{blank}
use Rattle.sheet_commands.proofs.turn.blank.Goals as goal

pub returns : goal.returns
returns c = blank 128 0 c.empty.result refl c.empty.ensures
