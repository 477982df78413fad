-- The symbol, and then the bracket.
use mathlib.Core.List.{[], ◌∷◌}
use native.Mathlib.Omega.{arith}
use Rattle.format.specs.Text.{decimal}
use Rattle.show_term.proofs.Texts.{in_parts, first_room, second_room, both_written}
use Rattle.show_term.proofs.open_pair.Goals as goal

pub decimal-end-requires : goal.decimal-end-requires
decimal-end-requires c = (first_room (in_parts (decimal 128) (40 ∷ [])) c.requires).fits

pub put-requires : goal.put-requires
put-requires c = omega (arith, (second_room (in_parts (decimal 128) (40 ∷ [])) c.decimal-end.ensures c.requires).fits)

pub returns : goal.returns
returns c = both_written (in_parts (decimal 128) (40 ∷ [])) c.decimal-end.ensures c.put.ensures
