-- Either of the two.
use mathlib.Core.Path.{refl, sym}
use Rattle.show_list.proofs.follows.Goals as goal

pub returns-then-is_some : goal.returns-then-is_some
returns-then-is_some c = rw (c.if-is_some.true, sym c.if-is_some.ensures) refl

pub returns-else-is_some : goal.returns-else-is_some
returns-else-is_some c = rw (sym c.if-is_some.ensures) refl
