-- A byte is written where some stand before it.
use Prim.Native.Nat.{◌+◌, ◌≤◌}
use native.Mathlib.Omega.{arith}
use lib.ListN.{length}
use borrow.Author.Tests.{eq-eqb, ne_eqb}
use Rattle.show_drawing.proofs.Loops.{moved_none}
use Rattle.show_drawing.proofs.join.Goals as goal

pub returns-then-pen-eq0 : goal.returns-then-pen-eq0
returns-then-pen-eq0 c = rw (eq-eqb c.args.pen.at 0 c.if-pen-eq0.true) (moved_none _ _)

pub put-requires : goal.put-requires
put-requires c =
    let fits : c.args.pen.at + 1 ≤ length c.args.out.now = rw (ne_eqb c.args.pen.at 0 c.if-pen-eq0.false) at c.requires in
    omega arith

pub returns : goal.returns
returns c = rw (ne_eqb c.args.pen.at 0 c.if-pen-eq0.false) c.put.ensures
