use mathlib.Core.Path.{refl}
use native.Mathlib.Omega.{arith}
use borrow.Author.Tests.{le-leb}
use Rattle.sheet_commands.proofs.turn.begin.Goals as goal

pub returns : goal.returns
returns c = let n = c.in-Nodes.nodes in rw (c.in-Nodes.is, le-leb 1 n (omega arith), le-leb n 128 (omega arith)) refl
