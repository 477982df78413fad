use Prim.Native.Nat.{◌+◌, ◌*◌}
use mathlib.Core.Path.{◌≡◌}
use native.Mathlib.Omega.{arith}
use Rattle.sheet_nodes.proofs.Holds.{holding_child, holding_fourth}
use Rattle.sheet_nodes.proofs.add_child.Goals as goal

pub returns-then-table-place : goal.returns-then-table-place
returns-then-table-place c = λ t m l holding.
    let k = c.loop-i in
    let a = c.args in
    rw k.invariant.1 (holding_child holding a.p c.requires.0 a.c c.requires.1 k.i (omega arith) c.requires.2 k.invariant.2 (4 * a.p + 1 + k.i) (omega arith) (rw k.invariant.1 at c.if-table-place.true))

pub returns : goal.returns
returns c = λ t m l holding.
    let k = c.loop-i in
    let a = c.args in
    let all : k.i ≡ 3 = omega arith in
    rw k.invariant.1 (holding_fourth holding a.p c.requires.0 a.c c.requires.1 (rw all at k.invariant.2))
