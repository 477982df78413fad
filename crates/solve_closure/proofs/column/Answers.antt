use Prim.Native.Nat.{ℕ, ◌+◌, ◌/◌, ◌%◌, ◌^◌, ◌<◌}
use mathlib.Core.Path.{◌≡◌, ap}
use mathlib.Core.Bool.{Bool}
use native.Mathlib.Omega.{arith}
use lib.ListN.{get_or}
use Rattle.base_nodeset.specs.Set.{bit}
use Rattle.base_tables.specs.Rows.{nothing}
use Rattle.solve_closure.specs.Closing.{word_of}
use Rattle.solve_closure.proofs.Edges.{column_none, column_more}
use Rattle.solve_closure.proofs.column.Goals as goal

pub loop-i-init : goal.loop-i-init
loop-i-init c =
    let a = c.args in
    (omega arith, column_none (λ (j : ℕ). bit (word_of a.high (get_or a.rows.now (a.first + j) nothing)) a.k))

pub loop-i-preserved : goal.loop-i-preserved
unfolding bit
loop-i-preserved c =
    let l = c.loop-i in
    let a = c.args in
    let w = c.word.result in
    let digit : w / 2 ^ a.k % 2 < 2 = omega arith in
    let p : ℕ → Bool = λ (j : ℕ). bit (word_of a.high (get_or a.rows.now (a.first + j) nothing)) a.k in
    (omega arith, column_more p l.i l.bits (w / 2 ^ a.k % 2) (omega arith) digit (ap (λ (x : ℕ). bit x a.k) c.word.ensures) l.invariant.1)

pub returns : goal.returns
returns c =
    let l = c.loop-i in
    let all : l.i ≡ c.args.count = omega arith in
    rw (← all) l.invariant.1
