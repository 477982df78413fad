-- Row x of the first 64 is bit x of the low word, and row 64 + x is bit x of the high one.
use Prim.Native.Nat.{ℕ, ◌+◌}
use mathlib.Core.Path.{refl}
use mathlib.Core.Bool.{Bool}
use native.Mathlib.Nat.{zero-add}
use native.Mathlib.Omega.{arith}
use lib.ListN.{get_or}
use Rattle.base_nodeset.specs.Set.{bit}
use Rattle.base_tables.specs.Rows.{nothing}
use Rattle.solve_closure.specs.Closing.{word_of}
use Rattle.solve_closure.proofs.Edges.{columns_one, columns_two}
use Rattle.solve_closure.proofs.columns.Goals as goal

pub returns-then-n-le64 : goal.returns-then-n-le64
returns-then-n-le64 c =
    let a = c.args in
    let p : ℕ → Bool = λ (x : ℕ). bit (word_of a.high (get_or a.rows.now x nothing)) a.k in
    columns_one p (λ x. p (0 + x)) a.n _ (omega arith) (λ x. rw zero-add) c.column.ensures

pub returns-else-n-le64 : goal.returns-else-n-le64
returns-else-n-le64 c =
    let a = c.args in
    let p : ℕ → Bool = λ (x : ℕ). bit (word_of a.high (get_or a.rows.now x nothing)) a.k in
    columns_two p (λ x. p (0 + x)) (λ x. p (64 + x)) a.n _ _ (omega arith) (λ x. rw zero-add) (λ x. refl) c.column-else-n-le64.ensures c.column-else-n-le64-2.ensures
