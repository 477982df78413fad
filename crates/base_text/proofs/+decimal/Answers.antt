-- All digits but the last are those of the number's tenth.
use native.Mathlib.Omega.{arith}
use Rattle.base_finite.proofs.Stores.{written_byte}
use Rattle.base_text.proofs.Digits.{decimal_more, decimal_more_length}
use Rattle.base_text.proofs.+decimal.Goals as goal

pub decimal-last-requires : goal.decimal-last-requires
decimal-last-requires t c =
    let k = c.args.k in
    (omega arith, omega (arith, decimal_more_length k (omega arith) (omega arith)))

pub bounds-out-last : goal.bounds-out-last
bounds-out-last t c =
    let k = c.args.k in
    let d = c.decimal-last in
    omega (arith, decimal_more_length k (omega arith) (omega arith), d.auto.out, d.ensures.after)

pub overflow_add-result : goal.overflow_add-result
overflow_add-result t c =
    let k = c.args.k in
    let d = c.decimal-last in
    omega (arith, decimal_more_length k (omega arith) (omega arith), d.auto.out, d.ensures.after)

pub returns : goal.returns
returns t c =
    let k = c.args.k in
    let d = c.decimal-last in
    rw (decimal_more k (omega arith) (omega arith)) (written_byte _ _ _ _ _ _ d.ensures)
