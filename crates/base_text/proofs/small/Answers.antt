-- One digit, two or three.
use native.Mathlib.Omega.{arith}
use lib.ListN.{length-set}
use Rattle.base_text.proofs.Digits.{decimal_one, tens_length, hundreds_length, one_digit, two_digits, three_digits}
use Rattle.base_text.proofs.small.Goals as goal

pub bounds-out-at : goal.bounds-out-at
bounds-out-at c = omega (arith, decimal_one c.args.k (omega arith))

pub returns-then-k-lt10 : goal.returns-then-k-lt10
returns-then-k-lt10 c = one_digit _ _ _ (omega arith)

pub bounds-out-at-then-k-lt100 : goal.bounds-out-at-then-k-lt100
bounds-out-at-then-k-lt100 c = omega (arith, tens_length c.args.k (omega arith) (omega arith))

pub bounds-out-at-then-k-lt100-2 : goal.bounds-out-at-then-k-lt100-2
bounds-out-at-then-k-lt100-2 c = rw length-set (omega (arith, tens_length c.args.k (omega arith) (omega arith)))

pub returns-then-k-lt100 : goal.returns-then-k-lt100
returns-then-k-lt100 c = two_digits _ _ _ (omega arith) (omega arith)

pub bounds-out-at-2 : goal.bounds-out-at-2
bounds-out-at-2 c = omega (arith, hundreds_length c.args.k (omega arith) (omega arith))

pub bounds-out-at-3 : goal.bounds-out-at-3
bounds-out-at-3 c = rw length-set (omega (arith, hundreds_length c.args.k (omega arith) (omega arith)))

pub bounds-out-at-4 : goal.bounds-out-at-4
bounds-out-at-4 c = rw (length-set, length-set) (omega (arith, hundreds_length c.args.k (omega arith) (omega arith)))

pub returns : goal.returns
returns c = three_digits _ _ _ (omega arith) (omega arith)
