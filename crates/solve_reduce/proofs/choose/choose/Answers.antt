-- The lowest fork, and the two lowest of its leaves.
use mathlib.Core.Path.{refl}
use lib.ListN.{get_or}
use Rattle.base_tables.specs.Rows.{nothing}
use native.Mathlib.Omega.{arith}
use Rattle.solve_reduce.proofs.Choices.{lowest_below, unforked, second_there, chosen}
use Rattle.solve_reduce.proofs.choose.choose.Goals as goal

pub bounds-sets-n : goal.bounds-sets-n
bounds-sets-n c =
    omega (arith, c.requires)

pub returns-then-n-root : goal.returns-then-n-root
returns-then-n-root c = let a = c.args in
    record { bounded = tt; chosen = λ g is. unforked g a.n a.sets.now is (get_or a.sets.now a.n nothing) (λ v. refl) c.lowest-root.result c.lowest-root.ensures c.if-n-root.true }

pub bounds-sets-root : goal.bounds-sets-root
bounds-sets-root c =
    omega (arith, c.requires, c.if-n-root.false)

pub returns-then-n-second : goal.returns-then-n-second
returns-then-n-second c = let a = c.args in
    record { bounded = tt; chosen = λ g is. absurd (second_there g a.n a.sets.now is (get_or a.sets.now a.n nothing) (λ v. refl) c.lowest-root.result c.lowest-root.ensures c.if-n-root.false (get_or a.sets.now c.lowest-root.result nothing) (λ v. refl) c.second_lowest-second.result c.second_lowest-second.ensures c.if-n-second.true) }

pub returns : goal.returns
returns c = let a = c.args in record { bounded = (c.if-n-root.false, omega (arith, lowest_below (get_or a.sets.now c.lowest-root.result nothing) c.second_lowest-second.result c.second_lowest-second.ensures (omega (arith, c.if-n-second.false, c.requires.1)), c.lowest-first.ensures, c.if-n-second.false), c.if-n-second.false); chosen = λ g is. chosen g a.n a.sets.now is (get_or a.sets.now a.n nothing) (λ v. refl) c.lowest-root.result c.lowest-root.ensures c.if-n-root.false (get_or a.sets.now c.lowest-root.result nothing) (λ v. refl) c.second_lowest-second.result c.second_lowest-second.ensures c.lowest-first.result c.lowest-first.ensures }
