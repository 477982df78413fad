-- 9, 11, or the reading with the number in the table.
use mathlib.Core.Path.{refl}
use mathlib.Core.Logic.{inl, inr}
use native.Mathlib.Omega.{arith}
use Rattle.solve_answer.proofs.Answering.{none_to_seek, no_such, not_found, found_so}
use Rattle.solve_start.proofs.Starts.{parents_table}
use Rattle.solve_answer.proofs.seek.Goals as goal

pub begin-requires : goal.begin-requires
begin-requires c =
    let s = c.requires in (s, refl)

pub returns-in_default : goal.returns-in_default
returns-in_default c = λ s. none_to_seek s _ _ ((c.begin.ensures.started s).unsolved c.in_default.is)

pub returns-then-number-eq0 : goal.returns-then-number-eq0
returns-then-number-eq0 c = λ s. no_such s ((c.begin.ensures.started s).solved _ c.in-Some.is) _ _ (inl c.if-number-eq0.true)

pub returns-then-number-gt-LAST : goal.returns-then-number-gt-LAST
returns-then-number-gt-LAST c = λ s. no_such s ((c.begin.ensures.started s).solved _ c.in-Some.is) _ _ (inr (omega arith))

pub find-requires : goal.find-requires
find-requires c =
    let s = c.requires in
    (((c.begin.ensures.started s).solved _ c.in-Some.is).sheet, omega (arith, c.if-number-eq0.false), omega (arith, (parents_table s).few, c.begin.ensures.n_value _ c.in-Some.is))

pub returns-then-find : goal.returns-then-find
returns-then-find c = λ s. found_so s ((c.begin.ensures.started s).solved _ c.in-Some.is) c.find.ensures (omega (arith, c.if-number-eq0.false)) (omega arith) c.if-find.true

pub returns : goal.returns
returns c = λ s. not_found s ((c.begin.ensures.started s).solved _ c.in-Some.is) c.find.ensures c.if-find.false
