-- 9, or the count.
use mathlib.Core.Path.{refl}
use Rattle.solve_answer.proofs.Answering.{no_count, a_count}
use Rattle.solve_answer.proofs.count_of.Goals as goal

pub begin-requires : goal.begin-requires
begin-requires c =
    let s = c.requires in (s, refl)

pub returns-in_default : goal.returns-in_default
returns-in_default c =
    λ s. no_count s ((c.begin.ensures.started s).unsolved c.in_default.is)

pub count-requires : goal.count-requires
count-requires c =
    ((c.begin.ensures.started c.requires).solved _ c.in-Some.is).sheet

pub returns : goal.returns
returns c =
    λ s. a_count s ((c.begin.ensures.started s).solved _ c.in-Some.is) _ c.count.ensures
