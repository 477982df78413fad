-- What an answer carries, as the caller in C gets it: the value, and the old one where it carries none.
use Rattle.std.specs.Prelude.{ℕ, ◌+◌, cond, Result, Ok, Err}
use Rattle.graph.specs.Order.{limit}
use Rattle.graph.specs.declared.Count.{Count}
use Rattle.graph.specs.declared.Count.TheVariants.{Exactly, More}
use Rattle.format.specs.declared.Refusal.{Refusal}
use Rattle.check_placing.specs.declared.Answers.{Answers}
use Rattle.solve_answer.specs.declared.Unplaced.{Unplaced}
use Rattle.solve_answer.specs.declared.Unplaced.TheVariants.{NoReading, Refused}

-- a count as a number, where one more than 65,535 stands for "more"
abbrev pub count_value : Count → ℕ
count_value (Exactly k) = k
count_value More = limit + 1

-- three yes-or-no answers as a number: 1 for a solved form, 2 for a configuration, 4 for a reading
abbrev pub bits : Answers → ℕ
bits a = cond a.solved 1 0 + cond a.configuration 2 0 + cond a.reading 4 0

-- of an answer that carries an A: the number that stands for it
abbrev pub carried : {A N : Type 0} → (A → N) → Result A Refusal → N → N
carried number (Ok a) old = number a
carried number (Err why) old = old

abbrev pub pairs_of : Result (Unit {0}) Unplaced → ℕ → ℕ
pairs_of (Ok u) old = old
pairs_of (Err (NoReading c)) old = c
pairs_of (Err (Refused why)) old = old
