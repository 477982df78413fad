-- What each function of the C interface answers, and what it leaves in the memory lent to it. There is an answer of the call,
-- by the call's own definition; the number returned is the answer's, and the value that the answer carries is where the caller
-- wants it. A place for a value that the answer does not carry stays as it was.
use Rattle.std.specs.Prelude.{ℕ, ◌≡◌, List, Bool, cond, Result}
use Rattle.graph.specs.declared.Count.{Count}
use Rattle.format.specs.Sheet.{Outcome}
use Rattle.format.specs.declared.Refusal.{Refusal}
use Rattle.sheet_encode.specs.Tidy.{Tidies}
use Rattle.sheet_fragments.specs.Table.{Tabled}
use Rattle.check_placing.specs.declared.Answers.{Answers}
use Rattle.solve_answer.specs.Calls.{refusal_number, placed_number}
use Rattle.solve_answer.specs.declared.Unplaced.{Unplaced}
use Rattle.counter.specs.Calls.{CountOf, ReadingOf, StretchOf, ConfigurationOf, DrawingOf, TermOf}
use Rattle.counter.specs.Checks.{NodesOf, CycleOf, PlacingOf}
use Rattle.capi_put.specs.Values.{count_value, bits, carried, pairs_of}

-- the functions: what was lent before and after, r the number returned

pub record CountTold (sheet : Outcome) (r : ℕ) (readings readings' : ℕ) : Type 0 where
  pub answer : Result Count Refusal
  pub call : CountOf sheet answer
  pub number : r ≡ refusal_number answer
  pub value : readings' ≡ carried count_value answer readings

pub record ReadingTold (sheet : Outcome) (r : ℕ) (place place' : ℕ) (out out' : List ℕ) (pairs pairs' : ℕ) : Type 0 where
  pub answer : Result (Unit {0}) Unplaced
  pub call : ReadingOf sheet place out answer place' out'
  pub number : r ≡ placed_number answer
  pub value : pairs' ≡ pairs_of answer pairs

pub record ReadingsTold (sheet : Outcome) (r : ℕ) (place place' : ℕ) (out out' : List ℕ) (pairs pairs' : ℕ) : Type 0 where
  pub answer : Result (Unit {0}) Unplaced
  pub call : StretchOf sheet place out answer place' out'
  pub number : r ≡ placed_number answer
  pub value : pairs' ≡ pairs_of answer pairs

pub record ConfigurationTold (sheet : Outcome) (r : ℕ) (out out' : List ℕ) (pairs pairs' : ℕ) : Type 0 where
  pub answer : Result (Unit {0}) Unplaced
  pub call : ConfigurationOf sheet out answer out'
  pub number : r ≡ placed_number answer
  pub value : pairs' ≡ pairs_of answer pairs

pub record DrawingTold (sheet : Outcome) (r : ℕ) (wanted : ℕ) (out out' : List ℕ) (written written' : ℕ) : Type 0 where
  pub answer : Result ℕ Refusal
  pub call : DrawingOf sheet wanted out answer out'
  pub number : r ≡ refusal_number answer
  pub value : written' ≡ carried (λ (k : ℕ). k) answer written

pub record TermTold (sheet : Outcome) (r : ℕ) (wanted : ℕ) (out out' : List ℕ) (written written' : ℕ) : Type 0 where
  pub answer : Result ℕ Refusal
  pub call : TermOf sheet wanted out answer out'
  pub number : r ≡ refusal_number answer
  pub value : written' ≡ carried (λ (k : ℕ). k) answer written

pub record NodesTold (sheet : Outcome) (r : ℕ) (nodes nodes' : ℕ) : Type 0 where
  pub answer : Result ℕ Refusal
  pub call : NodesOf sheet answer
  pub number : r ≡ refusal_number answer
  pub value : nodes' ≡ carried (λ (k : ℕ). k) answer nodes

pub record TidyTold (sheet : Outcome) (r : ℕ) (out out' : List ℕ) (written written' : ℕ) : Type 0 where
  pub answer : Result ℕ Refusal
  pub call : Tidies sheet answer out out'
  pub number : r ≡ refusal_number answer
  pub value : written' ≡ carried (λ (k : ℕ). k) answer written

pub record FragmentsTold (sheet : Outcome) (r : ℕ) (out out' : List ℕ) (records records' : ℕ) : Type 0 where
  pub answer : Result ℕ Refusal
  pub call : Tabled sheet answer out out'
  pub number : r ≡ refusal_number answer
  pub value : records' ≡ carried (λ (k : ℕ). k) answer records

pub record CycleTold (sheet : Outcome) (r : ℕ) (cycle : List ℕ) (yes yes' : ℕ) : Type 0 where
  pub answer : Result Bool Refusal
  pub call : CycleOf sheet cycle answer
  pub number : r ≡ refusal_number answer
  pub value : yes' ≡ carried (λ (b : Bool). cond b 1 0) answer yes

pub record PlacingTold (sheet : Outcome) (r : ℕ) (placing : List ℕ) (answers answers' : ℕ) : Type 0 where
  pub answer : Result Answers Refusal
  pub call : PlacingOf sheet placing answer
  pub number : r ≡ refusal_number answer
  pub value : answers' ≡ carried bits answer answers
