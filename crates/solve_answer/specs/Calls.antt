-- What each call on a well-formed sheet answers and leaves in the lent bytes, by document 01's order of refusals: 10, 9, 11.
-- Each is a relation whose cases exclude each other; but for the choice of the cycle that refusal 9 writes, which document 01
-- leaves open, they fix answer, place and bytes.
use Rattle.std.specs.Prelude.{ℕ, ◌+◌, ◌-◌, ◌*◌, ◌≤◌, ◌<◌, min, ◌≡◌, List, ◌++◌, true, ◌⊎◌, length, take, drop, Result, Ok, Err}
use Rattle.graph.specs.Graph.{Graph}
use Rattle.graph.specs.Placing.{Solvable, Unsolvable}
use Rattle.graph.specs.declared.Count.{Count}
use Rattle.graph.specs.Order.{Listing, entry, limit, count_answer}
use Rattle.graph.specs.Rule1.{HandedOut}
use Rattle.graph.specs.Cycle.{hypernormal_cycle}
use Rattle.format.specs.Sheet.{Content}
use Rattle.format.specs.Drawing.{drawing}
use Rattle.format.specs.Term.{term, text}
use Rattle.format.specs.Refusal.{number}
use Rattle.format.specs.declared.Refusal.{Refusal}
use Rattle.format.specs.declared.Refusal.TheVariants.{NoReading as NoReadingRefusal, SmallBuffer, NoSuchReading}
use Rattle.solve_stretch.specs.Stretch.{placings}
use Rattle.check_placing.specs.Answered.{Answered}
use Rattle.check_placing.specs.declared.Answers.{Answers}
use Rattle.solve_answer.specs.declared.Unplaced.{Unplaced}
use Rattle.solve_answer.specs.declared.Unplaced.TheVariants.{NoReading, Refused}

-- how many readings can be handed out: "beyond the count or beyond 65,535"
abbrev pub reach : List (List ℕ) → ℕ
reach ps = min (length ps) limit

-- the number of an answer's refusal, and 0 where it is none
abbrev pub refusal_number : {A : Type 0} → Result A Refusal → ℕ
refusal_number (Ok a) = 0
refusal_number (Err why) = number why

abbrev pub placed_number : {A : Type 0} → Result A Unplaced → ℕ
placed_number (Ok a) = 0
placed_number (Err (NoReading c)) = number NoReadingRefusal
placed_number (Err (Refused why)) = number why

-- where readings are handed out: whether any is, and the number of the last so far, that of the place where none is
abbrev pub answer_of : {A : Type 0} → Result A Unplaced → Result (Unit {0}) Unplaced
answer_of (Ok last) = Ok tt
answer_of (Err why) = Err why

abbrev pub place_after : ℕ → Result ℕ Unplaced → ℕ
place_after place (Ok last) = last
place_after place (Err why) = place

-- the count of a well-formed sheet
pub data Counts (g : Graph) : Result Count Refusal → Type 0 where
  none : Unsolvable g → Counts g (Err NoReadingRefusal)
  counted : (ps : List (List ℕ)) → Listing g ps → 0 < length ps → Counts g (Ok (count_answer (length ps)))

-- "The cycle fills the first 2c bytes"; "Bytes past a result stay unwritten."
pub record CycleWritten (g : Graph) (old : List ℕ) (c : ℕ) (new : List ℕ) : Type 0 where
  pub fits : 2 * c ≤ length old
  pub long : length new ≡ length old
  pub cycle : hypernormal_cycle g (take (2 * c) new) ≡ true
  pub rest : drop (2 * c) new ≡ drop (2 * c) old

-- a reading call on a well-formed sheet, with its place and the lent bytes before and after
pub data ReadingCall (g : Graph) (place : ℕ) (old : List ℕ) : Result (Unit {0}) Unplaced → ℕ → List ℕ → Type 0 where
  small : length old < 2 * g.nodes → ReadingCall g place old (Err (Refused SmallBuffer)) place old
  none : {c : ℕ} {new : List ℕ} → 2 * g.nodes ≤ length old → Unsolvable g → CycleWritten g old c new → ReadingCall g place old (Err (NoReading c)) place new
  beyond : (ps : List (List ℕ)) → 2 * g.nodes ≤ length old → Listing g ps → 0 < length ps → reach ps ≤ place → ReadingCall g place old (Err (Refused NoSuchReading)) place old
  read : (ps : List (List ℕ)) → 2 * g.nodes ≤ length old → Listing g ps → place < reach ps → ReadingCall g place old (Ok tt) (place + 1) (entry ps place ++ drop g.nodes old)

-- the readings after a place, one after the other, into the first `room` of the lent bytes: as many as are left and as there is
-- room for
pub data StretchCall (g : Graph) (room place : ℕ) (old : List ℕ) : Result (Unit {0}) Unplaced → ℕ → List ℕ → Type 0 where
  small : length old < 2 * g.nodes → StretchCall g room place old (Err (Refused SmallBuffer)) place old
  none : {c : ℕ} {new : List ℕ} → 2 * g.nodes ≤ length old → Unsolvable g → CycleWritten g old c new → StretchCall g room place old (Err (NoReading c)) place new
  beyond : (ps : List (List ℕ)) → 2 * g.nodes ≤ length old → Listing g ps → 0 < length ps → reach ps ≤ place → StretchCall g room place old (Err (Refused NoSuchReading)) place old
  read : (ps : List (List ℕ)) {last : ℕ} → 2 * g.nodes ≤ length old → Listing g ps → place < last → last ≤ reach ps → length (placings ps place last) ≤ room
      → (last ≡ reach ps) ⊎ (room < length (placings ps place last) + g.nodes)
      → StretchCall g room place old (Ok tt) last (placings ps place last ++ drop (length (placings ps place last)) old)

-- the configuration of a well-formed sheet
pub data ConfigurationCall (g : Graph) (old : List ℕ) : Result (Unit {0}) Unplaced → List ℕ → Type 0 where
  small : length old < 2 * g.nodes → ConfigurationCall g old (Err (Refused SmallBuffer)) old
  none : {c : ℕ} {new : List ℕ} → 2 * g.nodes ≤ length old → Unsolvable g → CycleWritten g old c new → ConfigurationCall g old (Err (NoReading c)) new
  configured : (q : List ℕ) → 2 * g.nodes ≤ length old → Solvable g → HandedOut g q → ConfigurationCall g old (Ok tt) (q ++ drop g.nodes old)

-- the drawing of the reading with the number k
pub data DrawingCall (g : Graph) (k : ℕ) (old : List ℕ) : Result ℕ Refusal → List ℕ → Type 0 where
  small : length old < 1024 → DrawingCall g k old (Err SmallBuffer) old
  none : 1024 ≤ length old → Unsolvable g → DrawingCall g k old (Err NoReadingRefusal) old
  beyond : (ps : List (List ℕ)) → 1024 ≤ length old → Listing g ps → 0 < length ps → (k ≡ 0) ⊎ (reach ps < k) → DrawingCall g k old (Err NoSuchReading) old
  drawn : (ps : List (List ℕ)) → 1024 ≤ length old → Listing g ps → 0 < k → k ≤ reach ps
      → DrawingCall g k old (Ok (length (drawing g (entry ps (k - 1))))) (drawing g (entry ps (k - 1)) ++ drop (length (drawing g (entry ps (k - 1)))) old)

-- the reading with the number k, in the first n bytes of a table of its own: 9, 11
pub data Seeks (g : Graph) (k : ℕ) (placing : List ℕ) : Result (Unit {0}) Refusal → Type 0 where
  none : Unsolvable g → Seeks g k placing (Err NoReadingRefusal)
  beyond : (ps : List (List ℕ)) → Listing g ps → 0 < length ps → (k ≡ 0) ⊎ (reach ps < k) → Seeks g k placing (Err NoSuchReading)
  found : (ps : List (List ℕ)) → Listing g ps → 0 < k → k ≤ reach ps → take g.nodes placing ≡ entry ps (k - 1) → Seeks g k placing (Ok tt)

-- a text of the reading with the number k, for which `least` bytes are to be lent
pub data TextCall (least : ℕ) (text : List ℕ → List ℕ) (g : Graph) (k : ℕ) (old : List ℕ) : Result ℕ Refusal → List ℕ → Type 0 where
  small : length old < least → TextCall least text g k old (Err SmallBuffer) old
  none : least ≤ length old → Unsolvable g → TextCall least text g k old (Err NoReadingRefusal) old
  beyond : (ps : List (List ℕ)) → least ≤ length old → Listing g ps → 0 < length ps → (k ≡ 0) ⊎ (reach ps < k) → TextCall least text g k old (Err NoSuchReading) old
  drawn : (ps : List (List ℕ)) → least ≤ length old → Listing g ps → 0 < k → k ≤ reach ps
      → TextCall least text g k old (Ok (length (text (entry ps (k - 1))))) (text (entry ps (k - 1)) ++ drop (length (text (entry ps (k - 1)))) old)

-- 02, Five: "then the drawing's, with 2,048 bytes to lend", of what a labelled sheet says
abbrev pub TermCall : Content → ℕ → List ℕ → Result ℕ Refusal → List ℕ → Type 0
TermCall s = TextCall 2048 (λ p. text (term s p)) s.graph

-- "The check of a placing reads the first n bytes and gives three yes-or-no answers"
pub data PlacingCall (g : Graph) (placing : List ℕ) : Result Answers Refusal → Type 0 where
  small : length placing < g.nodes → PlacingCall g placing (Err SmallBuffer)
  answered : (a : Answers) → g.nodes ≤ length placing → Answered g (take g.nodes placing) a → PlacingCall g placing (Ok a)
