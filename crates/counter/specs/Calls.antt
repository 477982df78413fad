-- What each call answers and leaves in the lent bytes, for any bytes handed in as the sheet: its own refusals come first,
-- and then what solve_answer: Calls says of the graph that it means. But for the choice of a cycle this fixes answer, place and
-- bytes.
use Rattle.std.specs.Prelude.{ℕ, ◌≡◌, List, length, Result, Err}
use Rattle.graph.specs.declared.Count.{Count}
use Rattle.format.specs.declared.Refusal.{Refusal}
use Rattle.format.specs.Sheet.{Outcome, refused, accepted}
use Rattle.solve_answer.specs.Calls.{Counts, ReadingCall, StretchCall, ConfigurationCall, DrawingCall, TermCall}
use Rattle.solve_answer.specs.declared.Unplaced.{Unplaced}
use Rattle.solve_answer.specs.declared.Unplaced.TheVariants.{Refused}

abbrev pub CountOf : Outcome → Result Count Refusal → Type 0
CountOf (refused why) r = r ≡ Err why
CountOf (accepted s) r = Counts s.graph r

-- "After any refusal a place stays where it was."
abbrev pub ReadingOf : Outcome → ℕ → List ℕ → Result (Unit {0}) Unplaced → ℕ → List ℕ → Type 0
ReadingOf (refused why) place old r place' new = (r ≡ Err (Refused why)) × (place' ≡ place) × (new ≡ old)
ReadingOf (accepted s) place old r place' new = ReadingCall s.graph place old r place' new

abbrev pub StretchOf : Outcome → ℕ → List ℕ → Result (Unit {0}) Unplaced → ℕ → List ℕ → Type 0
StretchOf (refused why) place old r place' new = (r ≡ Err (Refused why)) × (place' ≡ place) × (new ≡ old)
StretchOf (accepted s) place old r place' new = StretchCall s.graph (length old) place old r place' new

abbrev pub ConfigurationOf : Outcome → List ℕ → Result (Unit {0}) Unplaced → List ℕ → Type 0
ConfigurationOf (refused why) old r new = (r ≡ Err (Refused why)) × (new ≡ old)
ConfigurationOf (accepted s) old r new = ConfigurationCall s.graph old r new

abbrev pub DrawingOf : Outcome → ℕ → List ℕ → Result ℕ Refusal → List ℕ → Type 0
DrawingOf (refused why) k old r new = (r ≡ Err why) × (new ≡ old)
DrawingOf (accepted s) k old r new = DrawingCall s.graph k old r new

-- 02, Five: "Refusals are the labelled sheet's except its 10, then the drawing's", of a labelled sheet's outcome
abbrev pub TermOf : Outcome → ℕ → List ℕ → Result ℕ Refusal → List ℕ → Type 0
TermOf (refused why) k old r new = (r ≡ Err why) × (new ≡ old)
TermOf (accepted s) k old r new = TermCall s k old r new
