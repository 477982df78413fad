-- What the calls answer that are lent nothing to write into: the number of nodes and the two checks.
use Rattle.std.specs.Prelude.{ℕ, ◌≡◌, List, Bool, Result, Ok, Err}
use Rattle.format.specs.Sheet.{Outcome, refused, accepted}
use Rattle.graph.specs.Cycle.{hypernormal_cycle}
use Rattle.format.specs.declared.Refusal.{Refusal}
use Rattle.solve_answer.specs.Calls.{PlacingCall}
use Rattle.check_placing.specs.declared.Answers.{Answers}

-- 02, Two: "placings, cycles, drawings and buffers go by the grown node number", which this call tells
abbrev pub NodesOf : Outcome → Result ℕ Refusal → Type 0
NodesOf (refused why) r = r ≡ Err why
NodesOf (accepted s) r = r ≡ Ok s.graph.nodes

-- "The check of a cycle says yes exactly when the bytes spell a simple hypernormal cycle of the sheet"; "no least length for
-- a cycle to be checked"
abbrev pub CycleOf : Outcome → List ℕ → Result Bool Refusal → Type 0
CycleOf (refused why) cycle r = r ≡ Err why
CycleOf (accepted s) cycle r = r ≡ Ok (hypernormal_cycle s.graph cycle)

abbrev pub PlacingOf : Outcome → List ℕ → Result Answers Refusal → Type 0
PlacingOf (refused why) placing r = r ≡ Err why
PlacingOf (accepted s) placing r = PlacingCall s.graph placing r
