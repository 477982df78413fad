-- The third demand of the mission, as one statement about a well-formed sheet: bytes `bs` that are accepted, and g the graph that they
-- mean. (02, Two: it "speaks of the grown graph".) Its calls are what crates/counter promises of them (specs/Calls.antt). Each part stands under
-- the words of the demand that it says; "01" marks words of document 01.
use Rattle.std.specs.Prelude.{ℕ, ◌+◌, ◌*◌, ◌≤◌, min, ◌≡◌, List, [], ◌∷◌, true, cond, ◌↔◌, leb, length, take, Result, Ok, Err}
use Rattle.graph.specs.Graph.{Graph}
use Rattle.format.specs.Sheet.{Outcome, outcome}
use Rattle.graph.specs.Placing.{Below, Contains, SolvedForm, Configuration, Hanging}
use Rattle.graph.specs.Order.{Listing, ExactlyOne}
use Rattle.graph.specs.Cycle.{hypernormal_cycle}
use Rattle.solve_answer.specs.Calls.{refusal_number, placed_number}
use Rattle.counter.specs.Calls.{CountOf, ReadingOf, ConfigurationOf, DrawingOf}
use Rattle.graph.specs.declared.Count.{Count}
use Rattle.format.specs.declared.Refusal.{Refusal}
use Rattle.solve_answer.specs.declared.Unplaced.{Unplaced}
use Rattle.solve_answer.specs.declared.Unplaced.TheVariants.{NoReading, Refused}

-- "no hanging of its roots under its leaves, some left on top, is a forest in which each dominance edge runs downward"
abbrev pub NoHanging : Graph → Type 0
NoHanging g = (p : List ℕ) → Hanging g p → ⊥

-- "refused as having no reading": the number of the answer is 9 (01: "9: no solved form exists. This is the refusal as
-- having no reading.")
abbrev pub as_no_reading : ℕ
as_no_reading = 9

-- "this refusal carries a simple hypernormal cycle of the sheet" (01: "The cycle fills the first 2c bytes"; "the answer
-- tells c"): the answer, the bytes that were lent, and what they hold when the call returns
pub record Carries (g : Graph) (r : Result (Unit {0}) Unplaced) (old new : List ℕ) : Type 0 where
  pub pairs : ℕ
  pub told : r ≡ Err (NoReading pairs)
  pub fits : 2 * pairs ≤ length old
  pub spelt : hypernormal_cycle g (take (2 * pairs) new) ≡ true

-- "gives .. a configuration": the first n bytes hold it
pub record Gives (g : Graph) (r : Result (Unit {0}) Unplaced) (new : List ℕ) : Type 0 where
  pub done : r ≡ Ok tt
  pub given : Configuration g (take g.nodes new)

-- A reading call of a list: the buffer that it is lent, its answer, the place that it hands back, and what the buffer
-- holds when it returns.
pub record Call : Type 0 where
  pub lent : List ℕ
  pub answer : Result (Unit {0}) Unplaced
  pub place : ℕ
  pub after : List ℕ

-- "For every list of reading calls on one well-formed sheet, refused ones included, the first taking place 0 and each
-- later one the place that the call before handed back": these calls from this place on
abbrev pub Chain : Outcome → ℕ → List Call → Type 0
Chain o place [] = Unit {0}
Chain o place (c ∷ cs) = ReadingOf o place c.lent c.answer c.place c.after × Chain o c.place cs

-- 01: "A reading is handed out by a call that isn't refused"
unfoldable pub unless_refused : Result (Unit {0}) Unplaced → List ℕ → List (List ℕ) → List (List ℕ)
unless_refused (Ok u) p ps = p ∷ ps
unless_refused (Err (NoReading c)) p ps = ps
unless_refused (Err (Refused why)) p ps = ps

-- "the readings handed out" (01: "it is what the first n bytes of the buffer hold when that call returns")
unfoldable pub handed_out : ℕ → List Call → List (List ℕ)
unfolding unless_refused
handed_out n [] = []
handed_out n (c ∷ cs) = unless_refused c.answer (take n c.after) (handed_out n cs)

-- "the calls lent enough" (01: "a call is lent enough if its buffer has at least 2n bytes")
unfoldable pub lent_enough : ℕ → List Call → ℕ
lent_enough n [] = 0
lent_enough n (c ∷ cs) = cond (leb (2 * n) (length c.lent)) 1 0 + lent_enough n cs

-- "k the least of: the calls lent enough, the sheet's readings, 65,535"
abbrev pub least : ℕ → List Call → List (List ℕ) → ℕ
least n cs ps = min (min (lent_enough n cs) (length ps)) 65535

pub record Demand3 (bs : List ℕ) (g : Graph) : Type 0 where
  -- "In count, reading, configuration and drawing a well-formed sheet (large enough buffer lent) is refused as having no
  -- reading exactly when no hanging .."
  pub count : (r : Result Count Refusal) → CountOf (outcome bs) r → (refusal_number r ≡ as_no_reading) ↔ NoHanging g
  pub reading : (place place' : ℕ) (old new : List ℕ) (r : Result (Unit {0}) Unplaced) → 2 * g.nodes ≤ length old → ReadingOf (outcome bs) place old r place' new
      → (placed_number r ≡ as_no_reading) ↔ NoHanging g
  pub configuration : (old new : List ℕ) (r : Result (Unit {0}) Unplaced) → 2 * g.nodes ≤ length old → ConfigurationOf (outcome bs) old r new
      → (placed_number r ≡ as_no_reading) ↔ NoHanging g
  pub drawing : (k : ℕ) (old new : List ℕ) (r : Result ℕ Refusal) → 1024 ≤ length old → DrawingOf (outcome bs) k old r new
      → (refusal_number r ≡ as_no_reading) ↔ NoHanging g
  -- "With reading or configuration this refusal carries a simple hypernormal cycle of the sheet;"
  pub reading_carries : (place place' : ℕ) (old new : List ℕ) (r : Result (Unit {0}) Unplaced) → ReadingOf (outcome bs) place old r place' new → placed_number r ≡ as_no_reading
      → Carries g r old new
  pub configuration_carries : (old new : List ℕ) (r : Result (Unit {0}) Unplaced) → ConfigurationOf (outcome bs) old r new → placed_number r ≡ as_no_reading → Carries g r old new
  -- "configuration gives every other such sheet a configuration;"
  pub configuration_gives : (old new : List ℕ) (r : Result (Unit {0}) Unplaced) → 2 * g.nodes ≤ length old → ConfigurationOf (outcome bs) old r new → (NoHanging g → ⊥)
      → Gives g r new
  -- "no well-formed sheet has both such a cycle and a solved form."
  pub not_both : (cs p : List ℕ) → hypernormal_cycle g cs ≡ true → SolvedForm g p → ⊥
  -- "the order", with the sheet's readings in it: there is such a list, and only one
  pub the_order : (ps : List (List ℕ)) × Listing g ps × ((qs : List (List ℕ)) → Listing g qs → qs ≡ ps)
  -- "For every list of reading calls .. the readings handed out are in turn the first k of the order, k the least of: .."
  pub in_turn : (cs : List Call) → Chain (outcome bs) 0 cs → (ps : List (List ℕ)) → Listing g ps → handed_out g.nodes cs ≡ take (least g.nodes cs ps) ps
  -- "where k is the second, every solved form contains the descent relation of exactly one reading handed out."
  pub exactly_one : (cs : List Call) → Chain (outcome bs) 0 cs → (ps : List (List ℕ)) → Listing g ps → least g.nodes cs ps ≡ length ps
      → (p : List ℕ) → SolvedForm g p → ExactlyOne (λ q. Contains (Below g p) (Below g q)) (handed_out g.nodes cs)
