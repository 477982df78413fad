-- The number that each call gives: "A number is given where its condition is the first to hold, and nowhere else." The sheet's own
-- refusals come first. Of a well-formed sheet the conditions of 10, 9 and 11 stand here in their order; the number is 0
-- where none of them holds.
use Rattle.std.specs.Prelude.{ℕ, ◌+◌, ◌*◌, ◌<◌, ◌≡◌, List, ◌⊎◌, length}
use Rattle.graph.specs.Graph.{Graph}
use Rattle.graph.specs.Placing.{Unsolvable}
use Rattle.graph.specs.Order.{Listing}
use Rattle.graph.specs.Table.{fragments}
use Rattle.graph.specs.declared.Fragment.{Fragment}
use Rattle.format.specs.Sheet.{Content, Outcome, refused, accepted, tidy}
use Rattle.format.specs.Refusal.{number}
use Rattle.sheet_fragments.specs.Table.{size}
use Rattle.solve_answer.specs.Calls.{reach}

-- m where its condition holds, and otherwise what the later conditions give
abbrev pub First : ℕ → Type 0 → (ℕ → Type 0) → ℕ → Type 0
First m condition later k = (condition × (k ≡ m)) ⊎ ((condition → ⊥) × later k)

-- where no condition holds
abbrev pub NoRefusal : ℕ → Type 0
NoRefusal k = k ≡ 0

-- "the reading wanted has number 0 or lies beyond the count or beyond 65,535"
abbrev pub NoSuch : Graph → ℕ → Type 0
NoSuch g wanted = (wanted ≡ 0) ⊎ ((ps : List (List ℕ)) × Listing g ps × (reach ps < wanted))

-- the numbers of a sheet with the outcome o, of which these are given where it is well-formed
abbrev pub Numbered : (Content → ℕ → Type 0) → Outcome → ℕ → Type 0
Numbered own (refused why) k = k ≡ number why
Numbered own (accepted s) k = own s k

-- "9 .. Count, reading, configuration and drawing give it, after 10"; the count "is lent no buffer"
abbrev pub CountNumbered : Outcome → ℕ → Type 0
CountNumbered = Numbered (λ s. First 9 (Unsolvable s.graph) NoRefusal)

-- "2n bytes for a reading or configuration"; "11 .. comes last", and "the number wanted is one more" than the place
abbrev pub ReadingNumbered : ℕ → List ℕ → Outcome → ℕ → Type 0
ReadingNumbered place lent =
    Numbered (λ s. First 10 (length lent < 2 * s.graph.nodes) (First 9 (Unsolvable s.graph) (First 11 (NoSuch s.graph (place + 1)) NoRefusal)))

abbrev pub ConfigurationNumbered : List ℕ → Outcome → ℕ → Type 0
ConfigurationNumbered lent = Numbered (λ s. First 10 (length lent < 2 * s.graph.nodes) (First 9 (Unsolvable s.graph) NoRefusal))

-- "1,024 for a drawing"
abbrev pub DrawingNumbered : ℕ → List ℕ → Outcome → ℕ → Type 0
DrawingNumbered wanted lent =
    Numbered (λ s. First 10 (length lent < 1024) (First 9 (Unsolvable s.graph) (First 11 (NoSuch s.graph wanted) NoRefusal)))

-- a text of a reading, for which so many bytes are to be lent at least
abbrev pub TextNumbered : ℕ → ℕ → List ℕ → Outcome → ℕ → Type 0
TextNumbered least wanted lent =
    Numbered (λ s. First 10 (length lent < least) (First 9 (Unsolvable s.graph) (First 11 (NoSuch s.graph wanted) NoRefusal)))

-- 02, Five: "the drawing's, with 2,048 bytes to lend"
abbrev pub TermNumbered : ℕ → List ℕ → Outcome → ℕ → Type 0
TermNumbered = TextNumbered 2048

-- "the tidy length for tidying"; "Checking, tidying and the fragment table never give 9."
abbrev pub TidyNumbered : List ℕ → Outcome → ℕ → Type 0
TidyNumbered lent = Numbered (λ s. First 10 (length lent < length (tidy s.written)) NoRefusal)

-- "one record per fragment for the table", three bytes each or as records
abbrev pub TableNumbered : List ℕ → Outcome → ℕ → Type 0
TableNumbered lent = Numbered (λ s. First 10 (length lent < size s.graph) NoRefusal)

abbrev pub RecordsNumbered : List Fragment → Outcome → ℕ → Type 0
RecordsNumbered lent = Numbered (λ s. First 10 (length lent < length (fragments s.graph)) NoRefusal)

-- the number of nodes and the check of a cycle are refused as the sheet is: "no least length for a cycle to be checked"
abbrev pub SheetNumbered : Outcome → ℕ → Type 0
SheetNumbered = Numbered (λ s. NoRefusal)

-- "n for a placing to be checked"
abbrev pub PlacingNumbered : List ℕ → Outcome → ℕ → Type 0
PlacingNumbered placing = Numbered (λ s. First 10 (length placing < s.graph.nodes) NoRefusal)
