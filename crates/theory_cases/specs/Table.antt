-- The starred cases of document 01, "The printed list", and cases of document 02, as the rows of one table: the bytes of a sheet,
-- and a claim.
-- What a claim means is said by the definitions of crates/graph, its relations and not the functions that compute them.
-- Each text is the document's, in ASCII; each line of it ends with the byte 10. Of each sheet the tree edges stand in the
-- document's order, then the dominance edges, then 0. A sheet of which the document claims several things has a row for each.
use Rattle.std.specs.Prelude.{ℕ, ◌-◌, ◌≤◌, ◌<◌, ◌≡◌, List, [], ◌∷◌, true, false, length, get_or}
use Rattle.format.specs.Sheet.{Content, outcome, refused, accepted}
use Rattle.graph.specs.Placing.{Configuration, Solvable}
use Rattle.graph.specs.Order.{Listing, entry}
use Rattle.graph.specs.Rule1.{HandedOut}
use Rattle.graph.specs.Cycle.{cycle, hypernormal, hypernormal_cycle}
use Rattle.format.specs.Text.{printed}
use Rattle.format.specs.Drawing.{drawing}
use Rattle.format.specs.Refusal.{number}
use Rattle.format.specs.declared.Refusal.{Refusal}
use Rattle.format.specs.declared.Refusal.TheVariants.{NoReading}

-- What is claimed of a sheet.
pub data Claim : Type 0 where
  -- its bytes are refused with this number
  refusal : ℕ → Claim
  -- it is refused with this number as having no reading, and these bytes check as a simple hypernormal cycle of it
  no_reading : ℕ → List ℕ → Claim
  -- these bytes are an undirected cycle of it, not hypernormal
  not_hypernormal : List ℕ → Claim
  -- these are the lines of its printed list
  lists : List (List ℕ) → Claim
  -- its reading with this number is drawn so
  drawn : ℕ → List ℕ → Claim
  -- this placing is the configuration handed out
  configured_to : List ℕ → Claim

pub record Refused (bs : List ℕ) (k : ℕ) : Type 0 where
  pub why : Refusal
  pub is_refused : outcome bs ≡ refused why
  pub its_number : number why ≡ k

-- "9: no solved form exists"
pub record WithoutReading (bs : List ℕ) (k : ℕ) (cs : List ℕ) : Type 0 where
  pub content : Content
  pub is_accepted : outcome bs ≡ accepted content
  pub its_number : number NoReading ≡ k
  pub unsolvable : Solvable content.graph → ⊥
  pub its_cycle : hypernormal_cycle content.graph cs ≡ true

pub record OtherCycle (bs cs : List ℕ) : Type 0 where
  pub content : Content
  pub is_accepted : outcome bs ≡ accepted content
  pub is_cycle : cycle content.graph cs ≡ true
  pub is_other : hypernormal content.graph cs ≡ false

pub record Printed (bs : List ℕ) (ls : List (List ℕ)) : Type 0 where
  pub content : Content
  pub is_accepted : outcome bs ≡ accepted content
  pub readings : List (List ℕ)
  pub listing : Listing content.graph readings
  pub its_lines : ls ≡ printed content.graph readings

pub record Drawn (bs : List ℕ) (k : ℕ) (text : List ℕ) : Type 0 where
  pub content : Content
  pub is_accepted : outcome bs ≡ accepted content
  pub readings : List (List ℕ)
  pub listing : Listing content.graph readings
  pub from_one : 1 ≤ k
  pub to_last : k ≤ length readings
  pub its_text : text ≡ drawing content.graph (entry readings (k - 1))

pub record ConfiguredTo (bs q : List ℕ) : Type 0 where
  pub content : Content
  pub is_accepted : outcome bs ≡ accepted content
  pub handed_out : HandedOut content.graph q
  pub is_configuration : Configuration content.graph q

-- The claim holds of the sheet with these bytes.
abbrev pub Holds : List ℕ → Claim → Type 0
Holds bs (refusal k) = Refused bs k
Holds bs (no_reading k cs) = WithoutReading bs k cs
Holds bs (not_hypernormal cs) = OtherCycle bs cs
Holds bs (lists ls) = Printed bs ls
Holds bs (drawn k text) = Drawn bs k text
Holds bs (configured_to q) = ConfiguredTo bs q

-- the sheets

-- 0x01 0x02 0x02 0x00 0x01 0x00
unfoldable pub one_edge : List ℕ
one_edge = 1 ∷ 2 ∷ 2 ∷ 0 ∷ 1 ∷ 0 ∷ []

-- 0-1 with dominance 1-0
unfoldable pub loop : List ℕ
loop = 1 ∷ 2 ∷ 2 ∷ 0 ∷ 1 ∷ 3 ∷ 1 ∷ 0 ∷ 0 ∷ []

-- 0-1, 0-2, 3-4 with 1-3, 2-3
unfoldable pub fork : List ℕ
fork = 1 ∷ 5 ∷ 2 ∷ 0 ∷ 1 ∷ 2 ∷ 0 ∷ 2 ∷ 2 ∷ 3 ∷ 4 ∷ 3 ∷ 1 ∷ 3 ∷ 3 ∷ 2 ∷ 3 ∷ 0 ∷ []

-- 0-1, 2-3, 4-5, 6-7 with 1-4, 1-6, 3-4, 3-6
unfoldable pub square : List ℕ
square = 1 ∷ 8 ∷ 2 ∷ 0 ∷ 1 ∷ 2 ∷ 2 ∷ 3 ∷ 2 ∷ 4 ∷ 5 ∷ 2 ∷ 6 ∷ 7 ∷ 3 ∷ 1 ∷ 4 ∷ 3 ∷ 1 ∷ 6 ∷ 3 ∷ 3 ∷ 4 ∷ 3 ∷ 3 ∷ 6 ∷ 0 ∷ []

-- "The chain of two has 12 nodes; tree edges 0-1, 0-2, 3-4, 3-5, 6-7, 8-9, 10-11; dominance edges 1-6, 2-8, 4-8, 5-10."
unfoldable pub chain : List ℕ
chain = 1 ∷ 12 ∷ 2 ∷ 0 ∷ 1 ∷ 2 ∷ 0 ∷ 2 ∷ 2 ∷ 3 ∷ 4 ∷ 2 ∷ 3 ∷ 5 ∷ 2 ∷ 6 ∷ 7 ∷ 2 ∷ 8 ∷ 9 ∷ 2 ∷ 10 ∷ 11 ∷ 3 ∷ 1 ∷ 6 ∷ 3 ∷ 2 ∷ 8 ∷ 3 ∷ 4 ∷ 8 ∷ 3 ∷ 5 ∷ 10 ∷ 0 ∷ []

-- 02, One: 0-1, 2-3 with 1-2 twice
unfoldable pub twice : List ℕ
twice = 1 ∷ 4 ∷ 2 ∷ 0 ∷ 1 ∷ 2 ∷ 2 ∷ 3 ∷ 3 ∷ 1 ∷ 2 ∷ 3 ∷ 1 ∷ 2 ∷ 0 ∷ []

-- the same with a tree edge twice
unfoldable pub tree_twice : List ℕ
tree_twice = 1 ∷ 4 ∷ 2 ∷ 0 ∷ 1 ∷ 2 ∷ 0 ∷ 1 ∷ 2 ∷ 2 ∷ 3 ∷ 3 ∷ 1 ∷ 2 ∷ 0 ∷ []

-- 02, Two: 0x01 0x02 0x00
unfoldable pub two_words : List ℕ
two_words = 1 ∷ 2 ∷ 0 ∷ []

-- 0-1 of 4 nodes, with 1-2, 1-3
unfoldable pub words_below : List ℕ
words_below = 1 ∷ 4 ∷ 2 ∷ 0 ∷ 1 ∷ 3 ∷ 1 ∷ 2 ∷ 3 ∷ 1 ∷ 3 ∷ 0 ∷ []

-- 0-1, 0-2 of 4 nodes, with 1-3, 2-3
unfoldable pub word_fork : List ℕ
word_fork = 1 ∷ 4 ∷ 2 ∷ 0 ∷ 1 ∷ 2 ∷ 0 ∷ 2 ∷ 3 ∷ 1 ∷ 3 ∷ 3 ∷ 2 ∷ 3 ∷ 0 ∷ []

-- the chain of two without its node 11
unfoldable pub short_chain : List ℕ
short_chain = 1 ∷ 11 ∷ 2 ∷ 0 ∷ 1 ∷ 2 ∷ 0 ∷ 2 ∷ 2 ∷ 3 ∷ 4 ∷ 2 ∷ 3 ∷ 5 ∷ 2 ∷ 6 ∷ 7 ∷ 2 ∷ 8 ∷ 9 ∷ 3 ∷ 1 ∷ 6 ∷ 3 ∷ 2 ∷ 8 ∷ 3 ∷ 4 ∷ 8 ∷ 3 ∷ 5 ∷ 10 ∷ 0 ∷ []

-- the lines

-- "readings 1"
unfoldable pub readings_1 : List ℕ
readings_1 = 114 ∷ 101 ∷ 97 ∷ 100 ∷ 105 ∷ 110 ∷ 103 ∷ 115 ∷ 32 ∷ 49 ∷ 10 ∷ []

-- "readings 2"
unfoldable pub readings_2 : List ℕ
readings_2 = 114 ∷ 101 ∷ 97 ∷ 100 ∷ 105 ∷ 110 ∷ 103 ∷ 115 ∷ 32 ∷ 50 ∷ 10 ∷ []

-- "1"
unfoldable pub line_1 : List ℕ
line_1 = 49 ∷ 10 ∷ []

-- "1 2:1"
unfoldable pub twice_1 : List ℕ
twice_1 = 49 ∷ 32 ∷ 50 ∷ 58 ∷ 49 ∷ 10 ∷ []

-- "1 2:1 4:3 6:3"
unfoldable pub square_1 : List ℕ
square_1 = 49 ∷ 32 ∷ 50 ∷ 58 ∷ 49 ∷ 32 ∷ 52 ∷ 58 ∷ 51 ∷ 32 ∷ 54 ∷ 58 ∷ 51 ∷ 10 ∷ []

-- "2 0:3 4:1 6:1"
unfoldable pub square_2 : List ℕ
square_2 = 50 ∷ 32 ∷ 48 ∷ 58 ∷ 51 ∷ 32 ∷ 52 ∷ 58 ∷ 49 ∷ 32 ∷ 54 ∷ 58 ∷ 49 ∷ 10 ∷ []

-- "1 3:2 6:1 8:4 10:5"
unfoldable pub chain_1 : List ℕ
chain_1 = 49 ∷ 32 ∷ 51 ∷ 58 ∷ 50 ∷ 32 ∷ 54 ∷ 58 ∷ 49 ∷ 32 ∷ 56 ∷ 58 ∷ 52 ∷ 32 ∷ 49 ∷ 48 ∷ 58 ∷ 53 ∷ 10 ∷ []

-- "2 0:4 6:1 8:2 10:5"
unfoldable pub chain_2 : List ℕ
chain_2 = 50 ∷ 32 ∷ 48 ∷ 58 ∷ 52 ∷ 32 ∷ 54 ∷ 58 ∷ 49 ∷ 32 ∷ 56 ∷ 58 ∷ 50 ∷ 32 ∷ 49 ∷ 48 ∷ 58 ∷ 53 ∷ 10 ∷ []

-- "0(1[6(7)],2[3(4[8(9)],5[10(11)])])"
unfoldable pub chain_drawing : List ℕ
chain_drawing = 48 ∷ 40 ∷ 49 ∷ 91 ∷ 54 ∷ 40 ∷ 55 ∷ 41 ∷ 93 ∷ 44 ∷ 50 ∷ 91 ∷ 51 ∷ 40 ∷ 52 ∷ 91 ∷ 56 ∷ 40 ∷ 57 ∷ 41 ∷ 93 ∷ 44 ∷ 53 ∷ 91 ∷ 49 ∷ 48 ∷ 40 ∷ 49 ∷ 49 ∷ 41 ∷ 93 ∷ 41 ∷ 93 ∷ 41 ∷ []

-- the placing 2:1 4:3 6:5
unfoldable pub square_placing : List ℕ
square_placing = 255 ∷ 255 ∷ 1 ∷ 255 ∷ 3 ∷ 255 ∷ 5 ∷ 255 ∷ []

-- "0(2);1(3)"
unfoldable pub two_words_drawing : List ℕ
two_words_drawing = 48 ∷ 40 ∷ 50 ∷ 41 ∷ 59 ∷ 49 ∷ 40 ∷ 51 ∷ 41 ∷ []

-- "1 2:1 3:1"
unfoldable pub words_below_1 : List ℕ
words_below_1 = 49 ∷ 32 ∷ 50 ∷ 58 ∷ 49 ∷ 32 ∷ 51 ∷ 58 ∷ 49 ∷ 10 ∷ []

-- "0(1[2(4);3(5)])"
unfoldable pub words_below_drawing : List ℕ
words_below_drawing = 48 ∷ 40 ∷ 49 ∷ 91 ∷ 50 ∷ 40 ∷ 52 ∷ 41 ∷ 59 ∷ 51 ∷ 40 ∷ 53 ∷ 41 ∷ 93 ∷ 41 ∷ []

-- the placing 2:1 3:4
unfoldable pub words_below_placing : List ℕ
words_below_placing = 255 ∷ 255 ∷ 1 ∷ 4 ∷ 255 ∷ 255 ∷ []

-- The table.
pub record Row : Type 0 where
  pub sheet : List ℕ
  pub claim : Claim

unfoldable pub rows : List Row
unfolding one_edge loop fork square chain twice tree_twice two_words words_below word_fork short_chain readings_1 readings_2 line_1 twice_1 square_1 square_2 chain_1 chain_2 chain_drawing square_placing two_words_drawing words_below_1 words_below_drawing words_below_placing
rows =
    record { sheet = []; claim = refusal 1 }
    ∷ record { sheet = 0x05 ∷ []; claim = refusal 2 }
    ∷ record { sheet = two_words; claim = lists (readings_1 ∷ line_1 ∷ []) }
    ∷ record { sheet = one_edge; claim = lists (readings_1 ∷ line_1 ∷ []) }
    ∷ record { sheet = loop; claim = no_reading 9 (0 ∷ 2 ∷ 1 ∷ 3 ∷ []) }
    ∷ record { sheet = fork; claim = no_reading 9 (0 ∷ 2 ∷ 1 ∷ 3 ∷ 3 ∷ 3 ∷ 2 ∷ 2 ∷ []) }
    ∷ record { sheet = square; claim = not_hypernormal (1 ∷ 3 ∷ 4 ∷ 3 ∷ 3 ∷ 3 ∷ 6 ∷ 3 ∷ []) }
    ∷ record { sheet = square; claim = lists (readings_2 ∷ square_1 ∷ square_2 ∷ []) }
    ∷ record { sheet = square; claim = configured_to square_placing }
    ∷ record { sheet = chain; claim = lists (readings_2 ∷ chain_1 ∷ chain_2 ∷ []) }
    ∷ record { sheet = chain; claim = drawn 1 chain_drawing }
    ∷ record { sheet = twice; claim = lists (readings_1 ∷ twice_1 ∷ []) }
    ∷ record { sheet = tree_twice; claim = refusal 4 }
    ∷ record { sheet = 0x01 ∷ 0x01 ∷ []; claim = refusal 1 }
    ∷ record { sheet = two_words; claim = drawn 1 two_words_drawing }
    ∷ record { sheet = words_below; claim = lists (readings_1 ∷ words_below_1 ∷ []) }
    ∷ record { sheet = words_below; claim = drawn 1 words_below_drawing }
    ∷ record { sheet = words_below; claim = configured_to words_below_placing }
    ∷ record { sheet = word_fork; claim = no_reading 9 (0 ∷ 2 ∷ 1 ∷ 3 ∷ 3 ∷ 3 ∷ 2 ∷ 2 ∷ []) }
    ∷ record { sheet = short_chain; claim = lists (readings_2 ∷ chain_1 ∷ chain_2 ∷ []) }
    ∷ record { sheet = short_chain; claim = drawn 1 chain_drawing }
    ∷ []

-- the row at i, from 0
abbrev pub row : List Row → ℕ → Row
row rs i = get_or rs i (record { sheet = []; claim = refusal 1 })

-- Every row holds.
abbrev pub AllHold : List Row → Type 0
AllHold rs = (i : ℕ) → i < length rs → Holds (row rs i).sheet (row rs i).claim
