-- The numbers of the refusals (document 01, "Who can cause which refusal"; document 02, One: "Refusal 7 then no longer
-- occurs", and Two: "refusal 5 no longer occurs").
use Rattle.std.specs.Prelude.{ℕ}
use Rattle.format.specs.declared.Refusal.{Refusal}
use Rattle.format.specs.declared.Refusal.TheVariants.{Missing, Command, Range, Tree, Ends, TooMany, NoReading, SmallBuffer, NoSuchReading, TooLong, Overgrown, Label, Overlap, Hole}

abbrev pub number : Refusal → ℕ
-- a needed byte is missing
number Missing = 1
-- the command byte is unknown or out of place, or a byte follows the end
number Command = 2
-- n is outside 1 to 128, or an operand is n or more
number Range = 3
-- a tree edge has p equal to c, or c already has a parent, or tree edges form a cycle
number Tree = 4
-- a dominance edge doesn't go from a leaf to a root
number Ends = 6
-- the dominance edge would be the 256th different one
number TooMany = 8
-- no solved form exists
number NoReading = 9
-- a lent buffer is too small
number SmallBuffer = 10
-- the reading wanted has number 0 or lies beyond the count or beyond 65,535
number NoSuchReading = 11
-- the sheet has more than 2,048 bytes
number TooLong = 12
-- the grown number of nodes exceeds 128
number Overgrown = 13
-- a node is labelled twice, or its children don't fit its symbol
number Label = 14
-- two labelled nodes may overlap
number Overlap = 15
-- a dominance edge from a labelled leaf, or an unlabelled node without tree edges
number Hole = 16
