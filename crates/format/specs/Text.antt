-- Numbers and lines as bytes (document 01, "The printed list").
use Rattle.std.specs.Prelude.{ℕ, zero, suc, ◌+◌, ◌/◌, ◌%◌, ◌<◌, List, [], ◌∷◌, ◌++◌, cond, not, ◌&&◌, eqb, ltb, length, take}
use Rattle.base_finite.specs.Below.{spread}
use Rattle.base_finite.specs.Stores.{joined}
use Rattle.graph.specs.Graph.{Graph, root, none}
use Rattle.graph.specs.Placing.{at, Unsolvable}
use Rattle.graph.specs.Order.{Listing, limit, count_answer}
use Rattle.format.specs.Refusal.{number}
use Rattle.format.specs.Sheet.{Content, Outcome, refused, accepted, longest}
use Rattle.format.specs.declared.Refusal.{Refusal}
use Rattle.format.specs.declared.Refusal.TheVariants.{NoReading}
use Rattle.graph.specs.declared.Count.{Count}
use Rattle.graph.specs.declared.Count.TheVariants.{Exactly, More}

-- a number in decimal, with as many digits as it needs, f at most
unfoldable pub digits : ℕ → ℕ → List ℕ
digits zero k = []
digits (suc f) k = cond (ltb k 10) ((48 + k) ∷ []) (digits f (k / 10) ++ (48 + k % 10) ∷ [])

-- no number of 64 bits has more than 20 digits
unfoldable pub decimal : ℕ → List ℕ
decimal k = digits 20 k

-- "readings "
abbrev pub readings_word : List ℕ
readings_word = 114 ∷ 101 ∷ 97 ∷ 100 ∷ 105 ∷ 110 ∷ 103 ∷ 115 ∷ 32 ∷ []

-- "more than "
abbrev pub more_than_words : List ℕ
more_than_words = 109 ∷ 111 ∷ 114 ∷ 101 ∷ 32 ∷ 116 ∷ 104 ∷ 97 ∷ 110 ∷ 32 ∷ []

-- "refused "
abbrev pub refused_word : List ℕ
refused_word = 114 ∷ 101 ∷ 102 ∷ 117 ∷ 115 ∷ 101 ∷ 100 ∷ 32 ∷ []

-- "Each line ends with the byte 0x0A."
abbrev pub line : List ℕ → List ℕ
line text = text ++ 10 ∷ []

-- "Line 1 is "readings" and the count, or "readings more than 65535"."
unfoldable pub count_line : Count → List ℕ
count_line (Exactly k) = line (readings_word ++ decimal k)
count_line More = line (readings_word ++ more_than_words ++ decimal 65535)

-- "Each further line is a reading's number and root:leaf for each hung root, ascending"
unfoldable pub reading_line : Graph → ℕ → List ℕ → List ℕ
reading_line g k p =
    line
    (decimal k
    ++ spread g.nodes (λ r. cond (root g r && not (eqb (at p r) none)) (32 ∷ decimal r ++ 58 ∷ decimal (at p r)) []))

-- "A refusal is one line, "refused" and its number."
unfoldable pub refused_line : Refusal → List ℕ
refused_line why = line (refused_word ++ decimal (number why))

-- the lines of the readings from number k on
unfoldable pub numbered : Graph → ℕ → List (List ℕ) → List (List ℕ)
numbered g k [] = []
numbered g k (p ∷ ps) = reading_line g k p ∷ numbered g (suc k) ps

-- "Line 1 is "readings" and the count", and "at most 65,535 lines" follow
unfoldable pub printed : Graph → List (List ℕ) → List (List ℕ)
printed g ps = count_line (count_answer (length ps)) ∷ numbered g 1 (take limit ps)

-- 02, One: "the program reads 2,049 bytes to tell"
abbrev pub judged : List ℕ → List ℕ
judged input = take (suc longest) input

-- What is printed of a sheet that comes to this: "A refusal is one line", also that it has no reading; or the list.
pub data PrintedList : Outcome → List ℕ → Type 0 where
  refusal : (why : Refusal) → PrintedList (refused why) (refused_line why)
  no_reading : {s : Content} → Unsolvable s.graph → PrintedList (accepted s) (refused_line NoReading)
  readings : {s : Content} (ps : List (List ℕ)) → Listing s.graph ps → 0 < length ps → PrintedList (accepted s) (joined (printed s.graph ps))
