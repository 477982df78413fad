-- A reading's line as it is read off tables, and bytes in hexadecimal.
use Rattle.std.specs.Prelude.{ℕ, ◌+◌, ◌/◌, ◌%◌, List, [], ◌∷◌, ◌++◌, cond, not, ◌&&◌, eqb, ltb, get_or}
use Rattle.base_finite.specs.Below.{spread}
use Rattle.base_nodeset.specs.Set.{mem}
use Rattle.base_nodeset.specs.declared.NodeSet.{NodeSet}
use Rattle.graph.specs.Graph.{none}
use Rattle.format.specs.Text.{decimal, line}

-- " r:l", and nothing where l is no leaf
unfoldable pub pair : ℕ → ℕ → List ℕ
pair l r = cond (not (eqb l none)) (32 ∷ decimal r ++ 58 ∷ decimal l) []

-- " r:l", where r is a root hung under the leaf l
unfoldable pub hung_at : NodeSet → ℕ → ℕ → List ℕ
hung_at roots l r = cond (mem roots r && not (eqb l none)) (32 ∷ decimal r ++ 58 ∷ decimal l) []

-- of each node below n
unfoldable pub hung_in : NodeSet → List ℕ → ℕ → List ℕ
hung_in roots p n = spread n (λ r. hung_at roots (get_or p r 0) r)

-- the line of reading k, where the placing is the first n of p
unfoldable pub line_in : ℕ → NodeSet → List ℕ → ℕ → List ℕ
line_in n roots p k = line (decimal k ++ hung_in roots p n)

-- '0' to '9', 'a' to 'f'
unfoldable pub hex_digit : ℕ → ℕ
hex_digit d = cond (ltb d 10) (48 + d) (87 + d)

-- two digits for each byte
unfoldable pub hex_bytes : List ℕ → List ℕ
hex_bytes [] = []
hex_bytes (b ∷ bs) = hex_digit (b / 16) ∷ hex_digit (b % 16) ∷ hex_bytes bs

unfoldable pub hex_line : List ℕ → List ℕ
hex_line bs = line (hex_bytes bs)
