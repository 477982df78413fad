-- Bytes stored one after the other, and what stands in a table.
use Rattle.std.specs.Prelude.{ℕ, ◌+◌, ◌≡◌, List, [], ◌∷◌, ◌++◌, Bool, eqb, length, get_or}
use Rattle.std.proofs.lemmas.List.Edits.{sets}

-- from `at` on the bytes bs were stored, and the place after them is `end`
pub record Written (old : List ℕ) (at : ℕ) (bs new : List ℕ) (end : ℕ) : Type 0 where
  pub stored : new ≡ sets old at bs
  pub after : end ≡ at + length bs

-- entry i of the table is x
abbrev pub entry_is : List ℕ → ℕ → ℕ → Bool
entry_is table x i = eqb (get_or table i 0) x

-- lists one after the other
unfoldable pub joined : List (List ℕ) → List ℕ
joined [] = []
joined (l ∷ ls) = l ++ joined ls
