-- The edges that stay, read off rows. What the code makes of rows that are not closed is not said, but for a bound.
use Rattle.std.specs.Prelude.{ℕ, ◌≡◌, List, Bool, true, not, ◌&&◌}
use Rattle.base_finite.specs.Below.{any}
use Rattle.base_nodeset.specs.Set.{mem}
use Rattle.base_nodeset.specs.declared.NodeSet.{NodeSet}
use Rattle.base_tables.specs.Rows.{in_row, Closed}

-- v is a root in row l, and in the row of no root there
unfoldable pub head_of : NodeSet → List NodeSet → ℕ → ℕ → Bool
head_of roots sets l v =
    (in_row sets l v && mem roots v) && not (any 128 (λ x. (in_row sets l x && mem roots x) && in_row sets x v))

pub record Heads (roots : NodeSet) (sets : List NodeSet) (l : ℕ) (r : NodeSet) : Type 0 where
  pub of_roots : (v : ℕ) → mem r v ≡ true → mem roots v ≡ true
  pub exact : Closed (in_row sets) → (v : ℕ) → mem r v ≡ head_of roots sets l v
