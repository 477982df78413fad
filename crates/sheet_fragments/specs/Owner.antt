-- The records, as read off the parents and the sets of inner nodes and of roots.
use Rattle.std.specs.Prelude.{ℕ, ◌≤◌, ◌≡◌, List, [], ◌∷◌, Bool, cond, not, ◌&&◌, length, take}
use Rattle.base_finite.specs.Below.{count, least, spread}
use Rattle.base_nodeset.specs.Set.{mem}
use Rattle.base_nodeset.specs.declared.NodeSet.{NodeSet}
use Rattle.base_tables.specs.Trees.{node_in}
use Rattle.graph.specs.declared.Fragment.{Fragment}
use Rattle.sheet_fragments.specs.declared.records.Records.{Records}

-- v is a leaf of the fragment of r
unfoldable pub leaf_in : ℕ → List ℕ → NodeSet → ℕ → ℕ → Bool
leaf_in n owner inner r v = node_in n owner r v && not (mem inner v)

-- the record of r
unfoldable pub fragment_in : ℕ → List ℕ → NodeSet → ℕ → Fragment
fragment_in n owner inner r =
    record { root = r; lowest_leaf = least 128 (leaf_in n owner inner r); leaves = count 128 (leaf_in n owner inner r) }

-- where r is a root
abbrev pub record_in : ℕ → List ℕ → NodeSet → NodeSet → ℕ → List Fragment
record_in n owner inner roots r = cond (mem roots r) (fragment_in n owner inner r ∷ []) []

-- the records of the roots below k
unfoldable pub records_below : ℕ → ℕ → List ℕ → NodeSet → NodeSet → List Fragment
records_below k n owner inner roots = spread k (record_in n owner inner roots)

abbrev pub records_in : ℕ → List ℕ → NodeSet → NodeSet → List Fragment
records_in n owner inner roots = records_below n n owner inner roots

pub record RecordsOf (n : ℕ) (owner : List ℕ) (inner roots : NodeSet) (r : Records) : Type 0 where
  pub are : take r.count r.fragments ≡ records_in n owner inner roots
  pub few : r.count ≤ n
  pub long : length r.fragments ≡ 128
