-- A search from a node over edges taken either way. The queue has the nodes found, the first found first; `came` has for
-- each place of the queue an earlier place whose node led to it; `place` has each node's place, or `none`.
use Rattle.std.specs.Prelude.{ℕ, ◌≤◌, ◌<◌, ◌≡◌, List, Bool, true, not, ◌&&◌, ◌||◌, eqb, ltb, length, get_or}
use Rattle.base_finite.specs.Below.{count}
use Rattle.graph.specs.Graph.{none}
use Rattle.base_nodeset.specs.declared.NodeSet.{NodeSet}
use Rattle.base_tables.specs.Rows.{Long, in_row}
use Rattle.base_tables.specs.Trees.{tied_in}

-- an edge joins the two
unfoldable pub joined_in : List ℕ → List NodeSet → ℕ → ℕ → Bool
unfolding tied_in
joined_in parents heads u v = tied_in parents u v || (in_row heads u v || in_row heads v u)

-- the first k rows have of each node the nodes, below n, that are joined to it
pub record Near (n : ℕ) (joined : ℕ → ℕ → Bool) (k : ℕ) (near : List NodeSet) : Type 0 where
  pub long : Long near
  pub row_is : (u v : ℕ) → u < k → in_row near u v ≡ (ltb v n && joined u v)

unfoldable pub seen_in : List ℕ → ℕ → Bool
seen_in place v = not (eqb (get_or place v 0) none)

pub record Queue (n : ℕ) (joined : ℕ → ℕ → Bool) (queue came place : List ℕ) (found : ℕ) : Type 0 where
  pub queue_long : length queue ≡ 128
  pub came_long : length came ≡ 128
  pub place_long : length place ≡ 128
  pub some : 0 < found
  pub found_are : found ≡ count n (seen_in place)
  pub came_from : (k : ℕ) → 0 < k → k < found → (get_or came k 0 < k) × (joined (get_or queue (get_or came k 0) 0) (get_or queue k 0) ≡ true)
  pub node_at : (k : ℕ) → k < found → (get_or queue k 0 < n) × (get_or place (get_or queue k 0) 0 ≡ k)
  pub place_of : (v : ℕ) → v < n → seen_in place v ≡ true → (get_or place v 0 < found) × (get_or queue (get_or place v 0) 0 ≡ v)

-- what was found before is still found, at the same places
pub record Grown (queue place : List ℕ) (found : ℕ) (queue' place' : List ℕ) (found' : ℕ) : Type 0 where
  pub more : found ≤ found'
  pub same : (i : ℕ) → i < found → get_or queue' i 0 ≡ get_or queue i 0
  pub still : (v : ℕ) → seen_in place v ≡ true → seen_in place' v ≡ true

-- of the nodes joined to u, v is found if it is among them
pub record Reached (n : ℕ) (joined : ℕ → ℕ → Bool) (u v : ℕ) (queue place : List ℕ) (found : ℕ) (queue' came' place' : List ℕ) (found' : ℕ) : Type 0 where
  pub holds : Queue n joined queue' came' place' found'
  pub grown : Grown queue place found queue' place' found'
  pub reached : joined u v ≡ true → seen_in place' v ≡ true

-- the nodes below v that are joined to u are found
pub record Visited (n : ℕ) (joined : ℕ → ℕ → Bool) (u v : ℕ) (queue place : List ℕ) (found : ℕ) (queue' came' place' : List ℕ) (found' : ℕ) : Type 0 where
  pub holds : Queue n joined queue' came' place' found'
  pub grown : Grown queue place found queue' place' found'
  pub reached : (w : ℕ) → w < v → joined u w ≡ true → seen_in place' w ≡ true

-- nothing is found yet
pub record Unsearched (queue came place : List ℕ) : Type 0 where
  pub queue_long : length queue ≡ 128
  pub came_long : length came ≡ 128
  pub place_long : length place ≡ 128
  pub none_seen : (v : ℕ) → v < 128 → get_or place v 0 ≡ none

-- the first is the root; what is joined to one of the first `done` is found
pub record Searched (n : ℕ) (joined : ℕ → ℕ → Bool) (root done : ℕ) (queue came place : List ℕ) (found : ℕ) : Type 0 where
  pub holds : Queue n joined queue came place found
  pub first : get_or queue 0 0 ≡ root
  pub closed : (i w : ℕ) → i < done → w < n → joined (get_or queue i 0) w ≡ true → seen_in place w ≡ true
