-- What a descent walk finds, and what it leaves on its list. Edges are given as rows: the row of a node has its successors.
use Rattle.std.specs.Prelude.{ℕ, ◌+◌, ◌≤◌, ◌<◌, ◌≡◌, List, Bool, true, not, ◌&&◌, ◌↔◌, length, get_or}
use Rattle.base_finite.specs.Below.{count}
use Rattle.base_nodeset.specs.Set.{mem}
use Rattle.base_nodeset.specs.declared.NodeSet.{NodeSet}
use Rattle.graph.specs.Graph.{Path}
use Rattle.base_tables.specs.Rows.{in_row}

-- v is a successor of u
abbrev pub Edges : List NodeSet → ℕ → ℕ → Type 0
Edges rows u v = in_row rows u v ≡ true

-- every edge starts from one of the first n nodes
abbrev pub Among : ℕ → List NodeSet → Type 0
Among n rows = (u v : ℕ) → Edges rows u v → u < n

-- the nodes that a path of one or more edges leads to from the node
abbrev pub Under : List NodeSet → ℕ → NodeSet → Type 0
Under rows node r = (v : ℕ) → (mem r v ≡ true) ↔ Path (Edges rows) node v

-- the row of each member of the set has, with a node, all of that node's row
abbrev pub Whole : List NodeSet → NodeSet → Type 0
Whole rows set = (u v w : ℕ) → mem set u ≡ true → Edges rows u v → Edges rows v w → Edges rows u w

-- 02, Four: "a list of nodes still to visit, on which no node comes twice in one walk". The first k places of the list have nodes
-- that were found, no node twice; the places after them are as they were.
pub record Listed (found : ℕ → Bool) (k : ℕ) (old list : List ℕ) : Type 0 where
  pub long : length list ≡ length old
  pub nodes : (i : ℕ) → i < k → (get_or list i 0 < 128) × (found (get_or list i 0) ≡ true)
  pub once : (i j : ℕ) → i < j → j < k → get_or list i 0 ≡ get_or list j 0 → ⊥
  pub others : (i : ℕ) → k ≤ i → get_or list i 0 ≡ get_or old i 0

-- what a walk that found r has put on its list, from its first place on
pub record Walked (r : NodeSet) (old list : List ℕ) : Type 0 where
  pub visits : ℕ
  pub listed : Listed (mem r) visits old list

-- of a row that is not whole, the nodes that were not found before
abbrev pub ToVisit : NodeSet → NodeSet → Bool → NodeSet → Type 0
ToVisit row found whole r = (v : ℕ) → mem r v ≡ (not whole && (mem row v && not (mem found v)))

-- The order in which rows are filled is left open: any order fills them alike. What is said of the way down is what bounds it.

-- the first `depth` places of the table have nodes, no more of them than have been seen
pub record OnWay (way : List ℕ) (depth : ℕ) (seen : NodeSet) : Type 0 where
  pub nodes : (i : ℕ) → i < depth → get_or way i 0 < 128
  pub few : depth ≤ count 128 (mem seen)

-- the way goes on behind its first nodes, and each node more has been seen now
pub record Longer (way : List ℕ) (depth : ℕ) (seen : NodeSet) (way' : List ℕ) (depth' : ℕ) (seen' : NodeSet) : Type 0 where
  pub long : length way' ≡ length way
  pub kept : (i : ℕ) → i < depth → get_or way' i 0 ≡ get_or way i 0
  pub on_way : OnWay way' depth' seen'
  pub no_shorter : depth ≤ depth'
  pub each_seen : depth' + count 128 (mem seen) ≡ depth + count 128 (mem seen')

-- more rows are whole than before, and paths lead where they did
pub record Fills (rows : List NodeSet) (whole : NodeSet) (rows' : List NodeSet) (whole' : NodeSet) : Type 0 where
  pub long : length rows' ≡ length rows
  pub same_paths : (u v : ℕ) → Path (Edges rows') u v ↔ Path (Edges rows) u v
  pub is_whole : Whole rows' whole'
  pub grows : (u : ℕ) → mem whole u ≡ true → mem whole' u ≡ true
