-- The way back from a place of the queue to its first, spelled as bytes: each node, then the kind of the edge to the next.
use Rattle.std.specs.Prelude.{ℕ, ◌+◌, ◌*◌, ◌≤◌, ◌<◌, ◌≡◌, List, true, cond, length, get_or, drop}
use Rattle.graph.specs.Graph.{Graph, GraphEdge}
use Rattle.graph.specs.Cycle.{node, kind}
use Rattle.base_tables.specs.declared.Graph.{Graph as Value}
use Rattle.base_tables.specs.Tables.{Tables}
use Rattle.theory_cycle.specs.Connected.{Connected}
use Rattle.base_tables.specs.Trees.{tied_in}
use Rattle.solve_cycle.specs.Searching.{joined_in}

-- 2 for tree, 3 for dominance
unfoldable pub kind_in : List ℕ → ℕ → ℕ → ℕ
unfolding tied_in
kind_in parents u v = cond (tied_in parents u v) 2 3

-- up to `at` the nodes are different, and each but the first has an earlier place to go back to
pub record Back (queue came : List ℕ) (at : ℕ) : Type 0 where
  pub queue_long : length queue ≡ 128
  pub came_long : length came ≡ 128
  pub at_small : at < 128
  pub small : (k : ℕ) → k ≤ at → get_or queue k 0 < 128
  pub different : (i j : ℕ) → i ≤ at → j < i → get_or queue i 0 ≡ get_or queue j 0 → ⊥
  pub earlier : (k : ℕ) → 0 < k → k ≤ at → get_or came k 0 < k

-- c steps back, from the place `at` to the place k
pub record WayBack (parents queue came : List ℕ) (at k : ℕ) (old new : List ℕ) (c : ℕ) : Type 0 where
  pub long : length new ≡ length old
  pub few : c + k ≤ at
  pub first : node new 0 ≡ get_or queue at 0
  pub last : node new c ≡ get_or queue k 0
  pub places : (i : ℕ) → i ≤ c → (p : ℕ) × (k ≤ p) × (p ≤ at) × (node new i ≡ get_or queue p 0)
  pub different : (i j : ℕ) → i ≤ c → j < i → node new i ≡ node new j → ⊥
  pub steps : (i : ℕ) → i < c → (p : ℕ) × (0 < p) × (p ≤ at) × (node new i ≡ get_or queue p 0) × (node new (i + 1) ≡ get_or queue (get_or came p 0) 0)
  pub kinds : (i : ℕ) → i < c → kind new i ≡ kind_in parents (node new i) (node new (i + 1))
  pub rest : drop (2 * c + 1) new ≡ drop (2 * c + 1) old

-- the value is that of a graph in which r and l are joined by edges taken either way
pub record Linked (value : Value) (l r : ℕ) : Type 0 where
  pub graph : Graph
  pub edges : ℕ
  pub tables : Tables graph value.n value.parent value.heads edges
  pub leaf_small : l < value.n
  pub root_small : r < value.n
  pub connected : Connected (GraphEdge graph) r l

-- c pairs: different nodes from l to r, each joined to the next, and the last with the kind of a dominance edge
pub record Ring (value : Value) (l r : ℕ) (old new : List ℕ) (c : ℕ) : Type 0 where
  pub some : 0 < c
  pub few : c ≤ value.n
  pub long : length new ≡ length old
  pub first : node new 0 ≡ l
  pub last : (i : ℕ) → i + 1 ≡ c → (node new i ≡ r) × (kind new i ≡ 3)
  pub within : (i : ℕ) → i < c → node new i < value.n
  pub different : (i j : ℕ) → i < c → j < i → node new i ≡ node new j → ⊥
  pub steps : (i : ℕ) → i + 1 < c → (joined_in value.parent value.heads (node new (i + 1)) (node new i) ≡ true) × (kind new i ≡ kind_in value.parent (node new i) (node new (i + 1)))
  pub rest : drop (2 * c) new ≡ drop (2 * c) old
