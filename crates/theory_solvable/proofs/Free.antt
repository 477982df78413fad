-- Free fragments: the solvability of a graph by taking fragments away, one by one (a set of fragments is a test on
-- their roots). A fragment of a set is free in it if none of the set lies above it, and no other fragment of the set is
-- joined to two of its leaves: joined to a leaf is what lies below that leaf and, step by step, what is comparable with
-- something joined, without passing the fragment itself. A graph eliminates if free fragments can be taken out of
-- the set of all fragments until none is left.
use Prim.Native.Nat.{ℕ, ◌<◌}
use mathlib.Core.Path.{◌≡◌}
use mathlib.Core.Bool.{Bool, true, false, not, ◌&&◌}
use mathlib.Core.Logic.{◌⊎◌}
use lib.Dec.{eqb}
use borrow.Author.Tests.{eqb-false, ne_eqb, not-true}
use Rattle.base_finite.proofs.Laws.{and_both}
use Rattle.graph.specs.Graph.{Graph, Descent, root, leaf_of}

-- every member is a root
abbrev pub OfRoots : Graph → (ℕ → Bool) → Type 0
OfRoots g rem = (r : ℕ) → rem r ≡ true → root g r ≡ true

-- f stands above h in the graph, or below it
abbrev pub Related : Graph → ℕ → ℕ → Type 0
Related g f h = Descent g f h ⊎ Descent g h f

-- what is joined to the leaf l in the set without F
pub data Joined (g : Graph) (rem : ℕ → Bool) (F l : ℕ) : ℕ → Type 0 where
  start : {f : ℕ} → rem f ≡ true → (f ≡ F → ⊥) → Descent g l f → Joined g rem F l f
  step : {f h : ℕ} → Joined g rem F l f → rem h ≡ true → (h ≡ F → ⊥) → Related g f h → Joined g rem F l h

pub record Free (g : Graph) (rem : ℕ → Bool) (F : ℕ) : Type 0 where
  pub member : rem F ≡ true
  -- F included, so that F does not lie below itself
  pub none_above : (y : ℕ) → rem y ≡ true → Descent g y F → ⊥
  pub one_leaf : (l m f : ℕ) → leaf_of g F l ≡ true → leaf_of g F m ≡ true → Joined g rem F l f → Joined g rem F m f → l ≡ m

-- the set without F
unfoldable pub less : (ℕ → Bool) → ℕ → ℕ → Bool
less rem F k = rem k && not (eqb k F)

pub data Eliminates (g : Graph) : (ℕ → Bool) → Type 0 where
  done : {rem : ℕ → Bool} → ((v : ℕ) → v < g.nodes → rem v ≡ false) → Eliminates g rem
  take : {rem : ℕ → Bool} (F : ℕ) → Free g rem F → Eliminates g (less rem F) → Eliminates g rem

-- the set without F

pub less_intro : (rem : ℕ → Bool) (F k : ℕ) → rem k ≡ true → (k ≡ F → ⊥) → less rem F k ≡ true
unfolding less
less_intro rem F k h n = rw (h, ne_eqb k F n)

pub less_member : (rem : ℕ → Bool) (F k : ℕ) → less rem F k ≡ true → rem k ≡ true
unfolding less
less_member rem F k h = (and_both (rem k) (not (eqb k F)) h).0

pub less_other : (rem : ℕ → Bool) (F k : ℕ) → less rem F k ≡ true → k ≡ F → ⊥
unfolding less
less_other rem F k h = eqb-false k F (not-true (eqb k F) (and_both (rem k) (not (eqb k F)) h).1)

pub less_of_roots : (g : Graph) (rem : ℕ → Bool) (F : ℕ) → OfRoots g rem → OfRoots g (less rem F)
less_of_roots g rem F sub r h = sub r (less_member rem F r h)

-- what is joined is a member of the set without F

pub joined_member : {g : Graph} {rem : ℕ → Bool} {F l f : ℕ} → Joined g rem F l f → (rem f ≡ true) × (f ≡ F → ⊥)
joined_member (start h n d) = (h, n)
joined_member (step j h n c) = (h, n)
