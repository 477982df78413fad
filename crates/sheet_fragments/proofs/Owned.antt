-- The loop's step: one node of a fragment, one record.
use Prim.Native.Nat.{ℕ, ◌+◌, ◌<◌}
use mathlib.Core.Path.{◌≡◌, refl, sym, ◌∙◌}
use mathlib.Core.List.{List, [], append-nil}
use mathlib.Core.Bool.{true, false}
use lib.ListN.{length, take, set}
use Rattle.std.proofs.lemmas.List.{take_more_set}
use Rattle.base_finite.specs.Below.{count, least, spread}
use Rattle.base_finite.proofs.Laws.{spread_more, count_ext}
use Rattle.base_nodeset.specs.Set.{mem, Difference}
use Rattle.base_nodeset.specs.declared.NodeSet.{NodeSet}
use Rattle.base_finite.proofs.Bounds.{least_ext}
use Rattle.base_tables.specs.Trees.{NodesWith}
use Rattle.graph.specs.declared.Fragment.{Fragment}
use Rattle.sheet_fragments.specs.Owner.{leaf_in, fragment_in, records_below}

leaves_are : (n : ℕ) (owner : List ℕ) (inner nodes leaves : NodeSet) (r : ℕ) → NodesWith n owner r nodes → Difference nodes inner leaves → (v : ℕ) → mem leaves v ≡ leaf_in n owner inner r v
unfolding leaf_in
leaves_are n owner inner nodes leaves r is d v = d v ∙ rw (is v)

-- the record is that of the set of leaves
pub fragment_of : (n : ℕ) (owner : List ℕ) (inner nodes leaves : NodeSet) (r lowest number : ℕ) → NodesWith n owner r nodes → Difference nodes inner leaves
    → lowest ≡ least 128 (mem leaves) → number ≡ count 128 (mem leaves) → record { root = r; lowest_leaf = lowest; leaves = number } ≡ fragment_in n owner inner r
unfolding fragment_in
fragment_of n owner inner nodes leaves r lowest number is d l c =
    let same = leaves_are n owner inner nodes leaves r is d in
    rw (l, c, least_ext 128 (mem leaves) (leaf_in n owner inner r) (λ k _. same k), count_ext 128 (mem leaves) (leaf_in n owner inner r) (λ k _. same k))

module _ (n : ℕ) (owner : List ℕ) (inner roots : NodeSet) where
  pub records_none : records_below 0 n owner inner roots ≡ []
  unfolding records_below spread
  records_none = refl

  module _ (fs : List Fragment) (k m : ℕ) (so_far : take m fs ≡ records_below k n owner inner roots) where
    -- r is no root
    pub record_skipped : false ≡ mem roots k → take m fs ≡ records_below (k + 1) n owner inner roots
    unfolding records_below
    record_skipped e = so_far ∙ sym (spread_more k _ ∙ rw (← e) (append-nil _))

    -- the record of k behind those before it
    pub record_stored : true ≡ mem roots k → m < length fs → take (m + 1) (set fs m (fragment_in n owner inner k)) ≡ records_below (k + 1) n owner inner roots
    unfolding records_below
    record_stored e h = take_more_set fs m _ h ∙ sym (spread_more k _ ∙ rw (← e, ← so_far))
