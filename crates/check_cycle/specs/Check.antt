-- The check of a cycle on a graph's tables, place by place: the nodes and the leaves of dominance edges are compared
-- with the sets of those before, and edges only in a cycle of two nodes. What these tests are of the graph is in
-- proofs/Checked.antt.
use Rattle.std.specs.Prelude.{ℕ, ◌<◌, ◌%◌, ◌≡◌, List, Bool, cond, not, ◌&&◌, ◌||◌, eqb, ltb, leb, length}
use Rattle.base_finite.specs.Below.{any, all}
use Rattle.base_nodeset.specs.Set.{mem}
use Rattle.base_nodeset.specs.declared.NodeSet.{NodeSet}
use Rattle.graph.specs.Cycle.{pairs, node, kind, next}
use Rattle.base_tables.specs.Rows.{in_row}
use Rattle.base_tables.specs.Trees.{tied_in}

abbrev pub NodesBelow : ℕ → List ℕ → Type 0
NodesBelow n bs = (i : ℕ) → i < pairs bs → node bs i < n

-- whole pairs, two or more, and not more than there are nodes
unfoldable pub sized : ℕ → List ℕ → Bool
sized n bs = eqb (length bs % 2) 0 && (leb 2 (pairs bs) && leb (pairs bs) n)

-- the node at i stands at no place before
unfoldable pub fresh : ℕ → List ℕ → ℕ → Bool
fresh n bs i = ltb (node bs i) n && not (any i (λ j. eqb (node bs i) (node bs j)))

unfoldable pub nodes_differ : ℕ → List ℕ → Bool
unfolding fresh
nodes_differ n bs = all (pairs bs) (fresh n bs)

unfoldable pub dominance_joins : List NodeSet → ℕ → ℕ → Bool
dominance_joins heads u v = in_row heads u v || in_row heads v u

unfoldable pub joined_in : List ℕ → List NodeSet → ℕ → ℕ → ℕ → Bool
unfolding tied_in dominance_joins
joined_in parents heads k u v = cond (eqb k 2) (tied_in parents u v) (eqb k 3 && dominance_joins heads u v)

unfoldable pub all_joined : List ℕ → List NodeSet → List ℕ → Bool
unfolding joined_in
all_joined parents heads bs = all (pairs bs) (λ i. joined_in parents heads (kind bs i) (node bs i) (next bs i))

-- with two nodes the two edges differ in kind
unfoldable pub two_kinds : List ℕ → Bool
two_kinds bs = not (eqb (pairs bs) 2 && eqb (kind bs 0) (kind bs 1))

-- the edge of kind k between u and v is a dominance edge that starts from x
unfoldable pub starts_from : List NodeSet → ℕ → ℕ → ℕ → ℕ → Bool
starts_from heads k u v x = eqb k 3 && eqb x (cond (in_row heads u v) u v)

abbrev pub LeafSet : List NodeSet → ℕ → ℕ → ℕ → NodeSet → Type 0
LeafSet heads k u v r = (x : ℕ) → mem r x ≡ starts_from heads k u v x

-- the edge at i is a dominance edge that starts from x
abbrev pub starts_at : List NodeSet → List ℕ → ℕ → ℕ → Bool
starts_at heads bs i x = starts_from heads (kind bs i) (node bs i) (next bs i) x

-- the edge at i starts from no leaf that one before starts from
unfoldable pub spare : List NodeSet → List ℕ → ℕ → Bool
unfolding starts_from
spare heads bs i = not (any 128 (λ x. any i (λ j. starts_at heads bs j x) && starts_at heads bs i x))

unfoldable pub leaves_differ : List NodeSet → List ℕ → Bool
unfolding spare
leaves_differ heads bs = all (pairs bs) (spare heads bs)

unfoldable pub check_in : ℕ → List ℕ → List NodeSet → List ℕ → Bool
unfolding sized nodes_differ all_joined two_kinds leaves_differ
check_in n parents heads bs =
    sized n bs && (nodes_differ n bs && (all_joined parents heads bs && (two_kinds bs && leaves_differ heads bs)))
