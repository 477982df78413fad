-- Simple hypernormal cycles, as bytes (document 01, "Hypernormal cycles"; document 000, Section 6).
use Rattle.std.specs.Prelude.{ℕ, ◌+◌, ◌*◌, ◌/◌, ◌%◌, List, Bool, cond, not, ◌&&◌, ◌||◌, eqb, leb, length, get_or}
use Rattle.base_finite.specs.Below.{all, count}
use Rattle.graph.specs.Graph.{Graph, among, leaf}

-- "It is written as c pairs: node, then the kind of edge to the next node, 2 for tree and 3 for dominance."
unfoldable pub pairs : List ℕ → ℕ
pairs bs = length bs / 2

abbrev pub node : List ℕ → ℕ → ℕ
node bs i = get_or bs (2 * i) 0

abbrev pub kind : List ℕ → ℕ → ℕ
kind bs i = get_or bs (2 * i + 1) 0

-- the node after the one at i: "each joined to the next and the last to the first"
abbrev pub next : List ℕ → ℕ → ℕ
next bs i = node bs ((i + 1) % pairs bs)

-- u and v are joined "by an edge taken either way" of kind k
unfoldable pub joined : Graph → ℕ → ℕ → ℕ → Bool
joined g k u v =
    cond (eqb k 2)
    (among g.tree u v || among g.tree v u)
    (eqb k 3 && (among g.dominance u v || among g.dominance v u))

-- the edges at i and at j are the same: of one kind, between the same nodes
unfoldable pub same_edge : List ℕ → ℕ → ℕ → Bool
same_edge bs i j =
    eqb (kind bs i) (kind bs j)
    && (eqb (node bs i) (node bs j) && eqb (next bs i) (next bs j) || eqb (node bs i) (next bs j) && eqb (next bs i) (node bs j))

-- "A cycle is c nodes, c at least 2, all different, each joined to the next and the last to the first by an edge taken
-- either way, any two edges of it different; so every cycle here is simple."
unfoldable pub cycle : Graph → List ℕ → Bool
cycle g bs =
    eqb (length bs % 2) 0
    && leb 2 (pairs bs)
    && all (pairs bs) (λ i. all i (λ j. not (eqb (node bs i) (node bs j))))
    && all (pairs bs) (λ i. joined g (kind bs i) (node bs i) (next bs i))
    && all (pairs bs) (λ i. all i (λ j. not (same_edge bs i j)))

-- the edge at i is a dominance edge with an end at x
unfoldable pub dominance_at : List ℕ → ℕ → ℕ → Bool
dominance_at bs x i = eqb (kind bs i) 3 && (eqb (node bs i) x || eqb (next bs i) x)

-- "It is hypernormal if no leaf has two dominance edges on it."
unfoldable pub hypernormal : Graph → List ℕ → Bool
hypernormal g bs = all g.nodes (λ x. not (leaf g x) || leb (count (pairs bs) (dominance_at bs x)) 1)

-- "the bytes spell a simple hypernormal cycle of the sheet, c being half their number"
unfoldable pub hypernormal_cycle : Graph → List ℕ → Bool
hypernormal_cycle g bs = cycle g bs && hypernormal g bs
