-- The descent relation of a graph and of a placing, worked out as a table of Booleans.
use Rattle.std.specs.Prelude.{ℕ, zero, suc, ◌≡◌, List, [], ◌∷◌, ◌++◌, Bool, true, false, cond, not, ◌&&◌, ◌||◌, eqb, get_or}
use Rattle.base_finite.specs.Below.{all, spread}
use Rattle.graph.specs.Graph.{Edge, Graph, among, entered, left, root, leaf}
use Rattle.graph.specs.Placing.{at, hangs}

-- f 0, f 1, .., f (n - 1)
unfoldable pub listed : {A : Type 0} → ℕ → (ℕ → A) → List A
listed zero f = []
listed (suc n) f = f 0 ∷ listed n (λ k. f (suc k))

unfoldable pub tabulate : ℕ → (ℕ → ℕ → Bool) → List (List Bool)
unfolding listed
tabulate n f = listed n (λ u. listed n (f u))

-- what the table says of u and v, and false outside it
unfoldable pub look : List (List Bool) → ℕ → ℕ → Bool
look m u v = get_or (get_or m u []) v false

-- from u to v as the table says, or by way of the edge e
unfoldable pub reaches : List (List Bool) → Edge → ℕ → ℕ → Bool
unfolding look
reaches m e u v = look m u v || (eqb u e.0 || look m u e.0) && (eqb v e.1 || look m e.1 v)

-- the table of a closure with one edge more
unfoldable pub extended : ℕ → Edge → List (List Bool) → List (List Bool)
unfolding tabulate reaches
extended n e m = tabulate n (reaches m e)

unfoldable pub closure : ℕ → List Edge → List (List Bool)
unfolding tabulate extended
closure n [] = tabulate n (λ u v. false)
closure n (e ∷ es) = extended n e (closure n es)

unfoldable pub descent_table : Graph → List (List Bool)
unfolding closure
descent_table g = closure g.nodes (g.tree ++ g.dominance)

unfoldable pub descends : Graph → ℕ → ℕ → Bool
unfolding descent_table look
descends g u v = look (descent_table g) u v

-- an edge from each leaf to each root hung under it
unfoldable pub hangings : Graph → List ℕ → List Edge
unfolding spread hangs root leaf entered left
hangings g p = spread g.nodes (λ r. cond (hangs g p (at p r) r) ((at p r, r) ∷ []) [])

unfoldable pub placing_table : Graph → List ℕ → List (List Bool)
unfolding closure hangings
placing_table g p = closure g.nodes (g.tree ++ hangings g p)

unfoldable pub under : Graph → List ℕ → ℕ → ℕ → Bool
unfolding placing_table look
under g p u v = look (placing_table g p) u v

-- no number below n has itself in its row
unfoldable pub irreflexive : ℕ → List (List Bool) → Bool
unfolding all look
irreflexive n m = all n (λ u. not (look m u u))

unfoldable pub acyclic : Graph → Bool
unfolding irreflexive descent_table
acyclic g = irreflexive g.nodes (descent_table g)

-- the list's edges, as a relation
abbrev pub Among : List Edge → ℕ → ℕ → Type 0
Among es u v = among es u v ≡ true
