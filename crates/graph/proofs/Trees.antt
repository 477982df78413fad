-- Small facts that hold the meaning of literals to document 000, Section 3.2, on the tree 128(64(7),9).
use mathlib.Core.Path.{refl, ap}
use mathlib.Core.List.{[], ◌∷◌}
use native.Mathlib.Omega.{arith}
use lib.ListN.{length}
use Rattle.graph.specs.Constraint.{arity}
use Rattle.graph.specs.Term.{Term, node, nil, cons, constant, first, later, here, below, children_of, Dominance, Labeling}

abbrev tree : Term
tree = node 128 (cons (node 64 (cons (constant 7) nil)) (cons (constant 9) nil))

-- "u is labeled by the n-ary symbol f and has the children v1, ..., vn in this order"
root_labelled : Labeling tree [] 128 ((0 ∷ []) ∷ (1 ∷ []) ∷ [])
unfolding children_of arity
root_labelled = (cons (node 64 (cons (constant 7) nil)) (cons (constant 9) nil), here, refl, refl)

inner_labelled : Labeling tree (0 ∷ []) 64 ((0 ∷ 0 ∷ []) ∷ [])
unfolding children_of arity
inner_labelled = (cons (constant 7) nil, below first here, refl, refl)

constant_labelled : Labeling tree (1 ∷ []) 9 []
unfolding children_of arity
constant_labelled = (nil, below (later first) here, refl, refl)

-- "u ◁* v holds in τ iff there is a path from u to v": down any number of edges, and none
down_two : Dominance [] (0 ∷ 0 ∷ [])
down_two = (0 ∷ 0 ∷ [], refl)

to_itself : Dominance (0 ∷ []) (0 ∷ [])
to_itself = ([], refl)

not_up : Dominance (0 ∷ []) [] → ⊥
not_up d = omega (arith, ap length d.1)
