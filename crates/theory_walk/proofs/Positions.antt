-- Where the readings of the graph at the decisions stand in the list: it is what is passed, those readings, and those after
-- them. Entering a first half splits what is next at the choice, and turning to a second half takes its readings
-- from those that come after.
use Prim.Native.Nat.{ℕ}
use mathlib.Core.Path.{◌≡◌, refl, sym, ap, ◌∙◌}
use mathlib.Core.List.{List, [], ◌∷◌, ◌++◌, append-nil, append_assoc}
use Rattle.graph.specs.Graph.{Graph}
use Rattle.graph.specs.Order.{Choice}
use Rattle.theory_forest.specs.Shape.{Shaped}
use Rattle.theory_list.specs.Redundancy.{Loopless}
use Rattle.theory_list.specs.Readings.{listed}
use Rattle.theory_walk.specs.Walk.{Decision, first, second, half, graph_at, Valid, other_after, after}
use Rattle.theory_walk.proofs.Halves.{listed_split}
use Rattle.theory_walk.proofs.Decisions.{graph_pushed, graph_shaped}

-- what comes after

pub after_outset : (g : Graph) → after g [] ≡ []
unfolding after
after_outset g = refl

after_pushed : (g : Graph) (ds : List Decision) (d : Decision) → after g (ds ++ (d ∷ [])) ≡ other_after (graph_at g ds) d ++ after g ds
unfolding after graph_at
after_pushed g [] d = sym (append-nil (other_after g d))
after_pushed g (e ∷ ds) d =
    ap (λ (l : List (List ℕ)). l ++ other_after g e) (after_pushed (half g e) ds d)
    ∙ append_assoc (other_after (graph_at (half g e) ds) d) (after (half g e) ds) (other_after g e)

pub after_first : (g : Graph) (ds : List Decision) (a b : ℕ) → after g (ds ++ (first a b ∷ [])) ≡ listed (half (graph_at g ds) (second a b)) ++ after g ds
after_first g ds a b = after_pushed g ds (first a b)

pub after_second : (g : Graph) (ds : List Decision) (a b : ℕ) → after g (ds ++ (second a b ∷ [])) ≡ after g ds
after_second g ds a b = after_pushed g ds (second a b)

-- entering a half

pub listed_first : {g : Graph} {ds : List Decision} {v a b : ℕ} → Shaped g → Valid g ds → Loopless (graph_at g ds) → Choice (graph_at g ds) v a b
    → listed (graph_at g ds) ++ after g ds ≡ listed (graph_at g (ds ++ (first a b ∷ []))) ++ after g (ds ++ (first a b ∷ []))
listed_first {g} {ds} {v} {a} {b} s x n c =
    let h : Graph = graph_at g ds in
    rw (graph_pushed g ds (first a b), after_first g ds a b, listed_split h (graph_shaped s x) n c)
    (append_assoc (listed (half h (first a b))) (listed (half h (second a b))) (after g ds))

-- turning to the second half
pub after_turned : (g : Graph) (ds : List Decision) (a b : ℕ) → after g (ds ++ (first a b ∷ [])) ≡ listed (graph_at g (ds ++ (second a b ∷ []))) ++ after g (ds ++ (second a b ∷ []))
after_turned g ds a b = rw (after_first, after_second, graph_pushed)
