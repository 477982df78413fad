-- What is printed of any bytes is one text, and there is one.
use Prim.Native.Nat.{ℕ}
use mathlib.Core.Path.{◌≡◌, refl, ap}
use mathlib.Core.List.{List}
use mathlib.Core.Logic.{dite}
use Rattle.base_finite.specs.Stores.{joined}
use Rattle.graph.specs.Graph.{Graph}
use Rattle.format.specs.Sheet.{Content, Outcome, refused, accepted, outcome}
use Rattle.format.specs.Text.{refused_line, printed, PrintedList, refusal, no_reading, readings}
use Rattle.format.specs.declared.Refusal.TheVariants.{NoReading}
use Rattle.theory_format.proofs.Spelling.{accepted_well_formed}
use Rattle.theory_forest.specs.Shape.{Shaped}
use Rattle.theory_forest.proofs.Shape.{well_formed_shaped}
use Rattle.theory_list.specs.Readings.{listed}
use Rattle.theory_list.proofs.Readings.{listing_exists, listing_unique, solvable_decided}
use Rattle.solve_answer.proofs.Answering.{some_listed, has_none}

one_text : (o : Outcome) → ((x : Content) → o ≡ accepted x → Shaped x.graph) → (a b : List ℕ) → PrintedList o a → PrintedList o b → a ≡ b
one_text (refused why) shaped _ _ (refusal _) (refusal _) = refl
one_text (accepted x) shaped _ _ (no_reading none) (no_reading _) = refl
one_text (accepted x) shaped _ _ (no_reading none) (readings ps l some) = absurd (has_none none l some)
one_text (accepted x) shaped _ _ (readings ps l some) (no_reading none) = absurd (has_none none l some)
one_text (accepted x) shaped _ _ (readings ps l _) (readings qs m _) = ap (λ (rs : List (List ℕ)). joined (printed x.graph rs)) (listing_unique x.graph (shaped x refl) l m)

pub printed_determined : (bytes a b : List ℕ) → PrintedList (outcome bytes) a → PrintedList (outcome bytes) b → a ≡ b
printed_determined bytes a b p q = one_text (outcome bytes) (λ x e. well_formed_shaped (accepted_well_formed bytes x e)) a b p q

a_text : (o : Outcome) → ((x : Content) → o ≡ accepted x → Shaped x.graph) → (text : List ℕ) × PrintedList o text
a_text (refused why) shaped = (refused_line why, refusal why)
a_text (accepted x) shaped =
    let g : Graph = x.graph in
    let s : Shaped g = shaped x refl in
    dite (solvable_decided g s)
    (λ some. (joined (printed g (listed g)), readings (listed g) (listing_exists g s) (some_listed g s some)))
    (λ none. (refused_line NoReading, no_reading none))

pub printed_possible : (bytes : List ℕ) → (text : List ℕ) × PrintedList (outcome bytes) text
printed_possible bytes = a_text (outcome bytes) (λ x e. well_formed_shaped (accepted_well_formed bytes x e))
