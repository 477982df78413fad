-- From what each call answers to its number. A condition that did not hold is refuted by the case of the answer.
use Prim.Native.Nat.{ℕ, ◌≤◌, ◌<◌}
use mathlib.Core.Path.{refl, ap}
use mathlib.Core.List.{List}
use mathlib.Core.Logic.{inl, inr}
use native.Mathlib.Omega.{arith}
use lib.Dec.{ltb}
use Rattle.std.specs.Prelude.{Result}
use lib.ListN.{length}
use borrow.Author.Tests.{ltb-true, ltb-false}
use Rattle.base_finite.proofs.Laws.{by_bool}
use Rattle.graph.specs.Order.{Listing}
use Rattle.graph.specs.Table.{fragments}
use Rattle.graph.specs.declared.Fragment.{Fragment}
use Rattle.graph.specs.declared.Count.{Count}
use Rattle.format.specs.declared.Refusal.{Refusal}
use Rattle.check_placing.specs.declared.Answers.{Answers}
use Rattle.format.specs.Sheet.{Content, Outcome, refused, accepted, tidy}
use Rattle.theory_forest.specs.Shape.{Shaped}
use Rattle.sheet_encode.specs.Tidy.{Tidies}
use Rattle.sheet_fragments.specs.Table.{size, Tabled}
use Rattle.sheet_fragments.specs.Records.{Recorded}
use Rattle.solve_answer.specs.Calls.{reach, refusal_number, placed_number, Counts, ReadingCall, StretchCall, ConfigurationCall, DrawingCall, TextCall, PlacingCall}
use Rattle.solve_answer.specs.declared.Unplaced.{Unplaced}
use Rattle.solve_answer.proofs.Answering.{has_none, reaches}
use Rattle.solve_answer.proofs.Texts.{text_from_drawing}
use Rattle.counter.specs.Numbers.{NoSuch, CountNumbered, ReadingNumbered, ConfigurationNumbered, DrawingNumbered, TextNumbered, TidyNumbered, TableNumbered, RecordsNumbered, PlacingNumbered}

pub count_numbered : (x : Content) {r : Result Count Refusal} → Counts x.graph r → CountNumbered (accepted x) (refusal_number r)
count_numbered x (Counts.none u) = inl (u, refl)
count_numbered x (Counts.counted ps l h) = inr (λ u. has_none u l h, refl)

module _ (x : Content) (s : Shaped x.graph) where
  -- the reading wanted is there
  there_is : {ps : List (List ℕ)} {k : ℕ} → Listing x.graph ps → 0 < k → k ≤ reach ps → NoSuch x.graph k → ⊥
  there_is l h b (inl e) = omega (arith, h, e)
  there_is l h b (inr o) = omega (arith, b, o.2, reaches s l o.1)

  pub reading_numbered : {place last : ℕ} {old new : List ℕ} {r : Result (Unit {0}) Unplaced} → ReadingCall x.graph place old r last new → ReadingNumbered place old (accepted x) (placed_number r)
  reading_numbered (ReadingCall.small f) = inl (f, refl)
  reading_numbered (ReadingCall.none f u w) = inr (λ t. omega (arith, f, t), inl (u, refl))
  reading_numbered (ReadingCall.beyond ps f l h b) = inr (λ t. omega (arith, f, t), inr (λ u. has_none u l h, inl (inr (ps, l, omega (arith, b)), refl)))
  reading_numbered (ReadingCall.read ps f l b) =
      inr (λ t. omega (arith, f, t), inr (λ u. has_none u l (omega (arith, b)), inr (there_is l (omega arith) (omega (arith, b)), refl)))

  pub stretch_numbered : {room place last : ℕ} {old new : List ℕ} {r : Result (Unit {0}) Unplaced} → StretchCall x.graph room place old r last new → ReadingNumbered place old (accepted x) (placed_number r)
  stretch_numbered (StretchCall.small f) = inl (f, refl)
  stretch_numbered (StretchCall.none f u w) = inr (λ t. omega (arith, f, t), inl (u, refl))
  stretch_numbered (StretchCall.beyond ps f l h b) = inr (λ t. omega (arith, f, t), inr (λ u. has_none u l h, inl (inr (ps, l, omega (arith, b)), refl)))
  stretch_numbered (StretchCall.read ps f l a b c d) =
      inr (λ t. omega (arith, f, t), inr (λ u. has_none u l (omega (arith, a, b)), inr (there_is l (omega arith) (omega (arith, a, b)), refl)))

  pub text_numbered : {least : ℕ} {text : List ℕ → List ℕ} {k : ℕ} {old new : List ℕ} {r : Result ℕ Refusal} → TextCall least text x.graph k old r new → TextNumbered least k old (accepted x) (refusal_number r)
  text_numbered (TextCall.small f) = inl (f, refl)
  text_numbered (TextCall.none f u) = inr (λ t. omega (arith, f, t), inl (u, refl))
  text_numbered (TextCall.beyond ps f l h (inl e)) = inr (λ t. omega (arith, f, t), inr (λ u. has_none u l h, inl (inl e, refl)))
  text_numbered (TextCall.beyond ps f l h (inr b)) = inr (λ t. omega (arith, f, t), inr (λ u. has_none u l h, inl (inr (ps, l, b), refl)))
  text_numbered (TextCall.drawn ps f l h b) =
      inr (λ t. omega (arith, f, t), inr (λ u. has_none u l (omega (arith, h, b)), inr (there_is l h b, refl)))

  pub drawing_numbered : {k : ℕ} {old new : List ℕ} {r : Result ℕ Refusal} → DrawingCall x.graph k old r new → DrawingNumbered k old (accepted x) (refusal_number r)
  drawing_numbered d = text_numbered (text_from_drawing d)

pub configuration_numbered : (x : Content) {old new : List ℕ} {r : Result (Unit {0}) Unplaced} → ConfigurationCall x.graph old r new → ConfigurationNumbered old (accepted x) (placed_number r)
configuration_numbered x (ConfigurationCall.small f) = inl (f, refl)
configuration_numbered x (ConfigurationCall.none f u w) = inr (λ t. omega (arith, f, t), inl (u, refl))
configuration_numbered x (ConfigurationCall.configured q f o d) = inr (λ t. omega (arith, f, t), inr (λ u. u o, refl))

pub placing_numbered : (s : Content) {bytes : List ℕ} {r : Result Answers Refusal} → PlacingCall s.graph bytes r → PlacingNumbered bytes (accepted s) (refusal_number r)
placing_numbered s (PlacingCall.small f) = inl (f, refl)
placing_numbered s (PlacingCall.answered a f x) = inr (λ t. omega (arith, f, t), refl)

pub tidy_numbered : (o : Outcome) (r : Result ℕ Refusal) (old new : List ℕ) → Tidies o r old new → TidyNumbered old o (refusal_number r)
tidy_numbered (refused why) r old new x = ap (λ (r : Result ℕ Refusal). refusal_number r) x.0
tidy_numbered (accepted s) r old new x =
    by_bool (ltb (length old) (length (tidy s.written)))
    (λ e. inl (ltb-true (length old) (length (tidy s.written)) e, rw (x.0, e) refl))
    (λ e. inr (λ t. omega (arith, t, ltb-false (length old) (length (tidy s.written)) e), rw (x.0, e) refl))

pub table_numbered : (o : Outcome) {r : Result ℕ Refusal} {old new : List ℕ} → Tabled o r old new → TableNumbered old o (refusal_number r)
table_numbered (refused why) x = ap (λ (r : Result ℕ Refusal). refusal_number r) x.answer
table_numbered (accepted s) {old = old} x =
    by_bool (ltb (length old) (size s.graph))
    (λ e. inl (ltb-true (length old) (size s.graph) e, rw (x.answer, e) refl))
    (λ e. inr (λ t. omega (arith, t, ltb-false (length old) (size s.graph) e), rw (x.answer, e) refl))

pub records_numbered : (o : Outcome) {r : Result ℕ Refusal} {old new : List Fragment} → Recorded o r old new → RecordsNumbered old o (refusal_number r)
records_numbered (refused why) x = ap (λ (r : Result ℕ Refusal). refusal_number r) x.answer
records_numbered (accepted s) {old = old} x =
    by_bool (ltb (length old) (length (fragments s.graph)))
    (λ e. inl (ltb-true (length old) (length (fragments s.graph)) e, rw (x.answer, e) refl))
    (λ e. inr (λ t. omega (arith, t, ltb-false (length old) (length (fragments s.graph)) e), rw (x.answer, e) refl))
