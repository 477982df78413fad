-- What crates/counter promises fixes each call's answer, place and bytes, but for the choice of the cycle: two answers to
-- one call have the same number, and where it is not 9 they are equal, and so are the bytes.
use Prim.Native.Nat.{ℕ, ◌-◌, ◌≤◌, ◌<◌}
use mathlib.Core.Path.{◌≡◌, refl, sym, ap, subst, ◌∙◌}
use mathlib.Core.List.{List, ◌++◌}
use mathlib.Core.Logic.{◌⊎◌, inl, inr}
use native.Mathlib.Omega.{arith}
use lib.ListN.{length, drop}
use Rattle.graph.specs.Graph.{Graph}
use Rattle.graph.specs.Order.{Listing, entry, count_answer}
use Rattle.graph.specs.Rule1.{Rule1, HandedOut}
use Rattle.format.specs.Sheet.{Content, Outcome, refused, accepted}
use Rattle.theory_forest.specs.Shape.{Shaped}
use Rattle.theory_list.proofs.Readings.{listing_unique}
use Rattle.theory_rule1.proofs.Ending.{rule1_function}
use Rattle.solve_answer.proofs.Answering.{has_none, reaches}
use Rattle.solve_answer.proofs.Texts.{text_from_drawing}
use Rattle.solve_answer.specs.Calls.{reach, placed_number, Counts, ReadingCall, ConfigurationCall, DrawingCall, TextCall}
use Rattle.counter.specs.Numbers.{First, Numbered}
use Rattle.theory_demand.specs.Demand.{as_no_reading}
use Rattle.std.specs.Prelude.{Result, Ok}
use Rattle.graph.specs.declared.Count.{Count}
use Rattle.format.specs.declared.Refusal.{Refusal}
use Rattle.solve_answer.specs.declared.Unplaced.{Unplaced}

-- the same answer and bytes, but for the choice of the cycle
pub record Same (r r' : Result (Unit {0}) Unplaced) (new new' : List ℕ) : Type 0 where
  pub number : placed_number r ≡ placed_number r'
  pub but_for_a_cycle : (placed_number r ≡ as_no_reading → ⊥) → (r ≡ r') × (new ≡ new')

pub same_bytes : {r : Result (Unit {0}) Unplaced} {new new' : List ℕ} → new ≡ new' → Same r r new new'
same_bytes e = record { number = refl; but_for_a_cycle = λ n. (refl, e) }

module _ {g : Graph} (s : Shaped g) where
  pub count_determined : {r r' : Result Count Refusal} → Counts g r → Counts g r' → r ≡ r'
  count_determined (Counts.none u) (Counts.none u') = refl
  count_determined (Counts.none u) (Counts.counted ps l h) = absurd (has_none u l h)
  count_determined (Counts.counted ps l h) (Counts.none u) = absurd (has_none u l h)
  count_determined (Counts.counted ps l h) (Counts.counted qs k h') = ap (λ (z : List (List ℕ)). Ok (count_answer (length z))) (listing_unique g s l k)

  pub reading_determined : {m m₁ m₂ : ℕ} {old new new' : List ℕ} {r r' : Result (Unit {0}) Unplaced} → ReadingCall g m old r m₁ new → ReadingCall g m old r' m₂ new'
      → (m₁ ≡ m₂) × Same r r' new new'
  reading_determined (ReadingCall.small f) (ReadingCall.small f') = (refl, same_bytes refl)
  reading_determined (ReadingCall.small f) (ReadingCall.none f' u c) = absurd (omega arith)
  reading_determined (ReadingCall.small f) (ReadingCall.beyond ps f' l h b) = absurd (omega arith)
  reading_determined (ReadingCall.small f) (ReadingCall.read ps f' l b) = absurd (omega arith)
  reading_determined (ReadingCall.none f u c) (ReadingCall.small f') = absurd (omega arith)
  reading_determined (ReadingCall.none f u c) (ReadingCall.none f' u' c') = (refl, record { number = refl; but_for_a_cycle = λ n. absurd (n refl) })
  reading_determined (ReadingCall.none f u c) (ReadingCall.beyond ps f' l h b) = absurd (has_none u l h)
  reading_determined (ReadingCall.none f u c) (ReadingCall.read ps f' l b) = absurd (has_none u l (omega arith))
  reading_determined (ReadingCall.beyond ps f l h b) (ReadingCall.small f') = absurd (omega arith)
  reading_determined (ReadingCall.beyond ps f l h b) (ReadingCall.none f' u c) = absurd (has_none u l h)
  reading_determined (ReadingCall.beyond ps f l h b) (ReadingCall.beyond qs f' k h' b') = (refl, same_bytes refl)
  reading_determined (ReadingCall.beyond ps f l h b) (ReadingCall.read qs f' k b') = absurd (omega (arith, reaches s l k))
  reading_determined (ReadingCall.read ps f l b) (ReadingCall.small f') = absurd (omega arith)
  reading_determined (ReadingCall.read ps f l b) (ReadingCall.none f' u c) = absurd (has_none u l (omega arith))
  reading_determined (ReadingCall.read ps f l b) (ReadingCall.beyond qs f' k h b') = absurd (omega (arith, reaches s l k))
  reading_determined {m} {old = old} (ReadingCall.read ps f l b) (ReadingCall.read qs f' k b') =
      (refl, same_bytes (ap (λ (z : List (List ℕ)). entry z m ++ drop g.nodes old) (listing_unique g s l k)))

  handed_same : {q q' : List ℕ} → HandedOut g q → HandedOut g q' → q ≡ q'
  handed_same {q} d d' =
      rule1_function (subst (λ (z : List (List ℕ)). Rule1 g (entry z 0) q) (listing_unique g s d.listing d'.listing) d.reached) d'.reached

  pub configuration_determined : {old new new' : List ℕ} {r r' : Result (Unit {0}) Unplaced} → ConfigurationCall g old r new → ConfigurationCall g old r' new' → Same r r' new new'
  configuration_determined (ConfigurationCall.small f) (ConfigurationCall.small f') = same_bytes refl
  configuration_determined (ConfigurationCall.small f) (ConfigurationCall.none f' u c) = absurd (omega arith)
  configuration_determined (ConfigurationCall.small f) (ConfigurationCall.configured q f' o d) = absurd (omega arith)
  configuration_determined (ConfigurationCall.none f u c) (ConfigurationCall.small f') = absurd (omega arith)
  configuration_determined (ConfigurationCall.none f u c) (ConfigurationCall.none f' u' c') = record { number = refl; but_for_a_cycle = λ n. absurd (n refl) }
  configuration_determined (ConfigurationCall.none f u c) (ConfigurationCall.configured q f' o d) = absurd (u o)
  configuration_determined (ConfigurationCall.configured q f o d) (ConfigurationCall.small f') = absurd (omega arith)
  configuration_determined (ConfigurationCall.configured q f o d) (ConfigurationCall.none f' u c) = absurd (u o)
  configuration_determined {old} (ConfigurationCall.configured q f o d) (ConfigurationCall.configured q' f' o' d') =
      same_bytes (ap (λ (z : List ℕ). z ++ drop g.nodes old) (handed_same d d'))

  outside : {ps qs : List (List ℕ)} {k : ℕ} → Listing g ps → Listing g qs → (k ≡ 0) ⊎ (reach ps < k) → 0 < k → k ≤ reach qs → ⊥
  outside l l' (inl e) h b = omega arith
  outside l l' (inr e) h b = omega (arith, reaches s l l')

  -- a drawing, or a term, writes no cycle, so nothing is left open
  pub text_determined : {least : ℕ} {text : List ℕ → List ℕ} {k : ℕ} {old new new' : List ℕ} {r r' : Result ℕ Refusal} → TextCall least text g k old r new → TextCall least text g k old r' new' → (r ≡ r') × (new ≡ new')
  text_determined (TextCall.small f) (TextCall.small f') = (refl, refl)
  text_determined (TextCall.small f) (TextCall.none f' u) = absurd (omega arith)
  text_determined (TextCall.small f) (TextCall.beyond ps f' l h b) = absurd (omega arith)
  text_determined (TextCall.small f) (TextCall.drawn ps f' l h b) = absurd (omega arith)
  text_determined (TextCall.none f u) (TextCall.small f') = absurd (omega arith)
  text_determined (TextCall.none f u) (TextCall.none f' u') = (refl, refl)
  text_determined (TextCall.none f u) (TextCall.beyond ps f' l h b) = absurd (has_none u l h)
  text_determined (TextCall.none f u) (TextCall.drawn ps f' l h b) = absurd (has_none u l (omega arith))
  text_determined (TextCall.beyond ps f l h b) (TextCall.small f') = absurd (omega arith)
  text_determined (TextCall.beyond ps f l h b) (TextCall.none f' u) = absurd (has_none u l h)
  text_determined (TextCall.beyond ps f l h b) (TextCall.beyond qs f' l' h' b') = (refl, refl)
  text_determined (TextCall.beyond ps f l h b) (TextCall.drawn qs f' l' h' b') = absurd (outside l l' b h' b')
  text_determined (TextCall.drawn ps f l h b) (TextCall.small f') = absurd (omega arith)
  text_determined (TextCall.drawn ps f l h b) (TextCall.none f' u) = absurd (has_none u l (omega arith))
  text_determined (TextCall.drawn ps f l h b) (TextCall.beyond qs f' l' h' b') = absurd (outside l' l b' h b)
  text_determined {text = text} {k} {old} (TextCall.drawn ps f l h b) (TextCall.drawn qs f' l' h' b') =
      let e = listing_unique g s l l' in (
        ap (λ (z : List (List ℕ)). Ok (length (text (entry z (k - 1))))) e,
        ap (λ (z : List (List ℕ)). text (entry z (k - 1)) ++ drop (length (text (entry z (k - 1)))) old) e,
      )

  pub drawing_determined : {k : ℕ} {old new new' : List ℕ} {r r' : Result ℕ Refusal} → DrawingCall g k old r new → DrawingCall g k old r' new' → (r ≡ r') × (new ≡ new')
  drawing_determined d d' = text_determined (text_from_drawing d) (text_from_drawing d')

-- The second promise of each call fixes the number: one condition is the first to hold, or none does.

-- at most one number meets this
abbrev pub Fixed : (ℕ → Type 0) → Type 0
Fixed gives = (k k' : ℕ) → gives k → gives k' → k ≡ k'

pub first_fixed : (m : ℕ) (condition : Type 0) (later : ℕ → Type 0) → Fixed later → Fixed (First m condition later)
first_fixed m condition later f k k' (inl x) (inl y) = omega (arith, x.1, y.1)
first_fixed m condition later f k k' (inl x) (inr y) = absurd (y.0 x.0)
first_fixed m condition later f k k' (inr x) (inl y) = absurd (x.0 y.0)
first_fixed m condition later f k k' (inr x) (inr y) = f k k' x.1 y.1

pub numbered_fixed : (own : Content → ℕ → Type 0) → ((s : Content) → Fixed (own s)) → (o : Outcome) → Fixed (Numbered own o)
numbered_fixed own f (refused why) k k' e e' = e ∙ sym e'
numbered_fixed own f (accepted s) k k' x y = f s k k' x y
