-- Several readings at once: their call, too, has one answer but for the choice of the cycle. It hands out as many as it can: one
-- more would not fit, or there is none. It has an answer for every sheet, place and buffer: from one reading on, which fits, as
-- long as one more is there and fits.
use Prim.Native.Nat.{ℕ, zero, suc, ◌+◌, ◌-◌, ◌*◌, ◌≤◌, ◌<◌}
use mathlib.Core.Path.{◌≡◌, refl, ap, ◌∙◌}
use mathlib.Core.List.{List}
use mathlib.Core.Logic.{◌⊎◌, inl, inr, dite}
use native.Mathlib.Omega.{arith}
use native.Mathlib.Decide.{dec_le}
use lib.ListN.{length, length-append}
use Rattle.graph.specs.Graph.{Graph}
use Rattle.graph.specs.Order.{Listing, entry}
use Rattle.format.specs.Sheet.{Content, Outcome, refused, accepted, outcome}
use Rattle.theory_format.proofs.Spelling.{accepted_well_formed}
use Rattle.theory_forest.specs.Shape.{Shaped}
use Rattle.theory_forest.proofs.Shape.{well_formed_shaped}
use Rattle.theory_list.specs.Readings.{listed}
use Rattle.theory_list.proofs.Readings.{listing_unique, listing_exists, solvable_decided}
use Rattle.solve_stretch.specs.Stretch.{placings}
use Rattle.solve_stretch.proofs.Placings.{placings_one, placings_more}
use Rattle.solve_answer.specs.Calls.{reach, StretchCall}
use Rattle.solve_answer.proofs.Answering.{has_none, reaches, some_listed, reading_long, no_later}
use Rattle.counter.specs.Calls.{StretchOf}
use Rattle.theory_demand.proofs.Determined.{Same, same_bytes}
use Rattle.theory_demand.proofs.Possible.{cycle_writes}
use Rattle.std.specs.Prelude.{Result, Err}
use Rattle.solve_answer.specs.declared.Unplaced.{Unplaced}
use Rattle.solve_answer.specs.declared.Unplaced.TheVariants.{Refused}

module _ {g : Graph} (s : Shaped g) where
  pub stretch_determined : {room m m₁ m₂ : ℕ} {old new new' : List ℕ} {r r' : Result (Unit {0}) Unplaced} → StretchCall g room m old r m₁ new → StretchCall g room m old r' m₂ new'
      → (m₁ ≡ m₂) × Same r r' new new'
  stretch_determined (StretchCall.small f) (StretchCall.small f') = (refl, same_bytes refl)
  stretch_determined (StretchCall.small f) (StretchCall.none f' u c) = absurd (omega arith)
  stretch_determined (StretchCall.small f) (StretchCall.beyond ps f' l h b) = absurd (omega arith)
  stretch_determined (StretchCall.small f) (StretchCall.read ps f' l a b c d) = absurd (omega arith)
  stretch_determined (StretchCall.none f u c) (StretchCall.small f') = absurd (omega arith)
  stretch_determined (StretchCall.none f u c) (StretchCall.none f' u' c') = (refl, record { number = refl; but_for_a_cycle = λ n. absurd (n refl) })
  stretch_determined (StretchCall.none f u c) (StretchCall.beyond ps f' l h b) = absurd (has_none u l h)
  stretch_determined (StretchCall.none f u c) (StretchCall.read ps f' l a b d e) = absurd (has_none u l (omega arith))
  stretch_determined (StretchCall.beyond ps f l h b) (StretchCall.small f') = absurd (omega arith)
  stretch_determined (StretchCall.beyond ps f l h b) (StretchCall.none f' u c) = absurd (has_none u l h)
  stretch_determined (StretchCall.beyond ps f l h b) (StretchCall.beyond qs f' k h' b') = (refl, same_bytes refl)
  stretch_determined (StretchCall.beyond ps f l h b) (StretchCall.read qs f' k a' b' c d) = absurd (omega (arith, reaches s l k))
  stretch_determined (StretchCall.read ps f l a b c d) (StretchCall.small f') = absurd (omega arith)
  stretch_determined (StretchCall.read ps f l a b c d) (StretchCall.none f' u e) = absurd (has_none u l (omega arith))
  stretch_determined (StretchCall.read ps f l a b c d) (StretchCall.beyond qs f' k h b') = absurd (omega (arith, reaches s l k))
  stretch_determined {room} {m} {m₁} {m₂} (StretchCall.read ps f l a b c d) (StretchCall.read qs f' k a' b' c' d') =
      let e : ps ≡ qs = listing_unique g s l k in
      let up : m₂ ≤ m₁ = no_later l room m₁ m₂ a (rw e b') (rw e c') d in
      let down : m₁ ≤ m₂ = no_later l room m₂ m₁ a' b c (rw e d') in
      let ends : m₁ ≡ m₂ = omega arith in
      (ends, same_bytes (rw (e, ends)))

-- where to stop: the readings after m up to `last` fit, and no more are left or there is no room for one more
record Stop (g : Graph) (ps : List (List ℕ)) (room m : ℕ) : Type 0 where
  pub last : ℕ
  pub some : m < last
  pub within : last ≤ reach ps
  pub fits : length (placings ps m last) ≤ room
  pub full : (last ≡ reach ps) ⊎ (room < length (placings ps m last) + g.nodes)

module _ {g : Graph} {ps : List (List ℕ)} (l : Listing g ps) {room m : ℕ} where
  -- from `last` on, with `left` more to hand out
  stop_from : (left last : ℕ) → last + left ≡ reach ps → m < last → length (placings ps m last) ≤ room → Stop g ps room m
  stop_from zero last e some fits = record { last = last; some = some; within = omega (arith, e); fits = fits; full = inl (omega (arith, e)) }
  stop_from (suc left) last e some fits =
      dite (dec_le (length (placings ps m last) + g.nodes) room)
      (λ more.
      let below : last < length ps = omega (arith, e) in
      let long : length (placings ps m (last + 1)) ≡ length (placings ps m last) + length (entry ps last) =
      ap length (placings_more ps m last (omega (arith, some)) below) ∙ length-append (placings ps m last) (entry ps last) in
      stop_from left (last + 1) (omega (arith, e)) (omega (arith, some)) (omega (arith, long, reading_long l last below, more)))
      (λ none. record { last = last; some = some; within = omega (arith, e); fits = fits; full = inr (omega (arith, none)) })

module _ (g : Graph) (s : Shaped g) where
  pub stretch_possible : (m : ℕ) (old : List ℕ) → (r : Result (Unit {0}) Unplaced) × (m' : ℕ) × (new : List ℕ) × StretchCall g (length old) m old r m' new
  stretch_possible m old =
      dite (dec_le (2 * g.nodes) (length old))
      (λ f.
      dite (solvable_decided g s)
      (λ o.
      let ps : List (List ℕ) = listed g in
      let l : Listing g ps = listing_exists g s in
      dite (dec_le (reach ps) m)
      (λ b. (_, _, _, StretchCall.beyond ps f l (some_listed g s o) b))
      (λ b.
      let first : m < length ps = omega arith in
      let fits : length (placings ps m (m + 1)) ≤ length old = omega (arith, f, ap length (placings_one ps m first), reading_long l m first) in
      let x = stop_from l {room = length old} (reach ps - (m + 1)) (m + 1) (omega arith) (omega arith) fits in
      (_, _, _, StretchCall.read ps {last = x.last} f l x.some x.within x.fits x.full)))
      (λ u. let w = cycle_writes g s old f u in (_, _, _, StretchCall.none f u w.2)))
      (λ f. (_, _, _, StretchCall.small (omega arith)))

outcome_filled : (o : Outcome) → ((x : Content) → o ≡ accepted x → Shaped x.graph) → (m : ℕ) (old : List ℕ) → (r : Result (Unit {0}) Unplaced) × (m' : ℕ) × (new : List ℕ) × StretchOf o m old r m' new
outcome_filled (refused why) shaped m old = (Err (Refused why), m, old, (refl, refl, refl))
outcome_filled (accepted x) shaped m old = stretch_possible x.graph (shaped x refl) m old

-- `Place::fill` can always answer
pub fill_possible : (bs : List ℕ) (m : ℕ) (old : List ℕ) → (r : Result (Unit {0}) Unplaced) × (m' : ℕ) × (new : List ℕ) × StretchOf (outcome bs) m old r m' new
fill_possible bs = outcome_filled (outcome bs) (λ x e. well_formed_shaped (accepted_well_formed bs x e))
