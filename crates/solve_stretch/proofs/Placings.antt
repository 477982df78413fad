-- Placings one after the other: one more of them where the walk stands, and what is said where no more come.
use Prim.Native.Nat.{ℕ, zero, suc, ◌+◌, ◌-◌, ◌%◌, ◌≤◌, ◌<◌, min}
use mathlib.Core.Path.{◌≡◌, refl, sym, ap, subst, ◌∙◌}
use mathlib.Core.List.{List, [], ◌∷◌, ◌++◌, append_assoc, append-nil}
use mathlib.Core.Logic.{◌⊎◌, inl}
use native.Mathlib.Omega.{arith}
use lib.ListN.{length, take, drop, take-append-drop, length-append, length-drop}
use lib.Seq.{length-take-le, take_all, drop-length, drop-drop, get_or-drop, take-append-add, drop-append-add}
use borrow.Rule.Slice.PartMut.{mid_of, put_mid}
use Rattle.base_nodeset.specs.declared.NodeSet.{NodeSet}
use Rattle.graph.specs.Graph.{Graph}
use Rattle.graph.specs.Order.{entry, limit}
use Rattle.theory_list.specs.Readings.{listed}
use Rattle.theory_list.specs.Settled.{settled}
use Rattle.solve_reduce.specs.Reduced.{LooplessForm}
use Rattle.theory_walk.proofs.States.{at_below, at_entry}
use Rattle.base_tables.specs.Trees.{TreesOf, Fits}
use Rattle.base_tables.specs.declared.trees.Trees.{Trees}
use Rattle.solve_levels.specs.Decisions.{Trail, reached}
use Rattle.solve_levels.specs.Levels.{state}
use Rattle.solve_branch.specs.States.{Stands}
use Rattle.solve_levels.specs.declared.Level.{Level}
use Rattle.solve_branch.proofs.Walks.{stands_form, stands_trees}
use Rattle.solve_numbered.proofs.Numbers.{reached_at, reached_only}
use Rattle.base_finite.specs.Stores.{joined}
use Rattle.solve_numbered.specs.Numbered.{Reaches}
use Rattle.std.specs.Prelude.{Option, Some, Result, Ok, Err}
use Rattle.solve_numbered.specs.declared.TooFew.{TooFew}
use Rattle.solve_stretch.specs.Stretch.{placings, Filled, StretchOf}

joined_more : (ps : List (List ℕ)) (k : ℕ) → k < length ps → joined (take (suc k) ps) ≡ joined (take k ps) ++ entry ps k
unfolding joined
joined_more [] k h = absurd (omega arith)
joined_more (p ∷ ps) zero h = append-nil p
joined_more (p ∷ ps) (suc k) h =
    ap (λ (l : List ℕ). p ++ l) (joined_more ps k (omega arith)) ∙ sym (append_assoc p (joined (take k ps)) (entry ps k))

placings_none : (ps : List (List ℕ)) (passed : ℕ) → placings ps passed passed ≡ []
unfolding joined
placings_none ps passed = let none : passed - passed ≡ 0 = omega arith in ap (λ (m : ℕ). joined (take m (drop passed ps))) none

pub placings_more : (ps : List (List ℕ)) (passed last : ℕ) → passed ≤ last → last < length ps → placings ps passed (last + 1) ≡ placings ps passed last ++ entry ps last
placings_more ps passed last h below =
    let more : last + 1 - passed ≡ suc (last - passed) = omega arith in
    let back : passed + (last - passed) ≡ last = omega arith in
    ap (λ (m : ℕ). joined (take m (drop passed ps))) more
    ∙ joined_more (drop passed ps) (last - passed) (omega (arith, length-drop passed ps))
    ∙ ap (λ (p : List ℕ). placings ps passed last ++ p) (get_or-drop passed ps (last - passed) [] ∙ ap (entry ps) back)

pub placings_one : (ps : List (List ℕ)) (passed : ℕ) → passed < length ps → placings ps passed (passed + 1) ≡ entry ps passed
placings_one ps passed h = placings_more ps passed passed (omega arith) h ∙ ap (λ (l : List ℕ). l ++ entry ps passed) (placings_none ps passed)

-- readings have n bytes each, so that one more takes as many more
module _ (ps : List (List ℕ)) (n : ℕ) (long : (i : ℕ) → i < length ps → length (entry ps i) ≡ n) (passed k : ℕ) (h : passed ≤ k) where
  grown : (j : ℕ) → k + 1 + j ≤ length ps → length (placings ps passed k) + n ≤ length (placings ps passed (k + 1 + j))
  grown zero below =
      let here : length (placings ps passed (k + 1)) ≡ length (placings ps passed k) + length (entry ps k) = ap length (placings_more ps passed k h (omega arith)) ∙ length-append (placings ps passed k) (entry ps k) in
      let same : k + 1 ≡ k + 1 + 0 = omega arith in
      subst (λ (m : ℕ). length (placings ps passed k) + n ≤ length (placings ps passed m)) same (omega (arith, here, long k (omega arith)))
  grown (suc j) below =
      let here : length (placings ps passed (k + 1 + j + 1)) ≡ length (placings ps passed (k + 1 + j)) + length (entry ps (k + 1 + j)) =
      ap length (placings_more ps passed (k + 1 + j) (omega (arith, h)) (omega arith)) ∙ length-append (placings ps passed (k + 1 + j)) (entry ps (k + 1 + j)) in
      let same : k + 1 + j + 1 ≡ k + 1 + suc j = omega arith in
      subst (λ (m : ℕ). length (placings ps passed k) + n ≤ length (placings ps passed m)) same (omega (arith, here, grown j (omega arith)))

  pub placings_grow : (last : ℕ) → k < last → last ≤ length ps → length (placings ps passed k) + n ≤ length (placings ps passed last)
  placings_grow last more below =
      let same : k + 1 + (last - k - 1) ≡ last = omega (arith, more) in
      subst (λ (m : ℕ). length (placings ps passed k) + n ≤ length (placings ps passed m)) same (grown (last - k - 1) (omega (arith, same)))

-- the bytes from `at` on, lent and put back

module _ (at n : ℕ) (old part : List ℕ) (h : at ≤ length old) where
  put_rest : put_mid at (length old - at) old part ≡ take at old ++ part
  put_rest =
      let all : at + (length old - at) ≡ length old = omega (arith, h) in
      ap (λ (l : List ℕ). take at old ++ (part ++ l)) (drop-drop (length old - at) at old ∙ ap (λ (m : ℕ). drop m old) all ∙ drop-length old)
      ∙ ap (λ (l : List ℕ). take at old ++ l) (append-nil part)

  from_front : (m : ℕ) → at + m ≡ length (take at old) + m
  from_front m = omega (arith, length-take-le at old h)

  pub row_first : (p : List ℕ) → take n part ≡ p → take (at + n) (put_mid at (length old - at) old part) ≡ take at old ++ p
  row_first p is =
      ap (take (at + n)) put_rest
      ∙ ap (λ (m : ℕ). take m (take at old ++ part)) (from_front n)
      ∙ take-append-add (take at old) part n
      ∙ ap (λ (l : List ℕ). take at old ++ l) is

  pub row_rest : drop n part ≡ drop n (mid_of at (length old - at) old) → drop (at + n) (put_mid at (length old - at) old part) ≡ drop (at + n) old
  row_rest kept =
      ap (drop (at + n)) put_rest
      ∙ ap (λ (m : ℕ). drop m (take at old ++ part)) (from_front n)
      ∙ drop-append-add (take at old) part n
      ∙ kept
      ∙ ap (drop n) (take_all (length old - at) (drop at old) (omega (arith, length-drop at old)))
      ∙ drop-drop n at old

-- the first `end` bytes are the placings up to `last`, and the others are as they were
pub record Handed (g : Graph) (passed : ℕ) (old : List ℕ) (last end : ℕ) (new : List ℕ) : Type 0 where
  pub from : passed ≤ last
  pub fits : end ≤ length old
  pub long : length new ≡ length old
  pub bytes : take end new ≡ placings (listed g) passed last
  pub rest : drop end new ≡ drop end old

pub handed_none : (g : Graph) (passed : ℕ) (old : List ℕ) → Handed g passed old passed 0 old
handed_none g passed old =
    record {
      from = omega arith;
      fits = omega arith;
      long = refl;
      bytes = sym (placings_none (listed g) passed);
      rest = refl;
    }

module _ {g : Graph} {t : Trees} (f : Fits g t) {trail : Trail} {states : List NodeSet} {at : Level} {last : ℕ} (x : Stands g trail states at last) where
  pub handed_more : (passed : ℕ) (old now₁ : List ℕ) (end : ℕ) (new : List ℕ) → end + t.n ≤ length now₁ → length new ≡ length now₁ → drop (end + t.n) new ≡ drop (end + t.n) now₁
      → ((h : Graph) → TreesOf h t → LooplessForm h t.n (state t.n (at.opened % 32) states) → take (end + t.n) new ≡ take end now₁ ++ settled h)
      → Handed g passed old last end now₁ → Handed g passed old (last + 1) (end + t.n) new
  handed_more passed old now₁ end new room same kept wrote h =
      record {
        from = omega (arith, h.from);
        fits = omega (arith, h.long);
        long = same ∙ h.long;
        bytes =
            wrote (reached g trail at.depth) (stands_trees f x) (stands_form f x)
            ∙ rw (h.bytes, sym (at_entry x.reading)) (sym (placings_more (listed g) passed last h.from (at_below x.reading)));
        rest = kept ∙ sym (drop-drop t.n end now₁) ∙ ap (drop t.n) h.rest ∙ drop-drop t.n end old;
      }

  pub stands_within : last < limit → last + 1 ≤ min (length (listed g)) limit
  stands_within h = omega (arith, at_below x.reading)

pub handed_all : (g : Graph) (passed : ℕ) (old : List ℕ) (last end : ℕ) (new : List ℕ) → passed < last → last ≤ min (length (listed g)) limit
    → (last ≡ min (length (listed g)) limit) ⊎ (length old < end + g.nodes) → Handed g passed old last end new → Filled g passed old last new
handed_all g passed old last end new some within full h =
    let all : length (placings (listed g) passed last) ≡ end = ap length (sym h.bytes) ∙ length-take-le end new (omega (arith, h.long, h.fits)) in
    record {
      some = some;
      within = within;
      fits = omega (arith, all, h.fits);
      bytes = sym (take-append-drop end new) ∙ rw (h.bytes, h.rest, all) refl;
      full = rw all full;
    }

-- where the walk to the next one leads

pub past_limit : (g : Graph) (passed : ℕ) (old : List ℕ) → limit ≤ passed → StretchOf g passed old passed old
past_limit g passed old h = inl (omega (arith, h), refl, refl)

module _ (g : Graph) (trail : Trail) (states : List NodeSet) (passed : ℕ) {r : Result Level TooFew} (x : Reaches g trail states (passed + 1) r) where
  pub none_left : {few : TooFew} → r ≡ Err few → min (length (listed g)) limit ≤ passed
  none_left e =
      let y = reached_only g trail states (passed + 1) x e in
      omega (arith, y.0, y.1)

  pub next_stands : {at : Level} → r ≡ Ok at → Stands g trail states at passed
  next_stands {at} e =
      let same : passed + 1 - 1 ≡ passed = omega arith in
      subst (λ (k : ℕ). Stands g trail states at k) same (reached_at g trail states (passed + 1) x e)

-- where the walk stands, as the code takes it out
pub stands_taken : {g : Graph} {trail : Trail} {states : List NodeSet} {k : ℕ} {next : Option Level} {at taken : Level} → next ≡ Some at → next ≡ Some taken → Stands g trail states at k → Stands g trail states taken k
stands_taken {g} {trail} {states} {k} {at = at} {taken = taken} e t x =
    let same : at ≡ taken = grind arith in
    subst (λ (l : Level). Stands g trail states l k) same x
