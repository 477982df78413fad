-- The loops that find what is free: the invariant of each, what it is at first, after a turn and at the end.
use Prim.Native.Nat.{ℕ, ◌+◌, ◌≤◌, ◌<◌}
use mathlib.Core.Path.{◌≡◌, refl, sym, subst, fun_ext, ◌∙◌}
use mathlib.Core.Bool.{Bool, true, false, true≢false}
use mathlib.Core.Logic.{◌⊎◌, inl, inr, ⊎_elim, ◌↔◌}
use native.Mathlib.Omega.{arith}
use Rattle.base_finite.specs.Below.{any, count}
use Rattle.base_finite.proofs.Laws.{and_both, or_cases, or_left, or_right, any_found}
use Rattle.base_nodeset.specs.Set.{mem, Empty, Removed, Union, Intersection, Lowest}
use Rattle.base_nodeset.specs.declared.NodeSet.{NodeSet}
use Rattle.base_nodeset.proofs.Members.{Small, removed_member, removed_cases, removed_gone, removed_out, removed_other, one_less}
use Rattle.base_tables.specs.Rows.{IsRow, Closed, Tops}
use Rattle.solve_test.specs.Tables.{Symmetric}
use Rattle.solve_test.specs.Free.{Spread, start, Spreads, Apart, others, Taken, Taking, none_taken, then_taken, Round}
use Rattle.solve_test.proofs.Spreading.{spread_within, spread_map, spread_back}

-- the leaves gone through are apart, and seen is what is reached from below one of them

pub record ApartSo (below near : ℕ → ℕ → Bool) (within leaves left seen : NodeSet) : Type 0 where
  pub of_leaves : (k : ℕ) → mem left k ≡ true → mem leaves k ≡ true
  pub seen_is : (f : ℕ) → (mem seen f ≡ true) ↔ ((m : ℕ) × (mem leaves m ≡ true) × (mem left m ≡ false) × Spread near (mem within) (below m) f)
  pub parted : (l m f : ℕ) → mem leaves l ≡ true → mem left l ≡ false → mem leaves m ≡ true → mem left m ≡ false → Spread near (mem within) (below l) f → Spread near (mem within) (below m) f → l ≡ m

pub apart_start : (below near : ℕ → ℕ → Bool) (within leaves seen : NodeSet) → Empty seen → ApartSo below near within leaves leaves seen
apart_start below near within leaves seen e =
    record {
      of_leaves = λ k h. h;
      seen_is = λ f. (λ h. absurd (true≢false (sym h ∙ e f)), λ h. absurd (true≢false (sym h.1 ∙ h.2)));
      parted = λ l m f h n. absurd (true≢false (sym h ∙ n));
    }

module _
    (below near : ℕ → ℕ → Bool)
    (within leaves left left' seen row both : NodeSet)
    (l : ℕ)
    (a : ApartSo below near within leaves left seen)
    (first : Lowest left l left')
    (is_row : IsRow below l row)
    (is_both : Intersection row seen both) where
  -- something seen lies below l
  pub not_apart : any 128 (mem both) ≡ true → Apart below near (mem leaves) (mem within) → ⊥
  not_apart e ap' =
      let x = any_found 128 (mem both) e in
      let f : ℕ = x.0 in
      let b = and_both (mem row f) (mem seen f) (sym (is_both f) ∙ x.2) in
      let s = (a.seen_is f).0 b.1 in
      let from : Spread near (mem within) (below l) f = start (sym (is_row f) ∙ b.0) (spread_within s.3) in
      let same : l ≡ s.0 = ap' l s.0 f (a.of_leaves l first.in_set) s.1 from s.3 in
      true≢false (sym first.in_set ∙ rw (← same) at s.2)

  module _
      (symmetric : Symmetric near)
      (small : Small within)
      (none : (k : ℕ) → k < 128 → mem both k ≡ false) where
    -- a leaf gone through reaches nothing that l reaches
    never_both : (m f : ℕ) → mem leaves m ≡ true → mem left m ≡ false → Spread near (mem within) (below l) f → Spread near (mem within) (below m) f → ⊥
    never_both m f h n p q =
        let x = spread_back symmetric p q in
        let s : ℕ = x.0 in
        let in_row_lem : mem row s ≡ true = is_row s ∙ x.1 in
        let in_seen : mem seen s ≡ true = (a.seen_is s).1 (m, h, n, x.3) in
        true≢false (sym (is_both s ∙ rw (in_row_lem, in_seen)) ∙ none s (small s x.2))

    -- so l is apart too
    parted_more : (x y f : ℕ) → mem leaves x ≡ true → mem left' x ≡ false → mem leaves y ≡ true → mem left' y ≡ false → Spread near (mem within) (below x) f → Spread near (mem within) (below y) f → x ≡ y
    parted_more x y f hx nx hy ny p q =
        removed_cases left l left' first.others x nx
        (λ (i : x ≡ l).
        removed_cases left l left' first.others y ny
        (λ (j : y ≡ l). i ∙ sym j)
        (λ n o. absurd (never_both y f hy o (subst (λ (z : ℕ). Spread near (mem within) (below z) f) i p) q)))
        (λ n o.
        removed_cases left l left' first.others y ny
        (λ (j : y ≡ l). absurd (never_both x f hx o (subst (λ (z : ℕ). Spread near (mem within) (below z) f) j q) p))
        (λ n' o'. a.parted x y f hx o hy o' p q))

    -- l was the last
    pub apart_last : Small leaves → ((k : ℕ) → k < 128 → mem left' k ≡ false) → Apart below near (mem leaves) (mem within)
    apart_last few gone x y f hx hy p q = parted_more x y f hx (gone x (few x hx)) hy (gone y (few y hy)) p q

    module _ (joined seen' : NodeSet) (is_joined : Spreads near (mem within) (mem row) joined) (is_seen' : Union seen joined seen') where
      from_row : {f : ℕ} → Spread near (mem within) (mem row) f → Spread near (mem within) (below l) f
      from_row = spread_map (λ k h. sym (is_row k) ∙ h)

      to_row : {f : ℕ} → Spread near (mem within) (below l) f → Spread near (mem within) (mem row) f
      to_row = spread_map (λ k h. is_row k ∙ h)

      pub apart_more : ApartSo below near within leaves left' seen'
      apart_more =
          record {
            of_leaves = λ k h. a.of_leaves k (removed_member left l left' first.others k h).0;
            seen_is = λ f. (
              λ h.
                  ⊎_elim
                  (λ (t : mem seen f ≡ true). let s = (a.seen_is f).0 t in (s.0, s.1, removed_out left l left' first.others s.0 s.2, s.3))
                  (λ (t : mem joined f ≡ true). (l, a.of_leaves l first.in_set, removed_gone left l left' first.others, from_row ((is_joined f).0 t)))
                  (or_cases (mem seen f) (mem joined f) (sym (is_seen' f) ∙ h)),
              λ h.
                  is_seen' f
                  ∙ removed_cases left l left' first.others h.0 h.2
                  (λ (i : h.0 ≡ l).
                  or_right (mem seen f) (mem joined f) ((is_joined f).1 (to_row (subst (λ (z : ℕ). Spread near (mem within) (below z) f) i h.3))))
                  (λ n (o : mem left h.0 ≡ false). or_left (mem seen f) (mem joined f) ((a.seen_is f).1 (h.0, h.1, o, h.3))),
            );
            parted = parted_more;
          }

pub apart_end : (below near : ℕ → ℕ → Bool) (within leaves left seen : NodeSet) → ApartSo below near within leaves left seen → Empty left → Apart below near (mem leaves) (mem within)
apart_end below near within leaves left seen a none l m f hl hm p q = a.parted l m f hl (none l) hm (none m) p q

-- the same leaves in the same set
pub apart_same : (below near : ℕ → ℕ → Bool) (leaves leaves' within within' : ℕ → Bool) → ((k : ℕ) → leaves k ≡ leaves' k) → ((k : ℕ) → within k ≡ within' k)
    → Apart below near leaves within → Apart below near leaves' within'
apart_same below near leaves leaves' within within' e i a =
    let same : leaves ≡ leaves' = fun_ext e in
    let inside : within ≡ within' = fun_ext i in
    subst (λ (w : ℕ → Bool). Apart below near leaves' w) inside (subst (λ (w : ℕ → Bool). Apart below near w within) same a)

-- F taken out or not, by the answer b of the test

module _
    (below near leaves : ℕ → ℕ → Bool)
    (rem without row : NodeSet)
    (F : ℕ)
    (b : Bool)
    (is_without : Removed rem F without)
    (is_row : IsRow leaves F row)
    (answer : (b ≡ true) ↔ Apart below near (mem row) (mem without)) where
  pub taken_out : b ≡ true → Taken below near leaves rem F without
  taken_out e = inl (apart_same below near (mem row) (leaves F) (mem without) (others (mem rem) F) is_row is_without (answer.0 e), is_without)

  pub not_taken : b ≡ false → Taken below near leaves rem F rem
  not_taken e =
      inr (λ a. true≢false (sym (answer.1 (apart_same below near (leaves F) (mem row) (others (mem rem) F) (mem without) (λ k. sym (is_row k)) (λ k. sym (is_without k)) a)) ∙ e), refl)

-- a round: the tops that are not left were tried

pub taking_trans : {below near leaves : ℕ → ℕ → Bool} {a b c : NodeSet} → Taking below near leaves a b → Taking below near leaves b c → Taking below near leaves a c
taking_trans p none_taken = p
taking_trans p (then_taken F q f r) = then_taken F (taking_trans p q) f r

pub record RoundSo (below near leaves : ℕ → ℕ → Bool) (rem tops rest left : NodeSet) : Type 0 where
  pub taking : Closed below → Taking below near leaves rem rest
  pub of_rem : (k : ℕ) → mem rest k ≡ true → mem rem k ≡ true
  pub of_tops : (k : ℕ) → mem left k ≡ true → (mem tops k ≡ true) × (mem rest k ≡ true)
  pub tried : ((rest ≡ rem) × ((F : ℕ) → mem tops F ≡ true → mem left F ≡ false → Apart below near (leaves F) (others (mem rem) F) → ⊥)) ⊎ (count 128 (mem rest) < count 128 (mem rem))

pub round_start : (below near leaves : ℕ → ℕ → Bool) (rem tops : NodeSet) → Tops below rem tops → RoundSo below near leaves rem tops rem tops
round_start below near leaves rem tops is =
    record {
      taking = λ closed. none_taken;
      of_rem = λ k h. h;
      of_tops = λ k h. (h, is.of_set k h);
      tried = inl (refl, λ F h n. absurd (true≢false (sym h ∙ n)));
    }

-- not more than before
round_fewer : {below near leaves : ℕ → ℕ → Bool} {rem tops rest left : NodeSet} → RoundSo below near leaves rem tops rest left → count 128 (mem rest) ≤ count 128 (mem rem)
round_fewer {below} {near} {leaves} {rem} {tops} {rest} {left} s =
    ⊎_elim
    (λ (t : (rest ≡ rem) × ((F : ℕ) → mem tops F ≡ true → mem left F ≡ false → Apart below near (leaves F) (others (mem rem) F) → ⊥)). rw t.0 (omega arith))
    (λ (t : count 128 (mem rest) < count 128 (mem rem)). omega arith)
    s.tried

pub round_more : (below near leaves : ℕ → ℕ → Bool) (rem tops rest left rest' left' : NodeSet) (f : ℕ) → Tops below rem tops → Lowest left f left'
    → RoundSo below near leaves rem tops rest left → Taken below near leaves rest f rest' → RoundSo below near leaves rem tops rest' left'
round_more below near leaves rem tops rest left rest' left' f is first s (inl (apart, r)) =
    let here = s.of_tops f first.in_set in
    let less : count 128 (mem rest) ≡ count 128 (mem rest') + 1 = one_less rest f rest' first.below here.1 r in
    record {
      taking = λ closed.
          then_taken f (s.taking closed)
          (record { member = here.1; none_above = λ y h e. ((is.exact closed f).0 here.0).1 y (s.of_rem y h) e; one_leaf = apart })
          r;
      of_rem = λ k h. s.of_rem k (removed_member rest f rest' r k h).0;
      of_tops = λ k h.
          let b = removed_member left f left' first.others k h in
          let o = s.of_tops k b.0 in
          (o.0, removed_other rest f rest' r k b.1 ∙ o.1);
      tried = inr (omega (arith, round_fewer s));
    }
round_more below near leaves rem tops rest left rest' left' f is first s (inr (not_apart, same)) =
    record {
      taking = λ closed. subst (λ (z : NodeSet). Taking below near leaves rem z) (sym same) (s.taking closed);
      of_rem = λ k h. s.of_rem k (rw same at h);
      of_tops = λ k h.
          let o = s.of_tops k (removed_member left f left' first.others k h).0 in
          (o.0, rw same o.1);
      tried =
          ⊎_elim
          (λ (t : (rest ≡ rem) × ((F : ℕ) → mem tops F ≡ true → mem left F ≡ false → Apart below near (leaves F) (others (mem rem) F) → ⊥)).
          inl (
            same ∙ t.0,
            λ F h n.
                removed_cases left f left' first.others F n
                (λ (i : F ≡ f). rw (i, ← t.0) not_apart)
                (λ o (x : mem left F ≡ false). t.1 F h x),
          ))
          (λ (t : count 128 (mem rest) < count 128 (mem rem)). inr (rw same t))
          s.tried;
    }

pub round_end : (below near leaves : ℕ → ℕ → Bool) (rem tops rest left : NodeSet) → Tops below rem tops → RoundSo below near leaves rem tops rest left → Empty left → Round below near leaves rem rest
round_end below near leaves rem tops rest left is s none =
    record {
      taking = s.taking;
      fewer = round_fewer s;
      or_stuck = λ closed e F free.
          ⊎_elim
          (λ (t : (rest ≡ rem) × ((F : ℕ) → mem tops F ≡ true → mem left F ≡ false → Apart below near (leaves F) (others (mem rem) F) → ⊥)).
          t.1 F ((is.exact closed F).1 (free.member, free.none_above)) (none F) free.one_leaf)
          (λ (t : count 128 (mem rest) < count 128 (mem rem)). absurd (omega arith))
          s.tried;
    }
