-- What is reached by near steps within a set: it grows with what it starts from; where near goes both ways, it is reached
-- backwards too. The invariant of the loop that finds it: what is not unseen is reached, and gone on from unless pending.
use Prim.Native.Nat.{ℕ, ◌+◌}
use mathlib.Core.Path.{◌≡◌, refl, sym, ◌∙◌}
use mathlib.Core.Bool.{Bool, true, false, not, ◌&&◌, ◌||◌, true≢false}
use mathlib.Core.Logic.{◌⊎◌, inl, inr, ⊎_elim}
use borrow.Author.Tests.{not-true}
use Rattle.base_finite.specs.Below.{count}
use Rattle.base_finite.proofs.Laws.{by_bool, and_both, or_cases, or_none, or_left, count_one_more}
use Rattle.base_nodeset.specs.Set.{mem, Empty, Union, Intersection, Difference, Lowest}
use Rattle.base_nodeset.specs.declared.NodeSet.{NodeSet}
use Rattle.base_nodeset.proofs.Members.{removed_member, removed_cases, removed_gone, removed_other, difference_out}
use Rattle.solve_test.specs.Tables.{Symmetric}
use Rattle.solve_test.specs.Free.{Spread, start, step, Spreads}

pub spread_within : {near : ℕ → ℕ → Bool} {within from : ℕ → Bool} {f : ℕ} → Spread near within from f → within f ≡ true
spread_within (start h w) = w
spread_within (step s n w) = w

pub spread_map : {near : ℕ → ℕ → Bool} {within from more : ℕ → Bool} → ((k : ℕ) → from k ≡ true → more k ≡ true) → {f : ℕ} → Spread near within from f → Spread near within more f
spread_map m (start {f = f} h w) = start (m f h) w
spread_map m (step s n w) = step (spread_map m s) n w

-- what is reached from both is reached from a start of the one, from the other
pub spread_back : {near : ℕ → ℕ → Bool} {within from other : ℕ → Bool} → Symmetric near → {f : ℕ} → Spread near within from f → Spread near within other f
    → (s : ℕ) × (from s ≡ true) × (within s ≡ true) × Spread near within other s
spread_back y (start {f = f} h w) o = (f, h, w, o)
spread_back y (step {f = f} {h = h} s n w) o = spread_back y s (step o (y f h n) (spread_within s))

pub record Growing (near : ℕ → ℕ → Bool) (within from pending unseen : ℕ → Bool) : Type 0 where
  pub parted : (k : ℕ) → pending k ≡ true → unseen k ≡ false
  pub pending_within : (k : ℕ) → pending k ≡ true → within k ≡ true
  pub unseen_within : (k : ℕ) → unseen k ≡ true → within k ≡ true
  pub starts_seen : (k : ℕ) → from k ≡ true → unseen k ≡ false
  pub reached : (k : ℕ) → within k ≡ true → unseen k ≡ false → Spread near within from k
  pub gone_on : (f h : ℕ) → within f ≡ true → unseen f ≡ false → pending f ≡ false → near f h ≡ true → within h ≡ true → unseen h ≡ false

pub growing_starts : (near : ℕ → ℕ → Bool) (from within pending unseen : NodeSet) → Intersection from within pending → Difference within from unseen → Growing near (mem within) (mem pending) (mem pending) (mem unseen)
growing_starts near from within pending unseen p u =
    let is_start : (k : ℕ) → mem within k ≡ true → mem unseen k ≡ false → mem pending k ≡ true =
    λ k w n.
    by_bool (mem from k)
    (λ e. p k ∙ rw (e, w))
    (λ e. absurd (true≢false (sym (u k ∙ rw (e, w)) ∙ n))) in
    let parts : (k : ℕ) → mem pending k ≡ true → mem unseen k ≡ false =
    λ k h.
    let b = and_both (mem from k) (mem within k) (sym (p k) ∙ h) in
    u k ∙ rw (b.0, b.1) in
    record {
      parted = parts;
      pending_within = λ k h. (and_both (mem from k) (mem within k) (sym (p k) ∙ h)).1;
      unseen_within = λ k h. (and_both (mem within k) (not (mem from k)) (sym (u k) ∙ h)).0;
      starts_seen = parts;
      reached = λ k w n. start (is_start k w n) w;
      gone_on = λ f h w n e. absurd (true≢false (sym (is_start f w n) ∙ e));
    }

module _
    (near : ℕ → ℕ → Bool)
    (within from : ℕ → Bool)
    (pending unseen new rest pending' unseen' row : NodeSet)
    (f : ℕ)
    (g : Growing near within from (mem pending) (mem unseen))
    (first : Lowest pending f rest)
    (is_row : (v : ℕ) → mem row v ≡ near f v)
    (is_new : Intersection row unseen new)
    (is_pending' : Union rest new pending')
    (is_unseen' : Difference unseen new unseen') where
  new_parts : (k : ℕ) → mem new k ≡ true → (near f k ≡ true) × (mem unseen k ≡ true)
  new_parts k h =
      let b = and_both (mem row k) (mem unseen k) (sym (is_new k) ∙ h) in
      (sym (is_row k) ∙ b.0, b.1)

  new_seen : (k : ℕ) → mem new k ≡ true → mem unseen' k ≡ false
  new_seen k e = is_unseen' k ∙ rw ((new_parts k e).1, e)

  -- what is seen was seen, or is new
  seen_cases : (k : ℕ) → mem unseen' k ≡ false → (mem unseen k ≡ false) ⊎ (mem new k ≡ true)
  seen_cases k e =
      by_bool (mem new k)
      (λ (t : mem new k ≡ true). inr t)
      (λ (t : mem new k ≡ false). by_bool (mem unseen k) (λ u. absurd (true≢false (sym (is_unseen' k ∙ rw (u, t)) ∙ e))) (λ u. inl u))

  pending_cases : (k : ℕ) → mem pending' k ≡ true → (mem pending k ≡ true) ⊎ (mem new k ≡ true)
  pending_cases k e =
      ⊎_elim
      (λ (t : mem rest k ≡ true). inl (removed_member pending f rest first.others k t).0)
      (λ (t : mem new k ≡ true). inr t)
      (or_cases (mem rest k) (mem new k) (sym (is_pending' k) ∙ e))

  found : Spread near within from f
  found = g.reached f (g.pending_within f first.in_set) (g.parted f first.in_set)

  goes_on : (x h : ℕ) → within x ≡ true → mem unseen' x ≡ false → mem pending' x ≡ false → near x h ≡ true → within h ≡ true → mem unseen' h ≡ false
  goes_on x h w u p n v =
      let b = or_none (mem rest x) (mem new x) (sym (is_pending' x) ∙ p) in
      let seen : mem unseen x ≡ false = ⊎_elim (λ (t : mem unseen x ≡ false). t) (λ (t : mem new x ≡ true). absurd (true≢false (sym t ∙ b.1))) (seen_cases x u) in
      removed_cases pending f rest first.others x b.0
      (λ (i : x ≡ f).
      let near_f : near f h ≡ true = rw i at n in
      by_bool (mem unseen h)
      (λ t. new_seen h (is_new h ∙ rw (is_row h, near_f, t)))
      (λ t. difference_out unseen new unseen' is_unseen' h t))
      (λ a (o : mem pending x ≡ false). difference_out unseen new unseen' is_unseen' h (g.gone_on x h w seen o n v))

  pub growing_on : Growing near within from (mem pending') (mem unseen')
  growing_on =
      record {
        parted = λ k h. ⊎_elim (λ (t : mem pending k ≡ true). difference_out unseen new unseen' is_unseen' k (g.parted k t)) (new_seen k) (pending_cases k h);
        pending_within = λ k h. ⊎_elim (g.pending_within k) (λ (t : mem new k ≡ true). g.unseen_within k (new_parts k t).1) (pending_cases k h);
        unseen_within = λ k h. g.unseen_within k (and_both (mem unseen k) (not (mem new k)) (sym (is_unseen' k) ∙ h)).0;
        starts_seen = λ k h. difference_out unseen new unseen' is_unseen' k (g.starts_seen k h);
        reached = λ k w e.
            ⊎_elim
            (λ (t : mem unseen k ≡ false). g.reached k w t)
            (λ (t : mem new k ≡ true). step found (new_parts k t).0 w)
            (seen_cases k e);
        gone_on = goes_on;
      }

  -- pending and unseen together lose f
  pub fewer_open : count 128 (λ k. mem pending k || mem unseen k) ≡ count 128 (λ k. mem pending' k || mem unseen' k) + 1
  fewer_open =
      count_one_more 128 (λ k. mem pending' k || mem unseen' k) (λ k. mem pending k || mem unseen k) f first.below
      (rw (is_pending' f, removed_gone pending f rest first.others, is_unseen' f, is_new f, g.parted f first.in_set)
      (by_bool (mem row f) (λ t. rw t) (λ t. rw t)))
      (or_left (mem pending f) (mem unseen f) first.in_set)
      (λ k n.
      rw (is_pending' k, removed_other pending f rest first.others k n, is_unseen' k, is_new k)
      (both (mem pending k) (mem row k) (mem unseen k)))
    where
      both : (p r u : Bool) → ((p || r && u) || u && not (r && u)) ≡ (p || u)
      both true r u = refl
      both false true true = refl
      both false true false = refl
      both false false true = refl
      both false false false = refl

-- with nothing pending, what is not unseen is what is reached
pub grown : (near : ℕ → ℕ → Bool) (within pending₀ pending unseen r : NodeSet) → Growing near (mem within) (mem pending₀) (mem pending) (mem unseen) → Empty pending → Difference within unseen r
    → Spreads near (mem within) (mem pending₀) r
grown near within pending₀ pending unseen r g none is f = (
  λ h.
      let b = and_both (mem within f) (not (mem unseen f)) (sym (is f) ∙ h) in
      g.reached f b.0 (not-true (mem unseen f) b.1),
  λ s. is f ∙ rw (spread_within s, seen s),
)
  where
    seen : {k : ℕ} → Spread near (mem within) (mem pending₀) k → mem unseen k ≡ false
    seen (start {f = k} h w) = g.starts_seen k h
    seen (step {f = k} {h = h} s n w) =
        g.gone_on k h (spread_within s) (seen s) (none k) n w

-- from the part of a set that lies within, or from the set
pub spread_from : (near : ℕ → ℕ → Bool) (from within both r : NodeSet) → Intersection from within both → Spreads near (mem within) (mem both) r → Spreads near (mem within) (mem from) r
spread_from near from within both r is s f = (
  λ h. spread_map (λ k e. (and_both (mem from k) (mem within k) (sym (is k) ∙ e)).0) ((s f).0 h),
  λ h. (s f).1 (inside h),
)
  where
    inside : {k : ℕ} → Spread near (mem within) (mem from) k → Spread near (mem within) (mem both) k
    inside (start {f = k} e w) = start (is k ∙ rw (e, w)) w
    inside (step p n w) = step (inside p) n w
