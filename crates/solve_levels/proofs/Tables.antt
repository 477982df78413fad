-- The table of decisions: one more entry, an entry written or turned, and what a decision adds.
use Prim.Native.Nat.{ℕ, zero, suc, ◌+◌, ◌≤◌, ◌<◌}
use mathlib.Core.Path.{◌≡◌, refl, sym, ap, subst, ◌∙◌}
use mathlib.Core.List.{[], ◌∷◌, ◌++◌}
use mathlib.Core.Bool.{true, false}
use native.Mathlib.Numerals.{add-one}
use native.Mathlib.Omega.{arith}
use lib.Dec.{ltb}
use lib.ListN.{length, get_or, length-append, length-set}
use lib.Seq.{get_or-set_same, get_or-set_other}
use borrow.Author.Tests.{lt-ltb, le-ltb, ltb-true, ltb-false}
use Rattle.base_finite.proofs.Laws.{by_bool}
use Rattle.graph.specs.Graph.{Graph, own}
use Rattle.graph.specs.Order.{adding}
use Rattle.theory_walk.specs.Walk.{first, second, half, graph_at, Valid}
use Rattle.theory_walk.proofs.Decisions.{graph_pushed, valid_popped}
use Rattle.solve_levels.specs.declared.Decision.{Decision as Entry}
use Rattle.solve_levels.specs.Decisions.{Trail, untaken, upper_at, lower_at, decision, decisions, opens, reached, Noted, Kept, written, turned}

pub decision_first : (a b : ℕ) → a < b → decision a b ≡ first a b
unfolding decision
decision_first a b h = rw (lt-ltb a b h)

pub decision_second : (a b : ℕ) → a ≤ b → decision b a ≡ second a b
unfolding decision
decision_second a b h = rw (le-ltb b a h)

-- the edge that a decision adds
pub half_edge : (g : Graph) (upper lower : ℕ) → half g (decision upper lower) ≡ adding g upper (own g lower)
unfolding decision
half_edge g upper lower =
    by_bool (ltb upper lower)
    (λ (e : ltb upper lower ≡ true). rw e)
    (λ (e : ltb upper lower ≡ false). rw e)

pub reached_none : (g : Graph) (trail : Trail) → reached g trail 0 ≡ g
unfolding decisions graph_at
reached_none g trail = refl

module _ (trail : Trail) where
  pub decisions_none : decisions trail 0 ≡ []
  unfolding decisions
  decisions_none = refl

  pub decisions_more : (k : ℕ) → decisions trail (k + 1) ≡ decisions trail k ++ (decision (upper_at trail k) (lower_at trail k) ∷ [])
  unfolding decisions
  decisions_more k = rw add-one

  pub decisions_length : (k : ℕ) → length (decisions trail k) ≡ k
  unfolding decisions
  decisions_length zero = refl
  decisions_length (suc k) =
      length-append (decisions trail k) (decision (upper_at trail k) (lower_at trail k) ∷ [])
      ∙ rw (decisions_length k) (add-one k)

  -- one edge after the other
  pub graph_more : (g : Graph) (k : ℕ) → reached g trail (k + 1) ≡ adding (reached g trail k) (upper_at trail k) (own (reached g trail k) (lower_at trail k))
  graph_more g k =
      ap (graph_at g) (decisions_more k)
      ∙ graph_pushed g (decisions trail k) (decision (upper_at trail k) (lower_at trail k))
      ∙ half_edge (reached g trail k) (upper_at trail k) (lower_at trail k)

  -- those before the last
  pub valid_fewer : (g : Graph) (i k : ℕ) → i ≤ k → Valid g (decisions trail k) → Valid g (decisions trail i)
  unfolding decisions
  valid_fewer g i zero h x = let e : i ≡ 0 = omega arith in rw e x
  valid_fewer g i (suc k) h x =
      by_bool (ltb k i)
      (λ (e : ltb k i ≡ true). let same : i ≡ suc k = omega (arith, ltb-true k i e) in rw same x)
      (λ (e : ltb k i ≡ false). valid_fewer g i k (omega (arith, ltb-false k i e)) (valid_popped g (decisions trail k) (decision (upper_at trail k) (lower_at trail k)) x).before)

pub decisions_same : (trail trail' : Trail) (k : ℕ) → ((i : ℕ) → i < k → get_or trail i untaken ≡ get_or trail' i untaken) → decisions trail k ≡ decisions trail' k
unfolding decisions
decisions_same trail trail' zero f = refl
decisions_same trail trail' (suc k) f =
    rw (ap (λ (e : Entry). e.upper) (f k (omega arith)), ap (λ (e : Entry). e.lower) (f k (omega arith)), decisions_same trail trail' k (λ i l. f i (omega arith)))

-- how many are first halves

module _ (trail : Trail) where
  pub opens_none : opens trail 0 ≡ 0
  unfolding opens
  opens_none = refl

  pub opens_first : (k : ℕ) → upper_at trail k < lower_at trail k → opens trail (k + 1) ≡ opens trail k + 1
  unfolding opens
  opens_first k h = rw (add-one k, lt-ltb (upper_at trail k) (lower_at trail k) h)

  pub opens_second : (k : ℕ) → lower_at trail k ≤ upper_at trail k → opens trail (k + 1) ≡ opens trail k
  unfolding opens
  opens_second k h = rw (add-one k, le-ltb (upper_at trail k) (lower_at trail k) h) (omega arith)

  opens_one : (k : ℕ) → (opens trail k ≤ opens trail (k + 1)) × (opens trail (k + 1) ≤ opens trail k + 1)
  opens_one k =
      by_bool (ltb (upper_at trail k) (lower_at trail k))
      (λ (e : ltb (upper_at trail k) (lower_at trail k) ≡ true). let is = opens_first k (ltb-true (upper_at trail k) (lower_at trail k) e) in (omega (arith, is), omega (arith, is)))
      (λ (e : ltb (upper_at trail k) (lower_at trail k) ≡ false). let is = opens_second k (ltb-false (upper_at trail k) (lower_at trail k) e) in (omega (arith, is), omega (arith, is)))

  pub opens_within : (k : ℕ) → opens trail k ≤ k
  opens_within zero = omega (arith, opens_none)
  opens_within (suc k) = let one : k + 1 ≡ suc k = add-one k in subst (λ (m : ℕ). opens trail m ≤ m) one (omega (arith, opens_within k, opens_one k))

  opens_grow : (i j : ℕ) → i ≤ j → opens trail i ≤ opens trail j
  opens_grow i zero h = let e : i ≡ 0 = omega arith in rw e (omega arith)
  opens_grow i (suc j) h =
      by_bool (ltb j i)
      (λ (e : ltb j i ≡ true). let same : i ≡ suc j = omega (arith, ltb-true j i e) in rw same (omega arith))
      (λ (e : ltb j i ≡ false).
      let one : j + 1 ≡ suc j = add-one j in
      subst (λ (m : ℕ). opens trail i ≤ opens trail m) one (omega (arith, opens_grow i j (ltb-false j i e), opens_one j)))

  -- a level where a choice is open has a lower number than those after it
  pub opens_before : (i j : ℕ) → i < j → upper_at trail i < lower_at trail i → opens trail i < opens trail j
  opens_before i j h less = omega (arith, opens_first i less, opens_grow (i + 1) j (omega arith))

  pub opens_seconds : (i j : ℕ) → i ≤ j → ((k : ℕ) → i ≤ k → k < j → lower_at trail k ≤ upper_at trail k) → opens trail i ≡ opens trail j
  opens_seconds i zero h f = let e : i ≡ 0 = omega arith in rw e
  opens_seconds i (suc j) h f =
      by_bool (ltb j i)
      (λ (e : ltb j i ≡ true). let same : i ≡ suc j = omega (arith, ltb-true j i e) in rw same)
      (λ (e : ltb j i ≡ false).
      let low : i ≤ j = ltb-false j i e in
      let one : j + 1 ≡ suc j = add-one j in
      opens_seconds i j low (λ k a b. f k a (omega arith)) ∙ sym (opens_second j (f j low (omega arith))) ∙ ap (opens trail) one)

pub opens_same : (trail trail' : Trail) (k : ℕ) → ((i : ℕ) → i < k → get_or trail i untaken ≡ get_or trail' i untaken) → opens trail k ≡ opens trail' k
unfolding opens
opens_same trail trail' zero f = refl
opens_same trail trail' (suc k) f =
    rw (ap (λ (e : Entry). e.upper) (f k (omega arith)), ap (λ (e : Entry). e.lower) (f k (omega arith)), opens_same trail trail' k (λ i l. f i (omega arith)))

pub kept_decisions : {depth : ℕ} {trail trail' : Trail} → Kept depth trail trail' → decisions trail' depth ≡ decisions trail depth
kept_decisions {depth} {trail} {trail'} kept = decisions_same trail' trail depth kept.same

-- an entry written

module _ (trail : Trail) (k upper lower : ℕ) where
  abbrev entry : Entry
  entry = record { upper = upper; lower = lower }

  pub written_length : length (written k upper lower trail) ≡ length trail
  written_length = length-set trail k entry

  pub written_kept : Kept k trail (written k upper lower trail)
  written_kept = record { same = λ i h. get_or-set_other trail k i entry untaken (λ e. omega arith) }

  module _ (long : k < length trail) where
    pub written_upper : upper_at (written k upper lower trail) k ≡ upper
    written_upper = ap (λ (e : Entry). e.upper) (get_or-set_same trail k entry untaken long)

    pub written_lower : lower_at (written k upper lower trail) k ≡ lower
    written_lower = ap (λ (e : Entry). e.lower) (get_or-set_same trail k entry untaken long)

    pub decisions_pushed : decisions (written k upper lower trail) (k + 1) ≡ decisions trail k ++ (decision upper lower ∷ [])
    decisions_pushed =
        decisions_more (written k upper lower trail) k
        ∙ rw (written_upper, written_lower, kept_decisions written_kept)

-- entries that stay

pub kept_all : (depth : ℕ) (trail : Trail) → Kept depth trail trail
kept_all depth trail = record { same = λ i h. refl }

pub kept_upper : {depth : ℕ} {trail trail' : Trail} → Kept depth trail trail' → (i : ℕ) → i < depth → upper_at trail' i ≡ upper_at trail i
kept_upper kept i h = ap (λ (e : Entry). e.upper) (kept.same i h)

pub kept_lower : {depth : ℕ} {trail trail' : Trail} → Kept depth trail trail' → (i : ℕ) → i < depth → lower_at trail' i ≡ lower_at trail i
kept_lower kept i h = ap (λ (e : Entry). e.lower) (kept.same i h)

pub kept_both : {m depth : ℕ} {trail trail' trail'' : Trail} → m ≤ depth → Kept m trail trail' → Kept depth trail' trail'' → Kept m trail trail''
kept_both h one two = record { same = λ i l. two.same i (omega arith) ∙ one.same i l }

kept_written : {depth : ℕ} {trail trail' : Trail} (at upper lower : ℕ) → depth ≤ at → Kept depth trail trail' → Kept depth trail (written at upper lower trail')
kept_written {trail' = trail'} at upper lower h kept = kept_both h kept (written_kept trail' at upper lower)

pub kept_wrote : {depth : ℕ} {trail trail' trail'' : Trail} (at upper lower : ℕ) → depth ≤ at → trail'' ≡ written at upper lower trail' → Kept depth trail trail' → Kept depth trail trail''
kept_wrote {depth} {trail} {trail'} at upper lower h e kept = rw e (kept_written at upper lower h kept)

pub noted_written : {n : ℕ} (trail trail' : Trail) (i a b : ℕ) → trail' ≡ written i a b trail → i < length trail → a < n → b < n → Noted n trail' i
noted_written trail trail' i a b e long ha hb =
    rw e
    (record {
      long = omega (arith, long, written_length trail i a b);
      upper = omega (arith, ha, written_upper trail i a b long);
      lower = omega (arith, hb, written_lower trail i a b long);
    })

-- a decision turned
pub noted_turned : {n : ℕ} (trail trail' : Trail) (last at : ℕ) → trail' ≡ turned last trail → at ≡ last → Noted n trail last → Noted n trail' at
noted_turned {n} trail trail' last at e is x =
    rw (e, is)
    (record {
      long = omega (arith, x.long, written_length trail last (lower_at trail last) (upper_at trail last));
      upper = omega (arith, x.lower, written_upper trail last (lower_at trail last) (upper_at trail last) x.long);
      lower = omega (arith, x.upper, written_lower trail last (lower_at trail last) (upper_at trail last) x.long);
    })

pub turn_kept : {trail trail' : Trail} (last : ℕ) → trail' ≡ turned last trail → Kept last trail trail'
turn_kept {trail} last e = rw e (written_kept trail last (lower_at trail last) (upper_at trail last))

-- decisions that stay are there still
pub noted_kept : {n depth : ℕ} {trail trail' : Trail} (i : ℕ) → Kept depth trail trail' → length trail' ≡ length trail → i < depth → Noted n trail i → Noted n trail' i
noted_kept i kept e h x =
    record {
      long = omega (arith, x.long);
      upper = omega (arith, x.upper, kept_upper kept i h);
      lower = omega (arith, x.lower, kept_lower kept i h);
    }

pub noted_long : {n : ℕ} {trail : Trail} (depth : ℕ) → ((i : ℕ) → i < depth → Noted n trail i) → depth ≤ length trail
noted_long zero noted = omega arith
noted_long (suc depth) noted = omega (arith, (noted depth (omega arith)).long)
