-- Texts stored one after the other, and tables that are filled entry by entry.
use Prim.Native.Nat.{ℕ, zero, suc, ◌+◌, ◌≤◌, ◌<◌}
use mathlib.Core.Path.{◌≡◌, refl, sym, ap, ◌∙◌}
use mathlib.Core.List.{List, [], ◌∷◌, ◌++◌}
use mathlib.Core.Bool.{true, false, cond}
use native.Mathlib.Nat.{add-zero, add_assoc}
use native.Mathlib.Numerals.{add-one}
use native.Mathlib.Omega.{arith}
use lib.Dec.{eqb, ltb}
use lib.ListN.{length, get_or, set, replicate, length-set, length-append, length-replicate, get_or-replicate, get_or-eq_default}
use lib.Seq.{sets, length-sets, get_or-set_same, get_or-set_other}
use borrow.Author.Tests.{eqb-true, eqb-false, ltb-true, ltb-false}
use Rattle.base_finite.proofs.Laws.{by_bool}
use Rattle.base_finite.proofs.Runs.{sets_append}
use Rattle.base_finite.specs.Stores.{Written}

-- nothing stored
pub written_none : (old : List ℕ) (at : ℕ) → Written old at [] old at
written_none old at = record { stored = refl; after = sym (add-zero at) }

-- one byte stored
pub written_one : (old : List ℕ) (at b : ℕ) → Written old at (b ∷ []) (set old at b) (at + 1)
written_one old at b = record { stored = refl; after = refl }

-- more bytes stored after the others
pub written_more : (old : List ℕ) (at : ℕ) (bs mid : List ℕ) (end : ℕ) (cs new : List ℕ) (last : ℕ) → Written old at bs mid end → Written mid end cs new last → Written old at (bs ++ cs) new last
written_more old at bs mid end cs new last w v =
    record {
      stored = v.stored ∙ rw (w.stored, w.after) (sets_append bs old at cs);
      after = v.after ∙ rw (w.after, length-append) (add_assoc at (length bs) (length cs));
    }

-- one byte more
pub written_byte : (old : List ℕ) (at : ℕ) (bs mid : List ℕ) (end b : ℕ) → Written old at bs mid end → Written old at (bs ++ b ∷ []) (set mid end b) (end + 1)
written_byte old at bs mid end b w = written_more old at bs mid end (b ∷ []) (set mid end b) (end + 1) w (written_one mid end b)

-- two bytes more
pub written_two : (old : List ℕ) (at : ℕ) (bs mid : List ℕ) (end x y : ℕ) → Written old at bs mid end → Written old at (bs ++ x ∷ y ∷ []) (set (set mid end x) (end + 1) y) (end + 2)
written_two old at bs mid end x y w =
    written_more old at bs mid end (x ∷ y ∷ []) (set (set mid end x) (end + 1) y) (end + 2) w (record { stored = rw add-one; after = refl })

-- a store keeps the length
pub written_length : (old : List ℕ) (at : ℕ) (bs new : List ℕ) (end : ℕ) → Written old at bs new end → length new ≡ length old
written_length old at bs new end w = ap length w.stored ∙ length-sets old at bs

-- what a run of stores leaves at each place: before it, in it and after it

pub stored_before : (bs l : List ℕ) (i k : ℕ) → k < i → get_or (sets l i bs) k 0 ≡ get_or l k 0
stored_before [] l i k h = refl
stored_before (b ∷ bs) l i k h =
    let other : k ≡ i → ⊥ = λ e. omega arith in
    stored_before bs (set l i b) (suc i) k (omega arith) ∙ get_or-set_other l i k b 0 other

pub stored_in : (bs l : List ℕ) (i k : ℕ) → k < length bs → i + length bs ≤ length l → get_or (sets l i bs) (i + k) 0 ≡ get_or bs k 0
stored_in [] l i k h fits = absurd (omega arith)
stored_in (b ∷ bs) l i zero h fits =
    rw add-zero (stored_before bs (set l i b) (suc i) i (omega arith) ∙ get_or-set_same l i b 0 (omega arith))
stored_in (b ∷ bs) l i (suc k) h fits =
    let e : i + suc k ≡ suc i + k = omega arith in
    rw e (stored_in bs (set l i b) (suc i) k (omega arith) (omega (arith, length-set l i b)))

pub stored_after : (bs l : List ℕ) (i k : ℕ) → i + length bs ≤ k → get_or (sets l i bs) k 0 ≡ get_or l k 0
stored_after [] l i k h = refl
stored_after (b ∷ bs) l i k h =
    let other : k ≡ i → ⊥ = λ e. omega arith in
    stored_after bs (set l i b) (suc i) k (omega arith) ∙ get_or-set_other l i k b 0 other

-- where one part more has room in the whole, it has room after the parts passed
pub room : (old : List ℕ) (start : ℕ) (bs new : List ℕ) (at : ℕ) (more whole : List ℕ) → Written old start bs new at → length (bs ++ more) ≤ length whole
    → start + length whole ≤ length old → at + length more ≤ length old
room old start bs new at more whole w h f =
    let long = length-append bs more in
    let after = w.after in
    omega arith

-- one entry more of a table that is to have f k at k
pub entry_more : (f : ℕ → ℕ) (l : List ℕ) (v x : ℕ) → v < length l → x ≡ f v → ((k : ℕ) → k < v → get_or l k 0 ≡ f k) → (k : ℕ) → k < v + 1 → get_or (set l v x) k 0 ≡ f k
entry_more f l v x h e below k lt =
    by_bool (eqb k v)
    (λ (t : eqb k v ≡ true).
    let i : k ≡ v = eqb-true k v t in
    rw (i, get_or-set_same l v x 0 h) e)
    (λ (t : eqb k v ≡ false).
    let apart : k ≡ v → ⊥ = eqb-false k v t in
    rw (get_or-set_other l v k x 0 apart) (below k (omega arith)))

-- the first v entries are f's, and the others as before
abbrev pub Filled : (ℕ → ℕ) → ℕ → List ℕ → List ℕ → Type 0
Filled f v old new = (k : ℕ) → get_or new k 0 ≡ cond (ltb k v) (f k) (get_or old k 0)

-- a table of zeros, and what is read behind its end
pub zeros : (m l : ℕ) → ◌≡◌ {A = ℕ} (get_or (replicate m 0) l 0) 0
zeros m l =
    by_bool (ltb l m)
    (λ (e : ltb l m ≡ true). get_or-replicate m l 0 0 (ltb-true l m e))
    (λ (e : ltb l m ≡ false). get_or-eq_default (replicate m 0) 0 (rw (length-replicate {A = ℕ} m 0) (ltb-false l m e)))
