-- Bytes written for each member of a set, the lowest first: a loop that takes the members out and writes f of each.
use Prim.Native.Nat.{ℕ, zero, suc, ◌+◌, ◌≤◌, ◌<◌}
use mathlib.Core.Path.{◌≡◌, refl, sym, ap, subst, ◌∙◌}
use mathlib.Core.List.{List, [], ◌∷◌, ◌++◌, append_assoc, append-nil}
use mathlib.Core.Bool.{false, cond}
use mathlib.Core.Logic.{⊎_elim}
use native.Mathlib.Nat.{eq-or-lt_of_le}
use native.Mathlib.Omega.{arith}
use lib.ListN.{length, length-append}
use borrow.Author.Tests.{eq-eqb, ne_eqb}
use Rattle.base_finite.specs.Below.{count, spread, select}
use Rattle.base_finite.specs.Stores.{Written}
use Rattle.base_finite.proofs.Runs.{spread_gap, select_is, select_length}
use Rattle.base_finite.proofs.Stores.{written_none, written_more, room}
use Rattle.base_nodeset.specs.Set.{mem, Empty, Lowest}
use Rattle.base_nodeset.specs.declared.NodeSet.{NodeSet}

-- f of each member, ascending
abbrev pub each : (ℕ → List ℕ) → NodeSet → List ℕ
each f s = spread 128 (λ k. cond (mem s k) (f k) [])

each_none : (f : ℕ → List ℕ) (s : NodeSet) → Empty s → each f s ≡ []
unfolding spread
each_none f s none = spread_gap (λ k. cond (mem s k) (f k) []) 0 128 (omega arith) (λ k a b. rw (none k))

-- the lowest member's comes first
each_first : (f : ℕ → List ℕ) {x : ℕ} {left rest : NodeSet} → Lowest left x rest → each f left ≡ f x ++ each f rest
unfolding spread
each_first f {x} {left} {rest} first = up_to 128 first.below
  where
    gone : (k : ℕ) → k < x → mem rest k ≡ false
    gone k h = first.others k ∙ rw (first.none_lower k h, ne_eqb k x (omega arith))

    up_to : (n : ℕ) → x < n → spread n (λ k. cond (mem left k) (f k) []) ≡ f x ++ spread n (λ k. cond (mem rest k) (f k) [])
    up_to zero h = absurd (omega arith)
    up_to (suc n) h =
        ⊎_elim
        (λ (e : x ≡ n).
        rw (
          ← e,
          spread_gap (λ k. cond (mem left k) (f k) []) 0 x (omega arith) (λ k a b. rw (first.none_lower k b)),
          spread_gap (λ k. cond (mem rest k) (f k) []) 0 x (omega arith) (λ k a b. rw (gone k b)),
          first.in_set,
          first.others x,
          eq-eqb x x (omega arith),
        )
        (sym (append-nil (f x))))
        (λ (b : x < n). rw (up_to n b, first.others n, ne_eqb n x (omega arith)) (append_assoc (f x) (spread n (λ k. cond (mem rest k) (f k) [])) (cond (mem left n) (f n) [])))
        (eq-or-lt_of_le (omega arith))

-- the bytes of the members that are no longer left are written
pub record Left (f : ℕ → List ℕ) (all left : NodeSet) (old : List ℕ) (start : ℕ) (new : List ℕ) (at : ℕ) : Type 0 where
  pub bytes : List ℕ
  pub rest : bytes ++ each f left ≡ each f all
  pub so_far : Written old start bytes new at

module _ (f : ℕ → List ℕ) (all : NodeSet) where
  pub none_written : (old : List ℕ) (start : ℕ) → Left f all all old start old start
  none_written old start = record { bytes = []; rest = refl; so_far = written_none old start }

  module _ (left : NodeSet) (old : List ℕ) (start : ℕ) (new : List ℕ) (at : ℕ) (w : Left f all left old start new at) where
    module _ (x : ℕ) (left' : NodeSet) (first : Lowest left x left') where
      next : (w.bytes ++ f x) ++ each f left' ≡ each f all
      next = rw append_assoc (rw (each_first f first) at w.rest)

      pub member_room : start + length (each f all) ≤ length old → at + length (f x) ≤ length old
      member_room fits =
          room old start w.bytes new at (f x) (each f all) w.so_far
          (rw (← next) (omega (arith, length-append (w.bytes ++ f x) (each f left'))))
          fits

      pub member_written : (new' : List ℕ) (at' : ℕ) → Written new at (f x) new' at' → Left f all left' old start new' at'
      member_written new' at' more =
          record {
            bytes = w.bytes ++ f x;
            rest = next;
            so_far = written_more old start _ new at _ new' at' w.so_far more;
          }

    pub all_written : Empty left → Written old start (each f all) new at
    all_written none = rw (← w.rest, each_none f left none, append-nil) w.so_far

-- the members themselves, a byte each

abbrev pub itself : ℕ → List ℕ
itself k = k ∷ []

pub members_fit : (s : NodeSet) (at : ℕ) (out : List ℕ) → at + count 128 (mem s) ≤ length out → at + length (each itself s) ≤ length out
members_fit s at out fits = omega (arith, fits, select_length 128 (mem s), ap length (select_is 128 (mem s)))

pub members_written : (s : NodeSet) {old new : List ℕ} {at r : ℕ} → Written old at (each itself s) new r → Written old at (select 128 (mem s)) new r
members_written s {old} {new} {at} {r} w = subst (λ (bs : List ℕ). Written old at bs new r) (sym (select_is 128 (mem s))) w
