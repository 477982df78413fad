-- The walk's steps, from state to state. Where a choice is left it enters the first half; where none is left it stands at a
-- reading, the one that comes next, and leaves it. A graph with no solved form has no readings: once entered it is left.
-- Leaving a first half it turns to the second; leaving a second half it drops the decision. With no decision left to drop,
-- every reading is passed.
use Prim.Native.Nat.{ℕ, ◌+◌, ◌-◌, ◌*◌, ◌<◌}
use mathlib.Core.Path.{◌≡◌, refl, sym, ap, subst, ◌∙◌}
use mathlib.Core.List.{List, [], ◌∷◌, ◌++◌, append-nil}
use native.Mathlib.Nat.{add-zero}
use native.Mathlib.Omega.{arith}
use lib.ListN.{length, drop, length-append, length-drop}
use lib.Seq.{drop-drop, get_or-drop}
use Rattle.graph.specs.Graph.{Graph}
use Rattle.graph.specs.Order.{Choice, entry}
use Rattle.graph.specs.Placing.{Solvable, Unsolvable}
use Rattle.theory_forest.specs.Shape.{Shaped}
use Rattle.theory_list.specs.Redundancy.{Loopless}
use Rattle.theory_list.specs.Choosing.{Unforked}
use Rattle.theory_list.specs.Settled.{settled}
use Rattle.theory_list.specs.Readings.{listed}
use Rattle.theory_list.proofs.Readings.{unsolvable_empty}
use Rattle.theory_walk.specs.Walk.{Decision, first, second, graph_at, outset, after, Remaining, Entering, At, Leaving}
use Rattle.theory_walk.proofs.Halves.{listed_empty, listed_settled}
use Rattle.theory_walk.proofs.Decisions.{valid_pushed, valid_popped, valid_turned, graph_shaped, room_left}
use Rattle.theory_walk.proofs.Positions.{after_outset, after_second, after_turned, listed_first}

-- what is left

pub remaining_same : {g : Graph} {k : ℕ} {rest more : List (List ℕ)} → rest ≡ more → Remaining g k rest → Remaining g k more
remaining_same {g} {k} e r = subst (Remaining g k) e r

pub remaining_length : {g : Graph} {k : ℕ} {rest : List (List ℕ)} → Remaining g k rest → k + length rest ≡ length (listed g)
remaining_length {g} {k} {rest} r =
    let e : length rest ≡ length (listed g) - k = sym (ap length r.rest_is) ∙ length-drop k (listed g) in
    omega (arith, r.within)

module _ {g : Graph} {k : ℕ} {p : List ℕ} {rest : List (List ℕ)} (r : Remaining g k (p ∷ rest)) where
  pub remaining_below : k < length (listed g)
  remaining_below = omega (arith, remaining_length r)

  pub remaining_entry : entry (listed g) k ≡ p
  remaining_entry =
      let e : entry (drop k (listed g)) 0 ≡ entry (listed g) (k + 0) = get_or-drop k (listed g) 0 [] in
      subst (λ (i : ℕ). entry (listed g) i ≡ p) (add-zero k) (sym e ∙ ap (λ (l : List (List ℕ)). entry l 0) r.rest_is)

  pub remaining_next : Remaining g (k + 1) rest
  remaining_next =
      record {
        within = omega (arith, remaining_below);
        rest_is = sym (drop-drop 1 k (listed g)) ∙ ap (drop 1) r.rest_is;
      }

pub remaining_none : {g : Graph} {k : ℕ} → Remaining g k [] → length (listed g) ≡ k
remaining_none r = omega (arith, remaining_length r)

-- entering

pub entering_outset : (g : Graph) → Entering g [] 0
unfolding graph_at after
entering_outset g =
    record {
      valid = outset;
      remaining = record { within = omega arith; rest_is = sym (append-nil (listed g)) };
    }

module _ {g : Graph} {ds : List Decision} {k : ℕ} (s : Shaped g) (x : Entering g ds k) where
  pub entering_shaped : Shaped (graph_at g ds)
  entering_shaped = graph_shaped s x.valid

  -- where there is no solved form
  pub entering_none : Unsolvable (graph_at g ds) → Leaving g ds k
  entering_none n =
      record {
        valid = x.valid;
        remaining = remaining_same (ap (λ (l : List (List ℕ)). l ++ after g ds) (listed_empty (graph_at g ds) entering_shaped n)) x.remaining;
      }

  -- where there is one, its readings are yet to pass
  pub entering_solvable_stays : Solvable (graph_at g ds) → Leaving g ds k → ⊥
  entering_solvable_stays f y = (unsolvable_empty (graph_at g ds) entering_shaped).1 (none (listed (graph_at g ds)) as_many) f
    where
      as_many : length (listed (graph_at g ds)) ≡ 0
      as_many = omega (arith, remaining_length x.remaining, remaining_length y.remaining, length-append (listed (graph_at g ds)) (after g ds))

      none : (ps : List (List ℕ)) → length ps ≡ 0 → ps ≡ []
      none [] e = refl
      none (p ∷ ps) e = absurd (omega arith)

  module _ (n : Loopless (graph_at g ds)) where
    -- where a choice is left
    module _ {v a b : ℕ} (c : Choice (graph_at g ds) v a b) where
      pub entering_room : length ds < g.nodes * g.nodes
      entering_room = room_left s x.valid n c

      pub entering_first : Entering g (ds ++ (first a b ∷ [])) k
      entering_first =
          record {
            valid = valid_pushed x.valid (first a b) c n;
            remaining = remaining_same (listed_first s x.valid n c) x.remaining;
          }

    -- where none is left
    pub entering_at : Unforked (graph_at g ds) → At g ds k
    entering_at u =
        record {
          valid = x.valid;
          loopless = n;
          unforked = u;
          remaining = remaining_same (ap (λ (l : List (List ℕ)). l ++ after g ds) (listed_settled (graph_at g ds) entering_shaped n u)) x.remaining;
        }

-- at a reading

module _ {g : Graph} {ds : List Decision} {k : ℕ} (x : At g ds k) where
  pub at_below : k < length (listed g)
  at_below = remaining_below x.remaining

  pub at_entry : entry (listed g) k ≡ settled (graph_at g ds)
  at_entry = remaining_entry x.remaining

  pub at_leaving : Leaving g ds (k + 1)
  at_leaving = record { valid = x.valid; remaining = remaining_next x.remaining }

-- leaving

pub leaving_turned : {g : Graph} (ds : List Decision) (a b : ℕ) {k : ℕ} → Leaving g (ds ++ (first a b ∷ [])) k → Entering g (ds ++ (second a b ∷ [])) k
leaving_turned {g} ds a b x =
    record {
      valid = valid_turned ds a b x.valid;
      remaining = remaining_same (after_turned g ds a b) x.remaining;
    }

pub leaving_second : {g : Graph} (ds : List Decision) (a b : ℕ) {k : ℕ} → Leaving g (ds ++ (second a b ∷ [])) k → Leaving g ds k
leaving_second {g} ds a b x =
    record {
      valid = (valid_popped g ds (second a b) x.valid).before;
      remaining = remaining_same (after_second g ds a b) x.remaining;
    }

pub leaving_end : {g : Graph} {k : ℕ} → Leaving g [] k → length (listed g) ≡ k
leaving_end {g} x = remaining_none (remaining_same (after_outset g) x.remaining)
