-- The descent walk, turn by turn. What is found is reached by a path; a node that was found and does not wait on the list has its
-- successors found too; so where nobody waits, everything that a path leads to is found.
use Prim.Native.Nat.{ℕ, ◌+◌, ◌-◌, ◌^◌, ◌≤◌, ◌<◌}
use mathlib.Core.Path.{◌≡◌, refl, sym, ap, ◌∙◌}
use mathlib.Core.List.{List}
use mathlib.Core.Bool.{Bool, true, false, not, ◌&&◌, ◌||◌, false≢true}
use mathlib.Core.Logic.{⊎_elim}
use native.Mathlib.Nat.{eq-or-lt_of_le}
use native.Mathlib.Omega.{arith}
use lib.Dec.{eqb, ltb}
use lib.ListN.{length, get_or}
use borrow.Author.Tests.{eqb-true, eqb-false, ltb-true, ltb-false, not-true}
use Rattle.base_finite.specs.Below.{count, select}
use Rattle.base_finite.specs.Stores.{Written}
use Rattle.base_finite.proofs.Laws.{by_bool, or_left, or_right, or_cases, and_both, count_le}
use Rattle.base_finite.proofs.Counting.{count_mono, count_apart}
use Rattle.base_finite.proofs.Runs.{select_length, select_entry, select_ascends, select_has}
use Rattle.base_finite.proofs.Stores.{written_length, stored_before, stored_in, stored_after}
use Rattle.base_nodeset.specs.Set.{mem, Union}
use Rattle.base_nodeset.specs.declared.NodeSet.{NodeSet}
use Rattle.base_nodeset.proofs.Laws.{member_beyond}
use Rattle.graph.specs.Graph.{Path, one, more}
use Rattle.base_tables.specs.Rows.{in_row, IsRow}
use Rattle.solve_descent.specs.Descent.{Edges, Under, Whole, Listed, Walked, ToVisit}

-- the members of two words are below 128
pub small_set : (s : NodeSet) → s.high < 2 ^ 64 → (v : ℕ) → mem s v ≡ true → v < 128
small_set s high v t =
    by_bool (ltb v 128)
    (λ (e : ltb v 128 ≡ true). ltb-true v 128 e)
    (λ (e : ltb v 128 ≡ false). absurd (false≢true (sym (member_beyond s.low s.high v high (ltb-false v 128 e)) ∙ t)))

-- a set, listed behind what stands on the list

abbrev pub members : NodeSet → List ℕ
members s = select 128 (mem s)

listed_none : (old : List ℕ) → Listed (λ v. false) 0 old old
listed_none old =
    record {
      long = refl;
      nodes = λ i h. absurd (omega arith);
      once = λ i j l h e. absurd (omega arith);
      others = λ i h. refl;
    }

module _ (fresh : NodeSet) (list : List ℕ) (k : ℕ) (room : k + count 128 (mem fresh) ≤ length list)
    (list' : List ℕ) (k' : ℕ) (written : Written list k (members fresh) list' k') where
  fits : k + length (members fresh) ≤ length list
  fits = omega (arith, select_length 128 (mem fresh))

  pub listed_kept : (i : ℕ) → i < k → get_or list' i 0 ≡ get_or list i 0
  listed_kept i h = rw written.stored (stored_before (members fresh) list k i h)

  entered : (d : ℕ) → d < length (members fresh) → get_or list' (k + d) 0 ≡ get_or (members fresh) d 0
  entered d h = rw written.stored (stored_in (members fresh) list k d h fits)

  -- a place of the list: one that was filled before, or one behind those
  places : {C : Type 0} (i : ℕ) → i < k' → (i < k → get_or list' i 0 ≡ get_or list i 0 → C)
      → ((d : ℕ) → d < length (members fresh) → i ≡ k + d → get_or list' i 0 ≡ get_or (members fresh) d 0 → C) → C
  places i h old new =
      let end = written.after in
      by_bool (ltb i k)
      (λ (e : ltb i k ≡ true).
      let l : i < k = ltb-true i k e in
      old l (listed_kept i l))
      (λ (e : ltb i k ≡ false).
      let l : k ≤ i = ltb-false i k e in
      let is : i ≡ k + (i - k) = omega arith in
      let d : i - k < length (members fresh) = omega arith in
      new (i - k) d is (ap (λ (x : ℕ). get_or list' x 0) is ∙ entered (i - k) d))

  pub listed_there : (u : ℕ) → u < 128 → mem fresh u ≡ true → (i : ℕ) × (k ≤ i) × (i < k') × (get_or list' i 0 ≡ u)
  listed_there u h t =
      let there = select_has 128 (mem fresh) u h t in
      (k + there.0, omega arith, omega (arith, written.after, there.1), entered there.0 there.1 ∙ there.2)

  pub listed_more : (found found' : ℕ → Bool) (old : List ℕ) → Listed found k old list → ((v : ℕ) → found v ≡ true → found' v ≡ true)
      → ((v : ℕ) → mem fresh v ≡ true → found' v ≡ true) → ((v : ℕ) → mem fresh v ≡ true → found v ≡ true → ⊥) → Listed found' k' old list'
  listed_more found found' old before grows new apart =
      record {
        long = written_length list k (members fresh) list' k' written ∙ before.long;
        nodes = λ i h.
            places i h
            (λ l e. let b = before.nodes i l in rw e (b.0, grows _ b.1))
            (λ d l is e. let b = select_entry 128 (mem fresh) d l in rw e (b.0, new _ b.1));
        once = λ i j l h same.
            places i (omega arith)
            (λ a e.
            places j h
            (λ b f. before.once i j l b (sym e ∙ same ∙ f))
            (λ d b is f.
            let both : get_or (members fresh) d 0 ≡ get_or list i 0 = sym f ∙ sym same ∙ e in
            apart _ (select_entry 128 (mem fresh) d b).1 (rw both (before.nodes i a).1)))
            (λ d a is e.
            places j h
            (λ b f. absurd (omega arith))
            (λ d' b is' f.
            let rise = select_ascends 128 (mem fresh) d d' (omega arith) b in
            let both : get_or (members fresh) d 0 ≡ get_or (members fresh) d' 0 = sym e ∙ same ∙ f in
            absurd (omega arith)));
        others = λ i h.
            let end = written.after in
            rw written.stored (stored_after (members fresh) list k i (omega arith)) ∙ before.others i (omega arith);
      }

-- u does not wait on the list
abbrev Visited : ℕ → ℕ → List ℕ → ℕ → Type 0
Visited at end list u = (i : ℕ) → at ≤ i → i < end → get_or list i 0 ≡ u → ⊥

-- where a walk stands
pub record Walking (rows : List NodeSet) (node : ℕ) (old : List ℕ) (found : NodeSet) (at end : ℕ) (list : List ℕ) : Type 0 where
  pub listed : Listed (mem found) end old list
  pub few : end ≤ count 128 (mem found)
  pub passed : at ≤ end
  pub reached : (v : ℕ) → mem found v ≡ true → Path (Edges rows) node v
  pub begun : (v : ℕ) → Edges rows node v → mem found v ≡ true
  pub closed : (u v : ℕ) → mem found u ≡ true → Visited at end list u → Edges rows u v → mem found v ≡ true

-- the node's successors have room on the list
pub start_room : (old : List ℕ) (found : NodeSet) → length old ≡ 128 → 0 + count 128 (mem found) ≤ length old
start_room old found long = omega (arith, long, count_le 128 (mem found))

module _ (rows : List NodeSet) (node : ℕ) where
  pub walk_start : (old list : List ℕ) (found : NodeSet) (end : ℕ) → length old ≡ 128 → ((v : ℕ) → mem found v ≡ true → v < 128) → IsRow (in_row rows) node found
      → Written old 0 (members found) list end → Walking rows node list found 0 end list
  walk_start old list found end long small is_row written =
      let room = start_room old found long in
      let first = listed_more found old 0 room list end written (λ v. false) (mem found) old (listed_none old) (λ v t. absurd (false≢true t)) (λ v t. t) (λ v t f. false≢true f) in
      record {
        listed = record { long = refl; nodes = first.nodes; once = first.once; others = λ i h. refl };
        few = omega (arith, written.after, select_length 128 (mem found));
        passed = omega arith;
        reached = λ v t. one (sym (is_row v) ∙ t);
        begun = λ v e. is_row v ∙ e;
        closed = λ u v t visited e.
            let there = listed_there found old 0 room list end written u (small u t) t in
            absurd (visited there.0 there.1 there.2 there.3);
      }

  -- one turn: the node at `at` is taken off the list
  module _ (whole : NodeSet) (is_whole : Whole rows whole) (old list : List ℕ) (found : NodeSet) (at end : ℕ) (w : Walking rows node old found at end list)
      (left : at < end) (row fresh : NodeSet) (b : Bool) (is_row : IsRow (in_row rows) (get_or list at 0) row) (is_whole_row : b ≡ mem whole (get_or list at 0))
      (to_visit : ToVisit row found b fresh) where
    new : (v : ℕ) → mem fresh v ≡ true → (mem row v ≡ true) × (mem found v ≡ false)
    new v t =
        let a = and_both (not b) (mem row v && not (mem found v)) (sym (to_visit v) ∙ t) in
        let c = and_both (mem row v) (not (mem found v)) a.1 in
        (c.0, not-true (mem found v) c.1)

    apart : (v : ℕ) → mem fresh v ≡ true → mem found v ≡ true → ⊥
    apart v t f = false≢true (sym (new v t).1 ∙ f)

    together : count 128 (mem found) + count 128 (mem fresh) ≤ count 128 (λ v. mem found v || mem fresh v)
    together = count_apart 128 (mem found) (mem fresh) (λ k h t f. apart k f t)

    pub walk_room : length old ≡ 128 → end + count 128 (mem fresh) ≤ length list
    walk_room long =
        let few = w.few in
        omega (arith, together, count_le 128 (λ v. mem found v || mem fresh v), w.listed.long)

    pub walk_more : length old ≡ 128 → ((v : ℕ) → mem row v ≡ true → v < 128) → (list' : List ℕ) (end' : ℕ) (found' : NodeSet) → Written list end (members fresh) list' end' → Union found row found'
        → Walking rows node old found' (at + 1) end' list'
    walk_more long small list' end' found' written union =
        record {
          listed = listed_more fresh list end (walk_room long) list' end' written (mem found) (mem found') old w.listed grows (λ v t. joined v (new v t).0) apart;
          few =
              let more = count_mono 128 (λ v. mem found v || mem fresh v) (mem found') (λ v h t. ⊎_elim (grows v) (λ f. joined v (new v f).0) (or_cases (mem found v) (mem fresh v) t)) in
              omega (arith, together, w.few, written.after, select_length 128 (mem fresh));
          passed = omega (arith, written.after);
          reached = λ v t. ⊎_elim (w.reached v) (λ r. more (w.reached _ (w.listed.nodes at left).1) (sym (is_row v) ∙ r)) (or_cases (mem found v) (mem row v) (sym (union v) ∙ t));
          begun = λ v e. grows v (w.begun v e);
          closed = closed';
        }
      where
        grows : (v : ℕ) → mem found v ≡ true → mem found' v ≡ true
        grows v t = union v ∙ or_left (mem found v) (mem row v) t

        joined : (v : ℕ) → mem row v ≡ true → mem found' v ≡ true
        joined v t = union v ∙ or_right (mem found v) (mem row v) t

        -- a node found before has been visited, or is the one taken off now; a node of the row is in a whole row, or is listed
        closed' : (u v : ℕ) → mem found' u ≡ true → Visited (at + 1) end' list' u → Edges rows u v → mem found' v ≡ true
        closed' u v t visited e =
            by_bool (mem found u)
            (λ (f : mem found u ≡ true).
            by_bool (eqb (get_or list at 0) u)
            (λ (q : eqb (get_or list at 0) u ≡ true).
            let is : get_or list at 0 ≡ u = eqb-true (get_or list at 0) u q in
            joined v (is_row v ∙ rw is e))
            (λ (q : eqb (get_or list at 0) u ≡ false).
            grows v
            (w.closed u v f
            (λ i from to is.
            ⊎_elim
            (λ (here : at ≡ i). eqb-false (get_or list at 0) u q (rw here is))
            (λ (later : at < i). visited i (omega arith) (omega (arith, written.after)) (listed_kept fresh list end (walk_room long) list' end' written i to ∙ is))
            (eq-or-lt_of_le from))
            e)))
            (λ (f : mem found u ≡ false).
            let r : mem row u ≡ true = ⊎_elim (λ (g : mem found u ≡ true). absurd (false≢true (sym f ∙ g))) (λ (g : mem row u ≡ true). g) (or_cases (mem found u) (mem row u) (sym (union u) ∙ t)) in
            by_bool b
            (λ (q : b ≡ true). joined v (is_row v ∙ is_whole _ u v (sym is_whole_row ∙ q) (sym (is_row u) ∙ r) e))
            (λ (q : b ≡ false).
            let there = listed_there fresh list end (walk_room long) list' end' written u (small u r) (to_visit u ∙ rw (q, r, f)) in
            absurd (visited there.0 (omega (arith, there.1)) there.2 there.3)))

  -- nobody waits
  module _ (old list : List ℕ) (found : NodeSet) (at end : ℕ) (w : Walking rows node old found at end list) (done : end ≤ at) where
    all_found : {v : ℕ} → Path (Edges rows) node v → mem found v ≡ true
    all_found (one e) = w.begun _ e
    all_found (more p e) = w.closed _ _ (all_found p) (λ i from to is. omega arith) e

    pub walk_under : Under rows node found
    walk_under v = (w.reached v, all_found)

    -- seen from where the list stood before the node's successors were put on it
    pub walk_listed : {bs : List ℕ} (list₀ : List ℕ) (end₀ : ℕ) → Written list₀ 0 bs old end₀ → end₀ ≤ end → Walked found list₀ list
    walk_listed {bs} list₀ end₀ start less =
        record {
          visits = end;
          listed =
              record {
                long = w.listed.long ∙ written_length list₀ 0 bs old end₀ start;
                nodes = w.listed.nodes;
                once = w.listed.once;
                others = λ i h. w.listed.others i h ∙ rw start.stored (stored_after bs list₀ 0 i (omega (arith, start.after)));
              };
        }
