-- The choice among the leaves that carry several roots, one leaf more at a time; the chosen leaf is the problem leaf of
-- Rule 1.
use Prim.Native.Nat.{ℕ, ◌+◌, ◌≤◌, ◌<◌}
use mathlib.Core.Path.{◌≡◌, sym, ap, ◌∙◌}
use mathlib.Core.List.{List}
use Rattle.std.specs.Prelude.{Option, Some, None}
use mathlib.Core.Bool.{Bool, true, false, not, ◌&&◌, ◌||◌, true≢false}
use mathlib.Core.Logic.{⊎_elim}
use native.Mathlib.Numerals.{add-one}
use native.Mathlib.Omega.{arith}
use lib.Dec.{leb, ltb}
use borrow.Author.Tests.{lt-ltb, ltb-true, ltb-false, le-leb, lt-leb}
use Rattle.base_finite.specs.Below.{any, least}
use Rattle.base_finite.proofs.Laws.{by_bool, last_or_below, and_both, any_at, any_found, least_is, least_at, least_holds, least_below, all_every, all_fails}
use Rattle.graph.specs.Graph.{Graph}
use Rattle.graph.specs.Rule1.{problem, depth, shallowest, problem_leaf}
use Rattle.base_finite.proofs.Counting.{least_found}
use Rattle.base_nodeset.specs.Set.{mem}
use Rattle.base_nodeset.specs.declared.NodeSet.{NodeSet}
use Rattle.solve_rule1.specs.Solved.{Solved}
use Rattle.solve_rule1.specs.Carried.{Carrying, better, Best, First}
use Rattle.solve_rule1.proofs.SolvedTables.{few, several_is}

-- the lowest that a test holds of, where it holds of some
pub first_found : (n : ℕ) (p : ℕ → Bool) (r : Option ℕ) → First n p r → least n p < n → r ≡ Some (least n p)
first_found n p None none h = absurd (true≢false (sym (least_holds n p h) ∙ none (least n p) h))
first_found n p (Some v) f h = ap Some (sym (least_is n p v f.0 f.1 f.2))

pub some_first : {x y : ℕ} → Some x ≡ Some y → x ≡ y
some_first e = cc e

-- one leaf more

pub lowest_within : (leaves : NodeSet) (n : ℕ) → n ≤ 128 → any n (mem leaves) ≡ true → least 128 (mem leaves) < n
lowest_within leaves n few t =
    let r = any_found n (mem leaves) t in
    omega (arith, r.1, least_at 128 (mem leaves) r.0 (omega (arith, few, r.1)) r.2)

module _ (leaves : NodeSet) (deep : ℕ → ℕ) where
  pub better_taken : (best l : ℕ) → mem leaves l ≡ true → deep l < deep best → l ≡ better leaves deep best l
  unfolding better
  better_taken best l e h = rw (e, lt-ltb (deep l) (deep best) h)

  -- either of the two
  pub better_below : (n best l : ℕ) → best < n → l < n → better leaves deep best l < n
  unfolding better
  better_below n best l h k = by_bool (mem leaves l && ltb (deep l) (deep best)) (λ t. rw t k) (λ t. rw t h)

  -- the lowest leaf is the best before the first is passed
  pub best_start : (n : ℕ) → n ≤ 128 → any n (mem leaves) ≡ true → (best : ℕ) → best ≡ least 128 (mem leaves) → Best leaves deep 0 best
  best_start n few t best e =
      let r = any_found n (mem leaves) t in
      let some : any 128 (mem leaves) ≡ true = any_at 128 (mem leaves) r.0 (omega (arith, few, r.1)) r.2 in
      record {
        among = rw e (least_found 128 (mem leaves) some).1;
        least_deep = λ k h. absurd (omega arith);
        lowest = λ k h m. absurd (true≢false (sym m ∙ least_below 128 (mem leaves) k (rw e at h)));
      }

  taken_best : (l best : ℕ) → Best leaves deep l best → mem leaves l ≡ true → deep l < deep best → Best leaves deep (l + 1) l
  taken_best l best b m less =
      record {
        among = m;
        least_deep = λ k h e.
            ⊎_elim
            (λ (i : k ≡ l). rw i (omega arith))
            (λ (h : k < l). omega (arith, less, b.least_deep k h e))
            (last_or_below (rw (add-one l) at h));
        lowest = λ k h e. omega (arith, less, b.least_deep k h e);
      }

  left_best : (l best : ℕ) → Best leaves deep l best → (mem leaves l ≡ true → deep best ≤ deep l) → Best leaves deep (l + 1) best
  left_best l best b f =
      record {
        among = b.among;
        least_deep = λ k h e.
            ⊎_elim
            (λ (i : k ≡ l). rw i (f (rw i at e)))
            (λ (h : k < l). b.least_deep k h e)
            (last_or_below (rw (add-one l) at h));
        lowest = b.lowest;
      }

  pub best_more : (l best : ℕ) → Best leaves deep l best → Best leaves deep (l + 1) (better leaves deep best l)
  unfolding better
  best_more l best b =
      by_bool (mem leaves l && ltb (deep l) (deep best))
      (λ (t : (mem leaves l && ltb (deep l) (deep best)) ≡ true).
      let w = and_both (mem leaves l) (ltb (deep l) (deep best)) t in
      rw t (taken_best l best b w.0 (ltb-true (deep l) (deep best) w.1)))
      (λ (t : (mem leaves l && ltb (deep l) (deep best)) ≡ false).
      rw t (left_best l best b (λ e. ltb-false (deep l) (deep best) (rw e at t))))

-- the problem leaf

module _ (n : ℕ) (parents p : List ℕ) (s : Solved n parents p) (leaves : NodeSet) (c : Carrying 2 n p leaves) where
  pub best_is : (best : ℕ) → best < n → Best leaves (depth s.sheet.graph p) n best → best ≡ problem_leaf s.sheet.graph p
  unfolding problem_leaf shallowest
  best_is best h b =
      let g : Graph = s.sheet.graph in
      let same : n ≡ g.nodes = s.sheet.tables.nodes in
      let fits : n ≤ 128 = few n parents s.sheet in
      let is : (l : ℕ) → l < n → problem g p l ≡ mem leaves l = λ l k. sym (several_is n parents p s leaves c l (omega arith)) in
      let mine : problem g p best ≡ true = is best h ∙ b.among in
      sym (least_is g.nodes (shallowest g p) best (omega arith)
      (rw mine
      (all_every g.nodes (λ m. not (problem g p m) || leb (depth g p best) (depth g p m)) (λ m k.
      by_bool (problem g p m)
      (λ (t : problem g p m ≡ true). rw (t, le-leb (depth g p best) (depth g p m) (b.least_deep m (omega arith) (sym (is m (omega arith)) ∙ t))))
      (λ (t : problem g p m ≡ false). rw t))))
      (λ j k.
      by_bool (problem g p j)
      (λ (t : problem g p j ≡ true).
      rw t
      (all_fails g.nodes (λ m. not (problem g p m) || leb (depth g p j) (depth g p m)) best (omega arith)
      (rw (mine, lt-leb (depth g p j) (depth g p best) (b.lowest j k (sym (is j (omega arith)) ∙ t))))))
      (λ (t : problem g p j ≡ false). rw t)))
