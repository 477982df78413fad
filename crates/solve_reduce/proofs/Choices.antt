-- The choice, from the leaves whose edges to a root stay: a root has two of them where there is a second, and those roots are the
-- forks.
use Prim.Native.Nat.{ℕ, ◌≤◌, ◌<◌}
use mathlib.Core.Path.{◌≡◌, refl, sym, ap, subst, ◌∙◌}
use mathlib.Core.List.{List}
use mathlib.Core.Bool.{Bool, true, false, not, ◌&&◌}
use mathlib.Core.Logic.{inl, inr, ⊎_elim}
use native.Mathlib.Nat.{eq-or-lt_of_le}
use native.Mathlib.Omega.{arith}
use lib.Dec.{eqb, ltb}
use borrow.Author.Tests.{eqb-true, eqb-false, not-true, ne_eqb, ltb-true, ltb-false, le-ltb}
use Rattle.std.specs.Prelude.{Option, None, Some}
use Rattle.base_finite.specs.Below.{least}
use Rattle.base_finite.proofs.Laws.{by_bool, and_both, and_false, least_none, least_is, least_at, least_below, least_holds}
use Rattle.base_finite.proofs.Bounds.{least_ext}
use Rattle.base_nodeset.specs.Set.{Pops, mem, Empty, Lowest}
use Rattle.base_nodeset.specs.declared.NodeSet.{NodeSet}
use Rattle.graph.specs.Graph.{Graph, root}
use Rattle.graph.specs.Order.{Kept, Choice}
use Rattle.theory_edges.proofs.Ends.{root_below}
use Rattle.theory_list.proofs.Redundancy.{kept_within}
use Rattle.theory_list.specs.Choosing.{Unforked}
use Rattle.base_tables.specs.Rows.{in_row}
use Rattle.solve_reduce.specs.Reduced.{second_lowest, several, LooplessForm}

-- the numbers but the lowest
abbrev others : (ℕ → Bool) → ℕ → Bool
others p k = not (eqb k (least 128 p)) && p k

second_none : (s : NodeSet) → Empty s → 128 ≡ second_lowest (mem s)
second_none s none = sym (least_none 128 (others (mem s)) (λ k small. rw (none k) (and_false (not (eqb k (least 128 (mem s)))))))

second_some : {s rest : NodeSet} {x : ℕ} (r : ℕ) → Lowest s x rest → r ≡ least 128 (mem rest) → r ≡ second_lowest (mem s)
second_some {s} {rest} {x} r first e =
    let is : least 128 (mem s) ≡ x = least_is 128 (mem s) x first.below first.in_set first.none_lower in
    e ∙ least_ext 128 (mem rest) (others (mem s)) (λ k h. first.others k ∙ rw is)

-- the lowest once the lowest is taken out
pub second_pop : {s s' : NodeSet} {x : Option ℕ} (r : ℕ) → Pops s s' x → r ≡ least 128 (mem s') → r ≡ second_lowest (mem s)
second_pop {s} {x = None} r p e =
    let none : Empty s = p.empty refl in
    e ∙ rw (p.unchanged refl) (least_none 128 (mem s) (λ k small. none k)) ∙ second_none s none
second_pop {x = Some k} r p e = second_some r (p.lowest k refl) e

pub second_ext : (p q : ℕ → Bool) → ((k : ℕ) → p k ≡ q k) → second_lowest p ≡ second_lowest q
second_ext p q same =
    least_ext 128 (others p) (others q) (λ k h. rw (same k, least_ext 128 p q (λ j _. same j)))

pub several_ext : (p q : ℕ → Bool) → ((k : ℕ) → p k ≡ q k) → several p ≡ several q
several_ext p q same = ap (λ (m : ℕ). ltb m 128) (second_ext p q same)

pub several_none : (p : ℕ → Bool) → ((k : ℕ) → p k ≡ false) → several p ≡ false
several_none p no_one =
    let out : least 128 (others p) ≡ 128 = least_none 128 (others p) (λ k h. rw (no_one k) (and_false (not (eqb k (least 128 p))))) in
    rw out (le-ltb 128 128 (omega arith))

-- where there is one, it is above the lowest
module _ (p : ℕ → Bool) (b : ℕ) (is : b ≡ second_lowest p) (some : b < 128) where
  b_parts : (b ≡ least 128 p → ⊥) × (p b ≡ true)
  b_parts =
      let found : least 128 (others p) < 128 = omega arith in
      let x = and_both (not (eqb b (least 128 p))) (p b) (subst (λ (z : ℕ). others p z ≡ true) (sym is) (least_holds 128 (others p) found)) in
      (eqb-false b (least 128 p) (not-true (eqb b (least 128 p)) x.0), x.1)

  lowest_less : least 128 p < b
  lowest_less = ⊎_elim (λ (i : least 128 p ≡ b). absurd (b_parts.0 (sym i))) (λ (i : least 128 p < b). i) (eq-or-lt_of_le (least_at 128 p b some b_parts.1))

pub lowest_below : (s : NodeSet) (b : ℕ) → b ≡ second_lowest (mem s) → b < 128 → least 128 (mem s) < b
lowest_below s b is some = lowest_less (mem s) b is some

module _ (g : Graph) (n : ℕ) (sets : List NodeSet) (is : LooplessForm g n sets) where
  -- the leaves whose edges to v stay
  abbrev leaves : ℕ → ℕ → Bool
  leaves v l = in_row sets v l

  module _ (v : ℕ) (is_root : root g v ≡ true) where
    in_leaves : (l : ℕ) → Kept g l v → leaves v l ≡ true
    in_leaves l k = (is.reduced.edges is.loopless v l is_root).1 k

    leaves_in : (l : ℕ) → leaves v l ≡ true → Kept g l v
    leaves_in l m = (is.reduced.edges is.loopless v l is_root).0 m

    small : (l : ℕ) → Kept g l v → (l < n) × (l < 128)
    small l k =
        let w = kept_within g is.shaped l v k in
        (omega (arith, w.0, is.nodes), omega (arith, w.0, is.shaped.few_nodes))

    another : (l : ℕ) → Kept g l v → (l ≡ least 128 (leaves v) → ⊥) → second_lowest (leaves v) ≤ l
    another l k other = least_at 128 (others (leaves v)) l (small l k).1 (rw (ne_eqb l (least 128 (leaves v)) other, in_leaves l k))

    only_lowest : several (leaves v) ≡ false → (l : ℕ) → Kept g l v → l ≡ least 128 (leaves v)
    only_lowest one l k =
        let high_up : 128 ≤ second_lowest (leaves v) = ltb-false (second_lowest (leaves v)) 128 one in
        by_bool (eqb l (least 128 (leaves v)))
        (λ e. eqb-true l (least 128 (leaves v)) e)
        (λ e. absurd (omega (arith, another l k (eqb-false l (least 128 (leaves v)) e), (small l k).1)))

    one_leaf : several (leaves v) ≡ false → (l m : ℕ) → Kept g l v → Kept g m v → l ≡ m
    one_leaf one l m k j = only_lowest one l k ∙ sym (only_lowest one m j)

  module _ (forks : NodeSet) (are : (w : ℕ) → mem forks w ≡ in_row sets n w) (v : ℕ) (lowest : v ≡ least 128 (mem forks)) where
    -- an edge that stays goes to a root
    kept_root : (w l : ℕ) → Kept g l w → root g w ≡ true
    kept_root w l k = (is.shaped.leaf_to_root l w k.0).1

    -- no root below v has two leaves
    below_v : (w l m : ℕ) → w < v → Kept g l w → Kept g m w → l ≡ m
    below_v w l m less k j =
        let is_root : root g w ≡ true = kept_root w l k in
        let one : several (leaves w) ≡ false = sym (is.reduced.forks w ∙ rw is_root) ∙ sym (are w) ∙ least_below 128 (mem forks) w (omega arith) in
        one_leaf w is_root one l m k j

    few : n ≤ 128
    few = omega (arith, is.nodes, is.shaped.few_nodes)

    pub unforked : n ≤ v → Unforked g
    unforked all w l m k j = below_v w l m (omega (arith, root_below g w (kept_root w l k), is.nodes)) k j

    module _ (within : v < n) (from : NodeSet) (from_are : (l : ℕ) → mem from l ≡ leaves v l) (b : ℕ) (b_is : b ≡ second_lowest (mem from)) where
      b_second : b ≡ second_lowest (leaves v)
      b_second = b_is ∙ second_ext (mem from) (leaves v) from_are

      v_parts : (root g v ≡ true) × (several (leaves v) ≡ true)
      v_parts =
          let found : least 128 (mem forks) < 128 = omega (arith, few) in
          let in_forks : mem forks v ≡ true = subst (λ (z : ℕ). mem forks z ≡ true) (sym lowest) (least_holds 128 (mem forks) found) in
          and_both (root g v) (several (leaves v)) (sym (is.reduced.forks v) ∙ sym (are v) ∙ in_forks)

      is_fork : root g v ≡ true
      is_fork = v_parts.0

      there : b < 128
      there =
          let h : second_lowest (leaves v) < 128 = ltb-true (second_lowest (leaves v)) 128 v_parts.1 in
          omega (arith, b_second)

      pub second_there : n ≤ b → ⊥
      second_there h = omega (arith, (small v is_fork b (leaves_in v is_fork b (b_parts (leaves v) b b_second there).1)).0)

      pub chosen : (a : ℕ) → a ≡ least 128 (mem from) → Choice g v a b
      chosen a i =
          let same : least 128 (mem from) ≡ least 128 (leaves v) = least_ext 128 (mem from) (leaves v) (λ k _. from_are k) in
          let e : a ≡ least 128 (leaves v) = i ∙ same in
          let less : least 128 (leaves v) < b = lowest_less (leaves v) b b_second there in
          let found : least 128 (leaves v) < 128 = omega (arith, there) in
          record {
            first = leaves_in v is_fork a (subst (λ (z : ℕ). leaves v z ≡ true) (sym e) (least_holds 128 (leaves v) found));
            second = leaves_in v is_fork b (b_parts (leaves v) b b_second there).1;
            lower = omega arith;
            lowest_leaves = λ l k.
                by_bool (eqb l a)
                (λ (t : eqb l a ≡ true). inl (eqb-true l a t))
                (λ (t : eqb l a ≡ false).
                let up : b ≤ l = omega (arith, another v is_fork l k (λ q. eqb-false l a t (q ∙ sym e)), b_second) in
                ⊎_elim (λ (q : b ≡ l). inr (inl (sym q))) (λ (q : b < l). inr (inr q)) (eq-or-lt_of_le up));
            lowest_root = λ w l m less_w k j. below_v w l m less_w k j;
          }
