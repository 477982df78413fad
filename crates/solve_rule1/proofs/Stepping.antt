-- One step and all of them: the bytes after a step are the shifted placing, and n * n steps are enough for Rule 1 to end.
use Prim.Native.Nat.{ℕ, ◌+◌, ◌*◌, ◌≤◌, ◌<◌}
use Rattle.std.specs.Prelude.{Option, Some, None}
use mathlib.Core.Path.{◌≡◌, sym, ap, subst⁻¹, ◌∙◌}
use mathlib.Core.List.{List}
use mathlib.Core.Bool.{Bool, true, false, cond, not, ◌&&◌}
use native.Mathlib.Nat.{mul-le-mul_left, mul-le-mul_right}
use native.Mathlib.Omega.{arith}
use lib.Dec.{eqb, ltb}
use lib.ListN.{length}
use lib.Seq.{ext_get_or}
use borrow.Author.Tests.{eqb-true, eqb-false, lt-ltb, le-ltb}
use Rattle.base_finite.specs.Below.{any, least}
use Rattle.base_finite.proofs.Laws.{by_bool, least_at, and_false, not_holding}
use Rattle.graph.specs.Graph.{Graph, root, leaf_of}
use Rattle.graph.specs.Placing.{at, hangs, SolvedForm}
use Rattle.graph.specs.Rule1.{problem, problem_leaf, staying, lowest_leaf_of, shifted, Rule1, done, again}
use Rattle.theory_edges.proofs.Ends.{leaf_below, root_below}
use Rattle.theory_forest.proofs.Fragments.{leaf_of_parts}
use Rattle.theory_forest.proofs.Table.{hangs_parts}
use Rattle.theory_forest.specs.Shape.{Shaped}
use Rattle.theory_forest.proofs.Shape.{well_formed_shaped}
use Rattle.base_finite.proofs.Counting.{length_entries, entry_at}
use Rattle.theory_rule1.proofs.Shifting.{Problem, lowest_leaf_of_lem, staying_hangs, shifted_solved}
use Rattle.theory_rule1.proofs.Ending.{pairs_below, pairs_bound, pairs_grow}
use Rattle.base_finite.proofs.Bounds.{least_ext}
use Rattle.solve_rule1.specs.Solved.{Solved}
use Rattle.base_finite.specs.Stores.{entry_is}
use Rattle.solve_rule1.specs.Carried.{First, Moved}
use Rattle.solve_rule1.specs.Step.{Stepped}
use Rattle.solve_rule1.proofs.SolvedTables.{few, hangs_is, solved_length}
use Rattle.solve_rule1.proofs.Choosing.{first_found}

-- the step

-- what is found is below n
pub target_within : (n : ℕ) (p : ℕ → Bool) (r : Option ℕ) (v : ℕ) → First n p r → r ≡ Some v → v < n
target_within n p None v f e = cc e
target_within n p (Some w) v f e = let same : w ≡ v = cc e in rw (← same) f.0

-- of the roots under a leaf those but the lowest are those after the lowest
others_after : (n : ℕ) (q : ℕ → Bool) (z : ℕ) → z < n → (ltb (least n q) z && q z) ≡ (q z && not (eqb z (least n q)))
others_after n q z h =
    by_bool (q z)
    (λ (t : q z ≡ true).
    let low : least n q ≤ z = least_at n q z h t in
    rw t
    (by_bool (eqb z (least n q))
    (λ (e : eqb z (least n q) ≡ true). rw (e, le-ltb (least n q) z (omega (arith, eqb-true z (least n q) e))))
    (λ (e : eqb z (least n q) ≡ false).
    let apart : z ≡ least n q → ⊥ = eqb-false z (least n q) e in
    rw (e, lt-ltb (least n q) z (omega arith)))))
    (λ (t : q z ≡ false). rw (t, and_false (ltb (least n q) z)))

module _ (n : ℕ) (parents p : List ℕ) (s : Solved n parents p) (from : ℕ) (is_from : from ≡ problem_leaf s.sheet.graph p) (node : from < n) where
  pub staying_is : least n (entry_is p from) ≡ staying s.sheet.graph p
  unfolding staying
  staying_is =
      let g : Graph = s.sheet.graph in
      let fits : n ≤ 128 = few n parents s.sheet in
      least_ext n (entry_is p from) (hangs g p from) (λ v h. sym (hangs_is n parents p s from v (omega arith) h))
      ∙ ap (λ (m : ℕ). least m (hangs g p from)) s.sheet.tables.nodes
      ∙ ap (λ (l : ℕ). least g.nodes (hangs g p l)) is_from

  pub staying_within : Problem s.sheet.graph p → least n (entry_is p from) < n
  staying_within t =
      let g : Graph = s.sheet.graph in
      let b = root_below g (staying g p) (hangs_parts g p (problem_leaf g p) (staying g p) (staying_hangs g p t)).1 in
      omega (arith, staying_is, b, s.sheet.tables.nodes)

  -- the root that stays is found, and so is the leaf that the others go to
  pub staying_first : Problem s.sheet.graph p → (r : Option ℕ) → First (length p) (entry_is p from) r → r ≡ Some (least n (entry_is p from))
  staying_first t r f = first_found n (entry_is p from) r (rw (solved_length n parents p s) at f) (staying_within t)

  pub target_first : Problem s.sheet.graph p → (stays : ℕ) → stays ≡ least n (entry_is p from) → (r : Option ℕ) → First n (leaf_of s.sheet.graph stays) r
      → r ≡ Some (lowest_leaf_of s.sheet.graph stays)
  unfolding lowest_leaf_of
  target_first t stays e r f =
      let g : Graph = s.sheet.graph in
      let is_root : root g stays ≡ true = rw (e, staying_is) (hangs_parts g p (problem_leaf g p) (staying g p) (staying_hangs g p t)).1 in
      let is_leaf = leaf_of_parts g stays (lowest_leaf_of g stays) (lowest_leaf_of_lem g (well_formed_shaped s.sheet.tables.well_formed) stays is_root) in
      first_found g.nodes (leaf_of g stays) r (rw s.sheet.tables.nodes at f) (leaf_below g (lowest_leaf_of g stays) is_leaf.0)

  pub shifted_is : (stays to : ℕ) (q : List ℕ) → stays ≡ least n (entry_is p from) → to ≡ lowest_leaf_of s.sheet.graph stays → length q ≡ n
      → Moved n from stays to p q → q ≡ shifted s.sheet.graph p
  unfolding shifted
  shifted_is stays to q is_least is_to long m =
      let g : Graph = s.sheet.graph in
      let same : n ≡ g.nodes = s.sheet.tables.nodes in
      let fits : n ≤ 128 = few n parents s.sheet in
      let f : ℕ → ℕ = λ z. cond (hangs g p (problem_leaf g p) z && not (eqb z (staying g p))) (lowest_leaf_of g (staying g p)) (at p z) in
      ext_get_or 0 q (shifted g p) (long ∙ same ∙ sym (length_entries g.nodes f)) (λ z h.
      let b : z < n = omega (arith, h, long) in
      let there : cond (ltb stays z && entry_is p from z) to (at p z) ≡ cond (hangs g p from z && not (eqb z stays)) to (at p z) =
      rw (is_least, others_after n (entry_is p from) z b, ← (hangs_is n parents p s from z (omega arith) b)) in
      let is_staying : stays ≡ staying g p = is_least ∙ staying_is in
      let named : cond (hangs g p from z && not (eqb z stays)) to (at p z) ≡ f z = cc in
      m z b ∙ there ∙ named ∙ sym (entry_at g.nodes f 0 z (omega arith)))

-- all steps

pub few_steps : (n : ℕ) → n ≤ 128 → n * n ≤ 16384
few_steps n h = omega (arith, mul-le-mul_left n h, mul-le-mul_right 128 h)

-- i steps lead from p to q
pub record Reached (g : Graph) (p : List ℕ) (i : ℕ) (q : List ℕ) : Type 0 where
  pub solved : SolvedForm g q
  pub grown : i ≤ pairs_below g q
  pub onward : (e : List ℕ) → Rule1 g q e → Rule1 g p e

module _ (n : ℕ) (parents p : List ℕ) (s : Solved n parents p) where
  shaped : Shaped s.sheet.graph
  shaped = well_formed_shaped s.sheet.tables.well_formed

  pub reached_none : Reached s.sheet.graph p 0 p
  reached_none = record { solved = s.solved; grown = omega arith; onward = λ e r. r }

  module _ (i : ℕ) (q q' : List ℕ) (r : Bool) (w : Reached s.sheet.graph p i q) (m : Stepped s.sheet.graph q r q') where
    pub reached_more : r ≡ true → Reached s.sheet.graph p (i + 1) q'
    reached_more e =
        let g : Graph = s.sheet.graph in
        let t : Problem g q = sym m.answer ∙ e in
        let is : q' ≡ shifted g q = m.placing ∙ (rw e) in
        subst⁻¹ (λ (x : List ℕ). Reached g p (i + 1) x) is
        (record {
          solved = shifted_solved g q shaped t w.solved;
          grown = omega (arith, w.grown, pairs_grow g q shaped w.solved t);
          onward = λ e r. w.onward e (again t r);
        })

    pub reached_end : r ≡ false → Rule1 s.sheet.graph p q'
    reached_end e =
        let is : q' ≡ q = m.placing ∙ (rw e) in
        rw is (w.onward q (done (sym m.answer ∙ e)))

  -- each step has put a pair more below one another, and there are no more than n * n
  pub reached_all : (i : ℕ) (q : List ℕ) → Reached s.sheet.graph p i q → n * n ≤ i → Rule1 s.sheet.graph p q
  reached_all i q w h =
      let g : Graph = s.sheet.graph in
      let most : g.nodes * g.nodes ≤ i = rw s.sheet.tables.nodes at h in
      w.onward q (done (not_holding (any g.nodes (problem g q)) (λ t.
      omega (arith, w.grown, most, pairs_grow g q shaped w.solved t, pairs_bound g (shifted g q)))))

-- after a step there still is a graph that the bytes are a solved form of
pub stepped_solved : (n : ℕ) (parents q q' : List ℕ) (r : Bool) (s : Solved n parents q) → Stepped s.sheet.graph q r q' → Solved n parents q'
stepped_solved n parents q q' r s m =
    let g : Graph = s.sheet.graph in
    record {
      sheet = s.sheet;
      solved =
          by_bool r
          (λ (e : r ≡ true).
          let is : q' ≡ shifted g q = m.placing ∙ (rw e) in
          rw is (shifted_solved g q (shaped n parents q s) (sym m.answer ∙ e) s.solved))
          (λ (e : r ≡ false).
          let is : q' ≡ q = m.placing ∙ (rw e) in
          rw is s.solved);
    }
