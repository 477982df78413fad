-- The settled placing, byte by byte: at each node the lowest leaf whose edge to it stays, and no node where there is none.
use Prim.Native.Nat.{ℕ, ◌+◌, ◌-◌, ◌≤◌, ◌<◌}
use mathlib.Core.Path.{◌≡◌, sym, ap, ◌∙◌}
use mathlib.Core.List.{List, ◌++◌}
use mathlib.Core.Bool.{Bool, true, false, cond, not, ◌&&◌, true≢false}
use native.Mathlib.Omega.{arith}
use lib.Dec.{eqb, ltb}
use lib.ListN.{length, set, take, drop, replicate, length-drop, length-replicate, get_or-append}
use Rattle.std.proofs.lemmas.List.{get_or-replicate, get_or-append_right}
use lib.Seq.{get_or-set_same, get_or-set_other, get_or-take, get_or-drop, ext_get_or, length-take-le}
use borrow.Author.Tests.{eqb-true, eqb-false, lt-ltb, le-ltb, ltb-true, ltb-false}
use Rattle.base_finite.specs.Below.{any, least}
use Rattle.base_finite.proofs.Laws.{by_bool, and_true, not_holding, test_ext, any_found, any_false, least_none, least_holds}
use Rattle.base_finite.proofs.Bounds.{least_ext, least_cut}
use Rattle.base_finite.proofs.Stores.{Filled}
use Rattle.base_nodeset.specs.Set.{mem, Empty, Lowest}
use Rattle.base_nodeset.specs.declared.NodeSet.{NodeSet}
use Rattle.base_nodeset.proofs.Members.{removed_member, removed_other, removed_gone}
use Rattle.graph.specs.Graph.{Graph, none, root}
use Rattle.graph.specs.Placing.{at}
use Rattle.theory_list.specs.Redundancy.{kept}
use Rattle.theory_list.proofs.Redundancy.{kept_holds}
use Rattle.theory_list.specs.Choosing.{lowest_above}
use Rattle.theory_list.specs.Settled.{within, settled}
use Rattle.theory_list.proofs.Settled.{settled_length, settled_at}
use Rattle.base_tables.specs.Trees.{TreesOf}
use Rattle.base_tables.specs.declared.trees.Trees.{Trees}
use Rattle.base_tables.specs.Rows.{in_row}
use Rattle.solve_reduce.specs.Reduced.{LooplessForm}

-- the first n bytes filled with z
pub filled_first : (n z : ℕ) (old first : List ℕ) → n ≤ length old → first ≡ replicate (length (take n old)) z → Filled (λ (k : ℕ). z) n old (first ++ drop n old)
filled_first n z old first h is k =
    let room : length (take n old) ≡ n = length-take-le n old h in
    let long : length first ≡ n = rw is (length-replicate (length (take n old)) z) ∙ room in
    by_bool (ltb k n)
    (λ (e : ltb k n ≡ true).
    let less : k < n = ltb-true k n e in
    rw e (get_or-append first (drop n old) 0 k (omega (arith, long)) ∙ rw is (get_or-replicate (length (take n old)) k z 0 (omega (arith, room)))))
    (λ (e : ltb k n ≡ false).
    let above : n ≤ k = ltb-false k n e in
    let there : n + (k - n) ≡ k = omega arith in
    rw e (get_or-append_right first (drop n old) n k 0 long above ∙ get_or-drop n old (k - n) 0 ∙ rw there))

-- a search that goes on behind n finds nothing more, as a node
least_within : (n : ℕ) (p : ℕ → Bool) → n ≤ 128 → within n (least 128 p) ≡ within n (least n p)
unfolding within
least_within n p h =
    by_bool (any n p)
    (λ (t : any n p ≡ true).
    let x = any_found n p t in
    ap (within n) (least_cut 128 n p x.0 h x.1 x.2))
    (λ (t : any n p ≡ false).
    let out : ltb (least 128 p) n ≡ false =
    by_bool (ltb (least 128 p) n)
    (λ (e : ltb (least 128 p) n ≡ true).
    let less : least 128 p < n = ltb-true (least 128 p) n e in
    absurd (true≢false (sym (least_holds 128 p (omega arith)) ∙ any_false n p t (least 128 p) less)))
    (λ e. e) in
    rw (out, least_none n p (any_false n p t), le-ltb n n (omega arith)))

-- what is to stand at v: the lowest leaf whose edge to it stays, where v is a root
abbrev pub lowest : ℕ → NodeSet → List NodeSet → ℕ → ℕ
lowest n roots sets v = cond (mem roots v) (within n (least 128 (λ (l : ℕ). in_row sets v l))) none

-- the same, of the roots passed
abbrev lowest_of : ℕ → NodeSet → NodeSet → List NodeSet → ℕ → ℕ
lowest_of n roots left sets v = cond (mem roots v && not (mem left v)) (within n (least 128 (λ (l : ℕ). in_row sets v l))) none

pub record SettledSo (n : ℕ) (roots : NodeSet) (sets : List NodeSet) (left : NodeSet) (old out : List ℕ) : Type 0 where
  pub of_roots : (v : ℕ) → mem left v ≡ true → mem roots v ≡ true
  pub filled : Filled (lowest_of n roots left sets) n old out

pub settle_start : (n : ℕ) (roots : NodeSet) (sets : List NodeSet) (old out : List ℕ) → Filled (λ (k : ℕ). none) n old out → SettledSo n roots sets roots out out
settle_start n roots sets old out clear =
    record {
      of_roots = λ v h. h;
      filled = λ k.
          by_bool (ltb k n)
          (λ (e : ltb k n ≡ true). clear k ∙ rw e (by_bool (mem roots k) (λ t. rw t) (λ t. rw t)))
          (λ (e : ltb k n ≡ false). rw e);
    }

pub settle_more : (n : ℕ) (roots : NodeSet) (sets : List NodeSet) (left left' : NodeSet) (old out : List ℕ) (v l b : ℕ) (from : NodeSet) → Lowest left v left' → v < n → v < length out
    → ((k : ℕ) → mem from k ≡ in_row sets v k) → l ≡ least 128 (mem from) → b ≡ within n l → SettledSo n roots sets left old out → SettledSo n roots sets left' old (set out v b)
settle_more n roots sets left left' old out v l b from first small long are is_l is_b so =
    record {
      of_roots = λ k m. so.of_roots k (removed_member left v left' first.others k m).0;
      filled = λ k.
          by_bool (eqb k v)
          (λ (e : eqb k v ≡ true).
          let i : k ≡ v = eqb-true k v e in
          rw i
          (get_or-set_same out v b 0 long
          ∙ is_b
          ∙ ap (within n) (is_l ∙ least_ext 128 (mem from) (λ (j : ℕ). in_row sets v j) (λ j _. are j))
          ∙ sym (rw (lt-ltb v n small, so.of_roots v first.in_set, removed_gone left v left' first.others))))
          (λ (e : eqb k v ≡ false).
          let other : k ≡ v → ⊥ = eqb-false k v e in
          get_or-set_other out v k b 0 other
          ∙ so.filled k
          ∙ rw (removed_other left v left' first.others k other));
    }

pub settle_end : (n : ℕ) (roots : NodeSet) (sets : List NodeSet) (left : NodeSet) (old clear out : List ℕ) → Empty left → Filled (λ (k : ℕ). none) n old clear → SettledSo n roots sets left clear out → Filled (lowest n roots sets) n old out
settle_end n roots sets left old clear out none_left was so k =
    so.filled k
    ∙ by_bool (ltb k n)
    (λ (e : ltb k n ≡ true). rw (e, none_left k, and_true (mem roots k)))
    (λ (e : ltb k n ≡ false). rw e (was k ∙ rw e))

module _ (g : Graph) (t : Trees) (sets : List NodeSet) (ends : TreesOf g t) (is : LooplessForm g t.n sets) where
  -- a node that is no root has no edge
  settled_else : (v : ℕ) → v < t.n → root g v ≡ false → none ≡ at (settled g) v
  unfolding lowest_above kept within
  settled_else v h out =
      let below : v < g.nodes = omega (arith, is.nodes) in
      let nothing : (l : ℕ) → kept g l v ≡ false = λ l.
      not_holding (kept g l v) (λ e.
      true≢false (sym (is.shaped.leaf_to_root l v ((kept_holds g is.shaped is.loopless l v).0 e).0).1 ∙ out)) in
      sym (settled_at g v below ∙ rw (least_none g.nodes (λ (l : ℕ). kept g l v) (λ l _. nothing l), le-ltb g.nodes g.nodes (omega arith)))

  lowest_settled : (v : ℕ) → v < t.n → lowest t.n t.roots sets v ≡ at (settled g) v
  unfolding lowest_above kept
  lowest_settled v h =
      by_bool (mem t.roots v)
      (λ (e : mem t.roots v ≡ true).
      let is_root : root g v ≡ true = sym (ends.roots_are v) ∙ e in
      let few : t.n ≤ 128 = omega (arith, is.nodes, is.shaped.few_nodes) in
      let below : v < g.nodes = omega (arith, is.nodes) in
      let same : (l : ℕ) → in_row sets v l ≡ kept g l v = λ l.
      test_ext (in_row sets v l) (kept g l v)
      (λ t. (kept_holds g is.shaped is.loopless l v).1 ((is.reduced.edges is.loopless v l is_root).0 t))
      (λ t. (is.reduced.edges is.loopless v l is_root).1 ((kept_holds g is.shaped is.loopless l v).0 t)) in
      rw e
      (least_within t.n (λ (l : ℕ). in_row sets v l) few
      ∙ ap (within t.n) (least_ext t.n (λ (l : ℕ). in_row sets v l) (λ (l : ℕ). kept g l v) (λ l _. same l))
      ∙ ap (λ (m : ℕ). within m (least m (λ (l : ℕ). kept g l v))) is.nodes
      ∙ sym (settled_at g v below)))
      (λ (e : mem t.roots v ≡ false). rw e (settled_else v h (sym (ends.roots_are v) ∙ e)))

  pub settles : (old new : List ℕ) → t.n ≤ length new → Filled (lowest t.n t.roots sets) t.n old new → take t.n new ≡ settled g
  settles old new long so =
      let taken : length (take t.n new) ≡ t.n = length-take-le t.n new long in
      ext_get_or 0 (take t.n new) (settled g) (taken ∙ is.nodes ∙ sym (settled_length g)) (λ v h.
      let less : v < t.n = omega arith in
      get_or-take t.n new v 0 less ∙ so v ∙ rw (lt-ltb v t.n less) (lowest_settled v less))

pub rest_same : (f : ℕ → ℕ) (n : ℕ) (old new : List ℕ) → length new ≡ length old → Filled f n old new → drop n new ≡ drop n old
rest_same f n old new long so =
    ext_get_or 0 (drop n new) (drop n old) (length-drop n new ∙ rw long (sym (length-drop n old))) (λ i h.
    get_or-drop n new i 0 ∙ so (n + i) ∙ rw (le-ltb (n + i) n (omega arith)) (sym (get_or-drop n old i 0)))

-- the byte that is stored
pub byte_some : (l n : ℕ) → l < n → l ≡ within n l
unfolding within
byte_some l n h = rw (lt-ltb l n h)

pub byte_none : (l n : ℕ) → n ≤ l → none ≡ within n l
unfolding within
byte_none l n h = rw (le-ltb l n h)
