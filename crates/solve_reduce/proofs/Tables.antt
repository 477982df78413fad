-- The table of a reduced form, made and changed: the rows of the leaves laid out, edges revised at the members of a set one after
-- the other, the leaves' edges entered one leaf after the other, and an edge more.
use Prim.Native.Nat.{ℕ, ◌+◌, ◌≤◌, ◌<◌}
use mathlib.Core.Path.{◌≡◌, refl, sym, ap, ◌∙◌}
use mathlib.Core.List.{List}
use mathlib.Core.Bool.{Bool, true, false, cond, not, ◌&&◌, ◌||◌, true≢false}
use mathlib.Core.Logic.{◌⊎◌, inl, inr, ⊎_elim, ◌↔◌}
use native.Mathlib.Omega.{arith}
use lib.Dec.{eqb}
use lib.ListN.{length}
use borrow.Author.Tests.{eq-eqb, ne_eqb, eqb-true, eqb-false, lt-ltb, le-ltb, not-true}
use Rattle.base_finite.proofs.Laws.{by_bool, not_holding, and_both, and_intro, and_true, or_false, or_left, or_right, or_cases}
use Rattle.base_nodeset.specs.Set.{mem, Empty, Only, Inserted, Removed, Union, Intersection, Difference, Lowest}
use Rattle.base_nodeset.specs.declared.NodeSet.{NodeSet}
use Rattle.base_nodeset.proofs.Members.{removed_member, removed_other, removed_gone}
use Rattle.graph.specs.Graph.{Graph, Descent, root, leaf}
use Rattle.graph.specs.Order.{Kept, adding}
use Rattle.theory_edges.proofs.Ends.{leaf_below, root_below}
use Rattle.theory_forest.specs.Shape.{Shaped}
use Rattle.theory_forest.proofs.Closure.{descent_adding}
use Rattle.theory_forest.proofs.Fragments.{leaf_not_root, root_adding, leaf_adding}
use Rattle.theory_forest.proofs.Table.{or_holds, and_holds}
use Rattle.theory_list.specs.Redundancy.{Loopless}
use Rattle.theory_list.specs.Keeping.{Fresh}
use Rattle.theory_list.proofs.Keeping.{loopless_fewer, kept_adding}
use Rattle.base_tables.specs.Rows.{in_row, RowPut, Rows, Closed}
use Rattle.base_tables.proofs.Tops.{descent_closed}
use Rattle.base_tables.specs.Trees.{Bounded, TreesOf}
use Rattle.base_tables.specs.declared.trees.Trees.{Trees}
use Rattle.solve_closure.specs.Closing.{Joined}
use Rattle.solve_below.specs.Below.{BelowRoot, Under}
use Rattle.solve_reduce.specs.Reduced.{OverLeaf, second_lowest, several, Forks, Wide, Reduced, Laid, Revised, RevisedAt, Noted}
use Rattle.solve_reduce.specs.Staying.{head_of, Heads}
use Rattle.solve_reduce.proofs.Staying.{head_kept}
use Rattle.solve_reduce.proofs.Choices.{several_ext, several_none}

-- the forks of tables that are the same at the roots
forks_as : (roots : NodeSet) (sets sets' : List NodeSet) (v : ℕ) → (mem roots v ≡ true → (l : ℕ) → in_row sets' v l ≡ in_row sets v l)
    → (mem roots v && several (λ (l : ℕ). in_row sets v l)) ≡ (mem roots v && several (λ (l : ℕ). in_row sets' v l))
forks_as roots sets sets' v same =
    by_bool (mem roots v)
    (λ t. rw t (several_ext (λ (l : ℕ). in_row sets v l) (λ (l : ℕ). in_row sets' v l) (λ l. sym (same t l))))
    (λ t. rw t)

put_wide : (n : ℕ) {i : ℕ} {s : NodeSet} {sets sets' : List NodeSet} → RowPut i s sets sets' → Wide n sets → Wide n sets'
put_wide n p w = omega (arith, p.long)

-- the forks

-- all but the forks
pub record Unmarked (g : Graph) (n : ℕ) (sets : List NodeSet) : Type 0 where
  pub wide : Wide n sets
  pub under : Under g sets
  pub edges : Loopless g → (v l : ℕ) → root g v ≡ true → (in_row sets v l ≡ true) ↔ Kept g l v

-- and the forks put in their place
pub marked : {n : ℕ} (roots : NodeSet) {s : NodeSet} {sets sets' : List NodeSet} (g : Graph) → n ≡ g.nodes → ((v : ℕ) → mem roots v ≡ root g v) → Unmarked g n sets → Forks roots sets s
    → RowPut n s sets sets' → Reduced g n sets'
marked {n} roots {s} {sets} {sets'} g nodes are_roots before are p =
    let same : (i v : ℕ) → i < n → in_row sets' i v ≡ in_row sets i v = λ i v h. p.row_is i v ∙ rw (ne_eqb i n (λ e. omega arith)) in
    record {
      wide = put_wide n p before.wide;
      under = λ l v h.
          let e = same l v (omega (arith, leaf_below g l h)) in
          (λ t. (before.under l v h).0 (sym e ∙ t), λ d. e ∙ (before.under l v h).1 d);
      edges = λ free v l h.
          let e = same v l (omega (arith, root_below g v h)) in
          (λ t. (before.edges free v l h).0 (sym e ∙ t), λ k. e ∙ (before.edges free v l h).1 k);
      forks = λ v.
          p.row_is n v
          ∙ rw (eq-eqb n n refl)
          (are v
          ∙ forks_as roots sets sets' v (λ t l. same v l (omega (arith, root_below g v (sym (are_roots v) ∙ t))))
          ∙ ap (λ (b : Bool). b && several (λ (l : ℕ). in_row sets' v l)) (are_roots v));
    }

-- a set stored among the edges, and noted
pub forks_put : (roots : NodeSet) (x : ℕ) (forks r : NodeSet) {s : NodeSet} {sets sets' : List NodeSet} → mem roots x ≡ true → RowPut x s sets sets' → Noted forks x s r → Forks roots sets forks → Forks roots sets' r
forks_put roots x forks r {s} {sets} {sets'} in_roots p note are w =
    note w
    ∙ by_bool (eqb w x)
    (λ (e : eqb w x ≡ true).
    let i : w ≡ x = eqb-true w x e in
    rw (e, i, in_roots) (several_ext (mem s) (λ (l : ℕ). in_row sets' x l) (λ l. sym (p.row_is x l ∙ rw (eq-eqb x x refl)))))
    (λ (e : eqb w x ≡ false). rw e (are w ∙ forks_as roots sets sets' w (λ t l. p.row_is w l ∙ rw e)))

-- the same edges, the same forks
pub forks_same : (roots : NodeSet) (sets sets' : List NodeSet) (s : NodeSet) → ((v l : ℕ) → mem roots v ≡ true → in_row sets' v l ≡ in_row sets v l) → Forks roots sets s → Forks roots sets' s
forks_same roots sets sets' s same are v = are v ∙ forks_as roots sets sets' v (λ t l. same v l t)

-- no node is a root and a leaf
abbrev pub Disjoint : NodeSet → NodeSet → Type 0
Disjoint roots leaves = (v : ℕ) → mem roots v ≡ true → mem leaves v ≡ false

pub ends_disjoint : (g : Graph) → Shaped g → {t : Trees} → TreesOf g t → Disjoint t.roots t.leaves
ends_disjoint g s {t} ends v h =
    not_holding (mem t.leaves v) (λ e. leaf_not_root g s v (sym (ends.leaves_are v) ∙ e) (sym (ends.roots_are v) ∙ h))

-- the rows laid out

abbrev pub LaidSo : NodeSet → List NodeSet → ℕ → List NodeSet → Type 0
LaidSo leaves rows k sets = (u v : ℕ) → u < k → in_row sets u v ≡ (mem leaves u && in_row rows u v)

pub laid_more : (leaves : NodeSet) (rows : List NodeSet) (k : ℕ) (sets sets' : List NodeSet) (s : NodeSet) → ((v : ℕ) → mem s v ≡ (mem leaves k && in_row rows k v)) → RowPut k s sets sets'
    → LaidSo leaves rows k sets → LaidSo leaves rows (k + 1) sets'
laid_more leaves rows k sets sets' s is p so u v h =
    p.row_is u v
    ∙ by_bool (eqb u k)
    (λ (e : eqb u k ≡ true). rw (e, eqb-true u k e) (is v))
    (λ (e : eqb u k ≡ false).
    let other : u ≡ k → ⊥ = eqb-false u k e in
    rw e (so u v (omega arith)))

-- no edges, no forks
pub forks_none : (t : Trees) (rows sets : List NodeSet) (s : NodeSet) → Bounded t → Disjoint t.roots t.leaves → Empty s → Laid t.n t.leaves rows sets → Forks t.roots sets s
forks_none t rows sets s within apart nothing laid v =
    nothing v
    ∙ sym (by_bool (mem t.roots v)
    (λ (e : mem t.roots v ≡ true).
    rw e (several_none (λ (l : ℕ). in_row sets v l) (λ l. laid.row_is v l (within.roots_within v e) ∙ rw (apart v e))))
    (λ (e : mem t.roots v ≡ false). rw e))

-- edges revised

-- of an edge what is left
abbrev after : Bool → Bool → Bool → Bool
after there less more = there && not less || more

pub record RevisedSo (set less more : NodeSet) (sets : List NodeSet) (left : NodeSet) (sets' : List NodeSet) : Type 0 where
  pub of_set : (v : ℕ) → mem left v ≡ true → mem set v ≡ true
  pub row_is : (v l : ℕ)
      → in_row sets' v l ≡ cond (mem set v && not (mem left v)) (after (in_row sets v l) (mem less l) (mem more l)) (in_row sets v l)

pub revise_start : (set less more : NodeSet) (sets : List NodeSet) → RevisedSo set less more sets set sets
revise_start set less more sets =
    record { of_set = λ v h. h; row_is = λ v l. by_bool (mem set v) (λ e. rw e) (λ e. rw e) }

pub revise_more : (set less more : NodeSet) (sets : List NodeSet) (left : NodeSet) (sets₁ sets₂ : List NodeSet) (x : ℕ) (left' : NodeSet)
    → Lowest left x left' → RevisedAt x less more sets₁ sets₂
    → RevisedSo set less more sets left sets₁ → RevisedSo set less more sets left' sets₂
revise_more set less more sets left sets₁ sets₂ x left' first p so =
    record {
      of_set = λ v m. so.of_set v (removed_member left x left' first.others v m).0;
      row_is = λ v l.
          p.row_is v l
          ∙ by_bool (eqb v x)
          (λ (e : eqb v x ≡ true).
          let i : v ≡ x = eqb-true v x e in
          let before : in_row sets₁ x l ≡ in_row sets x l = so.row_is x l ∙ rw (so.of_set x first.in_set, first.in_set) in
          rw (i, eq-eqb x x refl, so.of_set x first.in_set, removed_gone left x left' first.others, before))
          (λ (e : eqb v x ≡ false).
          rw (e, removed_other left x left' first.others v (eqb-false v x e)) (so.row_is v l));
    }

-- one root's, stored or as they were
module _ (x : ℕ) (less more old fewer from : NodeSet) (sets : List NodeSet) (are : (l : ℕ) → mem old l ≡ in_row sets x l) (is_fewer : Difference old less fewer) (is_from : Union fewer more from) where
  from_is : (l : ℕ) → mem from l ≡ (in_row sets x l && not (mem less l) || mem more l)
  from_is l = is_from l ∙ rw (is_fewer l, are l)

  pub revised_put : {sets' : List NodeSet} → RowPut x from sets sets' → RevisedAt x less more sets sets'
  revised_put p = record { row_is = λ u l. p.row_is u l ∙ rw (from_is l) }

  pub revised_same : old.low ≡ from.low → old.high ≡ from.high → RevisedAt x less more sets sets
  revised_same low high =
      record {
        row_is = λ u l.
            by_bool (eqb u x)
            (λ (e : eqb u x ≡ true).
            let same : mem old l ≡ mem from l = rw (low, high) in
            rw (e, eqb-true u x e) (sym (are l) ∙ same ∙ from_is l))
            (λ (e : eqb u x ≡ false). rw e);
      }

pub revise_end : (set less more : NodeSet) (sets : List NodeSet) (left : NodeSet) (sets' : List NodeSet) → Empty left
    → RevisedSo set less more sets left sets' → Revised set less more sets sets'
revise_end set less more sets left sets' none so = record { row_is = λ v l. so.row_is v l ∙ rw (none v, and_true (mem set v)) }

-- the leaves' edges entered

pub record EnteredSo (n : ℕ) (leaves roots : NodeSet) (base : List NodeSet) (left : NodeSet) (sets : List NodeSet) : Type 0 where
  pub of_set : (l : ℕ) → mem left l ≡ true → mem leaves l ≡ true
  pub wide : Wide n sets
  pub under : (u v : ℕ) → u < n → mem roots u ≡ false → in_row sets u v ≡ (mem leaves u && in_row base u v)
  pub edges : Closed (in_row base) → Disjoint roots leaves → (v l : ℕ) → v < n → mem roots v ≡ true
      → in_row sets v l ≡ ((mem leaves l && not (mem left l)) && head_of roots base l v)

pub enter_start : (n : ℕ) (leaves roots : NodeSet) (base sets : List NodeSet) → Wide n sets → Laid n leaves base sets → EnteredSo n leaves roots base leaves sets
enter_start n leaves roots base sets wide laid =
    record {
      of_set = λ l h. h;
      wide = wide;
      under = λ u v h out. laid.row_is u v h;
      edges = λ closed apart v l h in_roots. laid.row_is v l h ∙ rw (apart v in_roots) (by_bool (mem leaves l) (λ e. rw e) (λ e. rw e));
    }

entered_here : (t : Bool) → cond t true false ≡ t
entered_here true = refl
entered_here false = refl

entered_else : (t b : Bool) → cond t (after b false false) b ≡ b
entered_else true b = or_false (b && true) ∙ and_true b
entered_else false b = refl

pub enter_more : (n : ℕ) (leaves roots : NodeSet) (base : List NodeSet) (left : NodeSet) (sets sets' : List NodeSet) (l : ℕ) (to nothing only left' : NodeSet)
    → length sets' ≡ length sets → Lowest left l left' → Heads roots base l to → Empty nothing → Only l only → Revised to nothing only sets sets'
    → EnteredSo n leaves roots base left sets → EnteredSo n leaves roots base left' sets'
enter_more n leaves roots base left sets sets' l to nothing only left' long first is none_there is_only r so =
    record {
      of_set = λ k m. so.of_set k (removed_member left l left' first.others k m).0;
      wide = omega (arith, so.wide);
      under = λ u v h out.
          let other : mem to u ≡ false = not_holding (mem to u) (λ t. true≢false (sym (is.of_roots u t) ∙ out)) in
          r.row_is u v ∙ rw other (so.under u v h out);
      edges = λ closed apart v k h in_roots.
          r.row_is v k
          ∙ by_bool (eqb k l)
          (λ (e : eqb k l ≡ true).
          let i : k ≡ l = eqb-true k l e in
          let before : in_row sets v l ≡ false = so.edges closed apart v l h in_roots ∙ rw (so.of_set l first.in_set, first.in_set) in
          rw (i, before, is_only l, eq-eqb l l refl, so.of_set l first.in_set, removed_gone left l left' first.others) (entered_here (mem to v) ∙ is.exact closed v))
          (λ (e : eqb k l ≡ false).
          let other : k ≡ l → ⊥ = eqb-false k l e in
          rw (none_there k, is_only k, e, removed_other left l left' first.others k other) (entered_else (mem to v) (in_row sets v k) ∙ so.edges closed apart v k h in_roots));
    }

pub enter_end : (t : Trees) (base : List NodeSet) (left : NodeSet) (sets : List NodeSet) → Empty left
    → EnteredSo t.n t.leaves t.roots base left sets → (g : Graph) → Shaped g → TreesOf g t → Rows (Descent g) base → Unmarked g t.n sets
enter_end t base left sets none so g s ends rows =
    record {
      wide = so.wide;
      under = λ l v h.
          let out : mem t.roots l ≡ false = not_holding (mem t.roots l) (λ e. leaf_not_root g s l h (sym (ends.roots_are l) ∙ e)) in
          let is : in_row sets l v ≡ in_row base l v = so.under l v (omega (arith, leaf_below g l h, ends.nodes)) out ∙ rw (ends.leaves_are l, h) in
          (λ e. (rows.row_is l v).0 (sym is ∙ e), λ d. is ∙ (rows.row_is l v).1 d);
      edges = λ free v l h.
          let stays = head_kept g s t base ends rows free l v in
          let is : in_row sets v l ≡ ((mem t.leaves l && not (mem left l)) && head_of t.roots base l v) =
          so.edges (descent_closed g rows) (ends_disjoint g s ends) v l (omega (arith, root_below g v h, ends.nodes)) (ends.roots_are v ∙ h) in (
            λ e.
                let a = and_both (mem t.leaves l && not (mem left l)) (head_of t.roots base l v) (sym is ∙ e) in
                stays.0 (and_intro (mem t.leaves l) (head_of t.roots base l v) (and_both (mem t.leaves l) (not (mem left l)) a.0).0 a.1),
            λ k.
                let a = and_both (mem t.leaves l) (head_of t.roots base l v) (stays.1 k) in
                is ∙ rw (a.0, a.1, none l),
          );
    }

-- an edge more

pub nodes_adding : (g : Graph) (a r : ℕ) → (adding g a r).nodes ≡ g.nodes
unfolding adding
nodes_adding g a r = refl

module _ (g : Graph) (s : Shaped g) (t : Trees) (ends : TreesOf g t) (a r : ℕ) (new : Fresh g a r)
    {sets sets₁ sets₂ sets₃ : List NodeSet} (before : Reduced g t.n sets) (over below lower nothing from with_a : NodeSet)
    (are_below : BelowRoot g r below)
    (are_over : OverLeaf g a over)
    (joined : Joined (mem over) (mem below) sets sets₁)
    (is_lower : Intersection below t.roots lower)
    (is_nothing : Empty nothing)
    (revised : Revised lower over nothing sets₁ sets₂)
    (is_from : (l : ℕ) → mem from l ≡ in_row sets₂ r l)
    (is_with : Inserted from a with_a)
    (put : RowPut r with_a sets₂ sets₃) where
  over_holds : (u : ℕ) → leaf g u ≡ true → (mem over u ≡ true) ↔ ((u ≡ a) ⊎ Descent g u a)
  over_holds u h = (λ m. ((are_over u).0 m).1, λ p. (are_over u).1 (h, p))

  not_over : (v : ℕ) → root g v ≡ true → mem over v ≡ false
  not_over v h = not_holding (mem over v) (λ e. leaf_not_root g s v ((are_over v).0 e).0 h)

  -- rows of leaves

  not_lower : (u : ℕ) → leaf g u ≡ true → mem lower u ≡ false
  not_lower u h =
      not_holding (mem lower u) (λ e.
      leaf_not_root g s u h (sym (ends.roots_are u) ∙ (and_both (mem below u) (mem t.roots u) (sym (is_lower u) ∙ e)).1))

  under_is : (u v : ℕ) → leaf g u ≡ true → in_row sets₃ u v ≡ (in_row sets u v || mem over u && mem below v)
  under_is u v h =
      let other : eqb u r ≡ false = ne_eqb u r (λ e. leaf_not_root g s u h (ap (root g) e ∙ new.to_root)) in
      put.row_is u v ∙ rw other (revised.row_is u v ∙ rw (not_lower u h) (joined.row_is u v))

  -- the edges before, but for those that go
  left_of_lem : (v l : ℕ) → root g v ≡ true → in_row sets₂ v l ≡ (in_row sets v l && not (mem below v && mem over l))
  left_of_lem v l h =
      let same : in_row sets₁ v l ≡ in_row sets v l = joined.row_is v l ∙ rw (not_over v h) (or_false (in_row sets v l)) in
      let lower_is : mem lower v ≡ mem below v = is_lower v ∙ rw (ends.roots_are v, h) (and_true (mem below v)) in
      revised.row_is v l
      ∙ rw (same, is_nothing l, lower_is)
      (by_bool (mem below v)
      (λ e. rw e (or_false (in_row sets v l && not (mem over l))))
      (λ e. rw e (sym (and_true (in_row sets v l)))))

  edges_are : (v l : ℕ) → root g v ≡ true
      → (in_row sets₃ v l ≡ true) ↔ (((in_row sets v l ≡ true) × (mem below v ≡ true → mem over l ≡ true → ⊥)) ⊎ ((l ≡ a) × (v ≡ r)))
  edges_are v l h =
      let K : Bool = in_row sets v l in
      let stays : (K && not (mem below v && mem over l)) ≡ true → (K ≡ true) × (mem below v ≡ true → mem over l ≡ true → ⊥) = λ t.
      let b = and_both K (not (mem below v && mem over l)) t in
      (b.0, λ p q. true≢false (sym (and_intro (mem below v) (mem over l) p q) ∙ not-true (mem below v && mem over l) b.1)) in
      let stayed : (K ≡ true) × (mem below v ≡ true → mem over l ≡ true → ⊥) → in_row sets₂ v l ≡ true = λ k.
      let free : (mem below v && mem over l) ≡ false = not_holding (mem below v && mem over l) (λ t. let b = and_both (mem below v) (mem over l) t in k.1 b.0 b.1) in
      left_of_lem v l h ∙ rw (k.0, free) in
      by_bool (eqb v r)
      (λ (e : eqb v r ≡ true).
      let i : v ≡ r = eqb-true v r e in
      let is : in_row sets₃ v l ≡ (eqb l a || in_row sets₂ v l) =
      put.row_is v l ∙ rw (i, eq-eqb r r refl) (is_with l ∙ rw (is_from l)) in (
        λ t.
            ⊎_elim
            (λ (x : eqb l a ≡ true). inr (eqb-true l a x, i))
            (λ (x : in_row sets₂ v l ≡ true). inl (stays (sym (left_of_lem v l h) ∙ x)))
            (or_cases (eqb l a) (in_row sets₂ v l) (sym is ∙ t)),
        ⊎_elim
            (λ (k : (K ≡ true) × (mem below v ≡ true → mem over l ≡ true → ⊥)). is ∙ or_right (eqb l a) (in_row sets₂ v l) (stayed k))
            (λ (k : (l ≡ a) × (v ≡ r)). is ∙ or_left (eqb l a) (in_row sets₂ v l) (eq-eqb l a k.0)),
      ))
      (λ (e : eqb v r ≡ false).
      let other : v ≡ r → ⊥ = eqb-false v r e in
      let is : in_row sets₃ v l ≡ in_row sets₂ v l = put.row_is v l ∙ rw e in (
        λ t. inl (stays (sym (left_of_lem v l h) ∙ sym is ∙ t)),
        ⊎_elim
            (λ (k : (K ≡ true) × (mem below v ≡ true → mem over l ≡ true → ⊥)). is ∙ stayed k)
            (λ (k : (l ≡ a) × (v ≡ r)). absurd (other k.1)),
      ))

  pub joined_forks : (s : NodeSet) → Forks t.roots sets s → Forks t.roots sets₁ s
  joined_forks s are =
      forks_same t.roots sets sets₁ s (λ v l h.
      joined.row_is v l ∙ rw (not_over v (sym (ends.roots_are v) ∙ h)) (or_false (in_row sets v l))) are

  pub added : Wide t.n sets₃ → Unmarked (adding g a r) t.n sets₃
  added wide =
      record {
        wide = wide;
        under = λ u v h.
            let is_leaf : leaf g u ≡ true = sym (leaf_adding g a r u) ∙ h in
            let law = descent_adding g a r u v in
            let test = or_holds (in_row sets u v) (mem over u && mem below v) (before.under u v is_leaf) (and_holds (mem over u) (mem below v) (over_holds u is_leaf) (are_below v)) in
            (λ t. law.1 (test.0 (sym (under_is u v is_leaf) ∙ t)), λ p. under_is u v is_leaf ∙ test.1 (law.0 p));
        edges = λ free v l h.
            let is_root : root g v ≡ true = sym (root_adding g a r v) ∙ h in
            let law = kept_adding g s a r new free l v in
            let e = edges_are v l is_root in
            let old = before.edges (loopless_fewer g a r free) v l is_root in (
              λ t.
                  law.1
                  (⊎_elim
                  (λ (k : (in_row sets v l ≡ true) × (mem below v ≡ true → mem over l ≡ true → ⊥)).
                  let kept : Kept g l v = old.0 k.0 in
                  let is_leaf : leaf g l ≡ true = (s.leaf_to_root l v kept.0).0 in
                  inl (kept, λ p q. k.1 ((are_below v).1 q) ((over_holds l is_leaf).1 p)))
                  (λ (k : (l ≡ a) × (v ≡ r)). inr k)
                  (e.0 t)),
              λ k.
                  e.1
                  (⊎_elim
                  (λ (x : Kept g l v × (((l ≡ a) ⊎ Descent g l a) → ((v ≡ r) ⊎ Descent g r v) → ⊥)).
                  let is_leaf : leaf g l ≡ true = (s.leaf_to_root l v x.0.0).0 in
                  inl (old.1 x.0, λ p q. x.1 ((over_holds l is_leaf).0 q) ((are_below v).0 p)))
                  (λ (x : (l ≡ a) × (v ≡ r)). inr x)
                  (law.0 k)),
            );
      }

-- noting

pub noted_in : (forks : NodeSet) (v : ℕ) (set r : NodeSet) (b : ℕ) → b ≡ second_lowest (mem set) → b < 128 → Inserted forks v r → Noted forks v set r
noted_in forks v set r b is some ins w =
    let several_there : several (mem set) ≡ true = lt-ltb (second_lowest (mem set)) 128 (omega arith) in
    ins w
    ∙ by_bool (eqb w v)
    (λ (e : eqb w v ≡ true). rw e (sym several_there))
    (λ (e : eqb w v ≡ false). rw e)

pub noted_out : (forks : NodeSet) (v : ℕ) (set r : NodeSet) (b : ℕ) → b ≡ second_lowest (mem set) → 128 ≤ b → Removed forks v r → Noted forks v set r
noted_out forks v set r b is none gone w =
    let one_at_most : several (mem set) ≡ false = le-ltb (second_lowest (mem set)) 128 (omega arith) in
    gone w
    ∙ by_bool (eqb w v)
    (λ (e : eqb w v ≡ true). rw e (sym one_at_most))
    (λ (e : eqb w v ≡ false). rw e)
