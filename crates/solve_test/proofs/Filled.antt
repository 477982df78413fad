-- The tables that the test looks up: what is in them after each turn of the loops that fill them.
use Prim.Native.Nat.{ℕ, zero, suc}
use mathlib.Core.Path.{◌≡◌, sym, ◌∙◌}
use mathlib.Core.List.{List}
use mathlib.Core.Bool.{Bool, true, false, not, ◌&&◌, ◌||◌, true≢false}
use mathlib.Core.Logic.{◌⊎◌, inl, inr, ⊎_elim, ◌↔◌}
use native.Mathlib.Omega.{arith}
use lib.Dec.{eqb}
use lib.ListN.{get_or, replicate, length-replicate}
use borrow.Author.Tests.{eq-eqb, eqb-true}
use Rattle.base_finite.proofs.Laws.{by_bool, and_both, and_true, and_false, or_false, or_comm, or_cases, or_right, eqb_sym}
use Rattle.base_nodeset.specs.Set.{mem, Empty, Only, Union, Intersection, Lowest}
use Rattle.base_nodeset.specs.declared.NodeSet.{NodeSet}
use Rattle.base_nodeset.proofs.Laws.{member_zero}
use Rattle.base_nodeset.proofs.Members.{removed_member, removed_cases, removed_gone, removed_out}
use Rattle.graph.specs.Graph.{Graph, leaf_of}
use Rattle.base_tables.specs.Rows.{nothing, Long, in_row, RowPut, IsRow}
use Rattle.base_tables.specs.Trees.{Bounded, Owners, Fits}
use Rattle.base_tables.specs.declared.trees.Trees.{Trees}
use Rattle.solve_test.specs.Tables.{Blank, Put, PutAll, Owned, LeafRows, NearRows, Symmetric}

-- rows of empty sets

pub blank_rows : (m : ℕ) (z : NodeSet) → m ≡ 128 → Empty z → Blank (replicate m z)
blank_rows m z e empty =
    record {
      long = length-replicate m z ∙ e;
      nothing = λ u v. empty_in m u v;
    }
  where
    empty_in : (k u v : ℕ) → mem (get_or (replicate k z) u nothing) v ≡ false
    empty_in zero u v = member_zero v
    empty_in (suc k) zero v = empty v
    empty_in (suc k) (suc u) v = empty_in k u v

-- a set put into a row

pub put_row : (u : ℕ) (s row : NodeSet) {more : NodeSet} {rows rows' : List NodeSet} → Long rows → IsRow (in_row rows) u row → Union row s more → RowPut u more rows rows' → Put (in_row rows) u s rows'
put_row u s row {rows = rows} long is un put =
    record {
      long = put.long ∙ long;
      row_is = λ a b.
          put.row_is a b
          ∙ by_bool (eqb a u)
          (λ (e : eqb a u ≡ true). rw (e, eqb-true a u e) (un b ∙ rw (is b) (or_comm (in_row rows u b) (mem s b))))
          (λ (e : eqb a u ≡ false). rw e);
    }

-- one node put into several rows

pub record PutSo (old : ℕ → ℕ → Bool) (s : NodeSet) (f : ℕ) (left : NodeSet) (rows : List NodeSet) : Type 0 where
  pub long : Long rows
  pub of_set : (k : ℕ) → mem left k ≡ true → mem s k ≡ true
  pub row_is : (a b : ℕ) → in_row rows a b ≡ ((mem s a && not (mem left a)) && eqb b f || old a b)

pub put_start : (rows : List NodeSet) (s : NodeSet) (f : ℕ) → Long rows → PutSo (in_row rows) s f s rows
put_start rows s f long =
    record {
      long = long;
      of_set = λ k h. h;
      row_is = λ a b. by_bool (mem s a) (λ t. rw t) (λ t. rw t);
    }

pub put_more : (old : ℕ → ℕ → Bool) (s only : NodeSet) {left left' : NodeSet} (f : ℕ) {h : ℕ} {rows rows' : List NodeSet} → Only f only → PutSo old s f left rows
    → Lowest left h left' → Put (in_row rows) h only rows' → PutSo old s f left' rows'
put_more old s only f {h} is p first put =
    record {
      long = put.long;
      of_set = λ k e. p.of_set k (removed_member _ _ _ first.others k e).0;
      row_is = λ a b.
          put.row_is a b
          ∙ rw (is b, p.row_is a b, first.others a)
          (by_bool (eqb a h)
          (λ (e : eqb a h ≡ true).
          let q : a ≡ h = eqb-true a h e in
          rw (e, q, p.of_set h first.in_set, first.in_set))
          (λ (e : eqb a h ≡ false). rw e));
    }

pub put_end : (old : ℕ → ℕ → Bool) (s : NodeSet) {left : NodeSet} (f : ℕ) {rows : List NodeSet} → PutSo old s f left rows → Empty left → PutAll old s f rows
put_end old s f p none =
    record {
      long = p.long;
      row_is = λ a b. p.row_is a b ∙ rw (none a, and_true (mem s a));
    }

-- each leaf in the row of its owner: those gone through

pub record LeafSo (leaves : NodeSet) (owners : List ℕ) (left : NodeSet) (rows : List NodeSet) : Type 0 where
  pub long : Long rows
  pub of_leaves : (k : ℕ) → mem left k ≡ true → mem leaves k ≡ true
  pub row_is : (r x : ℕ) → in_row rows r x ≡ ((mem leaves x && not (mem left x)) && eqb (get_or owners x 0) r)

pub leaves_start : (leaves : NodeSet) (owners : List ℕ) {rows : List NodeSet} → Blank rows → LeafSo leaves owners leaves rows
leaves_start leaves owners blank =
    record {
      long = blank.long;
      of_leaves = λ k h. h;
      row_is = λ r x. blank.nothing r x ∙ by_bool (mem leaves x) (λ t. rw t) (λ t. rw t);
    }

pub leaves_more : (leaves : NodeSet) (owners : List ℕ) (only : NodeSet) {left left' : NodeSet} {l : ℕ} {rows rows' : List NodeSet} → Only l only → LeafSo leaves owners left rows
    → Lowest left l left' → Put (in_row rows) (get_or owners l 0) only rows' → LeafSo leaves owners left' rows'
leaves_more leaves owners only {l = l} is so first put =
    record {
      long = put.long;
      of_leaves = λ k h. so.of_leaves k (removed_member _ _ _ first.others k h).0;
      row_is = λ r x.
          put.row_is r x
          ∙ rw (is x, so.row_is r x, first.others x)
          (by_bool (eqb x l)
          (λ (e : eqb x l ≡ true).
          let q : x ≡ l = eqb-true x l e in
          rw (e, q, so.of_leaves l first.in_set, first.in_set, and_true (eqb r (get_or owners l 0)), or_false (eqb r (get_or owners l 0)))
          (eqb_sym r (get_or owners l 0)))
          (λ (e : eqb x l ≡ false). rw (e, and_false (eqb r (get_or owners l 0)))));
    }

pub leaves_end : (leaves : NodeSet) (owners : List ℕ) {left : NodeSet} {rows : List NodeSet} → LeafSo leaves owners left rows → Empty left → LeafRows (mem leaves) owners rows
leaves_end leaves owners so none =
    record {
      long = so.long;
      row_is = λ r x. so.row_is r x ∙ rw (none x, and_true (mem leaves x));
    }

-- they are the leaves of the fragments
pub leaves_are : {g : Graph} {t : Trees} {rows : List NodeSet} → Bounded t → Fits g t → LeafRows (mem t.leaves) t.owner rows → (r x : ℕ) → in_row rows r x ≡ leaf_of g r x
unfolding leaf_of
leaves_are {g} {t} bounded fits is r x =
    is.row_is r x
    ∙ by_bool (mem t.leaves x)
    (λ (e : mem t.leaves x ≡ true). rw (← (fits.trees.leaves_are x), e, fits.owners_are x (bounded.leaves_within x e)))
    (λ (e : mem t.leaves x ≡ false). rw (← (fits.trees.leaves_are x), e))

-- each leaf is a node, and so is its owner
pub leaves_owned : {t : Trees} → Owners t → Owned (mem t.leaves) t.owner
leaves_owned {t} is l h =
    let small = is.bounded.leaves_within l h in
    let few = is.bounded.few in
    (omega (arith, is.long), omega (arith, is.within l small))

-- the rows of near roots: those that a root gone through makes

abbrev pub NearBy : (ℕ → ℕ → Bool) → NodeSet → NodeSet → ℕ → ℕ → Type 0
NearBy below roots left f h =
    (mem roots f ≡ true) × (mem roots h ≡ true) × (((mem left f ≡ false) × (below f h ≡ true)) ⊎ ((mem left h ≡ false) × (below h f ≡ true)))

pub record NearSo (below : ℕ → ℕ → Bool) (roots left : NodeSet) (rows : List NodeSet) : Type 0 where
  pub long : Long rows
  pub of_roots : (k : ℕ) → mem left k ≡ true → mem roots k ≡ true
  pub near_is : (f h : ℕ) → (in_row rows f h ≡ true) ↔ NearBy below roots left f h

pub near_start : (below : ℕ → ℕ → Bool) (roots : NodeSet) (rows : List NodeSet) → Blank rows → NearSo below roots roots rows
near_start below roots rows blank =
    record {
      long = blank.long;
      of_roots = λ k h. h;
      near_is = λ f h. (
        λ e. absurd (true≢false (sym e ∙ blank.nothing f h)),
        λ e.
            ⊎_elim
            (λ (x : (mem roots f ≡ false) × (below f h ≡ true)). absurd (true≢false (sym e.0 ∙ x.0)))
            (λ (x : (mem roots h ≡ false) × (below h f ≡ true)). absurd (true≢false (sym e.1 ∙ x.0)))
            e.2,
      );
    }

module _
    (below : ℕ → ℕ → Bool)
    (roots left left' row both : NodeSet)
    (rows rows₁ rows₂ : List NodeSet)
    (y : ℕ)
    (so : NearSo below roots left rows)
    (first : Lowest left y left')
    (is_row : IsRow below y row)
    (is_both : Intersection row roots both)
    (put : Put (in_row rows) y both rows₁)
    (put_all_lem : PutAll (in_row rows₁) both y rows₂) where
  row_now : (a b : ℕ) → in_row rows₂ a b ≡ (mem both a && eqb b y || (eqb a y && mem both b || in_row rows a b))
  row_now a b = put_all_lem.row_is a b ∙ rw (put.row_is a b)

  both_parts : (k : ℕ) → mem both k ≡ true → (below y k ≡ true) × (mem roots k ≡ true)
  both_parts k h =
      let b = and_both (mem row k) (mem roots k) (sym (is_both k) ∙ h) in
      (sym (is_row k) ∙ b.0, b.1)

  both_intro : (k : ℕ) → below y k ≡ true → mem roots k ≡ true → mem both k ≡ true
  both_intro k h r = is_both k ∙ rw (is_row k, h, r)

  in_roots : mem roots y ≡ true
  in_roots = so.of_roots y first.in_set

  passed : mem left' y ≡ false
  passed = removed_gone left y left' first.others

  near_found : (a b : ℕ) → in_row rows₂ a b ≡ true → NearBy below roots left' a b
  near_found a b e =
      ⊎_elim
      (λ (x : (mem both a && eqb b y) ≡ true).
      let k = and_both (mem both a) (eqb b y) x in
      let p = both_parts a k.0 in
      let q : b ≡ y = eqb-true b y k.1 in
      rw q (p.1, in_roots, inr (passed, p.0)))
      (λ (z : (eqb a y && mem both b || in_row rows a b) ≡ true).
      ⊎_elim
      (λ (x : (eqb a y && mem both b) ≡ true).
      let k = and_both (eqb a y) (mem both b) x in
      let p = both_parts b k.1 in
      let q : a ≡ y = eqb-true a y k.0 in
      rw q (in_roots, p.1, inl (passed, p.0)))
      (λ (x : in_row rows a b ≡ true).
      let n = (so.near_is a b).0 x in (
        n.0,
        n.1,
        ⊎_elim
            (λ (i : (mem left a ≡ false) × (below a b ≡ true)). inl (removed_out left y left' first.others a i.0, i.1))
            (λ (i : (mem left b ≡ false) × (below b a ≡ true)). inr (removed_out left y left' first.others b i.0, i.1))
            n.2,
      ))
      (or_cases (eqb a y && mem both b) (in_row rows a b) z))
      (or_cases (mem both a && eqb b y) (eqb a y && mem both b || in_row rows a b) (sym (row_now a b) ∙ e))

  old_row : (a b : ℕ) → in_row rows a b ≡ true → in_row rows₂ a b ≡ true
  old_row a b e = row_now a b ∙ or_right (mem both a && eqb b y) (eqb a y && mem both b || in_row rows a b) (or_right (eqb a y && mem both b) (in_row rows a b) e)

  near_put : (a b : ℕ) → NearBy below roots left' a b → in_row rows₂ a b ≡ true
  near_put a b (ra, rb, inl (n, e)) =
      removed_cases left y left' first.others a n
      (λ (q : a ≡ y).
      let in_both : mem both b ≡ true = both_intro b (rw q at e) rb in
      row_now a b ∙ or_right (mem both a && eqb b y) (eqb a y && mem both b || in_row rows a b) (rw (eq-eqb a y q, in_both)))
      (λ o (m : mem left a ≡ false). old_row a b ((so.near_is a b).1 (ra, rb, inl (m, e))))
  near_put a b (ra, rb, inr (n, e)) =
      removed_cases left y left' first.others b n
      (λ (q : b ≡ y).
      let in_both : mem both a ≡ true = both_intro a (rw q at e) ra in
      row_now a b ∙ rw (eq-eqb b y q, in_both))
      (λ o (m : mem left b ≡ false). old_row a b ((so.near_is a b).1 (ra, rb, inr (m, e))))

  pub near_more : NearSo below roots left' rows₂
  near_more =
      record {
        long = put_all_lem.long;
        of_roots = λ k h. so.of_roots k (removed_member left y left' first.others k h).0;
        near_is = λ a b. (near_found a b, near_put a b);
      }

pub near_end : (below : ℕ → ℕ → Bool) (roots left : NodeSet) (rows : List NodeSet) → NearSo below roots left rows → Empty left → NearRows below (mem roots) rows
near_end below roots left rows so none =
    record {
      long = so.long;
      near_is = λ f h. (
        λ e.
            let n = (so.near_is f h).0 e in (
              n.0,
              n.1,
              ⊎_elim
                  (λ (i : (mem left f ≡ false) × (below f h ≡ true)). inl i.1)
                  (λ (i : (mem left h ≡ false) × (below h f ≡ true)). inr i.1)
                  n.2,
            ),
        λ n.
            (so.near_is f h).1 (
              n.0,
              n.1,
              ⊎_elim
                  (λ (e : below f h ≡ true). inl (none f, e))
                  (λ (e : below h f ≡ true). inr (none h, e))
                  n.2,
            ),
      );
    }

pub near_symmetric : (below : ℕ → ℕ → Bool) (roots : ℕ → Bool) (rows : List NodeSet) → NearRows below roots rows → Symmetric (in_row rows)
near_symmetric below roots rows is f h e =
    let n = (is.near_is f h).0 e in
    (is.near_is h f).1 (n.1, n.0, ⊎_elim (λ (d : below f h ≡ true). inr d) (λ (d : below h f ≡ true). inl d) n.2)
