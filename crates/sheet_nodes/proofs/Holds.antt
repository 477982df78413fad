-- A table that holds what some commands say of their nodes: before the first, and with one more.
use Prim.Native.Nat.{ℕ, zero, suc, ◌+◌, ◌*◌, ◌≤◌, ◌<◌}
use mathlib.Core.Path.{◌≡◌, refl, sym, ◌∙◌}
use mathlib.Core.List.{List, [], ◌∷◌, ◌++◌, append-nil}
use mathlib.Core.Bool.{true, false}
use native.Mathlib.Omega.{arith}
use lib.Dec.{eqb, ltb}
use lib.ListN.{length, get_or, set, length-append, get_or-append, get_or-eq_default}
use lib.Seq.{get_or-append_seam, get_or-set_same, get_or-set_other}
use borrow.Author.Tests.{eqb-true, eqb-false, eq-eqb, ne_eqb, ltb-true, ltb-false}
use Rattle.base_finite.proofs.Laws.{by_bool, eqb_sym}
use Rattle.base_nodeset.specs.Set.{Empty as EmptySet, Inserted}
use Rattle.base_nodeset.specs.declared.NodeSet.{NodeSet}
use Rattle.graph.specs.Graph.{Edge, none, left}
use Rattle.format.specs.Sheet as spec
use Rattle.sheet_nodes.specs.Table.{Empty}
use Rattle.sheet_nodes.specs.Hold.{Holding}

pub holding_none : (table : List ℕ) → Empty table → (l : NodeSet) → EmptySet l → Holding [] [] table l
unfolding spec.children left
holding_none table blank l empty =
    record {
      labelled_are = empty;
      symbol_is = λ v h e. absurd (let z : ◌≡◌ {A = ℕ} 0 1 = cc in omega arith);
      child_is = λ v i h k. blank.nothing (4 * v + suc i) (omega arith);
      child_below = λ v i h. absurd (omega arith);
    }

-- the child c, after the others

abbrev after : List ℕ → ℕ → List ℕ
after xs c = xs ++ c ∷ []

after_other : (xs : List ℕ) (c i : ℕ) → (i ≡ length xs → ⊥) → get_or (after xs c) i none ≡ get_or xs i none
after_other xs c i h =
    by_bool (ltb i (length xs))
    (λ (e : ltb i (length xs) ≡ true). get_or-append xs (c ∷ []) none i (ltb-true i (length xs) e))
    (λ (e : ltb i (length xs) ≡ false).
    let beyond = ltb-false i (length xs) e in
    get_or-eq_default (after xs c) none (omega (arith, h, length-append xs (c ∷ []))) ∙ sym (get_or-eq_default xs none beyond))

module _ (t : List Edge) (p c v : ℕ) where
  children_own : p ≡ v → spec.children ((p, c) ∷ t) v ≡ after (spec.children t v) c
  unfolding spec.children
  children_own e = rw (eq-eqb p v e)

  children_other : (p ≡ v → ⊥) → spec.children ((p, c) ∷ t) v ≡ spec.children t v
  unfolding spec.children
  children_other h = rw (ne_eqb p v h, append-nil)

-- p's places before the i-th are taken
abbrev pub Taken : List ℕ → ℕ → ℕ → Type 0
Taken table p i = (j : ℕ) → j < i → get_or table (4 * p + suc j) 0 ≡ none → ⊥

module _ {t m : List Edge} {table : List ℕ} {l : NodeSet} (holding : Holding t m table l) (p : ℕ) (h : p < 128) where
  -- a symbol more
  pub holding_label : (s : ℕ) → length table ≡ 512 → (place : ℕ) → place ≡ 4 * p → (more : NodeSet) → Inserted l p more → Holding t ((p, s) ∷ m) (set table place s) more
  unfolding spec.symbol left
  holding_label s long place is more inserted =
      record {
        labelled_are = λ v. inserted v ∙ rw (eqb_sym v p, holding.labelled_are v);
        symbol_is = λ v k e.
            by_bool (eqb p v)
            (λ (q : eqb p v ≡ true). let same : p ≡ v = eqb-true p v q in rw (q, ← same, ← is) (get_or-set_same table place s 0 (omega arith)))
            (λ (q : eqb p v ≡ false).
            rw q (get_or-set_other table place (4 * v) s 0 (λ same. eqb-false p v q (omega arith)) ∙ holding.symbol_is v k (rw q at e)));
        child_is = λ v i k few. get_or-set_other table place (4 * v + suc i) s 0 (λ same. omega arith) ∙ holding.child_is v i k few;
        child_below = holding.child_below;
      }

  -- each taken place has a child
  taken_many : (i : ℕ) → i ≤ 3 → Taken table p i → i ≤ length (spec.children t p)
  taken_many zero few taken = omega arith
  taken_many (suc j) few taken =
      by_bool (ltb j (length (spec.children t p)))
      (λ (e : ltb j (length (spec.children t p)) ≡ true). ltb-true j (length (spec.children t p)) e)
      (λ (e : ltb j (length (spec.children t p)) ≡ false).
      absurd (taken j (omega arith) (holding.child_is p j h (omega arith) ∙ get_or-eq_default (spec.children t p) none (ltb-false j (length (spec.children t p)) e))))

  -- and a free one has none
  free_few : (i : ℕ) → i < 3 → get_or table (4 * p + suc i) 0 ≡ none → length (spec.children t p) ≤ i
  free_few i few free =
      by_bool (ltb i (length (spec.children t p)))
      (λ (e : ltb i (length (spec.children t p)) ≡ true).
      absurd (omega (arith, holding.child_below p i (ltb-true i (length (spec.children t p)) e), holding.child_is p i h few)))
      (λ (e : ltb i (length (spec.children t p)) ≡ false). ltb-false i (length (spec.children t p)) e)

  module _ (c : ℕ) (small : c < 128) where
    below : (v i : ℕ) → i < length (spec.children ((p, c) ∷ t) v) → get_or (spec.children ((p, c) ∷ t) v) i none < 128
    below v i =
        by_bool (eqb p v)
        (λ (e : eqb p v ≡ true). rw (children_own t p c v (eqb-true p v e), length-append) (own v i))
        (λ (e : eqb p v ≡ false). rw (children_other t p c v (eqb-false p v e)) (holding.child_below v i))
      where
        own : (v i : ℕ) → i < length (spec.children t v) + 1 → get_or (after (spec.children t v) c) i none < 128
        own v i k =
            by_bool (eqb i (length (spec.children t v)))
            (λ (e : eqb i (length (spec.children t v)) ≡ true). rw (eqb-true i (length (spec.children t v)) e, get_or-append_seam) small)
            (λ (e : eqb i (length (spec.children t v)) ≡ false).
            let apart = eqb-false i (length (spec.children t v)) e in
            rw (after_other (spec.children t v) c i apart) (holding.child_below v i (omega (arith, apart))))

    -- a child more, where p's places are as they should be and the others stay
    more : (table' : List ℕ)
        → ((v : ℕ) → v < 128 → get_or table' (4 * v) 0 ≡ get_or table (4 * v) 0)
        → ((v i : ℕ) → i < 3 → (p ≡ v → ⊥) → get_or table' (4 * v + suc i) 0 ≡ get_or table (4 * v + suc i) 0)
        → ((i : ℕ) → i < 3 → get_or table' (4 * p + suc i) 0 ≡ get_or (after (spec.children t p) c) i none)
        → Holding ((p, c) ∷ t) m table' l
    more table' symbols others own =
        record {
          labelled_are = holding.labelled_are;
          symbol_is = λ v k e. symbols v k ∙ holding.symbol_is v k e;
          child_is = λ v i k few.
              by_bool (eqb p v)
              (λ (e : eqb p v ≡ true). let same : p ≡ v = eqb-true p v e in rw (children_own t p c v same, ← same) (own i few))
              (λ (e : eqb p v ≡ false). let apart = eqb-false p v e in rw (children_other t p c v apart) (others v i few apart ∙ holding.child_is v i k few));
          child_below = below;
        }

    -- at the first free place
    pub holding_child : (i : ℕ) → i < 3 → length table ≡ 512 → Taken table p i → (place : ℕ) → place ≡ 4 * p + suc i → get_or table place 0 ≡ none
        → Holding ((p, c) ∷ t) m (set table place c) l
    holding_child i few long taken place is free =
        more (set table place c)
        (λ v k. get_or-set_other table place (4 * v) c 0 (λ q. omega arith))
        (λ v j k apart. get_or-set_other table place (4 * v + suc j) c 0 (λ q. apart (omega arith)))
        (λ j k.
        by_bool (eqb j i)
        (λ (e : eqb j i ≡ true).
        let same : j ≡ i = eqb-true j i e in
        rw (same, ← is, get_or-set_same table place c 0 (omega arith), ← many) (sym (get_or-append_seam (spec.children t p) c [] none)))
        (λ (e : eqb j i ≡ false).
        let apart = eqb-false j i e in
        get_or-set_other table place (4 * p + suc j) c 0 (λ q. apart (omega arith))
        ∙ holding.child_is p j h k
        ∙ sym (after_other (spec.children t p) c j (λ q. apart (q ∙ many)))))
      where
        many : length (spec.children t p) ≡ i
        many = omega (arith, taken_many i (omega arith) taken, free_few i few (rw is at free))

    -- a fourth finds no place
    pub holding_fourth : Taken table p 3 → Holding ((p, c) ∷ t) m table l
    holding_fourth taken =
        more table
        (λ v k. refl)
        (λ v i few apart. refl)
        (λ i few. holding.child_is p i h few ∙ sym (after_other (spec.children t p) c i (λ q. omega (arith, q, taken_many 3 (omega arith) taken))))
