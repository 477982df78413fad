-- The steps of the loops: a column read row by row, rows joined one by one, and edges put into the rows one after the other.
use Prim.Native.Nat.{ℕ, zero, suc, ◌+◌, ◌*◌, ◌-◌, ◌%◌, ◌^◌, ◌≤◌, ◌<◌}
use mathlib.Core.Path.{◌≡◌, refl, sym, ◌∙◌}
use mathlib.Core.List.{List}
use mathlib.Core.Bool.{Bool, true, false, not, ◌&&◌, ◌||◌, or_assoc, false≢true}
use mathlib.Core.Logic.{⊎_elim}
use native.Mathlib.Nat.{zero-mul, zero-mod}
use native.Mathlib.Omega.{arith}
use lib.Bits.{bit_or}
use lib.Dec.{eqb, ltb}
use lib.ListN.{get_or, set, replicate, length-replicate, get_or-eq_default}
use Rattle.std.proofs.lemmas.List.{get_or-replicate}
use borrow.Author.Tests.{eq-eqb, ne_eqb, eqb-true, eqb-false, lt-ltb, le-ltb, ltb-true, ltb-false}
use Rattle.base_finite.proofs.Laws.{by_bool, or_cases, or_false, and_both, and_true, and_false}
use Rattle.base_nodeset.specs.Set.{bit, member, mem, Empty, Inserted, Union, Lowest}
use Rattle.base_nodeset.specs.declared.NodeSet.{NodeSet}
use Rattle.base_nodeset.proofs.Words.{bit_zero, bit_or_lem, bit_power, shift_one}
use Rattle.base_nodeset.proofs.Laws.{member_zero, member_low, member_high}
use Rattle.base_nodeset.proofs.Members.{removed_member}
use Rattle.graph.specs.Graph.{none}
use Rattle.base_tables.specs.Rows.{nothing, in_row, IsRow, RowPut}
use Rattle.solve_descent.specs.Descent.{Among}
use Rattle.solve_closure.specs.Closing.{Rising, Joined, Links, link_to, link_in, head_in, Adds}

-- cleared rows

pub cleared : (n : ℕ) (z : NodeSet) (rows : List NodeSet) → Empty z → rows ≡ replicate n z → (u v : ℕ) → in_row rows u v ≡ false
cleared n z rows empty is u v =
    by_bool (ltb u n)
    (λ (e : ltb u n ≡ true). rw (is, get_or-replicate n u z nothing (ltb-true u n e)) (empty v))
    (λ (e : ltb u n ≡ false). rw (is, get_or-eq_default (replicate n z) nothing {n = u} (omega (arith, length-replicate n z, ltb-false u n e))) (member_zero v))

-- one number more

pub below_more_test : (v n : ℕ) → ltb v (n + 1) ≡ (ltb v n || eqb v n)
below_more_test v n =
    by_bool (ltb v n)
    (λ (e : ltb v n ≡ true). rw (e, lt-ltb v (n + 1) (omega (arith, ltb-true v n e))))
    (λ (e : ltb v n ≡ false).
    rw e
    (by_bool (eqb v n)
    (λ (i : eqb v n ≡ true). rw (i, lt-ltb v (n + 1) (omega (arith, eqb-true v n i))))
    (λ (i : eqb v n ≡ false).
    let other : v ≡ n → ⊥ = eqb-false v n i in
    rw (i, le-ltb v (n + 1) (omega (arith, ltb-false v n e))))))

-- a column, row by row: a digit d, shifted to its place, is joined to the word

bit_shifted : (d i j : ℕ) → d < 2 → i < 64 → bit ((d * 2 ^ i) % 2 ^ 64) j ≡ (eqb j i && eqb d 1)
bit_shifted zero i j h l = rw (zero-mul, zero-mod, bit_zero j, and_false (eqb j i))
bit_shifted (suc zero) i j h l = rw (shift_one 64 i l, bit_power i j, and_true (eqb j i))
bit_shifted (suc (suc d)) i j h l = absurd (omega arith)

pub column_none : (p : ℕ → Bool) (i : ℕ) → bit 0 i ≡ (ltb i 0 && p i)
column_none p i = rw (le-ltb i 0 (omega arith)) (bit_zero i)

pub column_more : (p : ℕ → Bool) (n w d : ℕ) → n < 64 → d < 2 → eqb d 1 ≡ p n → ((i : ℕ) → bit w i ≡ (ltb i n && p i))
    → (i : ℕ) → bit (bit_or w ((d * 2 ^ n) % 2 ^ 64)) i ≡ (ltb i (n + 1) && p i)
column_more p n w d h l is before i =
    rw (bit_or_lem w ((d * 2 ^ n) % 2 ^ 64) i, before i, bit_shifted d n i l h, is, below_more_test i n)
    (by_bool (eqb i n)
    (λ (e : eqb i n ≡ true). rw (e, eqb-true i n e, le-ltb n n (omega arith)))
    (λ (e : eqb i n ≡ false). rw (e, or_false (ltb i n), or_false (ltb i n && p i))))

-- two columns: of the first 64 rows and of those after them

pub columns_one : (p q : ℕ → Bool) (n low : ℕ) → n ≤ 64 → ((i : ℕ) → q i ≡ p i) → ((i : ℕ) → bit low i ≡ (ltb i n && q i))
    → (x : ℕ) → member low 0 x ≡ (ltb x n && p x)
columns_one p q n low h same is x =
    by_bool (ltb x 64)
    (λ (e : ltb x 64 ≡ true). member_low low 0 x (ltb-true x 64 e) ∙ is x ∙ rw (same x))
    (λ (e : ltb x 64 ≡ false).
    let above : 64 ≤ x = ltb-false x 64 e in
    member_high low 0 x above ∙ rw (bit_zero (x - 64), le-ltb x n (omega arith)))

pub columns_two : (p q r : ℕ → Bool) (n low high : ℕ) → 64 < n → ((i : ℕ) → q i ≡ p i) → ((i : ℕ) → r i ≡ p (64 + i))
    → ((i : ℕ) → bit low i ≡ (ltb i 64 && q i)) → ((i : ℕ) → bit high i ≡ (ltb i (n - 64) && r i))
    → (x : ℕ) → member low high x ≡ (ltb x n && p x)
columns_two p q r n low high h same same_high is is_high x =
    by_bool (ltb x 64)
    (λ (e : ltb x 64 ≡ true).
    let less : x < 64 = ltb-true x 64 e in
    member_low low high x less ∙ is x ∙ rw (same x, e, lt-ltb x n (omega arith)))
    (λ (e : ltb x 64 ≡ false).
    let above : 64 ≤ x = ltb-false x 64 e in
    let there : 64 + (x - 64) ≡ x = omega arith in
    member_high low high x above ∙ is_high (x - 64) ∙ rw (same_high (x - 64), there, shifted_test x above))
  where
    shifted_test : (x : ℕ) → 64 ≤ x → ltb (x - 64) (n - 64) ≡ ltb x n
    shifted_test x above =
        by_bool (ltb x n)
        (λ (e : ltb x n ≡ true). let less : x < n = ltb-true x n e in rw (e, lt-ltb (x - 64) (n - 64) (omega arith)))
        (λ (e : ltb x n ≡ false). let more : n ≤ x = ltb-false x n e in rw (e, le-ltb (x - 64) (n - 64) (omega arith)))

-- a column with a itself
pub column_rising : (n a : ℕ) (rows : List NodeSet) (s r : NodeSet) → a < n → ((x : ℕ) → mem s x ≡ (ltb x n && in_row rows x a)) → Inserted s a r → Rising n a rows r
column_rising n a rows s r h is with_a x =
    with_a x
    ∙ rw (is x)
    (by_bool (eqb x a)
    (λ (e : eqb x a ≡ true). rw (e, eqb-true x a e, lt-ltb a n h))
    (λ (e : eqb x a ≡ false). rw e))

-- the members one by one: those that are no longer left are done

abbrev pub done : NodeSet → NodeSet → ℕ → Bool
done set left u = mem set u && not (mem left u)

done_none : (set : NodeSet) (u : ℕ) → done set set u ≡ false
done_none set u = by_bool (mem set u) (λ t. rw t) (λ t. rw t)

done_all : (set left : NodeSet) → Empty left → (u : ℕ) → done set left u ≡ mem set u
done_all set left none u = rw (none u) (and_true (mem set u))

pub left_stays : (set : NodeSet) {left rest : NodeSet} {r : ℕ} → ((v : ℕ) → mem left v ≡ true → mem set v ≡ true) → Lowest left r rest → (v : ℕ) → mem rest v ≡ true → mem set v ≡ true
left_stays set within first v t = within v (removed_member _ _ _ first.others v t).0

-- rows joined one by one

pub joined_none : (set : NodeSet) (more : ℕ → Bool) (rows : List NodeSet) → Joined (done set set) more rows rows
joined_none set more rows =
    record {
      long = refl;
      row_is = λ u v. rw (done_none set u) (sym (or_false (in_row rows u v)));
    }

pub joined_more : (set more row : NodeSet) {x : ℕ} {left rest joined : NodeSet} {rows rows₁ rows₂ : List NodeSet} → mem set x ≡ true → Lowest left x rest
    → IsRow (in_row rows₁) x row → Union row more joined → RowPut x joined rows₁ rows₂
    → Joined (done set left) (mem more) rows rows₁ → Joined (done set rest) (mem more) rows rows₂
joined_more set more row {x} {rows = rows} in_set first is_row is_joined put before =
    record {
      long = put.long ∙ before.long;
      row_is = λ u v.
          put.row_is u v
          ∙ rw (first.others u)
          (by_bool (eqb u x)
          (λ (e : eqb u x ≡ true).
          rw (e, eqb-true u x e, is_joined v, is_row v, before.row_is x v, in_set, first.in_set, or_false (in_row rows x v)))
          (λ (e : eqb u x ≡ false). rw e (before.row_is u v)));
    }

pub joined_all : (set left : NodeSet) (more : ℕ → Bool) {rows rows' : List NodeSet} → Empty left
    → Joined (done set left) more rows rows' → Joined (mem set) more rows rows'
joined_all set left more none h =
    record {
      long = h.long;
      row_is = λ u v. h.row_is u v ∙ rw (done_all set left none u);
    }

-- edges put into the rows

pub adds_ext : {f g : ℕ → ℕ → Bool} {rows rows' : List NodeSet} → ((u v : ℕ) → f u v ≡ g u v) → Adds f rows rows' → Adds g rows rows'
adds_ext same h =
    record {
      long = h.long;
      row_is = λ u v. h.row_is u v ∙ rw (same u v);
    }

pub adds_none : (f : ℕ → ℕ → Bool) (rows : List NodeSet) → ((u v : ℕ) → f u v ≡ false) → Adds f rows rows
adds_none f rows never =
    record {
      long = refl;
      row_is = λ u v. rw (never u v) (sym (or_false (in_row rows u v)));
    }

pub adds_more : {f g : ℕ → ℕ → Bool} {rows rows₁ rows₂ : List NodeSet} → Adds f rows rows₁ → Adds g rows₁ rows₂ → Adds (λ u v. f u v || g u v) rows rows₂
adds_more {f} {g} {rows} h k =
    record {
      long = k.long ∙ h.long;
      row_is = λ u v. k.row_is u v ∙ rw (h.row_is u v) (or_assoc (in_row rows u v) (f u v) (g u v));
    }

-- a row put back with the nodes that f holds of besides
pub put_adds : (l : ℕ) (f : ℕ → Bool) (row : NodeSet) {joined : NodeSet} {rows rows' : List NodeSet} → IsRow (in_row rows) l row → ((v : ℕ) → mem joined v ≡ (mem row v || f v))
    → RowPut l joined rows rows' → Adds (λ u v. eqb u l && f v) rows rows'
put_adds l f row {rows = rows} is_row is_joined put =
    record {
      long = put.long;
      row_is = λ u v.
          put.row_is u v
          ∙ by_bool (eqb u l)
          (λ (e : eqb u l ≡ true). rw (e, eqb-true u l e, is_joined v, is_row v))
          (λ (e : eqb u l ≡ false). rw e (sym (or_false (in_row rows u v))));
    }

-- one node's link more

pub link_none : (links : List ℕ) (u v : ℕ) → link_in 0 links u v ≡ false
link_none links u v = rw (le-ltb v 0 (omega arith))

pub link_more : (w : ℕ) (links : List ℕ) (u v : ℕ) → (link_in w links u v || link_to (get_or links w 0) w u v) ≡ link_in (w + 1) links u v
link_more w links u v =
    rw (below_more_test v w)
    (by_bool (eqb v w)
    (λ (e : eqb v w ≡ true).
    let q : v ≡ w = eqb-true v w e in
    rw (e, q, le-ltb w w (omega arith)))
    (λ (e : eqb v w ≡ false). rw (e, or_false (ltb v w)) (or_false (link_in w links u v))))

pub link_parts : (n : ℕ) (links : List ℕ) (u v : ℕ) → link_in n links u v ≡ true → (v < n) × (get_or links v 0 ≡ none → ⊥) × (u ≡ get_or links v 0)
link_parts n links u v t =
    let a = and_both (ltb v n) (not (eqb (get_or links v 0) none) && eqb u (get_or links v 0)) t in
    let b = and_both (not (eqb (get_or links v 0) none)) (eqb u (get_or links v 0)) a.1 in
    (ltb-true v n a.0, λ e. false≢true (rw (eq-eqb (get_or links v 0) none e) at b.0), eqb-true u (get_or links v 0) b.1)

pub link_intro : (n : ℕ) (links : List ℕ) (u v : ℕ) → v < n → (get_or links v 0 ≡ none → ⊥) → u ≡ get_or links v 0 → link_in n links u v ≡ true
link_intro n links u v h other is = rw (lt-ltb v n h, ne_eqb (get_or links v 0) none other, eq-eqb u (get_or links v 0) is)

pub link_from : (n : ℕ) (links : List ℕ) → Links n links → (u v : ℕ) → link_in n links u v ≡ true → u < n
link_from n links k u v t =
    let x = link_parts n links u v t in
    rw x.2 (k.node_or_none v x.0 x.1)

pub link_absent : (above w u v : ℕ) → above ≡ none → link_to above w u v ≡ false
link_absent above w u v e = rw (eq-eqb above none e) (and_false (eqb v w))

pub link_present : (above w u v : ℕ) → (above ≡ none → ⊥) → (eqb u above && eqb v w) ≡ link_to above w u v
link_present above w u v e =
    rw (ne_eqb above none e)
    (by_bool (eqb v w) (λ t. rw t (by_bool (eqb u above) (λ i. rw i) (λ i. rw i))) (λ t. rw t (and_false (eqb u above))))

-- one row of heads more

pub head_none : (heads : List NodeSet) (u v : ℕ) → head_in 0 heads u v ≡ false
head_none heads u v = rw (le-ltb u 0 (omega arith))

pub head_more : (l : ℕ) (heads : List NodeSet) (u v : ℕ) → (head_in l heads u v || (eqb u l && in_row heads l v)) ≡ head_in (l + 1) heads u v
head_more l heads u v =
    rw (below_more_test u l)
    (by_bool (eqb u l)
    (λ (e : eqb u l ≡ true).
    let q : u ≡ l = eqb-true u l e in
    rw (e, q, le-ltb l l (omega arith)))
    (λ (e : eqb u l ≡ false). rw (e, or_false (ltb u l)) (or_false (head_in l heads u v))))

pub head_from : (n : ℕ) (heads : List NodeSet) (u v : ℕ) → head_in n heads u v ≡ true → u < n
head_from n heads u v t = ltb-true u n (and_both (ltb u n) (in_row heads u v) t).0

-- the edges of two tables, put into cleared rows

-- the rows have the edges of f and of h, and no others
pub record Edged (f h : ℕ → ℕ → Bool) (rows : List NodeSet) : Type 0 where
  pub row_is : (u v : ℕ) → in_row rows u v ≡ (f u v || h u v)

pub both_added : {f h : ℕ → ℕ → Bool} {rows₀ rows₁ rows₂ : List NodeSet} → ((u v : ℕ) → in_row rows₀ u v ≡ false) → Adds f rows₀ rows₁ → Adds h rows₁ rows₂ → Edged f h rows₂
both_added blank first second = record { row_is = λ u v. second.row_is u v ∙ rw (first.row_is u v, blank u v) }

pub both_among : {n : ℕ} {f h : ℕ → ℕ → Bool} {rows : List NodeSet} → Edged f h rows → ((u v : ℕ) → f u v ≡ true → u < n) → ((u v : ℕ) → h u v ≡ true → u < n) → Among n rows
both_among {f = f} {h = h} edged one other u v e = ⊎_elim (one u v) (other u v) (or_cases (f u v) (h u v) (sym (edged.row_is u v) ∙ e))
