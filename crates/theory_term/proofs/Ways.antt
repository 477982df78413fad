-- Ways in a term: from a hole to the roots nested under it, from a labelled node to its children, from the top to the top roots. Each leads to
-- the subtree of its node (`at_way`, `at_term`), and back from it the node is found again (`walk_way`, `found_top`).
use Prim.Native.Nat.{ℕ, zero, suc, ◌<◌}
use mathlib.Core.Path.{◌≡◌, refl, sym, ap, subst}
use mathlib.Core.List.{List, [], ◌∷◌, ◌++◌}
use mathlib.Core.Bool.{true, false, cond}
use mathlib.Core.Logic.{⊎_elim}
use native.Mathlib.Nat.{le_of_suc-le-suc}
use native.Mathlib.Omega.{arith}
use lib.Dec.{eqb}
use lib.ListN.{length, get_or}
use borrow.Author.Tests.{eqb-true, eqb-false, eq-eqb, ne_eqb}
use Rattle.base_finite.specs.Below.{select}
use Rattle.base_finite.proofs.Laws.{by_bool}
use Rattle.graph.specs.Placing.{hangs}
use Rattle.graph.specs.Constraint.{In}
use Rattle.graph.specs.Term.{Term, Nth, first, later, At, here, below}
use Rattle.format.specs.Sheet.{Content, children, labelled}
use Rattle.format.specs.Term.{each, nested, carrying, topmost, term_at, term}
use Rattle.theory_constraint.proofs.Members.{in_one}
use Rattle.theory_term.proofs.Successors.{successors, tops, Once, entry_in}

-- the number of an entry

-- another entry than the first
in_rest : (x : ℕ) (xs : List ℕ) (v : ℕ) → In v (x ∷ xs) → eqb x v ≡ false → In v xs
in_rest x xs v i e = ⊎_elim (λ (q : v ≡ x). absurd (eqb-false x v e (sym q))) (λ (t : In v xs). t) i

-- the number of the first entry that is v
pub index : List ℕ → ℕ → ℕ
index [] v = 0
index (x ∷ xs) v = cond (eqb x v) 0 (suc (index xs v))

entry_index : (xs : List ℕ) (v : ℕ) → In v xs → get_or xs (index xs v) 0 ≡ v
unfolding index
entry_index [] v i = absurd i
entry_index (x ∷ xs) v i =
    by_bool (eqb x v)
    (λ (e : eqb x v ≡ true). rw e (eqb-true x v e))
    (λ (e : eqb x v ≡ false). rw e (entry_index xs v (in_rest x xs v i e)))

-- in a list without repeats an entry's index is its own
pub index_entry : (xs : List ℕ) → Once xs → (i : ℕ) → i < length xs → index xs (get_or xs i 0) ≡ i
unfolding index
index_entry [] o i h = absurd (omega arith)
index_entry (x ∷ xs) o zero h = rw (eq-eqb x x refl)
index_entry (x ∷ xs) o (suc i) h =
    let l : i < length xs = le_of_suc-le-suc h in
    rw (ne_eqb x (get_or xs i 0) (λ q. o.0 (subst (λ (z : ℕ). In z xs) (sym q) (entry_in xs i l))), index_entry xs o.1 i l)

-- ways

-- from the top of the terms of r and rs, nested, to that of v
way_nested : ℕ → List ℕ → ℕ → List ℕ
way_nested r [] v = []
way_nested r (x ∷ rs) v = cond (eqb r v) 0 1 ∷ cond (eqb r v) [] (way_nested x rs v)

-- from a hole to a root that it carries
way_carried : List ℕ → ℕ → List ℕ
way_carried [] v = []
way_carried (r ∷ []) v = 0 ∷ []
way_carried (r ∷ x ∷ rs) v = way_nested r (x ∷ rs) v

-- from the top of the term to a top root
pub way_top : List ℕ → ℕ → List ℕ
way_top [] v = []
way_top (r ∷ rs) v = way_nested r rs v

-- from u to the node v next below it
pub way : Content → List ℕ → ℕ → ℕ → List ℕ
way s p u v =
    cond (labelled s.labels.symbols u)
    (index (children s.written.tree u) v ∷ [])
    (way_carried (select s.graph.nodes (hangs s.graph p u)) v)

pub way_to_child : (s : Content) (p : List ℕ) (u v : ℕ) → labelled s.labels.symbols u ≡ true → way s p u v ≡ index (children s.written.tree u) v ∷ []
unfolding way
way_to_child s p u v h = rw h

-- the subtree there

pub at_append : {t r x : Term} {u w : List ℕ} → At t u r → At r w x → At t (u ++ w) x
at_append here b = b
at_append (below n a) b = below n (at_append a b)

nth_each : (h : ℕ → Term) (xs : List ℕ) (v : ℕ) → In v xs → Nth (each h xs) (index xs v) (h v)
unfolding each index
nth_each h [] v i = absurd i
nth_each h (x ∷ xs) v i =
    by_bool (eqb x v)
    (λ (e : eqb x v ≡ true). rw (e, eqb-true x v e) first)
    (λ (e : eqb x v ≡ false). rw e (later (nth_each h xs v (in_rest x xs v i e))))

at_nested : (h : ℕ → Term) (r : ℕ) (rs : List ℕ) (v : ℕ) → In v (r ∷ rs) → At (nested h r rs) (way_nested r rs v) (h v)
unfolding nested way_nested
at_nested h r [] v i = rw (in_one v r i) here
at_nested h r (x ∷ rs) v i =
    by_bool (eqb r v)
    (λ (e : eqb r v ≡ true). rw (e, eqb-true r v e) (below first here))
    (λ (e : eqb r v ≡ false).
    rw e (below (later first) (at_nested h x rs v (in_rest r (x ∷ rs) v i e))))

at_carried : (h : ℕ → Term) (rs : List ℕ) (v : ℕ) → In v rs → At (carrying h rs) (way_carried rs v) (h v)
unfolding carrying way_carried
at_carried h [] v i = absurd i
at_carried h (r ∷ []) v i = rw (in_one v r i) (below first here)
at_carried h (r ∷ x ∷ rs) v i = at_nested h r (x ∷ rs) v i

at_top : (h : ℕ → Term) (rs : List ℕ) (v : ℕ) → In v rs → At (topmost h rs) (way_top rs v) (h v)
unfolding topmost way_top
at_top h [] v i = absurd i
at_top h (r ∷ rs) v i = at_nested h r rs v i

pub at_way : (s : Content) (p : List ℕ) (k u v : ℕ) → In v (successors s p u) → At (term_at (suc k) s p u) (way s p u v) (term_at k s p v)
unfolding successors term_at way
at_way s p k u v =
    by_bool (labelled s.labels.symbols u)
    (λ (h : labelled s.labels.symbols u ≡ true). rw h (λ i. below (nth_each (λ c. term_at k s p c) (children s.written.tree u) v i) here))
    (λ (h : labelled s.labels.symbols u ≡ false). rw h (at_carried (λ r. term_at k s p r) (select s.graph.nodes (hangs s.graph p u)) v))

pub at_term : (s : Content) (p : List ℕ) (v : ℕ) → In v (tops s p) → At (term s p) (way_top (tops s p) v) (term_at s.graph.nodes s p v)
unfolding term tops
at_term s p v i = at_top (λ r. term_at s.graph.nodes s p r) (tops s p) v i

-- back from a position: the entry that it leads to, and what is left of it

abbrev Found : Type 0
Found = ℕ × List ℕ

back_nested : ℕ → List ℕ → List ℕ → Found
back_nested r [] w = (r, w)
back_nested r (x ∷ rs) [] = (r, [])
back_nested r (x ∷ rs) (zero ∷ w) = (r, w)
back_nested r (x ∷ rs) (suc i ∷ w) = back_nested x rs w

back_carried : List ℕ → List ℕ → Found
back_carried [] w = (0, w)
back_carried (r ∷ []) [] = (r, [])
back_carried (r ∷ []) (i ∷ w) = (r, w)
back_carried (r ∷ x ∷ rs) w = back_nested r (x ∷ rs) w

back_top : List ℕ → List ℕ → Found
back_top [] w = (0, w)
back_top (r ∷ rs) w = back_nested r rs w

back_nested_lem : (r : ℕ) (rs : List ℕ) (v : ℕ) (w : List ℕ) → In v (r ∷ rs) → back_nested r rs (way_nested r rs v ++ w) ≡ (v, w)
unfolding back_nested way_nested
back_nested_lem r [] v w i = rw (in_one v r i)
back_nested_lem r (x ∷ rs) v w i =
    by_bool (eqb r v)
    (λ (e : eqb r v ≡ true). rw (e, eqb-true r v e))
    (λ (e : eqb r v ≡ false). rw e (back_nested_lem x rs v w (in_rest r (x ∷ rs) v i e)))

back_carried_lem : (rs : List ℕ) (v : ℕ) (w : List ℕ) → In v rs → back_carried rs (way_carried rs v ++ w) ≡ (v, w)
unfolding back_carried way_carried
back_carried_lem [] v w i = absurd i
back_carried_lem (r ∷ []) v w i = rw (in_one v r i)
back_carried_lem (r ∷ x ∷ rs) v w i = back_nested_lem r (x ∷ rs) v w i

back_top_lem : (rs : List ℕ) (v : ℕ) (w : List ℕ) → In v rs → back_top rs (way_top rs v ++ w) ≡ (v, w)
unfolding back_top way_top
back_top_lem [] v w i = absurd i
back_top_lem (r ∷ rs) v w i = back_nested_lem r rs v w i

-- a hole is not where its roots are
carried_below : (rs : List ℕ) (v : ℕ) → In v rs → (i : ℕ) × (w : List ℕ) × (way_carried rs v ≡ i ∷ w)
unfolding way_carried way_nested
carried_below [] v i = absurd i
carried_below (r ∷ []) v i = (0, [], refl)
carried_below (r ∷ x ∷ rs) v i = (cond (eqb r v) 0 1, cond (eqb r v) [] (way_nested x rs v), refl)

-- the node next below u that the position leads to
back : Content → List ℕ → ℕ → List ℕ → Found
back s p u [] = (u, [])
back s p u (i ∷ w) =
    cond (labelled s.labels.symbols u)
    (get_or (children s.written.tree u) i 0, w)
    (back_carried (select s.graph.nodes (hangs s.graph p u)) (i ∷ w))

-- the node that the position leads to from u, k steps at most
pub walk : ℕ → Content → List ℕ → ℕ → List ℕ → ℕ
walk zero s p u w = u
walk (suc k) s p u [] = u
walk (suc k) s p u (i ∷ w) = walk k s p (back s p u (i ∷ w)).0 (back s p u (i ∷ w)).1

-- and from the top
pub found : Content → List ℕ → List ℕ → ℕ
found s p w = walk s.graph.nodes s p (back_top (tops s p) w).0 (back_top (tops s p) w).1

pub walk_here : (s : Content) (p : List ℕ) (k u : ℕ) → walk k s p u [] ≡ u
unfolding walk
walk_here s p zero u = refl
walk_here s p (suc k) u = refl

pub walk_way : (s : Content) (p : List ℕ) (k u v : ℕ) (w : List ℕ) → In v (successors s p u) → walk (suc k) s p u (way s p u v ++ w) ≡ walk k s p v w
unfolding successors way walk back
walk_way s p k u v w =
    let rs : List ℕ = select s.graph.nodes (hangs s.graph p u) in
    by_bool (labelled s.labels.symbols u)
    (λ (h : labelled s.labels.symbols u ≡ true). rw h (λ i. rw h (ap (λ (z : ℕ). walk k s p z w) (entry_index (children s.written.tree u) v i))))
    (λ (h : labelled s.labels.symbols u ≡ false).
    rw h (λ i.
    let c = carried_below rs v i in
    let e : back_carried rs (c.0 ∷ (c.1 ++ w)) ≡ (v, w) = rw c.2 at (back_carried_lem rs v w i) in
    rw (c.2, h) (ap (λ (b : Found). walk k s p b.0 b.1) e)))

pub found_top : (s : Content) (p : List ℕ) (v : ℕ) (w : List ℕ) → In v (tops s p) → found s p (way_top (tops s p) v ++ w) ≡ walk s.graph.nodes s p v w
unfolding found
found_top s p v w i = ap (λ (b : Found). walk s.graph.nodes s p b.0 b.1) (back_top_lem (tops s p) v w i)
