-- A ring uses at most one edge from each leaf, as it passes each fragment once and not with one colour twice. So after
-- an edge from k has been gone along, the rest of the ring needs no edge from k; doing this for each edge in turn thins
-- the edges out to a list with at most one from each leaf.
use Prim.Native.Nat.{ℕ}
use mathlib.Core.Path.{◌≡◌, refl, sym, ◌∙◌}
use mathlib.Core.List.Memᴰ
use mathlib.Core.List.{List, [], ◌∷◌}
use mathlib.Core.Logic.{◌≢◌, ⊎_elim}
use Rattle.graph.specs.Graph.{Edge}
use Rattle.theory_edges.proofs.Edges.{among_cases, among_first, among_rest, among_none}
use Rattle.theory_forest.specs.Table.{Among}
use Rattle.theory_ring.proofs.Ways.{Colour, out, into, ◌∉◌, Way, stop, step, way_map, not_left}
use Rattle.theory_ring.proofs.Cuts.{Extra}
use Rattle.theory_ring.proofs.Fragments.{Joined}

-- the edges of D that start elsewhere than at k
abbrev pub Elsewhere : (ℕ → ℕ → Type 0) → ℕ → ℕ → ℕ → Type 0
Elsewhere D k l r = D l r × (l ≢ k)

module _ (own : ℕ → ℕ) where
  -- A way that does not leave the fragment of k and does not end there by an edge from k has no edge from k.
  pub elsewhere : {D : ℕ → ℕ → Type 0} {x : ℕ} {c : Colour} {y : ℕ} {z : Colour} {l : List ℕ} (k : ℕ)
      → Way (Joined own D) x c y z l → own k ∉ l → (y ≡ own k → z ≡ out k → ⊥) → Way (Joined own (Elsewhere D k)) x c y z l
  elsewhere k stop f n = stop
  elsewhere {y = y} {z = z} k (step {x = x} {o = o} {n = m} {i = i} {l = l} d h g w) f n =
      let apart : h.0 ≢ k =
      λ (q : h.0 ≡ k). ⊎_elim
      (λ (e : Extra (own h.0) (out h.0) h.1 (into h.0) x o m i). f (Memᴰ.head (cc e.0)))
      (λ (e : Extra h.1 (into h.0) (own h.0) (out h.0) x o m i).
      let at : m ≡ own k = cc e.2 in
      let ends = not_left w (λ a. f (Memᴰ.tail (Memᴰ.cast (sym at) a))) in
      n (sym ends.0 ∙ at) (cc (ends.1, e.3)))
      h.3 in
      step d (h.0, h.1, (h.2, apart), h.3) g (elsewhere k w (λ a. f (Memᴰ.tail a)) n)

  -- nor has a way that starts in the fragment of k, as entered by an edge from k
  entered_elsewhere : {D : ℕ → ℕ → Type 0} {x : ℕ} {c : Colour} {y : ℕ} {z : Colour} {l : List ℕ} (k : ℕ)
      → Way (Joined own D) x c y z l → x ≡ own k → c ≡ out k → y ∉ l → Way (Joined own (Elsewhere D k)) x c y z l
  entered_elsewhere k stop p q f = stop
  entered_elsewhere {y = y} k (step {x = x} {c = c} {o = o} {n = m} {i = i} {l = l} d h g w) p q f =
      let start : y ≡ x → ⊥ = λ a. f (Memᴰ.head a) in
      let apart : h.0 ≢ k =
      λ (j : h.0 ≡ k). ⊎_elim
      (λ (e : Extra (own h.0) (out h.0) h.1 (into h.0) x o m i). d (cc e.1))
      (λ (e : Extra h.1 (into h.0) (own h.0) (out h.0) x o m i).
      let at : m ≡ x = cc e.2 in
      start (sym (not_left w (λ a. g (Memᴰ.cast (sym at) a))).0 ∙ at))
      h.3 in
      step d (h.0, h.1, (h.2, apart), h.3) g (elsewhere k w (λ a. g (Memᴰ.cast p a)) (λ a b. start (a ∙ sym p)))

  -- What follows a hop needs no other edge from the leaf of that hop.
  pub after_hop : {D : ℕ → ℕ → Type 0} {x : ℕ} {o : Colour} {n : ℕ} {i : Colour} {y : ℕ} {z : Colour} {l : List ℕ} (h : Joined own D x o n i)
      → x ∉ l → Way (Joined own D) n i y z l → y ∉ l → (y ≡ x → o ≢ z) → Way (Joined own (Elsewhere D h.0)) n i y z l
  after_hop {x = x} {o = o} {n = n} {i = i} {y = y} {z = z} h g w f p =
      ⊎_elim
      (λ (e : Extra (own h.0) (out h.0) h.1 (into h.0) x o n i).
      elsewhere h.0 w (λ a. g (Memᴰ.cast e.0 a)) (λ a b. p (a ∙ sym e.0) (e.1 ∙ sym b)))
      (λ (e : Extra h.1 (into h.0) (own h.0) (out h.0) x o n i).
      entered_elsewhere h.0 w e.2 e.3 f)
      h.3

-- a list of edges of D, one at most from each leaf
pub record Thin (D : ℕ → ℕ → Type 0) (es : List Edge) : Type 0 where
  pub inside : (l r : ℕ) → Among es l r → D l r
  pub one_from : (l r s : ℕ) → Among es l r → Among es l s → r ≡ s

thin_none : (D : ℕ → ℕ → Type 0) → Thin D []
thin_none D = record { inside = λ l r a. absurd (among_none l r a); one_from = λ l r s a. absurd (among_none l r a) }

pub thin_more : (D : ℕ → ℕ → Type 0) (k r : ℕ) (es : List Edge) → D k r → Thin (Elsewhere D k) es → Thin D ((k, r) ∷ es)
thin_more D k r es d t =
    record {
      inside = λ x y a.
          ⊎_elim
          (λ (q : (k ≡ x) × (r ≡ y)). rw (← q.0, ← q.1) d)
          (λ (b : Among es x y). (t.inside x y b).0)
          (among_cases (k, r) es x y a);
      one_from = λ x y z a b.
          ⊎_elim
          (λ (p : (k ≡ x) × (r ≡ y)).
          ⊎_elim
          (λ (q : (k ≡ x) × (r ≡ z)). sym p.1 ∙ q.1)
          (λ (m : Among es x z). absurd ((t.inside x z m).1 (sym p.0)))
          (among_cases (k, r) es x z b))
          (λ (m : Among es x y).
          ⊎_elim
          (λ (q : (k ≡ x) × (r ≡ z)). absurd ((t.inside x y m).1 (sym q.0)))
          (λ (n : Among es x z). t.one_from x y z m n)
          (among_cases (k, r) es x z b))
          (among_cases (k, r) es x y a);
    }

-- A way that does not leave its end is one of a thin list.
pub thinned : (own : ℕ → ℕ) (D : ℕ → ℕ → Type 0) {x : ℕ} {c : Colour} {y : ℕ} {z : Colour} (l : List ℕ) → Way (Joined own D) x c y z l → y ∉ l
    → (es : List Edge) × Thin D es × Way (Joined own (Among es)) x c y z l
thinned own D [] stop f = ([], thin_none D, stop)
thinned own D {y = y} {z = z} (x ∷ l) (step {o = o} {n = n} {i = i} d h g w) f =
    let rest = after_hop own h g w (λ m. f (Memᴰ.tail m)) (λ (e : y ≡ x). absurd (f (Memᴰ.head e))) in
    let t = thinned own (Elsewhere D h.0) l rest (λ m. f (Memᴰ.tail m)) in
    let e : Edge = (h.0, h.1) in
    let first : Joined own (Among (e ∷ t.0)) x o n i = (h.0, h.1, among_first e t.0 h.0 h.1 refl refl, h.3) in
    let after : Way (Joined own (Among (e ∷ t.0))) n i y z l = way_map (λ u c v k j. (j.0, j.1, among_rest e t.0 j.0 j.1 j.2, j.3)) t.2 in
    (e ∷ t.0, thin_more D h.0 h.1 t.0 h.2 t.1, step d first g after)
