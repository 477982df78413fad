-- The texts of the drawing are runs: what stands between brackets and separators is the same list, part by part.
use Prim.Native.Nat.{ℕ, zero, suc}
use mathlib.Core.Path.{◌≡◌, refl, sym, ◌∙◌}
use mathlib.Core.List.{List, [], ◌∷◌, ◌++◌, map, append-nil, append_assoc}
use mathlib.Core.Bool.{Bool, true, false, cond, ◌&&◌, false≢true}
use lib.Dec.{eqb}
use Rattle.base_finite.specs.Below.{any, spread, select}
use Rattle.base_finite.proofs.Laws.{by_bool, or_none, or_right, or_false, any_at}
use Rattle.graph.specs.Graph.{Graph, root, leaf_of, none}
use Rattle.graph.specs.Placing.{at, hangs}
use Rattle.format.specs.Drawing.{separated, leaf_text, fragment_text, drawing}
use Rattle.format.specs.Text.{decimal}
use Rattle.theory_edges.proofs.Ends.{leaf_below}
use Rattle.theory_forest.specs.Shape.{Shaped}
use Rattle.theory_forest.proofs.Fragments.{root_leaf, leaf_of_parts}
use Rattle.show_drawing.specs.Drawn.{run}

map_append : (f : ℕ → List ℕ) (xs ys : List ℕ) → map f (xs ++ ys) ≡ map f xs ++ map f ys
map_append f [] ys = refl
map_append f (x ∷ xs) ys = rw (map_append f xs ys)

-- one text more, after some
separated_more : (b : ℕ) (x : List ℕ) (xs : List (List ℕ)) (y : List ℕ) → separated b (x ∷ xs ++ (y ∷ [])) ≡ separated b (x ∷ xs) ++ b ∷ y
unfolding separated
separated_more b x [] y = refl
separated_more b x (z ∷ xs) y = rw (separated_more b z xs y) (sym (append_assoc x (b ∷ separated b (z ∷ xs)) (b ∷ y)))

-- one text more, after the list of those before
next : (b : ℕ) (o : List ℕ) (c : Bool) (xs : List (List ℕ)) (y : List ℕ) → (c ≡ false → xs ≡ []) → (c ≡ true → (x : List ℕ) × (rest : List (List ℕ)) × (xs ≡ x ∷ rest))
    → cond c (o ++ separated b xs) [] ++ (cond c (b ∷ []) o ++ y) ≡ o ++ separated b (xs ++ (y ∷ []))
unfolding separated
next b o true xs y h k =
    let s = k refl in
    rw s.2 (rw (separated_more b s.0 s.1 y) (append_assoc o (separated b (s.0 ∷ s.1)) (b ∷ y)))
next b o false xs y h k = rw (h refl)

-- numbers are selected where there are some
select_none : (n : ℕ) (t : ℕ → Bool) → any n t ≡ false → select n t ≡ []
unfolding select spread any
select_none zero t e = refl
select_none (suc n) t e =
    let o = or_none (any n t) (t n) e in
    rw (o.1, select_none n t o.0)

select_some : (n : ℕ) (t : ℕ → Bool) → any n t ≡ true → (x : ℕ) × (rest : List ℕ) × (select n t ≡ x ∷ rest)
unfolding select spread any
select_some zero t e = absurd (false≢true e)
select_some (suc n) t e =
    by_bool (any n t)
    (λ (d : any n t ≡ true).
    let s = select_some n t d in
    (s.0, s.1 ++ cond (t n) (n ∷ []) [], rw s.2))
    (λ (d : any n t ≡ false).
    let last : t n ≡ true = rw d at e in
    (n, [], rw (last, select_none n t d)))

-- a run is its separated texts after o, where there are some
pub run_separated : (o : List ℕ) (b : ℕ) (f : ℕ → List ℕ) (t : ℕ → Bool) (n : ℕ) → run o (b ∷ []) f t n ≡ cond (any n t) (o ++ separated b (map f (select n t))) []
unfolding run spread any select
run_separated o b f t zero = refl
run_separated o b f t (suc n) =
    by_bool (t n)
    (λ (e : t n ≡ true).
    rw (e, or_right (any n t) true refl, run_separated o b f t n, map_append f (select n t) (n ∷ []))
    (next b o (any n t) (map f (select n t)) (f n)
    (λ d. rw (select_none n t d))
    (λ d. let s = select_some n t d in (f s.0, map f s.1, rw s.2))))
    (λ (e : t n ≡ false).
    rw (e, or_false (any n t), append-nil (select n t)) (append-nil (run o (b ∷ []) f t n) ∙ run_separated o b f t n))

module _ (g : Graph) (p : List ℕ) where
  pub leaf_run : (draw : ℕ → List ℕ) (l : ℕ) → leaf_text draw g p l
      ≡ decimal l ++ run (91 ∷ []) (59 ∷ []) draw (hangs g p l) g.nodes ++ cond (any g.nodes (hangs g p l)) (93 ∷ []) []
  unfolding leaf_text
  leaf_run draw l =
      rw (run_separated (91 ∷ []) 59 draw (hangs g p l) g.nodes)
      (by_bool (any g.nodes (hangs g p l))
      (λ e. rw e (sym (append_assoc (decimal l) (91 ∷ separated 59 (map draw (select g.nodes (hangs g p l)))) (93 ∷ []))))
      (λ e. rw e (sym (append-nil (decimal l ++ [])))))

  -- each root has a leaf
  some_leaf : Shaped g → (r : ℕ) → root g r ≡ true → any g.nodes (leaf_of g r) ≡ true
  some_leaf s r h =
      let x = root_leaf g s r h in
      any_at g.nodes (leaf_of g r) x.0 (leaf_below g x.0 (leaf_of_parts g r x.0 x.1).0) x.1

  pub fragment_run : Shaped g → (k r : ℕ) → root g r ≡ true → fragment_text (suc k) g p r
      ≡ decimal r ++ run (40 ∷ []) (44 ∷ []) (leaf_text (λ s. fragment_text k g p s) g p) (leaf_of g r) g.nodes ++ 41 ∷ []
  unfolding fragment_text
  fragment_run s k r h =
      rw (run_separated (40 ∷ []) 44 (leaf_text (λ s. fragment_text k g p s) g p) (leaf_of g r) g.nodes, some_leaf s r h)

  pub drawing_run : drawing g p ≡ run [] (59 ∷ []) (fragment_text g.nodes g p) (λ r. root g r && eqb (at p r) none) g.nodes
  unfolding drawing separated
  drawing_run =
      rw (run_separated [] 59 (fragment_text g.nodes g p) (λ r. root g r && eqb (at p r) none) g.nodes)
      (by_bool (any g.nodes (λ r. root g r && eqb (at p r) none))
      (λ e. rw e)
      (λ e. rw (e, select_none g.nodes (λ r. root g r && eqb (at p r) none) e)))
