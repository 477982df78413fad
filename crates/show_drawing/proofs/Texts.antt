-- Texts and how many fragments they draw: the parts of a run, of a sum and of a fragment.
use Prim.Native.Nat.{ℕ, zero, suc, ◌+◌, ◌≤◌, ◌<◌}
use mathlib.Core.Path.{◌≡◌, refl, sym, ◌∙◌}
use mathlib.Core.List.{List, [], ◌∷◌, ◌++◌, append-nil}
use mathlib.Core.Bool.{Bool, true, false, cond}
use mathlib.Core.Logic.{⊎_elim}
use native.Mathlib.Numerals.{add-one}
use native.Mathlib.Omega.{arith}
use lib.ListN.{length, length-append}
use lib.Seq.{sets-eq}
use Rattle.base_finite.specs.Below.{any, spread}
use Rattle.base_finite.proofs.Laws.{last_or_below, by_bool, or_none, any_found, any_ext, spread_more, spread_ext}
use Rattle.base_finite.proofs.Runs.{spread_longer}
use Rattle.graph.specs.Graph.{none}
use Rattle.format.specs.Text.{decimal}
use Rattle.base_text.proofs.Digits.{decimal_some, decimal_three}
use Rattle.base_tables.specs.Trees.{inner_in, top_in}
use Rattle.theory_edges.specs.Edges.{sum}
use Rattle.theory_edges.proofs.Edges.{sum_ext}
use Rattle.show_drawing.specs.Drawn.{run, home_in, leaf_in, fragment_in, sum_where, size_in, leaves_in, leaves_size_in, Drawn}
use Rattle.base_finite.specs.Stores.{Written, entry_is}

-- a whole text, from the first byte on
pub drawn_whole : {text old new : List ℕ} {r : ℕ} → length text ≤ length old → Written old 0 text new r → Drawn text r old new
drawn_whole {text} {old} fits w =
    let none : 0 + length text ≡ length text = omega arith in
    record { long = w.after ∙ none; bytes = w.stored ∙ sets-eq text old 0 (omega arith) ∙ rw none }

-- runs

module _ (o b : List ℕ) (f : ℕ → List ℕ) (t : ℕ → Bool) where
  pub run_none : run o b f t 0 ≡ []
  unfolding run spread
  run_none = refl

  pub run_skip : (x : ℕ) → t x ≡ false → run o b f t (x + 1) ≡ run o b f t x
  unfolding run
  run_skip x e = spread_more x (λ x. cond (t x) (cond (any x t) b o ++ f x) []) ∙ rw e (append-nil (spread x (λ x. cond (t x) (cond (any x t) b o ++ f x) [])))

  pub run_take : (x : ℕ) → t x ≡ true → run o b f t (x + 1) ≡ run o b f t x ++ (cond (any x t) b o ++ f x)
  unfolding run
  run_take x e = spread_more x (λ x. cond (t x) (cond (any x t) b o ++ f x) []) ∙ rw e

  pub run_longer : (m n : ℕ) → m ≤ n → length (run o b f t m) ≤ length (run o b f t n)
  unfolding run
  run_longer m n h = spread_longer (λ x. cond (t x) (cond (any x t) b o ++ f x) []) m n h

  -- the next text has room where all have
  pub run_room : (x n : ℕ) → x < n → t x ≡ true → length (run o b f t x) + (length (cond (any x t) b o) + length (f x)) ≤ length (run o b f t n)
  run_room x n h e =
      let longer : length (run o b f t (x + 1)) ≤ length (run o b f t n) = run_longer (x + 1) n (omega arith) in
      let parts : length (run o b f t (x + 1)) ≡ length (run o b f t x) + (length (cond (any x t) b o) + length (f x)) =
      rw (run_take x e, length-append, length-append) in
      omega arith

  pub run_empty : (x : ℕ) → any x t ≡ false → run o b f t x ≡ []
  unfolding run spread any
  run_empty zero e = refl
  run_empty (suc x) e =
      let none = or_none (any x t) (t x) e in
      rw (none.1, run_empty x none.0)

  pub run_some : (x : ℕ) → any x t ≡ true → ((k : ℕ) → 0 < length (f k)) → 0 < length (run o b f t x)
  run_some x e h =
      let k = any_found x t e in
      omega (arith, run_room k.0 x k.1 k.2, h k.0)

-- runs of the same texts
pub run_ext : (o b : List ℕ) (f h : ℕ → List ℕ) (t u : ℕ → Bool) (n : ℕ) → ((x : ℕ) → x < n → t x ≡ u x) → ((x : ℕ) → x < n → u x ≡ true → f x ≡ h x) → run o b f t n ≡ run o b h u n
unfolding run
run_ext o b f h t u n same texts =
    spread_ext n _ _ (λ x l.
    rw (same x l, any_ext x t u (λ k m. same k (omega arith)))
    (by_bool (u x) (λ (e : u x ≡ true). rw (e, texts x l e)) (λ (e : u x ≡ false). rw e)))

-- sums

module _ (f : ℕ → ℕ) (t : ℕ → Bool) where
  pub sum_none : sum_where f t 0 ≡ 0
  unfolding sum_where sum
  sum_none = refl

  pub sum_skip : (x : ℕ) → t x ≡ false → sum_where f t (x + 1) ≡ sum_where f t x
  unfolding sum_where sum
  sum_skip x e = rw (add-one x, e) (omega arith)

  pub sum_take : (x : ℕ) → t x ≡ true → sum_where f t (x + 1) ≡ sum_where f t x + f x
  unfolding sum_where sum
  sum_take x e = rw (add-one x, e)

  -- the next is counted where all are
  pub sum_room : (x n : ℕ) → x < n → t x ≡ true → sum_where f t x + f x ≤ sum_where f t n
  unfolding sum_where sum
  sum_room x zero h e = absurd (omega arith)
  sum_room x (suc n) h e =
      ⊎_elim
      (λ (i : x ≡ n). rw (← i, e) (omega arith))
      (λ (l : x < n). let ih : sum_where f t x + f x ≤ sum_where f t n = sum_room x n l e in omega arith)
      (last_or_below h)

-- sums of the same numbers
pub sum_where_ext : (f h : ℕ → ℕ) (t u : ℕ → Bool) (n : ℕ) → ((x : ℕ) → x < n → t x ≡ u x) → ((x : ℕ) → x < n → u x ≡ true → f x ≡ h x) → sum_where f t n ≡ sum_where h u n
unfolding sum_where
sum_where_ext f h t u n same numbers =
    sum_ext n _ _ (λ x l.
    rw (same x l) (by_bool (u x) (λ (e : u x ≡ true). rw (e, numbers x l e)) (λ (e : u x ≡ false). rw e)))

-- texts

leaf_ext : (d e : ℕ → List ℕ) (n : ℕ) (p : List ℕ) (l : ℕ) → ((s : ℕ) → s < n → entry_is p l s ≡ true → d s ≡ e s) → leaf_in d n p l ≡ leaf_in e n p l
unfolding leaf_in
leaf_ext d e n p l same = rw (run_ext (91 ∷ []) (59 ∷ []) d e (entry_is p l) (entry_is p l) n (λ x h. refl) same)

-- A bound that is no less than a fragment's size cuts nothing: what hangs below it is one fragment less at least.
module _ (n : ℕ) (home p : List ℕ) where
  hung_smaller : (k r : ℕ) → size_in (suc k) n home p r ≤ suc k → (l : ℕ) → l < n → entry_is home r l ≡ true → (s : ℕ) → s < n → entry_is p l s ≡ true → size_in k n home p s ≤ k
  unfolding size_in
  hung_smaller k r h l hl el s hs es =
      omega (
        arith,
        sum_room (λ l. sum_where (λ s. size_in k n home p s) (entry_is p l) n) (entry_is home r) l n hl el,
        sum_room (λ s. size_in k n home p s) (entry_is p l) s n hs es,
      )

  uncut : (k r : ℕ) → size_in k n home p r ≤ k → (fragment_in (suc k) n home p r ≡ fragment_in k n home p r) × (size_in (suc k) n home p r ≡ size_in k n home p r)
  unfolding fragment_in size_in
  uncut zero r h = absurd (omega arith)
  uncut (suc k) r h = (
    rw (run_ext (40 ∷ []) (44 ∷ []) (leaf_in (λ s. fragment_in (suc k) n home p s) n p) (leaf_in (λ s. fragment_in k n home p s) n p) (entry_is home r) (entry_is home r) n
        (λ l _. refl)
        (λ l hl el. leaf_ext (λ s. fragment_in (suc k) n home p s) (λ s. fragment_in k n home p s) n p l (λ s hs es. (uncut k s (hung_smaller k r h l hl el s hs es)).0))),
    rw (sum_where_ext (λ l. sum_where (λ s. size_in (suc k) n home p s) (entry_is p l) n) (λ l. sum_where (λ s. size_in k n home p s) (entry_is p l) n) (entry_is home r) (entry_is home r) n
        (λ l _. refl)
        (λ l hl el. sum_where_ext (λ s. size_in (suc k) n home p s) (λ s. size_in k n home p s) (entry_is p l) (entry_is p l) n (λ s _. refl) (λ s hs es. (uncut k s (hung_smaller k r h l hl el s hs es)).1))),
  )

  module _ (r : ℕ) (h : size_in n n home p r ≤ n) where
    pub fragment_some : fragment_in n n home p r ≡ decimal r ++ leaves_in n home p r ++ 41 ∷ []
    unfolding fragment_in
    fragment_some = sym (uncut n r h).0

    pub size_some : size_in n n home p r ≡ 1 + leaves_size_in n home p r
    unfolding size_in
    size_some = sym (uncut n r h).1

-- a text of a fragment is not empty
pub fragment_long : (k n : ℕ) (home p : List ℕ) → 0 < k → (r : ℕ) → 0 < length (fragment_in k n home p r)
unfolding fragment_in
fragment_long zero n home p h r = absurd (omega arith)
fragment_long (suc k) n home p h r = rw (length-append, length-append) (omega arith)

-- homes

pub home_inner : (n : ℕ) (parents : List ℕ) (v : ℕ) → inner_in n parents v ≡ true → home_in n parents v ≡ none
unfolding home_in
home_inner n parents v e = rw e

pub home_leaf : (n : ℕ) (parents : List ℕ) (v : ℕ) → inner_in n parents v ≡ false → home_in n parents v ≡ top_in n parents v
unfolding home_in
home_leaf n parents v e = rw e

-- a number is one to three bytes
pub number_length : (v : ℕ) → v < 1000 → (1 ≤ length (decimal v)) × (length (decimal v) ≤ 3)
number_length v h = (decimal_some v (omega arith), decimal_three v h)
