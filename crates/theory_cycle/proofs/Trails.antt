-- Simple trails. A trail goes from node to node over edges taken either way, and leaves no node twice; the list holds
-- the nodes that it leaves. Connected nodes have a trail that does not leave its end either: where a walk would leave a
-- node again, what lies between is left out. So all nodes of the trail, its end included, are different.
use Prim.Native.Nat.{ℕ, zero, suc, ◌≤◌, ◌<◌}
use mathlib.Core.Path.{◌≡◌, refl, sym, subst, ◌∙◌}
use mathlib.Core.List.Memᴰ
use mathlib.Core.List.{List, [], ◌∷◌}
use mathlib.Core.Logic.{◌⊎◌, inl, inr, ⊎_elim, dite}
use native.Mathlib.Omega.{arith}
use native.Mathlib.Nat.{le_of_suc-le-suc}
use native.Mathlib.Decide.{ℕ_discrete}
use lib.ListN.{length, get_or}
use Rattle.theory_ring.proofs.Ways.{◌∈◌, ◌∉◌, is_passed}
use Rattle.theory_cycle.specs.Connected.{Connected, same, forth, back}

-- an edge taken either way
abbrev pub EitherWay : (ℕ → ℕ → Type 0) → ℕ → ℕ → Type 0
EitherWay E u v = E u v ⊎ E v u

pub data Trail (E : ℕ → ℕ → Type 0) : ℕ → ℕ → List ℕ → Type 0 where
  here : {u : ℕ} → Trail E u u []
  along : {u v w : ℕ} {l : List ℕ} → u ∉ l → EitherWay E u v → Trail E v w l → Trail E u w (u ∷ l)

-- a trail that does not leave its end
abbrev pub Simple : (ℕ → ℕ → Type 0) → ℕ → ℕ → Type 0
Simple E u v = (l : List ℕ) × Trail E u v l × (v ∉ l)

-- from a node that the trail leaves
shortened : {E : ℕ → ℕ → Type 0} {u v w : ℕ} {l : List ℕ} → Trail E u v l → v ∉ l → w ∈ l → Simple E w v
shortened here f m = absurd (Memᴰ.not-nil m)
shortened {E} {w = w} (along {u = u} {w = v} {l = l} n e t) f m =
    ⊎_elim
    (λ (i : w ≡ u). subst (λ (x : ℕ). Simple E x v) (sym i) (u ∷ l, along n e t, f))
    (λ (k : w ∈ l). shortened t (λ x. f (Memᴰ.tail x)) k)
    (Memᴰ.cases_cons m)

-- one step before a trail
before : {E : ℕ → ℕ → Type 0} {u v w : ℕ} → EitherWay E w u → Simple E u v → Simple E w v
before {E} {u} {v} {w} e (l, t, f) =
    dite (ℕ_discrete w v)
    (λ (i : w ≡ v). subst (λ (x : ℕ). Simple E w x) i ([], here, Memᴰ.not-nil))
    (λ d.
    dite (is_passed w l)
    (λ m. shortened t f m)
    (λ n. (w ∷ l, along n e t, λ m. ⊎_elim (λ (i : v ≡ w). d (sym i)) f (Memᴰ.cases_cons m))))

pub simple_trail : {E : ℕ → ℕ → Type 0} {u v : ℕ} → Connected E u v → Simple E v u
simple_trail same = ([], here, Memᴰ.not-nil)
simple_trail (forth c e) = before (inr e) (simple_trail c)
simple_trail (back c e) = before (inl e) (simple_trail c)

-- the nodes by number

pub trail_start : {E : ℕ → ℕ → Type 0} {u v : ℕ} {l : List ℕ} → Trail E u v l → get_or l 0 v ≡ u
trail_start here = refl
trail_start (along n e t) = refl

pub trail_steps : {E : ℕ → ℕ → Type 0} {u v : ℕ} {l : List ℕ} → Trail E u v l → (i : ℕ) → i < length l → EitherWay E (get_or l i v) (get_or l (suc i) v)
trail_steps here i h = absurd (omega arith)
trail_steps {E} (along {u = u} {v = w} {w = v} {l = l} n e t) zero h = subst (λ (x : ℕ). EitherWay E u x) (sym (trail_start t)) e
trail_steps (along n e t) (suc i) h = trail_steps t i (le_of_suc-le-suc h)

-- a node of the trail is one that it leaves, or its end
read_cases : (l : List ℕ) (v i : ℕ) → (get_or l i v ∈ l) ⊎ (get_or l i v ≡ v)
read_cases [] v i = inr refl
read_cases (x ∷ l) v zero = inl (Memᴰ.head refl)
read_cases (x ∷ l) v (suc i) = ⊎_elim (λ m. inl (Memᴰ.tail m)) inr (read_cases l v i)

pub trail_different : {E : ℕ → ℕ → Type 0} {u v : ℕ} {l : List ℕ} → Trail E u v l → v ∉ l → (i j : ℕ) → i ≤ length l → j < i → get_or l i v ≡ get_or l j v → ⊥
trail_different here f i j h k e = omega arith
trail_different (along n e t) f zero j h k q = omega arith
trail_different (along {u = u} {w = v} {l = l} n e t) f (suc i) zero h k q =
    ⊎_elim
    (λ (m : get_or l i v ∈ l). n (Memᴰ.cast (sym q) m))
    (λ (r : get_or l i v ≡ v). f (Memᴰ.head (sym r ∙ q)))
    (read_cases l v i)
trail_different (along n e t) f (suc i) (suc j) h k q =
    trail_different t (λ m. f (Memᴰ.tail m)) i j (le_of_suc-le-suc h) (le_of_suc-le-suc k) q
