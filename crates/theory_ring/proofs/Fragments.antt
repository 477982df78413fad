-- The hops of a set D of edges from leaves to fragments: an edge from l to r joins the fragment that owns l, with the
-- colour `out l`, and r, with the colour `into l`. At r the colour `into l` is borne by that edge alone.
-- What the other files say of any hops, said of these: a directed closed walk has a ring, and so has D if it has one
-- with either edge of a choice added.
use Prim.Native.Nat.{ℕ}
use mathlib.Core.Path.{◌≡◌, refl, sym}
use mathlib.Core.Logic.{◌≢◌, ◌⊎◌, inl, inr, ⊎_elim}
use Rattle.theory_ring.proofs.Ways.{Colour, out, into, out≢into, Hops, Included, Symmetric, Ring, ring_map}
use Rattle.theory_ring.proofs.Cuts.{Extra, Either, With, Arc, opened}
use Rattle.theory_ring.proofs.Choice.{Only, Fork, choice}
use Rattle.theory_ring.proofs.Directed.{Walk, closed_walk_ring}

abbrev pub Joined : (ℕ → ℕ) → (ℕ → ℕ → Type 0) → Hops
Joined own D x c y z = (l : ℕ) × (r : ℕ) × D l r × Either (own l) (out l) r (into l) x c y z

abbrev pub FragmentRing : (ℕ → ℕ) → (ℕ → ℕ → Type 0) → Type 0
FragmentRing own D = Ring (Joined own D)

extra_back : {p : ℕ} {s : Colour} {q : ℕ} {t : Colour} {x : ℕ} {c : Colour} {y : ℕ} {z : Colour} → Extra p s q t x c y z → Extra q t p s y z x c
extra_back e = (e.2, e.3, e.0, e.1)

pub joined_symmetric : (own : ℕ → ℕ) (D : ℕ → ℕ → Type 0) → Symmetric (Joined own D)
joined_symmetric own D x c y z h = (h.0, h.1, h.2, ⊎_elim (λ e. inr (extra_back e)) (λ e. inl (extra_back e)) h.3)

pub joined_only : (own : ℕ → ℕ) (D : ℕ → ℕ → Type 0) (a v : ℕ) → Only (Joined own D) v (into a) (own a) (out a)
joined_only own D a v u o h =
    ⊎_elim
    (λ (e : Extra (own h.0) (out h.0) h.1 (into h.0) v (into a) u o). absurd (out≢into (sym e.1)))
    (λ (e : Extra h.1 (into h.0) (own h.0) (out h.0) v (into a) u o).
    let same : a ≡ h.0 = cc e.1 in
    (cc e.2, cc e.3))
    h.3

-- what E has more than D is at most an edge from b to r
abbrev pub OneMore : (ℕ → ℕ → Type 0) → (ℕ → ℕ → Type 0) → ℕ → ℕ → Type 0
OneMore D E b r = (x y : ℕ) → E x y → D x y ⊎ ((x ≡ b) × (y ≡ r))

joined_with : (own : ℕ → ℕ) (D E : ℕ → ℕ → Type 0) (b r : ℕ) → OneMore D E b r
    → Included (Joined own E) (With (Joined own D) (own b) (out b) r (into b))
joined_with own D E b r f x c y z h =
    ⊎_elim
    (λ (d : D h.0 h.1). inl (h.0, h.1, d, h.3))
    (λ (q : (h.0 ≡ b) × (h.1 ≡ r)). inr (rw (q.0, q.1) at h.3))
    (f h.0 h.1 h.2)

-- A ring with the edge from b to r is one without it, or goes the other way round between its ends.
pub opened_at_edge : (own : ℕ → ℕ) (D E : ℕ → ℕ → Type 0) (b r : ℕ) → OneMore D E b r → FragmentRing own E
    → FragmentRing own D ⊎ Arc (Joined own D) (own b) (out b) r (into b)
opened_at_edge own D E b r f c = opened (joined_symmetric own D) (ring_map (joined_with own D E b r f) c)

-- E is D with an edge from b to the fragment of a, F is D with one from a to the fragment of b.
pub choice_ring : (own : ℕ → ℕ) (D E F : ℕ → ℕ → Type 0) (a b v : ℕ) → a ≢ b → D a v → D b v
    → OneMore D E b (own a)
    → OneMore D F a (own b)
    → FragmentRing own E → FragmentRing own F → FragmentRing own D
choice_ring own D E F a b v n da db e f r s =
    let k : Fork (Joined own D) (own a) (own b) v a b =
    record {
      symmetric = joined_symmetric own D;
      apart = n;
      edge_a = (a, v, da, inl (refl, refl, refl, refl));
      edge_b = (b, v, db, inl (refl, refl, refl, refl));
      only_a = joined_only own D a v;
      only_b = joined_only own D b v;
    } in
    choice k (ring_map (joined_with own D E b (own a) e) r) (ring_map (joined_with own D F a (own b) f) s)

-- an edge of D from leaf l of the fragment x to y
abbrev pub From : (ℕ → ℕ) → (ℕ → ℕ → Type 0) → ℕ → ℕ → ℕ → Type 0
From own D x l y = D l y × (own l ≡ x)

pub walk_ring : (own : ℕ → ℕ) (D : ℕ → ℕ → Type 0) (x : ℕ) → Walk (From own D) x x → FragmentRing own D
walk_ring own D x w = closed_walk_ring (λ u l v e. (l, v, e.0, inl (sym e.1, refl, refl, refl))) w
