-- The choice of Rule 3, for rings: edges (a, v) and (b, v) leave the fragments A and B for the fragment v. If the hops
-- with an edge from b to A have a ring, and those with an edge from a to B, then so have the hops by themselves.
-- A ring that needs the added edge is, without it, a way from one of A and B to the other. If one of the two ways
-- passes v, its part up to v is closed by (a, v) or (b, v). If the way from A enters B otherwise than from b, then
-- (b, v) and (a, v) close it. Else the first meeting w of the way from B with the way from A decides: the part up to w
-- goes on along the way from A, or, where that would leave w as it came, the part of the way from A up to w goes on back
-- to B.
use Prim.Native.Nat.{ℕ}
use mathlib.Core.Path.{◌≡◌, refl, sym}
use mathlib.Core.List.Memᴰ
use mathlib.Core.List.{List, ◌∷◌}
use mathlib.Core.Logic.{◌≢◌, ⊎_elim, dite}
use native.Mathlib.Decide.{ℕ_discrete}
use Rattle.theory_ring.proofs.Ways.{Colour, out, into, out≢into, same_colour, Hops, ◌∈◌, ◌∉◌, Apart, is_passed, Way, stop, step, Ring, ring, append, not_left, Symmetric, Back, back}
use Rattle.theory_ring.proofs.Cuts.{Cut, Off, On, cut_member, off_way, meet, meet_member, With, Arc, arc_back, opened}

-- whoever leaves v with colour t arrives at p with s
abbrev pub Only : Hops → ℕ → Colour → ℕ → Colour → Type 0
Only Hop v t p s = (u : ℕ) (o : Colour) → Hop v t u o → (u ≡ p) × (o ≡ s)

-- A way that ends where only a hop from p arrives, and does not leave p, is empty.
unreached : {Hop : Hops} {p : ℕ} {s : Colour} {x : ℕ} {c : Colour} {v : ℕ} {t : Colour} {l : List ℕ} → Symmetric Hop
    → Only Hop v t p s → Way Hop x c v t l → p ∉ l → (x ≡ v) × (c ≡ t)
unreached sy only stop f = (refl, refl)
unreached {Hop} {v = v} {t = t} sy only (step {x = x} {o = o} {n = n} {i = i} d h g w) f =
    let r = unreached sy only w (λ m. f (Memᴰ.tail m)) in
    let back : Hop v t x o = rw (r.0, r.1) at (sy x o n i h) in
    absurd (f (Memᴰ.head (sym (only x o back).0)))

-- A way leaves p, entered with s, with another colour. So it never arrives at v with the colour of the edge from p.
not_entered : {Hop : Hops} {p : ℕ} {s : Colour} {v : ℕ} {t : Colour} {l : List ℕ} → Symmetric Hop → Only Hop v t p s → v ≢ p → Way Hop p s v t l → ⊥
not_entered sy only f stop = f refl
not_entered {Hop} {v = v} {t = t} sy only f (step {x = p} {o = o} {n = n} {i = i} d h g w) =
    let r = unreached sy only w g in
    let back : Hop v t p o = rw (r.0, r.1) at (sy p o n i h) in
    d (only p o back).1

-- A way from p that passes v makes a ring with the edge from p to v.
through : {Hop : Hops} {p : ℕ} {s : Colour} {y : ℕ} {z : Colour} {v : ℕ} {t : Colour} {l : List ℕ} → Symmetric Hop
    → Only Hop v t p s → v ≢ p → Hop v t p s → Way Hop p s y z l → v ∈ l → Ring Hop
through {Hop} {p} {s} {v = v} {t = t} sy only f h w m =
    let k = meet_member w m in
    let half : Way Hop p s v k.entry k.before = rw k.has at k.way in
    ring (step (λ e. not_entered sy only f (rw (← e) at half)) h (λ i. k.none v i refl) half) (Memᴰ.head refl)

-- a loop at one fragment
pub loop : {Hop : Hops} {x y : ℕ} (a : ℕ) → Hop x (out a) y (into a) → y ≡ x → Ring Hop
loop {Hop} {x} {y} a h e =
    let round : Hop x (out a) x (into a) = rw e at h in
    ring (step out≢into round Memᴰ.not-nil stop) (Memᴰ.head refl)

-- the two edges that a choice is made between
pub record Fork (Hop : Hops) (A B v a b : ℕ) : Type 0 where
  pub symmetric : Symmetric Hop
  pub apart : a ≢ b
  pub edge_a : Hop A (out a) v (into a)
  pub edge_b : Hop B (out b) v (into b)
  pub only_a : Only Hop v (into a) A (out a)
  pub only_b : Only Hop v (into b) B (out b)

-- a way from A, closed by (b, v) and (a, v)
closed_by_edges : {Hop : Hops} {A B v a b : ℕ} {e : Colour} {l : List ℕ} → Fork Hop A B v a b → v ≢ B → e ≢ out b
    → Way Hop A (out a) B e l → B ∉ l → v ∉ l → Ring Hop
closed_by_edges {A = A} {B = B} {v = v} {a = a} {b = b} k vB d w f g =
    let last = step {c = into b} (λ (e : into a ≡ into b). k.apart (cc)) (k.symmetric A (out a) v (into a) k.edge_a) g w in
    ring (step (λ e. d (sym e)) k.edge_b (λ m. ⊎_elim (λ e. vB (sym e)) f (Memᴰ.cases_cons m)) last) (Memᴰ.head refl)

-- The way from A enters B from b, so it leaves A. Let the way from A be cut at the first fragment w on the way from B
-- that it leaves.

-- from B to w, and on along the way from A
met_ahead : {Hop : Hops} {P : ℕ → Type 0} {x : ℕ} {c : Colour} {y : ℕ} {z e : Colour} {l m : List ℕ} (s : Cut Hop (Off P Hop) (On P Hop) y z x c m)
    → Way Hop x c s.at e l → Apart l m → s.leaving ≢ e → Ring Hop
met_ahead {l = l} {m = m} s w f d =
    let on : (u : ℕ) → u ∈ (s.at ∷ s.after) → u ∈ m =
    λ u i. ⊎_elim (λ (e : u ≡ s.at). Memᴰ.cast e s.at_passed) (s.after_passed u) (Memᴰ.cases_cons i) in
    ring (append w (step d s.hop.0 s.not_after s.rest) (λ u i j. f u i (on u j))) (Memᴰ.append_right l (Memᴰ.head refl))

-- from A to w, and back to B
met_back : {Hop : Hops} {P : ℕ → Type 0} {A B v a b : ℕ} {z : Colour} {l m : List ℕ} → Fork Hop A B v a b → v ≢ B
    → (s : Cut Hop (Off P Hop) (On P Hop) A (out a) B z m) → Back Hop B (out b) s.at s.entry l → Apart l m → B ∉ m → v ∉ l
    → v ∉ m → Ring Hop
met_back {P = P} {B = B} {v = v} k vB s r f Bm vl vm =
    closed_by_edges k vB r.differs
    (append (off_way P s.front) r.way (λ u i j. ⊎_elim (λ x. f u x (s.before_passed u i)) (λ x. s.not_before (Memᴰ.cast (sym x) i)) (r.within u j)))
    (λ i. ⊎_elim (λ j. Bm (s.before_passed B j)) r.fresh (Memᴰ.append_cases s.before i))
    (λ i.
    ⊎_elim
    (λ j. vm (s.before_passed v j))
    (λ j. ⊎_elim vl (λ x. vm (Memᴰ.cast x s.at_passed)) (r.within v j))
    (Memᴰ.append_cases s.before i))

met : {Hop : Hops} {A B v a b : ℕ} {z : Colour} {l m : List ℕ} → Fork Hop A B v a b → v ≢ B → Way Hop B (out b) A z l
    → Way Hop A (out a) B (out b) m → B ∉ m → v ∉ l → v ∉ m → A ∈ m → Ring Hop
met {Hop} {B = B} {v = v} {b = b} {m = m} k vB p q Bm vl vm Am =
    let h = meet (λ u. u ∈ m) (λ u. is_passed u m) p Am in
    let s = cut_member q h.has in
    let w : Way Hop B (out b) s.at h.entry h.before = rw (← s.hop.1) at h.way in
    dite (same_colour s.leaving h.entry)
    (λ (e : s.leaving ≡ h.entry).
    let r = back k.symmetric w (λ i. h.none s.at i s.at_passed) (λ (i : s.entry ≡ h.entry). s.differs (cc)) in
    met_back k vB s r h.none Bm (λ i. vl (h.within v i)) vm)
    (met_ahead s w h.none)

-- two ways between A and B, and v apart from both
arcs : {Hop : Hops} {A B v a b : ℕ} → Fork Hop A B v a b → v ≢ A → v ≢ B → Arc Hop A (into b) B (out b) → Arc Hop B (into a) A (out a) → Ring Hop
arcs {Hop} {A} {B} {v} {a} {b} k vA vB p q =
    dite (is_passed v p.passed) (through k.symmetric k.only_b vB (k.symmetric B (out b) v (into b) k.edge_b) p.way) (λ vp.
    dite (is_passed v q.passed) (through k.symmetric k.only_a vA (k.symmetric A (out a) v (into a) k.edge_a) q.way) (λ vq.
    dite (same_colour q.entry (out b))
    (λ (e : q.entry ≡ out b).
    let way : Way Hop A (out a) B (out b) q.passed = rw e at q.way in
    dite (is_passed A q.passed)
    (met k vB p.way way q.fresh vp vq)
    (λ n. let r = not_left way n in absurd (k.apart (cc r.1))))
    (λ n. closed_by_edges k vB n q.way q.fresh vq)))

pub choice : {Hop : Hops} {A B v a b : ℕ} → Fork Hop A B v a b → Ring (With Hop B (out b) A (into b))
    → Ring (With Hop A (out a) B (into a)) → Ring Hop
choice {Hop} {A} {B} {v} {a} {b} k r s =
    dite (ℕ_discrete v A) (loop a k.edge_a) (λ vA.
    dite (ℕ_discrete v B) (loop b k.edge_b) (λ vB.
    ⊎_elim
    (λ c. c)
    (λ (p : Arc Hop B (out b) A (into b)).
    ⊎_elim (λ c. c) (λ (q : Arc Hop A (out a) B (into a)). arcs k vA vB (arc_back k.symmetric p) (arc_back k.symmetric q)) (opened k.symmetric s))
    (opened k.symmetric r)))
