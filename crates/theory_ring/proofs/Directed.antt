-- A directed closed walk of edges shortens to a ring.
-- Along the edges each fragment is entered with the colour `into l` of one edge and left with `out k` of the next, and
-- these always differ. So only fragments left twice stand in the way: the walk is built from its end, and closed at the
-- first fragment that it would leave again.
use Prim.Native.Nat.{ℕ}
use mathlib.Core.Path.{◌≡◌, refl, ◌∙◌}
use mathlib.Core.List.Memᴰ
use mathlib.Core.List.{List, [], ◌∷◌}
use mathlib.Core.Logic.{◌⊎◌, inl, inr, ⊎_elim, dite}
use Rattle.theory_ring.proofs.Ways.{Colour, out, into, out≢into, Hops, ◌∈◌, ◌∉◌, is_passed, Way, stop, step, Ring, ring, ring_map}
use Rattle.theory_ring.proofs.Cuts.{meet_member}

-- `Edge x l y`: from leaf l of fragment x to fragment y
pub data Walk (Edge : ℕ → ℕ → ℕ → Type 0) : ℕ → ℕ → Type 0 where
  one : {x l y : ℕ} → Edge x l y → Walk Edge x y
  onward : {x l y z : ℕ} → Edge x l y → Walk Edge y z → Walk Edge x z

pub walk_more : {Edge : ℕ → ℕ → ℕ → Type 0} {x y l z : ℕ} → Walk Edge x y → Edge y l z → Walk Edge x z
walk_more (one d) e = onward d (one e)
walk_more (onward d w) e = onward d (walk_more w e)

-- the edges as hops
pub data Along (Edge : ℕ → ℕ → ℕ → Type 0) : ℕ → Colour → ℕ → Colour → Type 0 where
  along : {x l y : ℕ} → Edge x l y → Along Edge x (out l) y (into l)

along_hop : {Edge : ℕ → ℕ → ℕ → Type 0} (Hop : Hops) → ((x l y : ℕ) → Edge x l y → Hop x (out l) y (into l))
    → {x : ℕ} {c : Colour} {y : ℕ} {z : Colour} → Along Edge x c y z → Hop x c y z
along_hop Hop g (along {x = x} {l = l} {y = y} e) = g x l y e

entered_into : {Edge : ℕ → ℕ → ℕ → Type 0} {x : ℕ} {c : Colour} {y : ℕ} {z : Colour} {m : List ℕ} → Way (Along Edge) x c y z m
    → (k : ℕ) → c ≡ into k → (j : ℕ) × (z ≡ into j)
entered_into stop k e = (k, e)
entered_into (step d (along {l = l} h) f w) k e = entered_into w l refl

-- an edge before a way that comes back to its start
round : {Edge : ℕ → ℕ → ℕ → Type 0} {x k n : ℕ} {z : Colour} {m : List ℕ} → Edge x k n → Way (Along Edge) n (into k) x z m → x ∉ m → Ring (Along Edge)
round {k = k} e w f =
    let j = entered_into w k refl in
    ring (step (λ q. out≢into (q ∙ j.1)) (along e) f w) (Memᴰ.head refl)

-- A way after an edge from x makes a ring where it leaves x.
shortened : {Edge : ℕ → ℕ → ℕ → Type 0} {x k n y : ℕ} {z : Colour} {m : List ℕ} → Edge x k n → Way (Along Edge) n (into k) y z m
    → x ∈ m → Ring (Along Edge)
shortened {Edge} {x} {k} {n} e w i =
    let h = meet_member w i in
    round e (rw h.has at h.way) (λ j. h.none x j refl)

-- an edge, and a way from its end to y
abbrev Lead : (ℕ → ℕ → ℕ → Type 0) → ℕ → ℕ → Type 0
Lead Edge x y = (k : ℕ) × (n : ℕ) × Edge x k n × (z : Colour) × (m : List ℕ) × Way (Along Edge) n (into k) y z m

lead : {Edge : ℕ → ℕ → ℕ → Type 0} {x y : ℕ} → Walk Edge x y → Ring (Along Edge) ⊎ Lead Edge x y
lead (one {l = k} {y = y} e) = inr (k, y, e, into k, [], stop)
lead {Edge} (onward {l = k} {y = n} {z = y} e w) =
    ⊎_elim
    inl
    (λ (r : Lead Edge n y).
    dite (is_passed n r.4) (λ i. inl (shortened r.2 r.5 i)) (λ f. inr (k, n, e, r.3, n ∷ r.4, step out≢into (along r.2) f r.5)))
    (lead w)

pub closed_walk_ring : {Edge : ℕ → ℕ → ℕ → Type 0} {Hop : Hops} {x : ℕ} → ((u l v : ℕ) → Edge u l v → Hop u (out l) v (into l))
    → Walk Edge x x → Ring Hop
closed_walk_ring {Edge} {Hop} {x} g w = ring_map (λ x c y z h. along_hop Hop g h)
    (⊎_elim (λ r. r) (λ (r : Lead Edge x x). dite (is_passed x r.4) (shortened r.2 r.5) (round r.2 r.5)) (lead w))
