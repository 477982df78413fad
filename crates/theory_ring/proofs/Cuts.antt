-- Ways cut at their first hop of a kind, and what follows: a ring turned to start at any fragment of it, the first
-- fragment of a way that has a property, and a ring over hops with one edge added, which is a ring without that edge or
-- else, cut at the edge, a way from one end of it to the other.
use Prim.Native.Nat.{ℕ}
use mathlib.Core.Path.{◌≡◌, refl, sym}
use mathlib.Core.List.Memᴰ
use mathlib.Core.List.{List, [], ◌∷◌, ◌++◌}
use mathlib.Core.Logic.{◌≢◌, ◌⊎◌, inl, inr, ⊎_elim, ⊎_swap, dite}
use native.Mathlib.Decide.{ℕ_discrete}
use Rattle.theory_ring.proofs.Ways.{Colour, Hops, ◌∈◌, ◌∉◌, Apart, Included, Way, stop, step, Ring, ring, append, way_map, not_left, Symmetric, back}

-- A way cut at its first hop of kind B: before it there are hops of kind A alone.
pub record Cut (Hop A B : Hops) (x : ℕ) (c : Colour) (y : ℕ) (z : Colour) (l : List ℕ) : Type 0 where
  pub at : ℕ
  pub entry : Colour
  pub before : List ℕ
  pub front : Way A x c at entry before
  pub leaving : Colour
  pub next : ℕ
  pub arriving : Colour
  pub differs : leaving ≢ entry
  pub hop : B at leaving next arriving
  pub after : List ℕ
  pub rest : Way Hop next arriving y z after
  pub not_before : at ∉ before
  pub not_after : at ∉ after
  pub apart : Apart before after
  pub at_passed : at ∈ l
  pub before_passed : (u : ℕ) → u ∈ before → u ∈ l
  pub after_passed : (u : ℕ) → u ∈ after → u ∈ l

cut_here : {Hop A B : Hops} {x : ℕ} {c o : Colour} {n : ℕ} {i : Colour} {y : ℕ} {z : Colour} {l : List ℕ} → o ≢ c → B x o n i
    → x ∉ l → Way Hop n i y z l → Cut Hop A B x c y z (x ∷ l)
cut_here {x = x} {c = c} {o = o} {n = n} {i = i} {l = l} d h f w =
    record {
      at = x;
      entry = c;
      before = [];
      front = stop;
      leaving = o;
      next = n;
      arriving = i;
      differs = d;
      hop = h;
      after = l;
      rest = w;
      not_before = Memᴰ.not-nil;
      not_after = f;
      apart = λ u m. absurd (Memᴰ.not-nil m);
      at_passed = Memᴰ.head refl;
      before_passed = λ u m. absurd (Memᴰ.not-nil m);
      after_passed = λ u m. Memᴰ.tail m;
    }

cut_later : {Hop A B : Hops} {x : ℕ} {c o : Colour} {n : ℕ} {i : Colour} {y : ℕ} {z : Colour} {l : List ℕ} → o ≢ c → A x o n i
    → x ∉ l → Cut Hop A B n i y z l → Cut Hop A B x c y z (x ∷ l)
cut_later {x = x} {l = l} d h f k =
    record {
      at = k.at;
      entry = k.entry;
      before = x ∷ k.before;
      front = step d h (λ m. f (k.before_passed x m)) k.front;
      leaving = k.leaving;
      next = k.next;
      arriving = k.arriving;
      differs = k.differs;
      hop = k.hop;
      after = k.after;
      rest = k.rest;
      not_before = λ m. ⊎_elim (λ (e : k.at ≡ x). f (Memᴰ.cast (sym e) k.at_passed)) k.not_before (Memᴰ.cases_cons m);
      not_after = k.not_after;
      apart = λ u m a. ⊎_elim (λ (e : u ≡ x). f (Memᴰ.cast (sym e) (k.after_passed u a))) (λ (b : u ∈ k.before). k.apart u b a) (Memᴰ.cases_cons m);
      at_passed = Memᴰ.tail k.at_passed;
      before_passed = λ u m. ⊎_elim Memᴰ.head (λ (b : u ∈ k.before). Memᴰ.tail (k.before_passed u b)) (Memᴰ.cases_cons m);
      after_passed = λ u m. Memᴰ.tail (k.after_passed u m);
    }

pub cut : {Hop A B : Hops} → ((x : ℕ) (c : Colour) (y : ℕ) (z : Colour) → Hop x c y z → A x c y z ⊎ B x c y z)
    → {x : ℕ} {c : Colour} {y : ℕ} {z : Colour} {l : List ℕ} → Way Hop x c y z l → Way A x c y z l ⊎ Cut Hop A B x c y z l
cut k stop = inl stop
cut {Hop} {A} {B} k (step {x = x} {o = o} {n = n} {i = i} {y = y} {z = z} {l = l} d h f w) =
    ⊎_elim
    (λ (a : A x o n i). ⊎_elim (λ (v : Way A n i y z l). inl (step d a f v)) (λ (v : Cut Hop A B n i y z l). inr (cut_later d a f v)) (cut k w))
    (λ (b : B x o n i). inr (cut_here d b f w))
    (k x o n i h)

-- Cut at the first fragment that has P

abbrev pub Off : (ℕ → Type 0) → Hops → Hops
Off P Hop x c y z = Hop x c y z × (P x → ⊥)

abbrev pub On : (ℕ → Type 0) → Hops → Hops
On P Hop x c y z = Hop x c y z × P x

-- the part before the first fragment with P, as a way of all hops
pub off_way : {Hop : Hops} (P : ℕ → Type 0) {x : ℕ} {c : Colour} {y : ℕ} {z : Colour} {l : List ℕ} → Way (Off P Hop) x c y z l → Way Hop x c y z l
off_way P w = way_map (λ x c y z h. h.0) w

-- and no fragment of it has P
pub passes_none : {Hop : Hops} {P : ℕ → Type 0} {x : ℕ} {c : Colour} {y : ℕ} {z : Colour} {l : List ℕ}
    → Way (Off P Hop) x c y z l → (u : ℕ) → u ∈ l → P u → ⊥
passes_none stop u m p = Memᴰ.not-nil m
passes_none {P = P} (step {x = x} d h f w) u m p =
    ⊎_elim (λ (e : u ≡ x). h.1 (rw e at p)) (λ m. passes_none w u m p) (Memᴰ.cases_cons m)

pub cut_at : {Hop : Hops} (P : ℕ → Type 0) → ((u : ℕ) → Dec (P u)) → {x : ℕ} {c : Colour} {y : ℕ} {z : Colour} {l : List ℕ}
    → Way Hop x c y z l → Way (Off P Hop) x c y z l ⊎ Cut Hop (Off P Hop) (On P Hop) x c y z l
cut_at P d w = cut (λ x c y z h. dite (d x) (λ p. inr (h, p)) (λ n. inl (h, n))) w

-- cut at v
pub cut_member : {Hop : Hops} {x : ℕ} {c : Colour} {y : ℕ} {z : Colour} {l : List ℕ} {v : ℕ} → Way Hop x c y z l → v ∈ l
    → Cut Hop (Off (λ u. u ≡ v) Hop) (On (λ u. u ≡ v) Hop) x c y z l
cut_member {v = v} w m = ⊎_elim (λ o. absurd (passes_none o v m refl)) (λ k. k) (cut_at (λ u. u ≡ v) (λ u. ℕ_discrete u v) w)

-- A way up to the first fragment that has P
pub record Meeting (Hop : Hops) (P : ℕ → Type 0) (x : ℕ) (c : Colour) (l : List ℕ) : Type 0 where
  pub at : ℕ
  pub entry : Colour
  pub before : List ℕ
  pub way : Way Hop x c at entry before
  pub has : P at
  pub none : (u : ℕ) → u ∈ before → P u → ⊥
  pub within : (u : ℕ) → u ∈ before → u ∈ l

cut_meeting : {Hop : Hops} {P : ℕ → Type 0} {x : ℕ} {c : Colour} {y : ℕ} {z : Colour} {l : List ℕ}
    → Cut Hop (Off P Hop) (On P Hop) x c y z l → Meeting Hop P x c l
cut_meeting {P = P} k =
    record { at = k.at; entry = k.entry; before = k.before; way = off_way P k.front; has = k.hop.1; none = passes_none k.front; within = k.before_passed }

pub meet_member : {Hop : Hops} {x : ℕ} {c : Colour} {y : ℕ} {z : Colour} {l : List ℕ} {v : ℕ} → Way Hop x c y z l → v ∈ l
    → Meeting Hop (λ u. u ≡ v) x c l
meet_member w m = cut_meeting (cut_member w m)

-- where the end has P, some first fragment has it
pub meet : {Hop : Hops} (P : ℕ → Type 0) → ((u : ℕ) → Dec (P u)) → {x : ℕ} {c : Colour} {y : ℕ} {z : Colour} {l : List ℕ}
    → Way Hop x c y z l → P y → Meeting Hop P x c l
meet P d {y = y} {z = z} {l = l} w p =
    ⊎_elim
    (λ o. record { at = y; entry = z; before = l; way = w; has = p; none = passes_none o; within = λ u m. m })
    cut_meeting
    (cut_at P d w)

-- Hops with one edge added, from p with colour s there to q with colour t there, taken either way

abbrev pub Extra : ℕ → Colour → ℕ → Colour → Hops
Extra p s q t x c y z = (x ≡ p) × (c ≡ s) × (y ≡ q) × (z ≡ t)

abbrev pub Either : ℕ → Colour → ℕ → Colour → Hops
Either p s q t x c y z = Extra p s q t x c y z ⊎ Extra q t p s x c y z

abbrev pub With : Hops → ℕ → Colour → ℕ → Colour → Hops
With Hop p s q t x c y z = Hop x c y z ⊎ Either p s q t x c y z

-- the other way round: a way that makes a ring with the added edge, from q to p
pub record Arc (Hop : Hops) (p : ℕ) (s : Colour) (q : ℕ) (t : Colour) : Type 0 where
  pub entry : Colour
  pub differs : entry ≢ s
  pub passed : List ℕ
  pub way : Way Hop q t p entry passed
  pub fresh : p ∉ passed

pub arc_back : {Hop : Hops} {p : ℕ} {s : Colour} {q : ℕ} {t : Colour} → Symmetric Hop → Arc Hop p s q t → Arc Hop q t p s
arc_back sy a =
    let b = back sy a.way a.fresh (λ e. a.differs (sym e)) in
    record { entry = b.colour; differs = b.differs; passed = b.passed; way = b.way; fresh = b.fresh }

-- The edge is left from p, which the way does not leave, or from q with t, which the way starts at as entered with t.
unused : {Hop : Hops} {p : ℕ} {s : Colour} {q : ℕ} {t e : Colour} {l : List ℕ} → Way (With Hop p s q t) q t p e l → p ∉ l → Way Hop q t p e l
unused {Hop} {p} {s} {q} {t} {e} {l} w f =
    ⊎_elim
    (λ o. o)
    (λ k. ⊎_elim
    (λ (i : Extra p s q t k.at k.leaving k.next k.arriving). absurd (f (Memᴰ.cast (sym i.0) k.at_passed)))
    (λ (i : Extra q t p s k.at k.leaving k.next k.arriving).
    let same = not_left k.front (λ m. k.not_before (Memᴰ.cast i.0 m)) in
    absurd (k.differs (cc same.1)))
    k.hop)
    (cut {A = Hop} {B = Either p s q t} (λ x c y z h. h) w)

-- a ring cut at the added edge, taken from p to q
arc_of_cut : {Hop G B : Hops} {p : ℕ} {s : Colour} {q : ℕ} {t : Colour} {x : ℕ} {c : Colour} {l : List ℕ}
    → Included G (With Hop p s q t) → (k : Cut G Hop B x c x c l) → Extra p s q t k.at k.leaving k.next k.arriving
    → Arc Hop p s q t
arc_of_cut {Hop} {p = p} {s = s} {q = q} {t = t} g k i =
    let m : List ℕ = k.after ++ k.before in
    let round : Way (With Hop p s q t) q t p k.entry m =
    rw (i.0, i.2, i.3) at (append (way_map g k.rest) (way_map (λ x c y z h. inl h) k.front) (λ u a b. k.apart u b a)) in
    let fresh : p ∉ m = λ a. ⊎_elim k.not_after k.not_before (Memᴰ.append_cases k.after (Memᴰ.cast i.0 a)) in
    record { entry = k.entry; differs = λ e. k.differs (cc); passed = m; way = unused round fresh; fresh = fresh }

-- A ring with the added edge is one without it, or becomes an arc.
pub opened : {Hop : Hops} {p : ℕ} {s : Colour} {q : ℕ} {t : Colour} → Symmetric Hop → Ring (With Hop p s q t) → Ring Hop ⊎ Arc Hop p s q t
opened {Hop} {p} {s} {q} {t} sy r =
    ⊎_elim
    (λ w. inl (ring w r.some_passed))
    (λ k. inr
    (⊎_elim
    (arc_of_cut (λ x c y z h. h) k)
    (λ i. arc_back sy (arc_of_cut (λ x c y z. ⊎_elim inl (λ h. inr (⊎_swap h))) k i))
    k.hop))
    (cut {A = Hop} {B = Either p s q t} (λ x c y z h. h) r.way)
