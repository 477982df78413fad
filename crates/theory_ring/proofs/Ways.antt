-- Ways from fragment to fragment over coloured hops, and rings.
-- A hop leaves a fragment with one colour and arrives at a fragment with another. A way starts at a fragment as if it
-- had been entered with a given colour, and ends at a fragment entered with a given colour; it leaves no fragment
-- twice, and leaves none with the colour that it entered it with. The list holds the fragments that it leaves. So a
-- ring is a way, not empty, back to the state that it started from: where ways are joined there is nothing to ask of
-- colours, and an empty way is no special case.
use Prim.Native.Nat.{ℕ}
use mathlib.Core.Path.{◌≡◌, refl, sym}
use mathlib.Core.List.Memᴰ
use mathlib.Core.List.{List, [], ◌∷◌, ◌++◌, Memᴰ}
use mathlib.Core.Logic.{◌≢◌, ◌⊎◌, inl, inr, ⊎_elim, dite}
use native.Mathlib.Decide.{ℕ_discrete}
use native.Mathlib.Omega.{arith}

-- of an edge from leaf l: the colour at the fragment that it leaves, and at the fragment that it goes to
pub data Colour : Type 0 where
  out : ℕ → Colour
  into : ℕ → Colour

out_decided : (a b : ℕ) → Dec (a ≡ b) → Dec (out a ≡ out b)
out_decided a b (yes e) = yes (cc)
out_decided a b (no n) = no (λ e. n (cc))

into_decided : (a b : ℕ) → Dec (a ≡ b) → Dec (into a ≡ into b)
into_decided a b (yes e) = yes (cc)
into_decided a b (no n) = no (λ e. n (cc))

pub out≢into : {a b : ℕ} → out a ≡ into b → ⊥
out≢into e = let z : ◌≡◌ {A = ℕ} 0 1 = cc in omega arith

pub same_colour : (c d : Colour) → Dec (c ≡ d)
same_colour (out a) (out b) = out_decided a b (ℕ_discrete a b)
same_colour (out a) (into b) = no out≢into
same_colour (into a) (out b) = no (λ e. out≢into (sym e))
same_colour (into a) (into b) = into_decided a b (ℕ_discrete a b)

-- from a fragment, with a colour there, to a fragment, with a colour there
abbrev pub Hops : Type 1
Hops = ℕ → Colour → ℕ → Colour → Type 0

infix 50 ◌∈◌
abbrev pub ◌∈◌ : ℕ → List ℕ → Type 0
x ∈ l = Memᴰ x l

infix 50 ◌∉◌
abbrev pub ◌∉◌ : ℕ → List ℕ → Type 0
x ∉ l = x ∈ l → ⊥

abbrev pub Apart : List ℕ → List ℕ → Type 0
Apart l m = (u : ℕ) → u ∈ l → u ∉ m

-- every hop of the one is a hop of the other
abbrev pub Included : Hops → Hops → Type 0
Included Hop Hop' = (x : ℕ) (c : Colour) (y : ℕ) (z : Colour) → Hop x c y z → Hop' x c y z

pub data Way (Hop : Hops) : ℕ → Colour → ℕ → Colour → List ℕ → Type 0 where
  stop : {x : ℕ} {c : Colour} → Way Hop x c x c []
  step : {x : ℕ} {c o : Colour} {n : ℕ} {i : Colour} {y : ℕ} {z : Colour} {l : List ℕ} → o ≢ c → Hop x o n i → x ∉ l → Way Hop n i y z l → Way Hop x c y z (x ∷ l)

pub record Ring (Hop : Hops) : Type 0 where
  pub start : ℕ
  pub entry : Colour
  pub passed : List ℕ
  pub way : Way Hop start entry start entry passed
  pub some_passed : start ∈ passed

-- what a way passes

-- a way from x that leaves a fragment leaves x
start_passed : {Hop : Hops} {x : ℕ} {c : Colour} {y : ℕ} {z : Colour} {l : List ℕ} {u : ℕ} → Way Hop x c y z l → u ∈ l → x ∈ l
start_passed stop m = absurd (Memᴰ.not-nil m)
start_passed (step d h f w) m = Memᴰ.head refl

-- the ring of a way that leaves a fragment and comes back to where it started
pub ring : {Hop : Hops} {x : ℕ} {c : Colour} {l : List ℕ} {u : ℕ} → Way Hop x c x c l → u ∈ l → Ring Hop
ring {x = x} {c = c} {l = l} w m = record { start = x; entry = c; passed = l; way = w; some_passed = start_passed w m }

-- a way that does not leave where it starts is empty
pub not_left : {Hop : Hops} {x : ℕ} {c : Colour} {y : ℕ} {z : Colour} {l : List ℕ} → Way Hop x c y z l → x ∉ l → (x ≡ y) × (c ≡ z)
not_left stop f = (refl, refl)
not_left (step d h f w) g = absurd (g (Memᴰ.head refl))

pub start_or_end : {Hop : Hops} {x : ℕ} {c : Colour} {y : ℕ} {z : Colour} {l : List ℕ} → Way Hop x c y z l → (x ∈ l) ⊎ (x ≡ y)
start_or_end stop = inr refl
start_or_end (step d h f w) = inl (Memᴰ.head refl)

pub is_passed : (u : ℕ) (l : List ℕ) → Dec (u ∈ l)
is_passed u [] = no Memᴰ.not-nil
is_passed u (x ∷ l) =
    dite (ℕ_discrete u x)
    (λ e. yes (Memᴰ.head e))
    (λ n. dite (is_passed u l) (λ m. yes (Memᴰ.tail m)) (λ k. no (λ m. ⊎_elim n k (Memᴰ.cases_cons m))))

-- more hops

pub way_map : {Hop Hop' : Hops} → Included Hop Hop' → {x : ℕ} {c : Colour} {y : ℕ} {z : Colour} {l : List ℕ} → Way Hop x c y z l → Way Hop' x c y z l
way_map g stop = stop
way_map g (step {x = x} {o = o} {n = n} {i = i} d h f w) = step d (g x o n i h) f (way_map g w)

pub ring_map : {Hop Hop' : Hops} → Included Hop Hop' → Ring Hop → Ring Hop'
ring_map g r = ring (way_map g r.way) r.some_passed

-- ways joined

pub append : {Hop : Hops} {x : ℕ} {c : Colour} {y : ℕ} {z : Colour} {u : ℕ} {k : Colour} {l m : List ℕ} → Way Hop x c y z l
    → Way Hop y z u k m → Apart l m → Way Hop x c u k (l ++ m)
append stop w a = w
append (step {x = x} {l = l} d h f p) w a =
    step d h (λ m. ⊎_elim f (a x (Memᴰ.head refl)) (Memᴰ.append_cases l m)) (append p w (λ u m. a u (Memᴰ.tail m)))

-- the way back, with z' for the colour that its start is entered with
pub record Back (Hop : Hops) (x : ℕ) (c : Colour) (y : ℕ) (z' : Colour) (l : List ℕ) : Type 0 where
  pub colour : Colour
  pub differs : colour ≢ c
  pub passed : List ℕ
  pub way : Way Hop y z' x colour passed
  pub within : (u : ℕ) → u ∈ passed → (u ∈ l) ⊎ (u ≡ y)
  pub fresh : x ∉ passed

abbrev pub Symmetric : Hops → Type 0
Symmetric Hop = (x : ℕ) (c : Colour) (y : ℕ) (z : Colour) → Hop x c y z → Hop y z x c

-- one hop more, at the end of the way back
back_step : {Hop : Hops} {x : ℕ} {c o : Colour} {n : ℕ} {i : Colour} {y : ℕ} {z' : Colour} {l : List ℕ} → o ≢ c → Hop n i x o
    → x ∉ l → x ≢ y → (n ∈ l) ⊎ (n ≡ y) → Back Hop n i y z' l → Back Hop x c y z' (x ∷ l)
back_step {x = x} {o = o} {n = n} {y = y} {l = l} d h f g s b =
    let inner : (u : ℕ) → u ∈ (b.passed ++ (n ∷ [])) → (u ∈ l) ⊎ (u ≡ y) =
    λ u m. ⊎_elim (b.within u) (λ k. ⊎_elim (λ (q : n ∈ l). inl (Memᴰ.cast (Memᴰ.eq_of_singleton k) q)) (λ (q : n ≡ y). inr (cc (Memᴰ.eq_of_singleton k))) s) (Memᴰ.append_cases b.passed m) in
    record {
      colour = o;
      differs = d;
      passed = b.passed ++ (n ∷ []);
      way = append b.way (step (λ e. b.differs (sym e)) h Memᴰ.not-nil stop) (λ u m k. b.fresh (Memᴰ.cast (sym (Memᴰ.eq_of_singleton k)) m));
      within = λ u m. ⊎_elim (λ (q : u ∈ l). inl (Memᴰ.tail q)) inr (inner u m);
      fresh = λ m. ⊎_elim f g (inner x m);
    }

pub back : {Hop : Hops} → Symmetric Hop → {x : ℕ} {c : Colour} {y : ℕ} {z z' : Colour} {l : List ℕ} → Way Hop x c y z l → y ∉ l
    → z' ≢ z → Back Hop x c y z' l
back sy {z' = z'} stop g d = record { colour = z'; differs = d; passed = []; way = stop; within = λ u m. absurd (Memᴰ.not-nil m); fresh = Memᴰ.not-nil }
back sy (step {x = x} {o = o} {n = n} {i = i} d h f w) g e =
    back_step d (sy x o n i h) f (λ q. g (Memᴰ.head (sym q))) (start_or_end w) (back sy w (λ m. g (Memᴰ.tail m)) e)
