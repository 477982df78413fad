-- Lists of placings read by index: what holds of the entries of two lists joined, an index that is the only one with a
-- property, and lists whose entries stand in an order. Two lists with the same entries, both in one asymmetric order,
-- are equal.
use Prim.Native.Nat.{ℕ, zero, suc, ◌+◌, ◌-◌, ◌≤◌, ◌<◌}
use mathlib.Core.Path.{◌≡◌, refl, sym, ap, ap₂, subst, subst₂, ◌∙◌}
use mathlib.Core.List.{List, [], ◌∷◌, ◌++◌}
use mathlib.Core.Bool.{true, false}
use mathlib.Core.Logic.{◌⊎◌, inl, inr, ⊎_elim}
use native.Mathlib.Nat.{le_of_suc-le-suc}
use native.Mathlib.Omega.{arith}
use lib.Dec.{ltb}
use lib.ListN.{length, length-append, get_or-append}
use lib.Seq.{get_or-append-add}
use borrow.Author.Tests.{ltb-true, ltb-false}
use Rattle.base_finite.proofs.Laws.{by_bool}
use Rattle.graph.specs.Order.{entry, ExactlyOne}

-- where an entry of two lists joined stands

abbrev pub Place : List (List ℕ) → List (List ℕ) → ℕ → Type 0
Place ps qs i =
    ((i < length ps) × (entry (ps ++ qs) i ≡ entry ps i))
    ⊎ ((j : ℕ) × (i ≡ length ps + j) × (j < length qs) × (entry (ps ++ qs) i ≡ entry qs j))

pub place : (ps qs : List (List ℕ)) (i : ℕ) → i < length (ps ++ qs) → Place ps qs i
place ps qs i h =
    by_bool (ltb i (length ps))
    (λ (t : ltb i (length ps) ≡ true).
    let l : i < length ps = ltb-true i (length ps) t in
    inl (l, get_or-append ps qs [] i l))
    (λ (t : ltb i (length ps) ≡ false).
    let le : length ps ≤ i = ltb-false i (length ps) t in
    let e : i ≡ length ps + (i - length ps) = omega arith in
    let sum : length (ps ++ qs) ≡ length ps + length qs = length-append ps qs in
    inr (i - length ps, e, omega arith, subst (λ (z : ℕ). entry (ps ++ qs) z ≡ entry qs (i - length ps)) (sym e) (get_or-append-add ps qs (i - length ps) [])))

-- what holds of every entry of both
pub every_joined : (P : List ℕ → Type 0) (ps qs : List (List ℕ)) → ((i : ℕ) → i < length ps → P (entry ps i)) → ((i : ℕ) → i < length qs → P (entry qs i)) → (i : ℕ) → i < length (ps ++ qs) → P (entry (ps ++ qs) i)
every_joined P ps qs f g i h =
    ⊎_elim
    (λ (x : (i < length ps) × (entry (ps ++ qs) i ≡ entry ps i)). subst P (sym x.1) (f i x.0))
    (λ (x : (j : ℕ) × (i ≡ length ps + j) × (j < length qs) × (entry (ps ++ qs) i ≡ entry qs j)). subst P (sym x.3) (g x.0 x.2))
    (place ps qs i h)

pub only_first : (P : List ℕ → Type 0) (ps qs : List (List ℕ)) → ExactlyOne P ps → ((i : ℕ) → i < length qs → P (entry qs i) → ⊥) → ExactlyOne P (ps ++ qs)
only_first P ps qs o f =
    let i : ℕ = o.0 in
    let sum : length (ps ++ qs) ≡ length ps + length qs = length-append ps qs in (
      i,
      omega (arith, o.1),
      subst P (sym (get_or-append ps qs [] i o.1)) o.2,
      λ j h y.
          ⊎_elim
          (λ (x : (j < length ps) × (entry (ps ++ qs) j ≡ entry ps j)). o.3 j x.0 (subst P x.1 y))
          (λ (x : (k : ℕ) × (j ≡ length ps + k) × (k < length qs) × (entry (ps ++ qs) j ≡ entry qs k)). absurd (f x.0 x.2 (subst P x.3 y)))
          (place ps qs j h),
    )

pub only_second : (P : List ℕ → Type 0) (ps qs : List (List ℕ)) → ((i : ℕ) → i < length ps → P (entry ps i) → ⊥) → ExactlyOne P qs → ExactlyOne P (ps ++ qs)
only_second P ps qs f o =
    let i : ℕ = o.0 in
    let sum : length (ps ++ qs) ≡ length ps + length qs = length-append ps qs in (
      length ps + i,
      omega (arith, o.1),
      subst P (sym (get_or-append-add ps qs i [])) o.2,
      λ j h y.
          ⊎_elim
          (λ (x : (j < length ps) × (entry (ps ++ qs) j ≡ entry ps j)). absurd (f j x.0 (subst P x.1 y)))
          (λ (x : (k : ℕ) × (j ≡ length ps + k) × (k < length qs) × (entry (ps ++ qs) j ≡ entry qs k)).
          x.1 ∙ ap (λ (z : ℕ). length ps + z) (o.3 x.0 x.2 (subst P x.3 y)))
          (place ps qs j h),
    )

-- each entry is related to each later one
abbrev pub Ordered : (List ℕ → List ℕ → Type 0) → List (List ℕ) → Type 0
Ordered R ps = (i j : ℕ) → i < j → j < length ps → R (entry ps i) (entry ps j)

pub ordered_joined : (R : List ℕ → List ℕ → Type 0) (ps qs : List (List ℕ)) → Ordered R ps → Ordered R qs → ((i j : ℕ) → i < length ps → j < length qs → R (entry ps i) (entry qs j)) → Ordered R (ps ++ qs)
ordered_joined R ps qs f g h i j lt l =
    ⊎_elim
    (λ (x : (j < length ps) × (entry (ps ++ qs) j ≡ entry ps j)).
    let li : i < length ps = omega (arith, x.0) in
    subst₂ R (sym (get_or-append ps qs [] i li)) (sym x.1) (f i j lt x.0))
    (λ (x : (k : ℕ) × (j ≡ length ps + k) × (k < length qs) × (entry (ps ++ qs) j ≡ entry qs k)).
    ⊎_elim
    (λ (y : (i < length ps) × (entry (ps ++ qs) i ≡ entry ps i)). subst₂ R (sym y.1) (sym x.3) (h i x.0 y.0 x.2))
    (λ (y : (k : ℕ) × (i ≡ length ps + k) × (k < length qs) × (entry (ps ++ qs) i ≡ entry qs k)).
    subst₂ R (sym y.3) (sym x.3) (g y.0 x.0 (omega (arith, x.1, y.1)) x.2))
    (place ps qs i (omega arith)))
    (place ps qs j l)

-- every entry has P
abbrev pub Every : (List ℕ → Type 0) → List (List ℕ) → Type 0
Every P ps = (i : ℕ) → i < length ps → P (entry ps i)

-- every entry of the first stands in the second
abbrev pub Covered : List (List ℕ) → List (List ℕ) → Type 0
Covered ps qs = (i : ℕ) → i < length ps → (j : ℕ) × (j < length qs) × (entry qs j ≡ entry ps i)

module _ (P : List ℕ → Type 0) (R : List ℕ → List ℕ → Type 0) (apart : (p q : List ℕ) → P p → P q → R p q → R q p → ⊥) where
  -- both heads stand in the other list, and only one of them could stand before the other
  same_head : (p q : List ℕ) (ps qs : List (List ℕ)) → Every P (p ∷ ps) → Every P (q ∷ qs) → Ordered R (p ∷ ps) → Ordered R (q ∷ qs) → Covered (p ∷ ps) (q ∷ qs) → Covered (q ∷ qs) (p ∷ ps) → p ≡ q
  same_head p q ps qs hp hq op oq f g =
      let x = f 0 (omega arith) in
      let y = g 0 (omega arith) in
      go x.0 y.0 x.1 y.1 x.2 y.2
    where
      go : (j k : ℕ) → j < suc (length qs) → k < suc (length ps) → entry (q ∷ qs) j ≡ p → entry (p ∷ ps) k ≡ q → p ≡ q
      go zero k lj lk ej ek = sym ej
      go (suc j) zero lj lk ej ek = ek
      go (suc j) (suc k) lj lk ej ek =
          let pq : R p q = subst (R p) ek (op 0 (suc k) (omega arith) lk) in
          let qp : R q p = subst (R q) ej (oq 0 (suc j) (omega arith) lj) in
          absurd (apart p q (hp 0 (omega arith)) (hq 0 (omega arith)) pq qp)

  -- an entry of the tail is not the head
  tail_covered : (p q : List ℕ) (ps qs : List (List ℕ)) → p ≡ q → Every P (p ∷ ps) → Ordered R (p ∷ ps) → Covered (p ∷ ps) (q ∷ qs) → Covered ps qs
  tail_covered p q ps qs e h o f i l =
      let x = f (suc i) (omega arith) in
      go x.0 x.1 x.2
    where
      go : (j : ℕ) → j < suc (length qs) → entry (q ∷ qs) j ≡ entry ps i → (j : ℕ) × (j < length qs) × (entry qs j ≡ entry ps i)
      go (suc j) lj ej = (j, le_of_suc-le-suc lj, ej)
      go zero lj ej =
          let pp : R p p = subst (R p) (sym ej ∙ sym e) (o 0 (suc i) (omega arith) (omega arith)) in
          absurd (apart p p (h 0 (omega arith)) (h 0 (omega arith)) pp pp)

  pub same_lists : (ps qs : List (List ℕ)) → Every P ps → Every P qs → Ordered R ps → Ordered R qs → Covered ps qs → Covered qs ps → ps ≡ qs
  same_lists [] [] hp hq op oq f g = refl
  same_lists [] (q ∷ qs) hp hq op oq f g = absurd (omega (arith, (g 0 (omega arith)).1))
  same_lists (p ∷ ps) [] hp hq op oq f g = absurd (omega (arith, (f 0 (omega arith)).1))
  same_lists (p ∷ ps) (q ∷ qs) hp hq op oq f g =
      let e : p ≡ q = same_head p q ps qs hp hq op oq f g in
      let rest : ps ≡ qs = same_lists ps qs (λ i l. hp (suc i) (omega arith)) (λ i l. hq (suc i) (omega arith)) (λ i j lt l. op (suc i) (suc j) (omega arith) (omega arith)) (λ i j lt l. oq (suc i) (suc j) (omega arith) (omega arith)) (tail_covered p q ps qs e hp op f) (tail_covered q p qs ps (sym e) hq oq g) in
      ap₂ ◌∷◌ e rest
