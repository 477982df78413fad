-- The tests place by place: each loop's step, and what each branch of the code says of its test.
use Prim.Native.Nat.{ℕ, ◌+◌, ◌<◌}
use mathlib.Core.Path.{◌≡◌, refl, sym, ap, ◌∙◌}
use mathlib.Core.List.{List}
use mathlib.Core.Bool.{Bool, true, false, not, ◌&&◌, ◌||◌}
use lib.Dec.{eqb, ltb}
use borrow.Author.Tests.{lt-ltb, eq-eqb}
use Rattle.base_finite.specs.Below.{any}
use Rattle.base_finite.proofs.Laws.{any_more, any_ext, or_comm}
use Rattle.base_nodeset.specs.Set.{mem, Intersection}
use Rattle.base_nodeset.specs.declared.NodeSet.{NodeSet}
use Rattle.graph.specs.Cycle.{node, kind, next}
use Rattle.base_tables.specs.Rows.{in_row}
use Rattle.check_cycle.specs.Check.{LeafSet, fresh, starts_from, starts_at, spare}

-- a call's answer decides the test that it is equal to

pub passed : {r b : Bool} → r ≡ b → r ≡ true → b ≡ true
passed e h = sym e ∙ h

pub failed : {r b : Bool} → r ≡ b → r ≡ false → b ≡ false
failed e h = sym e ∙ h

-- the nodes before place i

abbrev pub seen_before : List ℕ → ℕ → ℕ → Bool
seen_before bs i u = any i (λ j. eqb u (node bs j))

pub seen_none : (bs : List ℕ) (u : ℕ) → seen_before bs 0 u ≡ false
unfolding any
seen_none bs u = refl

pub seen_more : (bs : List ℕ) (i u : ℕ) → (eqb u (node bs i) || seen_before bs i u) ≡ seen_before bs (i + 1) u
seen_more bs i u = or_comm (eqb u (node bs i)) (seen_before bs i u) ∙ sym (any_more i (λ j. eqb u (node bs j)))

module _ (n : ℕ) (bs : List ℕ) (i : ℕ) where
  -- a number is tested by the set of those seen
  pub fresh_is : (seen : NodeSet) (u : ℕ) → ((v : ℕ) → mem seen v ≡ seen_before bs i v) → u ≡ node bs i → (ltb u n && not (mem seen u)) ≡ fresh n bs i
  unfolding fresh
  fresh_is seen u s e = rw (s u, e)

  pub node_new : node bs i < n → seen_before bs i (node bs i) ≡ false → fresh n bs i ≡ true
  unfolding fresh
  node_new h e = rw (lt-ltb (node bs i) n h, e)

-- the leaves that dominance edges start from

module _ (heads : List NodeSet) (bs : List ℕ) (i : ℕ) where
  pub leaf_first : kind bs i ≡ 3 → in_row heads (node bs i) (next bs i) ≡ true → (x : ℕ) → starts_at heads bs i x ≡ eqb x (node bs i)
  unfolding starts_from
  leaf_first h e x = rw (eq-eqb (kind bs i) 3 h, e)

  pub leaf_second : kind bs i ≡ 3 → in_row heads (node bs i) (next bs i) ≡ false → (x : ℕ) → starts_at heads bs i x ≡ eqb x (next bs i)
  unfolding starts_from
  leaf_second h e x = rw (eq-eqb (kind bs i) 3 h, e)

abbrev pub used_before : List NodeSet → List ℕ → ℕ → ℕ → Bool
used_before heads bs i x = any i (λ j. starts_at heads bs j x)

pub used_none : (heads : List NodeSet) (bs : List ℕ) (x : ℕ) → used_before heads bs 0 x ≡ false
unfolding any
used_none heads bs x = refl

pub used_more : (heads : List NodeSet) (bs : List ℕ) (i x : ℕ) → (used_before heads bs i x || starts_at heads bs i x) ≡ used_before heads bs (i + 1) x
used_more heads bs i x = sym (any_more i (λ j. starts_at heads bs j x))

-- no leaf is in both sets
pub spare_is : (heads : List NodeSet) (bs : List ℕ) (i : ℕ) (used leaf both : NodeSet)
    → ((x : ℕ) → mem used x ≡ used_before heads bs i x) → LeafSet heads (kind bs i) (node bs i) (next bs i) leaf → Intersection used leaf both
    → not (any 128 (mem both)) ≡ spare heads bs i
unfolding spare
spare_is heads bs i used leaf both u l b =
    ap not (any_ext 128 (mem both) _ (λ x h. b x ∙ rw (u x, l x)))
