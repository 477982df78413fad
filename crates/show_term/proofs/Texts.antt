-- The texts part by part, and the room for each part.
use Prim.Native.Nat.{ℕ, zero, suc, ◌+◌, ◌-◌, ◌*◌, ◌≤◌, ◌<◌}
use mathlib.Core.Path.{◌≡◌, refl, sym, ◌∙◌}
use mathlib.Core.List.{List, [], ◌∷◌, ◌++◌, append_assoc}
use mathlib.Core.Bool.{true, false}
use native.Mathlib.Omega.{arith}
use lib.ListN.{length, get_or, length-append}
use Rattle.base_finite.specs.Stores.{Written}
use Rattle.base_finite.proofs.Stores.{written_more, written_length}
use Rattle.base_nodeset.specs.Set.{mem}
use Rattle.base_nodeset.specs.declared.NodeSet.{NodeSet}
use Rattle.graph.specs.Graph.{none}
use Rattle.graph.specs.Term.{Term}
use Rattle.format.specs.Term.{both, filler, each, nested, carrying, topmost, text, arguments, others}
use Rattle.format.specs.Text.{decimal, digits}
use Rattle.show_term.specs.declared.Place.{Place}
use Rattle.show_term.specs.declared.Roots.{Roots}
use Rattle.show_term.specs.Terms.{roots_from, child_in, term_in, node_text, arguments_text, others_text, hole_text, topmost_text, pair_text, Next, Room}
use Rattle.show_term.proofs.Lists.{children_none, children_some}

-- A text in two parts: the first is written, and then the second.
pub record Parts (whole a b : List ℕ) : Type 0 where
  pub are : whole ≡ a ++ b

module _ {whole a b : List ℕ} (parts : Parts whole a b) {at : ℕ} {old : List ℕ} where
  pub first_room : Room whole at old → Room a at old
  first_room r = record { fits = omega (arith, rw (parts.are, length-append) at r.fits) }

  module _ {mid : List ℕ} {next : ℕ} (w : Written old at a mid next) where
    pub second_room : Room whole at old → Room b next mid
    second_room r =
        record { fits = omega (arith, rw (parts.are, length-append) at r.fits, w.after, written_length old at a mid next w) }

    pub both_written : {new : List ℕ} {end : ℕ} → Written mid next b new end → Written old at whole new end
    both_written {new} {end} v = rw parts.are (written_more old at a mid next b new end w v)

pub in_parts : (a b : List ℕ) → Parts (a ++ b) a b
in_parts a b = record { are = refl }

-- the same text
pub same_room : {whole a : List ℕ} → whole ≡ a → {at : ℕ} {out : List ℕ} → Room whole at out → Room a at out
same_room e {at} {out} r = record { fits = rw e at r.fits }

pub same_written : {whole a : List ℕ} → whole ≡ a → {at : ℕ} {old new : List ℕ} {end : ℕ} → Written old at a new end → Written old at whole new end
same_written e w = rw e w

-- Bytes are written, and the next place is behind them. So the number falls that is four times the bytes left, and at most 3 more.
pub record Behind (at : ℕ) (old : List ℕ) (next : ℕ) (mid : List ℕ) : Type 0 where
  pub later : at < next
  pub within : next ≤ length mid
  pub long : length mid ≡ length old

pub behind : {bytes : List ℕ} {at : ℕ} {old mid : List ℕ} {next : ℕ} → Room bytes at old → Written old at bytes mid next → 0 < length bytes → Behind at old next mid
behind {bytes} {at} {old} {mid} {next} r w some =
    record {
      later = omega (arith, w.after);
      within = omega (arith, r.fits, w.after, written_length old at bytes mid next w);
      long = written_length old at bytes mid next w;
    }

pub behind_more : {at : ℕ} {old : List ℕ} {next : ℕ} {mid : List ℕ} → Behind at old next mid → {bytes new : List ℕ} {end : ℕ} → Room bytes next mid → Written mid next bytes new end → Behind at old end new
behind_more {at} {old} {next} {mid} b {bytes} {new} {end} r w =
    record {
      later = omega (arith, b.later, w.after);
      within = omega (arith, r.fits, w.after, written_length mid next bytes new end w);
      long = written_length mid next bytes new end w ∙ b.long;
    }

pub less_left : {at : ℕ} {old : List ℕ} {next : ℕ} {mid : List ℕ} → Behind at old next mid → 4 * (length mid - next) + 3 < 4 * (length old - at)
less_left b = omega (arith, b.later, b.within, b.long)

pub pair_long : 0 < length (decimal 128 ++ 40 ∷ [])
pair_long = omega (arith, length-append (decimal 128) (40 ∷ []))

-- roots beside each other

carrying_pair : (f : ℕ → Term) (r : ℕ) (rs : List ℕ) → carrying f (r ∷ rs) ≡ both (f r) (topmost f rs)
unfolding carrying topmost nested
carrying_pair f r [] = refl
carrying_pair f r (s ∷ rs) = refl

topmost_one : (f : ℕ → Term) (r : ℕ) → topmost f (r ∷ []) ≡ f r
unfolding topmost nested
topmost_one f r = refl

topmost_pair : (f : ℕ → Term) (r s : ℕ) (rs : List ℕ) → topmost f (r ∷ s ∷ rs) ≡ both (f r) (topmost f (s ∷ rs))
unfolding topmost nested
topmost_pair f r s rs = refl

pub filler_text : text filler ≡ 48 ∷ []
unfolding text decimal digits
filler_text = refl

module _ (k : ℕ) (table : List ℕ) (labelled : NodeSet) (above : List ℕ) where
  abbrev below : ℕ → Term
  below v = term_in k table labelled above v

  pub arguments_none : (v c : ℕ) → c ≡ child_in table v 0 → c ≡ none → arguments_text k table labelled above v ≡ []
  unfolding arguments each
  arguments_none v c e i = rw (children_none table v 0 (sym e ∙ i))

  pub arguments_some : (v c : ℕ) → c ≡ child_in table v 0 → (c ≡ none → ⊥)
      → Parts (arguments_text k table labelled above v) (40 ∷ []) (node_text k table labelled above c ++ others_text k table labelled above (record { of = v; number = 1 }))
  unfolding arguments each
  arguments_some v c e d = record { are = rw (children_some table v 0 (λ i. d (e ∙ i)), ← e) }

  pub others_none : (p : Place) (c : ℕ) → c ≡ child_in table p.of p.number → c ≡ none → others_text k table labelled above p ≡ 41 ∷ []
  unfolding others each
  others_none p c e i = rw (children_none table p.of p.number (sym e ∙ i))

  pub others_some : (p : Place) (c : ℕ) → c ≡ child_in table p.of p.number → (c ≡ none → ⊥)
      → Parts (others_text k table labelled above p) (44 ∷ []) (node_text k table labelled above c ++ others_text k table labelled above (record { of = p.of; number = p.number + 1 }))
  unfolding others each
  others_some p c e d = record { are = rw (children_some table p.of p.number (λ i. d (e ∙ i)), ← e) }

  pub hole_empty : (v r : ℕ) → Next above v 0 r → r ≡ length above → hole_text k table labelled above v ≡ 48 ∷ []
  unfolding carrying
  hole_empty v r n e = rw (n.nothing e) filler_text

  pub hole_pair : (v r : ℕ) → Next above v 0 r → r < length above → hole_text k table labelled above v ≡ pair_text k table labelled above r
  hole_pair v r n h = rw (n.lowest h, n.is_below h, carrying_pair below r (roots_from above v (r + 1)))

  pub pair_parts : (r : ℕ)
      → Parts (pair_text k table labelled above r) (decimal 128 ++ 40 ∷ []) (node_text k table labelled above r ++ ((44 ∷ []) ++ (topmost_text k table labelled above (record { under = get_or above r 0; from = r + 1 }) ++ 41 ∷ [])))
  unfolding text
  pair_parts r = record { are = rw (append_assoc (decimal 128) (40 ∷ [])) }

  pub topmost_none : (s : Roots) (r : ℕ) → Next above s.under s.from r → r ≡ length above → topmost_text k table labelled above s ≡ 48 ∷ []
  unfolding topmost
  topmost_none s r n e = rw (n.nothing e) filler_text

  module _ (s : Roots) (r q : ℕ) (n : Next above s.under s.from r) (h : r < length above) (m : Next above s.under (r + 1) q) where
    pub topmost_alone : q ≡ length above → topmost_text k table labelled above s ≡ node_text k table labelled above r
    topmost_alone e = rw (n.lowest h, m.nothing e, topmost_one below r)

    pub topmost_several : q < length above → topmost_text k table labelled above s ≡ pair_text k table labelled above r
    topmost_several e = rw (n.lowest h, n.is_below h, m.lowest e, topmost_pair below r q (roots_from above s.under (q + 1)))

-- a node, and what is one less deep below it

module _ (table : List ℕ) (labelled : NodeSet) (above : List ℕ) where
  pub node_deep : (k v : ℕ) → k ≡ 0 → node_text k table labelled above v ≡ 48 ∷ []
  unfolding term_in
  node_deep k v e = rw e filler_text

  pub node_hole : (k v : ℕ) → (k ≡ 0 → ⊥) → mem labelled v ≡ false → node_text k table labelled above v ≡ hole_text (k - 1) table labelled above v
  unfolding term_in
  node_hole zero v d e = absurd (d refl)
  node_hole (suc k) v d e = let less : suc k - 1 ≡ k = omega arith in rw (less, e)

  pub node_labelled : (k v : ℕ) → (k ≡ 0 → ⊥) → mem labelled v ≡ true → Parts (node_text k table labelled above v) (decimal (get_or table (4 * v) 0)) (arguments_text (k - 1) table labelled above v)
  unfolding term_in text
  node_labelled zero v d e = absurd (d refl)
  node_labelled (suc k) v d e = let less : suc k - 1 ≡ k = omega arith in record { are = rw (less, e) }
