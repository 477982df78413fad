-- A fragment and a leaf are drawn in three parts: a number, the run of what is inside, and the closing bracket.
use Prim.Native.Nat.{ℕ, ◌+◌, ◌-◌, ◌≤◌, ◌<◌}
use mathlib.Core.Path.{◌≡◌, refl, sym, ◌∙◌}
use mathlib.Core.List.{List, [], ◌∷◌, ◌++◌}
use mathlib.Core.Bool.{Bool, true, false, cond}
use native.Mathlib.Omega.{arith}
use lib.ListN.{length, length-append}
use borrow.Author.Tests.{eqb-false}
use Rattle.base_finite.specs.Below.{any}
use Rattle.base_finite.specs.Stores.{entry_is}
use Rattle.format.specs.Text.{decimal}
use Rattle.show_drawing.specs.declared.Pen.{Pen}
use Rattle.show_drawing.specs.Drawn.{leaf_in, fragment_in, size_in, hung_leaf_in, hung_in, hung_size_in, leaves_in, leaves_size_in, Ready, Moved}
use Rattle.show_drawing.proofs.Texts.{fragment_some, size_some}
use Rattle.show_drawing.proofs.Loops.{moved_none, moved_long, moved_more, Running, running_done, Marked}

-- three parts, of which the second has all the fragments
module _ (a b c : List ℕ) {size n : ℕ} {from : Pen} {old : List ℕ} (r : Ready (a ++ b ++ c) size n from old) where
  all_long : length (a ++ b ++ c) ≡ length a + length b + length c
  all_long = rw (length-append (a ++ b) c, length-append a b)

  first_room : from.at + length a ≤ length old
  first_room = omega (arith, all_long, r.room)

  module _ {mid : Pen} {out : List ℕ} (m : Moved a 0 from old mid out) where
    second_ready : Ready b size n mid out
    second_ready =
        record {
          room = omega (arith, all_long, r.room, m.written.after, moved_long m);
          enough = omega (arith, r.enough, m.counted);
          few = omega (arith, r.few, m.counted);
        }

    module _ {pen : Pen} {new : List ℕ} (k : Moved b size mid out pen new) where
      third_room : pen.at + length c ≤ length new
      third_room = omega (arith, all_long, r.room, m.written.after, k.written.after, moved_long m, moved_long k)

      three_moved : {last : Pen} {end : List ℕ} → Moved c 0 pen new last end → Moved (a ++ b ++ c) size from old last end
      three_moved j =
          let two : Moved (a ++ b) size from old pen new = moved_more m b k (omega arith) in
          moved_more two c j (omega arith)

-- a fragment counts itself, and goes on with one less not yet drawn
abbrev pub with_left : Pen → ℕ → Pen
with_left pen left = record { at = pen.at; left = left }

module _ (home p : List ℕ) (r : ℕ) {n : ℕ} {from : Pen} {old : List ℕ} (ready : Ready (fragment_in n n home p r) (size_in n n home p r) n from old) where
  few : size_in n n home p r ≤ n
  few = omega (arith, ready.enough, ready.few)

  pub one_left : 1 ≤ from.left
  one_left = omega (arith, size_some n home p r few, ready.enough)

  parts_ready : (left : ℕ) → left ≡ from.left - 1 → Ready (decimal r ++ leaves_in n home p r ++ 41 ∷ []) (leaves_size_in n home p r) n (with_left from left) old
  parts_ready left less =
      record {
        room = rw (fragment_some n home p r few) at ready.room;
        enough = omega (arith, size_some n home p r few, ready.enough);
        few = omega (arith, ready.few);
      }

  pub root_room : from.at + length (decimal r) ≤ length old
  root_room = first_room (decimal r) (leaves_in n home p r) (41 ∷ []) (parts_ready (from.left - 1) refl)

  module _ {left : ℕ} {mid : Pen} {out : List ℕ} (m : Moved (decimal r) 0 (with_left from left) old mid out) (less : left ≡ from.left - 1) where
    pub leaves_ready : Ready (leaves_in n home p r) (leaves_size_in n home p r) n mid out
    leaves_ready = second_ready (decimal r) (leaves_in n home p r) (41 ∷ []) (parts_ready left less) m

    module _ {pen : Pen} {new : List ℕ} {x : ℕ} (w : Running (40 ∷ []) (44 ∷ []) (λ l. hung_leaf_in n home p l) (λ l. hung_size_in n home p l) (entry_is home r) n out mid new pen x) where
      -- so the number falls
      pub one_less : pen.left < from.left
      one_less = omega (arith, one_left, m.counted, w.so_far.counted)

      module _ (h : n ≤ x) where
        pub end_room : pen.at < length new
        end_room = omega (arith, third_room (decimal r) (leaves_in n home p r) (41 ∷ []) (parts_ready left less) m (running_done w h))

        pub fragment_moved : {last : Pen} {end : List ℕ} → Moved (41 ∷ []) 0 pen new last end → Moved (fragment_in n n home p r) (size_in n n home p r) from old last end
        fragment_moved j =
            let all = three_moved (decimal r) (leaves_in n home p r) (41 ∷ []) (parts_ready left less) m (running_done w h) j in
            record {
              written = rw (fragment_some n home p r few) all.written;
              counted = omega (arith, size_some n home p r few, all.counted, less);
            }

-- a leaf has a closing bracket where a fragment hangs under it
abbrev close : Bool → List ℕ
close c = cond c (93 ∷ []) []

-- the mark tells
mark_first : (c : Bool) (mark : ℕ) → mark ≡ cond c 59 91 → mark ≡ 91 → c ≡ false
mark_first true mark e i = absurd (eqb-false 59 91 refl (sym e ∙ i))
mark_first false mark e i = refl

mark_other : (c : Bool) (mark : ℕ) → mark ≡ cond c 59 91 → (mark ≡ 91 → ⊥) → c ≡ true
mark_other true mark e d = refl
mark_other false mark e d = absurd (d e)

module _ (home p : List ℕ) (l : ℕ) {n : ℕ} {from : Pen} {old : List ℕ} (ready : Ready (hung_leaf_in n home p l) (hung_size_in n home p l) n from old) where
  leaf_ready : Ready (decimal l ++ hung_in n home p l ++ close (any n (entry_is p l))) (hung_size_in n home p l) n from old
  unfolding leaf_in
  leaf_ready = ready

  pub leaf_room : from.at + length (decimal l) ≤ length old
  leaf_room = first_room (decimal l) (hung_in n home p l) (close (any n (entry_is p l))) leaf_ready

  module _ {mid : Pen} {out : List ℕ} (m : Moved (decimal l) 0 from old mid out) where
    pub hung_ready : Ready (hung_in n home p l) (hung_size_in n home p l) n mid out
    hung_ready = second_ready (decimal l) (hung_in n home p l) (close (any n (entry_is p l))) leaf_ready m

    module _ {pen : Pen} {new : List ℕ} {mark x : ℕ} (w : Marked 91 59 (λ s. fragment_in n n home p s) (λ s. size_in n n home p s) (entry_is p l) n out mid new pen mark x) where
      pub none_more : pen.left ≤ from.left
      none_more = omega (arith, m.counted, w.running.so_far.counted)

      module _ (h : n ≤ x) where
        mark_told : mark ≡ cond (any n (entry_is p l)) 59 91
        mark_told =
            let all : x ≡ n = omega (arith, w.running.few) in
            rw all at w.mark_is

        leaf_moved : {last : Pen} {end : List ℕ} → Moved (close (any n (entry_is p l))) 0 pen new last end → Moved (hung_leaf_in n home p l) (hung_size_in n home p l) from old last end
        unfolding leaf_in
        leaf_moved = three_moved (decimal l) (hung_in n home p l) (close (any n (entry_is p l))) leaf_ready m (running_done w.running h)

        pub plain_moved : mark ≡ 91 → Moved (hung_leaf_in n home p l) (hung_size_in n home p l) from old pen new
        plain_moved i = leaf_moved (rw (mark_first (any n (entry_is p l)) mark mark_told i) (moved_none pen new))

        module _ (d : mark ≡ 91 → ⊥) where
          some : any n (entry_is p l) ≡ true
          some = mark_other (any n (entry_is p l)) mark mark_told d

          pub bracket_room : pen.at < length new
          bracket_room =
              let room = third_room (decimal l) (hung_in n home p l) (close (any n (entry_is p l))) leaf_ready m (running_done w.running h) in
              omega (arith, rw some at room)

          pub hung_leaf_moved : {last : Pen} {end : List ℕ} → Moved (93 ∷ []) 0 pen new last end → Moved (hung_leaf_in n home p l) (hung_size_in n home p l) from old last end
          hung_leaf_moved j = leaf_moved (rw some j)
