-- The lines of the readings, one after the other, and the line read off one of the placings that stand one after the other.
use Prim.Native.Nat.{ℕ, zero, suc, ◌+◌, ◌-◌, ◌*◌, ◌≤◌, ◌<◌, min}
use mathlib.Core.Path.{◌≡◌, sym, ap, subst, ◌∙◌}
use mathlib.Core.List.{List, [], ◌∷◌, ◌++◌, append_assoc, append-nil}
use mathlib.Core.Bool.{true, false}
use native.Mathlib.Nat.{zero-mul, suc-mul, mul-le-mul_right}
use native.Mathlib.Omega.{arith}
use lib.Dec.{leb}
use lib.ListN.{length, take, drop, length-append, length-drop}
use lib.Seq.{length-take-le, take_at, take_all, take-length, get_or-take, get_or-drop, drop-append-add}
use borrow.Author.Tests.{leb-true, leb-false}
use Rattle.base_finite.specs.Stores.{Written, joined}
use Rattle.base_finite.proofs.Laws.{by_bool}
use Rattle.base_finite.proofs.Stores.{written_more}
use Rattle.graph.specs.Graph.{Graph}
use Rattle.graph.specs.Order.{entry, limit, count_answer}
use Rattle.format.specs.Text.{count_line, reading_line, numbered, printed}
use Rattle.theory_forest.specs.Shape.{Shaped}
use Rattle.theory_forest.proofs.Forests.{placing_length}
use Rattle.theory_list.specs.Readings.{listed}
use Rattle.theory_list.proofs.Readings.{listing_exists}
use Rattle.base_tables.specs.Trees.{TreesOf}
use Rattle.base_tables.specs.declared.trees.Trees.{Trees}
use Rattle.base_text.specs.Lines.{line_in}
use Rattle.base_text.proofs.Lines.{line_is}
use Rattle.show_page.specs.Pages.{lines, Held}

-- one line more
lines_from : (g : Graph) (j k : ℕ) (ps : List (List ℕ)) → k < length ps
    → joined (numbered g j (take (suc k) ps)) ≡ joined (numbered g j (take k ps)) ++ reading_line g (j + k) (entry ps k)
unfolding joined numbered
lines_from g j k [] h = absurd (omega arith)
lines_from g j zero (p ∷ ps) h = append-nil (reading_line g j p) ∙ ap (λ (i : ℕ). reading_line g i p) (omega arith)
lines_from g j (suc k) (p ∷ ps) h =
    ap (λ (ls : List ℕ). reading_line g j p ++ ls) (lines_from g (suc j) k ps (omega arith))
    ∙ sym (append_assoc (reading_line g j p) (joined (numbered g (suc j) (take k ps))) (reading_line g (suc j + k) (entry ps k)))
    ∙ ap (λ (i : ℕ). (reading_line g j p ++ joined (numbered g (suc j) (take k ps))) ++ reading_line g i (entry ps k)) (omega arith)

pub lines_more : (g : Graph) (passed k : ℕ) → passed ≤ k → k < length (listed g)
    → lines g passed (k + 1) ≡ lines g passed k ++ reading_line g (k + 1) (entry (listed g) k)
lines_more g passed k from h =
    let ps : List (List ℕ) = drop passed (listed g) in
    let more : k + 1 - passed ≡ suc (k - passed) = omega (arith, from) in
    let here : passed + (k - passed) ≡ k = omega (arith, from) in
    let numbered_so : suc passed + (k - passed) ≡ k + 1 = omega (arith, from) in
    ap (λ (i : ℕ). joined (numbered g (suc passed) (take i ps))) more
    ∙ lines_from g (suc passed) (k - passed) ps (omega (arith, length-drop passed (listed g), from, h))
    ∙ ap (λ (i : ℕ). lines g passed k ++ reading_line g i (entry ps (k - passed))) numbered_so
    ∙ ap (λ (p : List ℕ). lines g passed k ++ reading_line g (k + 1) p) (get_or-drop passed (listed g) (k - passed) [] ∙ ap (entry (listed g)) here)

pub lines_none : (g : Graph) (k : ℕ) → lines g k k ≡ []
unfolding joined numbered
lines_none g k =
    let nothing : k - k ≡ 0 = omega arith in
    ap (λ (i : ℕ). joined (numbered g (suc k) (take i (drop k (listed g))))) nothing

lines_then : (g : Graph) (passed k more : ℕ) → passed ≤ k → k + more ≤ length (listed g) → lines g passed k ++ lines g k (k + more) ≡ lines g passed (k + more)
lines_then g passed k zero from h =
    let same : k + 0 ≡ k = omega arith in
    ap (λ (i : ℕ). lines g passed k ++ lines g k i) same
    ∙ ap (λ (ls : List ℕ). lines g passed k ++ ls) (lines_none g k)
    ∙ append-nil (lines g passed k)
    ∙ ap (lines g passed) (sym same)
lines_then g passed k (suc more) from h =
    let one : k + suc more ≡ k + more + 1 = omega arith in
    let last : List ℕ = reading_line g (k + more + 1) (entry (listed g) (k + more)) in
    ap (λ (i : ℕ). lines g passed k ++ lines g k i) one
    ∙ ap (λ (ls : List ℕ). lines g passed k ++ ls) (lines_more g k (k + more) (omega arith) (omega (arith, h)))
    ∙ sym (append_assoc (lines g passed k) (lines g k (k + more)) last)
    ∙ ap (λ (ls : List ℕ). ls ++ last) (lines_then g passed k more from (omega (arith, h)))
    ∙ sym (lines_more g passed (k + more) (omega (arith, from)) (omega (arith, h)))
    ∙ ap (lines g passed) (sym one)

-- the lines of one page, and those of the next
pub lines_join : (g : Graph) (passed k last : ℕ) → passed ≤ k → k ≤ last → last ≤ length (listed g) → lines g passed k ++ lines g k last ≡ lines g passed last
lines_join g passed k last from to h =
    let is : k + (last - k) ≡ last = omega (arith, to) in
    ap (λ (i : ℕ). lines g passed k ++ lines g k i) (sym is) ∙ lines_then g passed k (last - k) from (omega (arith, h)) ∙ ap (lines g passed) is

-- placings of n bytes each, one after the other
module _ (n : ℕ) where
  rows_length : (ps : List (List ℕ)) → ((i : ℕ) → i < length ps → length (entry ps i) ≡ n) → length (joined ps) ≡ length ps * n
  unfolding joined
  rows_length [] long = sym (zero-mul n)
  rows_length (p ∷ ps) long =
      length-append p (joined ps)
      ∙ omega (arith, long 0 (omega arith), rows_length ps (λ i h. long (suc i) (omega (arith, h))), suc-mul (length ps) n)

  row_of : (ps : List (List ℕ)) → ((i : ℕ) → i < length ps → length (entry ps i) ≡ n) → (rest : List ℕ) (i : ℕ) → i < length ps → take n (drop (i * n) (joined ps ++ rest)) ≡ entry ps i
  unfolding joined
  row_of [] long rest i h = absurd (omega arith)
  row_of (p ∷ ps) long rest zero h =
      ap (λ (m : ℕ). take n (drop m ((p ++ joined ps) ++ rest))) (zero-mul n)
      ∙ ap (take n) (append_assoc p (joined ps) rest)
      ∙ take_at p (joined ps ++ rest) n (long 0 (omega arith))
  row_of (p ∷ ps) long rest (suc i) h =
      let first : suc i * n ≡ length p + i * n = omega (arith, long 0 (omega arith), suc-mul i n) in
      ap (λ (m : ℕ). take n (drop m ((p ++ joined ps) ++ rest))) first
      ∙ ap (λ (l : List ℕ). take n (drop (length p + i * n) l)) (append_assoc p (joined ps) rest)
      ∙ ap (take n) (drop-append-add p (joined ps ++ rest) (i * n))
      ∙ row_of ps (λ j l. long (suc j) (omega (arith, l))) rest i (omega (arith, h))

-- the row of the number k + 1 is there
pub row_within : (n passed k : ℕ) → passed ≤ k → (last room : ℕ) → k < last → (last - passed) * n ≤ room → (k - passed) * n + n ≤ room
row_within n passed k after last room before fits =
    let more : suc (k - passed) ≡ k + 1 - passed = omega (arith, after) in
    let fewer : k + 1 - passed ≤ last - passed = omega (arith, before) in
    let next : (k - passed) * n + n ≡ (k + 1 - passed) * n = omega (arith, suc-mul (k - passed) n) ∙ ap (λ (m : ℕ). m * n) more in
    omega (arith, next, mul-le-mul_right n fewer, fits)

-- the bytes from there on
rest_is : (at : ℕ) (bytes : List ℕ) → take (length bytes - at) (drop at bytes) ≡ drop at bytes
rest_is at bytes = take_all (length bytes - at) (drop at bytes) (omega (arith, length-drop at bytes))

pub rest_length : (at : ℕ) (bytes : List ℕ) → length (take (length bytes - at) (drop at bytes)) ≡ length bytes - at
rest_length at bytes = ap length (rest_is at bytes) ∙ length-drop at bytes

-- those of a graph
module _ {g : Graph} (shaped : Shaped g) {t : Trees} (trees : TreesOf g t) (passed last : ℕ) (from : passed ≤ last) (within : last ≤ length (listed g)) where
  abbrev some : List (List ℕ)
  some = take (last - passed) (drop passed (listed g))

  some_length : length some ≡ last - passed
  some_length = length-take-le (last - passed) (drop passed (listed g)) (omega (arith, length-drop passed (listed g), within))

  some_entry : (i : ℕ) → i < last - passed → entry some i ≡ entry (listed g) (passed + i)
  some_entry i h = get_or-take (last - passed) (drop passed (listed g)) i [] h ∙ get_or-drop passed (listed g) i []

  some_long : (i : ℕ) → i < length some → length (entry some i) ≡ t.n
  some_long i h =
      let below : i < last - passed = omega (arith, some_length, h) in
      ap length (some_entry i below)
      ∙ placing_length g (entry (listed g) (passed + i)) ((listing_exists g shaped).only_readings (passed + i) (omega (arith, below, within))).solved.is_placing
      ∙ sym trees.nodes

module _ {t : Trees} {passed last : ℕ} {bytes : List ℕ} (s : Held t passed last bytes) (from : passed ≤ last) where
  -- they take n bytes each
  pub held_room : (last - passed) * t.n ≤ length bytes
  held_room =
      let ps : List (List ℕ) = some s.shaped s.trees passed last from s.within in
      let all : length (joined ps) ≡ (last - passed) * t.n =
      rows_length t.n ps (some_long s.shaped s.trees passed last from s.within)
      ∙ ap (λ (m : ℕ). m * t.n) (some_length s.shaped s.trees passed last from s.within) in
      omega (arith, all, ap length s.placed ∙ length-append (joined ps) s.rest)

  -- the line of the one with the number k + 1
  pub line_written : (done k at : ℕ) → passed ≤ done → done ≤ k → k < last → at ≡ (k - passed) * t.n
      → (old : List ℕ) (mid : List ℕ) (start : ℕ) (new : List ℕ) (end : ℕ)
      → Written mid start (line_in t.n t.roots (take (length bytes - at) (drop at bytes)) (k + 1)) new end
      → Written old 0 (lines s.graph done k) mid start → Written old 0 (lines s.graph done (k + 1)) new end
  line_written done k at after so_far before is old mid start new end w lines_so_far =
      let g : Graph = s.graph in
      let part : List ℕ = take (length bytes - at) (drop at bytes) in
      let ps : List (List ℕ) = some s.shaped s.trees passed last from s.within in
      let here : passed + (k - passed) ≡ k = omega (arith, after, so_far) in
      let row : take t.n part ≡ entry (listed g) k =
      ap (take t.n) (rest_is at bytes ∙ ap (λ (m : ℕ). drop m bytes) is ∙ ap (drop ((k - passed) * t.n)) s.placed)
      ∙ row_of t.n ps (some_long s.shaped s.trees passed last from s.within) s.rest (k - passed)
      (omega (arith, some_length s.shaped s.trees passed last from s.within, after, so_far, before))
      ∙ some_entry s.shaped s.trees passed last from s.within (k - passed) (omega (arith, after, so_far, before))
      ∙ ap (entry (listed g)) here in
      let text : line_in t.n t.roots part (k + 1) ≡ reading_line g (k + 1) (entry (listed g) k) =
      line_is t.roots t.n part (k + 1) g s.trees.nodes s.trees.roots_are ∙ ap (reading_line g (k + 1)) row in
      let all : lines g done k ++ line_in t.n t.roots part (k + 1) ≡ lines g done (k + 1) =
      ap (λ (bs : List ℕ). lines g done k ++ bs) text ∙ sym (lines_more g done k so_far (omega (arith, before, s.within))) in
      subst (λ (bs : List ℕ). Written old 0 bs new end) all (written_more old 0 (lines g done k) mid start _ new end lines_so_far w)

take_reach : (ps : List (List ℕ)) (k : ℕ) → take k ps ≡ take (min (length ps) k) ps
take_reach ps k =
    by_bool (leb k (length ps))
    (λ (e : leb k (length ps) ≡ true). let same : k ≡ min (length ps) k = omega (arith, leb-true k (length ps) e) in
    ap (λ (m : ℕ). take m ps) same)
    (λ (e : leb k (length ps) ≡ false).
    let all : min (length ps) k ≡ length ps = omega (arith, leb-false k (length ps) e) in
    take_all k ps (omega (arith, leb-false k (length ps) e)) ∙ sym (ap (λ (m : ℕ). take m ps) all ∙ take-length ps))

-- the printed list is its first line and those of all the readings with a number
pub printed_is : (g : Graph) → joined (printed g (listed g)) ≡ count_line (count_answer (length (listed g))) ++ lines g 0 (min (length (listed g)) limit)
unfolding joined printed
printed_is g =
    let all : min (length (listed g)) limit ≡ min (length (listed g)) limit - 0 = omega arith in
    ap (λ (ps : List (List ℕ)). count_line (count_answer (length (listed g))) ++ joined (numbered g 1 ps))
    (take_reach (listed g) limit ∙ ap (λ (m : ℕ). take m (listed g)) all)
