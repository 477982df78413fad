-- The lines: as they are stored part by part, how long they are, and a reading's line off tables.
use Prim.Native.Nat.{ℕ, zero, suc, ◌+◌, ◌*◌, ◌≤◌, ◌<◌}
use mathlib.Core.Path.{◌≡◌, refl, sym, ◌∙◌}
use mathlib.Core.List.{List, [], ◌∷◌, ◌++◌, append-nil, append_assoc}
use mathlib.Core.Bool.{true, false, cond, not, ◌&&◌}
use mathlib.Core.Logic.{⊎_elim}
use native.Mathlib.Nat.{eq-or-lt_of_le}
use native.Mathlib.Omega.{arith}
use lib.Dec.{eqb}
use lib.ListN.{length, get_or, take, length-append}
use lib.Seq.{get_or-take}
use borrow.Author.Tests.{eq-eqb, ne_eqb}
use Rattle.base_finite.specs.Below.{spread}
use Rattle.base_finite.proofs.Laws.{by_bool, spread_ext}
use Rattle.base_finite.proofs.Runs.{spread_gap}
use Rattle.base_nodeset.specs.Set.{mem, Lowest}
use Rattle.base_nodeset.specs.declared.NodeSet.{NodeSet}
use Rattle.graph.specs.Graph.{Graph, root, none}
use Rattle.graph.specs.Placing.{at}
use Rattle.format.specs.Refusal.{number}
use Rattle.format.specs.Text.{decimal, line, readings_word, more_than_words, refused_word, count_line, reading_line, refused_line}
use Rattle.format.specs.declared.Refusal.{Refusal}
use Rattle.format.specs.declared.Refusal.TheVariants.{Missing, Command, Range, Tree, Ends, TooMany, NoReading, SmallBuffer, NoSuchReading, TooLong, Overgrown, Label, Overlap, Hole}
use Rattle.graph.specs.declared.Count.{Count}
use Rattle.graph.specs.declared.Count.TheVariants.{Exactly, More}
use Rattle.base_text.specs.Lines.{pair, hung_at, hung_in, line_in, hex_bytes, hex_line}
use Rattle.base_text.proofs.Digits.{decimal_short, decimal_two, decimal_three, hex_length}

line_length : (text : List ℕ) → length (line text) ≡ length text + 1
line_length text = length-append text (10 ∷ [])

pub number_line_length : (word : List ℕ) (k : ℕ) → length (line (word ++ decimal k)) ≡ length word + length (decimal k) + 1
number_line_length word k = rw (line_length, length-append)

-- a refusal's line

refusal_number : (why : Refusal) → number why < 100
refusal_number Missing = omega arith
refusal_number Command = omega arith
refusal_number Range = omega arith
refusal_number Tree = omega arith
refusal_number Ends = omega arith
refusal_number TooMany = omega arith
refusal_number NoReading = omega arith
refusal_number SmallBuffer = omega arith
refusal_number NoSuchReading = omega arith
refusal_number TooLong = omega arith
refusal_number Overgrown = omega arith
refusal_number Label = omega arith
refusal_number Overlap = omega arith
refusal_number Hole = omega arith

pub refused_is : (why : Refusal) (k : ℕ) → k ≡ number why → refused_line why ≡ line (refused_word ++ decimal k)
unfolding refused_line
refused_is why k e = rw e

pub refused_short : (why : Refusal) → length (refused_line why) ≤ 11
refused_short why =
    rw (refused_is why (number why) refl, number_line_length) (omega (arith, decimal_two (number why) (refusal_number why)))

-- the count's line

pub exactly_is : (c : Count) (k : ℕ) → c ≡ Exactly k → count_line c ≡ line (readings_word ++ decimal k)
unfolding count_line
exactly_is c k e = rw e

pub more_is : (c : Count) → c ≡ More → count_line c ≡ line ((readings_word ++ more_than_words) ++ decimal 65535)
unfolding count_line
more_is c e = rw e

pub count_short : (c : Count) → length (count_line c) ≤ 40
count_short (Exactly k) = rw (exactly_is (Exactly k) k refl, number_line_length) (omega (arith, decimal_short k))
count_short More = rw (more_is More refl, number_line_length) (omega (arith, decimal_short 65535))

-- a reading's line

pub pair_top : (l r : ℕ) → l ≡ none → pair l r ≡ []
unfolding pair
pair_top l r e = rw (eq-eqb l none e)

pub pair_is : (l r : ℕ) → (l ≡ none → ⊥) → pair l r ≡ 32 ∷ decimal r ++ 58 ∷ decimal l
unfolding pair
pair_is l r d = rw (ne_eqb l none d)

pub pair_length : (l r : ℕ) → (l ≡ none → ⊥) → length (pair l r) ≡ 2 + length (decimal r) + length (decimal l)
pair_length l r d = rw (pair_is l r d, length-append) (omega arith)

module _ (roots : NodeSet) where
  hung_short : (l r : ℕ) → l < 1000 → r < 1000 → length (hung_at roots l r) ≤ 8
  unfolding hung_at
  hung_short l r hl hr =
      by_bool (mem roots r && not (eqb l none))
      (λ (e : (mem roots r && not (eqb l none)) ≡ true). rw (e, length-append) (omega (arith, decimal_three r hr, decimal_three l hl)))
      (λ (e : (mem roots r && not (eqb l none)) ≡ false). rw e (omega arith))

  -- where no number below n is a root nothing is hung
  pub hung_none : (p : List ℕ) (n : ℕ) → ((k : ℕ) → k < n → mem roots k ≡ false) → hung_in roots p n ≡ []
  unfolding hung_in hung_at spread
  hung_none p n none = spread_gap (λ r. hung_at roots (get_or p r 0) r) 0 n (omega arith) (λ k a b. rw (none k b))

  all_short : (p : List ℕ) → ((v : ℕ) → get_or p v 0 < 256) → (n : ℕ) → n ≤ 128 → length (hung_in roots p n) ≤ 8 * n
  unfolding hung_in spread
  all_short p bytes zero h = omega arith
  all_short p bytes (suc n) h =
      let before : length (hung_in roots p n) ≤ 8 * n = all_short p bytes n (omega arith) in
      let last = hung_short (get_or p n 0) n (omega (arith, bytes n)) (omega arith) in
      rw length-append (omega arith)

  module _ (n : ℕ) (p : List ℕ) (k : ℕ) where
    pub reading_is : line_in n roots p k ≡ (decimal k ++ hung_in roots p n) ++ 10 ∷ []
    unfolding line_in
    reading_is = refl

    -- a number of at most 20 digits, and at most 8 bytes for each node
    pub reading_short : n ≤ 128 → ((v : ℕ) → get_or p v 0 < 256) → length (decimal k) + length (hung_in roots p n) < 1100
    reading_short few bytes = omega (arith, decimal_short k, all_short p bytes n few)

    -- off the tables of a graph it is the line of the placing
    pub line_is : (g : Graph) → n ≡ g.nodes → ((v : ℕ) → mem roots v ≡ root g v) → line_in n roots p k ≡ reading_line g k (take n p)
    unfolding line_in hung_in hung_at reading_line
    line_is g e is =
        let each : (r : ℕ) → r < n → hung_at roots (get_or p r 0) r ≡ cond (root g r && not (eqb (at (take n p) r) none)) (32 ∷ decimal r ++ 58 ∷ decimal (at (take n p) r)) [] =
        λ r l. rw (is r, get_or-take n p r 0 l) in
        rw (spread_ext n _ _ each, e)

-- the lowest root comes first, and then the others
pub hung_first : (p : List ℕ) {x : ℕ} {left rest : NodeSet} → Lowest left x rest → (n : ℕ) → x < n → hung_in left p n ≡ pair (get_or p x 0) x ++ hung_in rest p n
unfolding hung_in hung_at pair spread
hung_first p first zero h = absurd (omega arith)
hung_first p {x} {left} {rest} first (suc n) h =
    ⊎_elim
    (λ (e : x ≡ n).
    rw (
      ← e,
      hung_none left p x first.none_lower,
      hung_none rest p x (λ k l. first.others k ∙ rw (first.none_lower k l, ne_eqb k x (omega arith))),
      first.in_set,
      first.others x,
      eq-eqb x x (omega arith),
    )
    (sym (append-nil (pair (get_or p x 0) x))))
    (λ (b : x < n).
    rw (hung_first p first n b, first.others n, ne_eqb n x (omega arith))
    (append_assoc (pair (get_or p x 0) x) (hung_in rest p n) (hung_at left (get_or p n 0) n)))
    (eq-or-lt_of_le (omega arith))

pub hung_first_length : (p : List ℕ) {x : ℕ} {left rest : NodeSet} → Lowest left x rest → (n : ℕ) → x < n → length (hung_in left p n) ≡ length (pair (get_or p x 0) x) + length (hung_in rest p n)
hung_first_length p first n h = rw (hung_first p first n h, length-append)

-- bytes in hexadecimal

pub hex_line_is : (bs : List ℕ) → hex_line bs ≡ hex_bytes bs ++ 10 ∷ []
unfolding hex_line
hex_line_is bs = refl

pub hex_line_length : (bs : List ℕ) → length (hex_line bs) ≡ 2 * length bs + 1
unfolding hex_line
hex_line_length bs = rw (line_length, hex_length)
