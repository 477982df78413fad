-- Terms: the worked cases of 02, Five, by computation. Each has the bytes of a labelled sheet, a reading of it, and the bytes of the term; these,
-- read back, give the term.
use Prim.Native.Nat.{ℕ}
use mathlib.Core.Path.{◌≡◌, refl}
use mathlib.Core.List.{List, [], ◌∷◌, map}
use Rattle.base_finite.specs.Below.{any, count, spread, select}
use Rattle.graph.specs.Graph.{among, different, entered, left, root, leaf, parent, rises, cyclic, bare, added_leaf, grown_tree}
use Rattle.graph.specs.Placing.{hangs}
use Rattle.graph.specs.Constraint.{arity}
use Rattle.graph.specs.Term.{Term}
use Rattle.format.specs.Sheet.{Outcome, refused, accepted, children, symbol, twice, mislabelled, overlapping, holed, fitted, overgrown, astray, whole, takes_two, takes_none, beyond, commands, all_commands, outcome_of}
use Rattle.format.specs.Text.{digits, decimal}
use Rattle.format.specs.Term.{filler, each, nested, carrying, topmost, term_at, term, text, snoc, read_byte, read_bytes, read_back}
use Rattle.format.specs.declared.Form.TheVariants.{Labelled}

-- a labelled sheet with one of its readings
abbrev Case : Type 0
Case = List ℕ × List ℕ

abbrev term_of : Outcome → List ℕ → Term
term_of (refused why) p = filler
term_of (accepted s) p = term s p

abbrev terms : List Case → List Term
terms = map (λ c. term_of (outcome_of Labelled c.0) c.1)

-- 0:7 alone; 0:7, 1:9; 0:9, 1:8, 2:7; 0:64 over 0-1; the same with 2:5 and dominance 1-2; 0:70 over 0-1, 2:80 over 2-3, 4:9, dominance 1-4,
-- 3-4, its two readings; 0:129 with 0-2 then 0-1, 2:9, 3:5, dominance 1-3; 0:64 over 0-1, 2:128 over 2-3, 2-4, 3:4, 5:6, dominance 1-2, 1-5
abbrev cases : List Case
cases =
    (1 ∷ 1 ∷ 5 ∷ 0 ∷ 7 ∷ 0 ∷ [], 255 ∷ 255 ∷ [])
    ∷ (1 ∷ 2 ∷ 5 ∷ 0 ∷ 7 ∷ 5 ∷ 1 ∷ 9 ∷ 6 ∷ 0 ∷ [], 255 ∷ 255 ∷ 255 ∷ 255 ∷ [])
    ∷ (1 ∷ 3 ∷ 5 ∷ 0 ∷ 9 ∷ 5 ∷ 1 ∷ 8 ∷ 5 ∷ 2 ∷ 7 ∷ 6 ∷ 0 ∷ [], 255 ∷ 255 ∷ 255 ∷ 255 ∷ 255 ∷ 255 ∷ [])
    ∷ (1 ∷ 2 ∷ 5 ∷ 0 ∷ 64 ∷ 2 ∷ 0 ∷ 1 ∷ 0 ∷ [], 255 ∷ 255 ∷ [])
    ∷ (1 ∷ 3 ∷ 5 ∷ 0 ∷ 64 ∷ 2 ∷ 0 ∷ 1 ∷ 5 ∷ 2 ∷ 5 ∷ 3 ∷ 1 ∷ 2 ∷ 6 ∷ 0 ∷ [], 255 ∷ 255 ∷ 1 ∷ 255 ∷ [])
    ∷ (1 ∷ 5 ∷ 5 ∷ 0 ∷ 70 ∷ 2 ∷ 0 ∷ 1 ∷ 5 ∷ 2 ∷ 80 ∷ 2 ∷ 2 ∷ 3 ∷ 5 ∷ 4 ∷ 9 ∷ 6 ∷ 3 ∷ 1 ∷ 4 ∷ 3 ∷ 3 ∷ 4 ∷ 0 ∷ [], 255 ∷ 255 ∷ 1 ∷ 255 ∷ 3 ∷ 255 ∷ [])
    ∷ (1 ∷ 5 ∷ 5 ∷ 0 ∷ 70 ∷ 2 ∷ 0 ∷ 1 ∷ 5 ∷ 2 ∷ 80 ∷ 2 ∷ 2 ∷ 3 ∷ 5 ∷ 4 ∷ 9 ∷ 6 ∷ 3 ∷ 1 ∷ 4 ∷ 3 ∷ 3 ∷ 4 ∷ 0 ∷ [], 3 ∷ 255 ∷ 255 ∷ 255 ∷ 1 ∷ 255 ∷ [])
    ∷ (1 ∷ 4 ∷ 5 ∷ 0 ∷ 129 ∷ 2 ∷ 0 ∷ 2 ∷ 2 ∷ 0 ∷ 1 ∷ 5 ∷ 2 ∷ 9 ∷ 5 ∷ 3 ∷ 5 ∷ 6 ∷ 3 ∷ 1 ∷ 3 ∷ 0 ∷ [], 255 ∷ 255 ∷ 255 ∷ 1 ∷ 255 ∷ [])
    ∷ (1 ∷ 6 ∷ 5 ∷ 0 ∷ 64 ∷ 2 ∷ 0 ∷ 1 ∷ 5 ∷ 2 ∷ 128 ∷ 2 ∷ 2 ∷ 3 ∷ 2 ∷ 2 ∷ 4 ∷ 5 ∷ 3 ∷ 4 ∷ 5 ∷ 5 ∷ 6 ∷ 6 ∷ 3 ∷ 1 ∷ 2 ∷ 3 ∷ 1 ∷ 5 ∷ 0 ∷ [], 255 ∷ 255 ∷ 1 ∷ 255 ∷ 255 ∷ 1 ∷ 255 ∷ [])
    ∷ []

-- 7, 128(7,9), 128(9,128(8,7)), 64(0), 64(128(5,0)), 70(128(80(128(9,0)),0)), 80(128(70(128(9,0)),0)), 129(9,128(5,0)), 64(128(128(4,0),6))
abbrev texts : List (List ℕ)
texts =
    (55 ∷ [])
    ∷ (49 ∷ 50 ∷ 56 ∷ 40 ∷ 55 ∷ 44 ∷ 57 ∷ 41 ∷ [])
    ∷ (49 ∷ 50 ∷ 56 ∷ 40 ∷ 57 ∷ 44 ∷ 49 ∷ 50 ∷ 56 ∷ 40 ∷ 56 ∷ 44 ∷ 55 ∷ 41 ∷ 41 ∷ [])
    ∷ (54 ∷ 52 ∷ 40 ∷ 48 ∷ 41 ∷ [])
    ∷ (54 ∷ 52 ∷ 40 ∷ 49 ∷ 50 ∷ 56 ∷ 40 ∷ 53 ∷ 44 ∷ 48 ∷ 41 ∷ 41 ∷ [])
    ∷ (55 ∷ 48 ∷ 40 ∷ 49 ∷ 50 ∷ 56 ∷ 40 ∷ 56 ∷ 48 ∷ 40 ∷ 49 ∷ 50 ∷ 56 ∷ 40 ∷ 57 ∷ 44 ∷ 48 ∷ 41 ∷ 41 ∷ 44 ∷ 48 ∷ 41 ∷ 41 ∷ [])
    ∷ (56 ∷ 48 ∷ 40 ∷ 49 ∷ 50 ∷ 56 ∷ 40 ∷ 55 ∷ 48 ∷ 40 ∷ 49 ∷ 50 ∷ 56 ∷ 40 ∷ 57 ∷ 44 ∷ 48 ∷ 41 ∷ 41 ∷ 44 ∷ 48 ∷ 41 ∷ 41 ∷ [])
    ∷ (49 ∷ 50 ∷ 57 ∷ 40 ∷ 57 ∷ 44 ∷ 49 ∷ 50 ∷ 56 ∷ 40 ∷ 53 ∷ 44 ∷ 48 ∷ 41 ∷ 41 ∷ [])
    ∷ (54 ∷ 52 ∷ 40 ∷ 49 ∷ 50 ∷ 56 ∷ 40 ∷ 49 ∷ 50 ∷ 56 ∷ 40 ∷ 52 ∷ 44 ∷ 48 ∷ 41 ∷ 44 ∷ 54 ∷ 41 ∷ 41 ∷ [])
    ∷ []

written : map text (terms cases) ≡ texts
unfolding outcome_of all_commands commands takes_two takes_none beyond whole fitted mislabelled overlapping holed twice symbol children arity cyclic rises overgrown bare added_leaf grown_tree count astray among different entered left parent root leaf any spread select hangs each nested carrying topmost term_at term text decimal digits
written = refl

read_back_lem : map read_back texts ≡ terms cases
unfolding outcome_of all_commands commands takes_two takes_none beyond whole fitted mislabelled overlapping holed twice symbol children arity cyclic rises overgrown bare added_leaf grown_tree count astray among different entered left parent root leaf any spread select hangs each nested carrying topmost term_at term read_back read_bytes read_byte snoc
read_back_lem = refl
