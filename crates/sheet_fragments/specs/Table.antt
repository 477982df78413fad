-- The answer of the fragment table, and every byte of the lent buffer afterwards.
use Rattle.std.specs.Prelude.{ℕ, ◌*◌, ◌≡◌, List, [], ◌∷◌, ◌++◌, cond, ltb, length, drop, Result, Ok, Err}
use Rattle.graph.specs.Graph.{Graph}
use Rattle.format.specs.Sheet.{Outcome, refused, accepted}
use Rattle.graph.specs.Table.{fragments}
use Rattle.graph.specs.declared.Fragment.{Fragment}
use Rattle.format.specs.declared.Refusal.{Refusal}
use Rattle.format.specs.declared.Refusal.TheVariants.{SmallBuffer}

-- "root, lowest leaf, number of leaves": three bytes a record
unfoldable pub flat : List Fragment → List ℕ
flat [] = []
flat (f ∷ fs) = f.root ∷ f.lowest_leaf ∷ f.leaves ∷ flat fs

-- the bytes that the table takes
abbrev pub size : Graph → ℕ
size g = 3 * length (fragments g)

-- the sheet's own refusals, then 10
abbrev pub answer_of : Outcome → List ℕ → Result ℕ Refusal
answer_of (refused why) out = Err why
answer_of (accepted s) out = cond (ltb (length out) (size s.graph)) (Err SmallBuffer) (Ok (length (fragments s.graph)))

-- "later records stay unwritten", and a refusal writes nothing
abbrev pub bytes_of : Outcome → List ℕ → List ℕ
bytes_of (refused why) out = out
bytes_of (accepted s) out = cond (ltb (length out) (size s.graph)) out (flat (fragments s.graph) ++ drop (size s.graph) out)

-- The answer r to a sheet with the outcome o, and the lent bytes before and after.
pub record Tabled (o : Outcome) (r : Result ℕ Refusal) (old new : List ℕ) : Type 0 where
  pub answer : r ≡ answer_of o old
  pub bytes : new ≡ bytes_of o old
