-- What the term of a reading is to the sheet (02, Five): a solution of its constraint (document 000, Section 3.2).
use Rattle.std.specs.Prelude.{ℕ, ◌≡◌, List}
use Rattle.graph.specs.Placing.{Reading}
use Rattle.graph.specs.Term.{Solution}
use Rattle.format.specs.Sheet.{Content, accepted, outcome_of}
use Rattle.format.specs.Labelled.{constraint}
use Rattle.format.specs.Term.{term}
use Rattle.format.specs.declared.Form.TheVariants.{Labelled}

-- "The term has to satisfy every literal of the sheet, checked by Section 3.2's meaning and not by the builder": of each reading of an accepted
-- sheet, with a node of the term for each node of the sheet.
abbrev pub Solves : List ℕ → Type 0
Solves bs =
    (s : Content) → outcome_of Labelled bs ≡ accepted s
    → (p : List ℕ) → Reading s.graph p
    → (α : ℕ → List ℕ) × Solution (constraint s.written s.labels) (term s p) α
