-- What the commands of a sheet say of labels, read without the refusals.
use Rattle.std.specs.Prelude.{ℕ, List, [], ◌∷◌, cond, ◌||◌, eqb, leb, drop, Result, Ok, Err}
use Rattle.format.specs.Sheet.{Labels, unlabelled, labelling, differing, takes_two, takes_none}
use Rattle.format.specs.declared.Form.{Form}
use Rattle.format.specs.declared.Refusal.{Refusal}
use Rattle.sheet_commands.specs.declared.command.Command.{Command}
use Rattle.sheet_commands.specs.declared.command.Command.TheVariants.{Nodes, Tree, Dominance, Label, Differ, End}

-- m, and what the commands bs say
unfoldable pub gathered : Labels → List ℕ → Labels
gathered m [] = m
gathered m (b ∷ []) = cond (takes_none m.form b) (differing m) m
gathered m (b ∷ x ∷ []) = cond (takes_none m.form b) (gathered (differing m) (x ∷ [])) m
gathered m (b ∷ x ∷ y ∷ rest) =
    cond (takes_none m.form b)
    (gathered (differing m) (x ∷ y ∷ rest))
    (cond (eqb b 2 || eqb b 3)
    (gathered m rest)
    (cond (takes_two m.form b) (cond (leb 128 x) m (gathered (labelling m x y) rest)) m))

-- all that the sheet s says of labels
abbrev pub labels_in : Form → List ℕ → Labels
labels_in f s = gathered (unlabelled f) (drop 2 s)

-- what `gathered` makes of a command or a refusal, with the bytes after it
unfoldable pub gathered_after : Labels → List ℕ → Result Command Refusal → Labels
gathered_after m rest (Ok (Nodes n)) = m
gathered_after m rest (Ok (Tree p c)) = gathered m rest
gathered_after m rest (Ok (Dominance l r)) = gathered m rest
gathered_after m rest (Ok (Label p s)) = cond (leb 128 p) m (gathered (labelling m p s) rest)
gathered_after m rest (Ok Differ) = gathered (differing m) rest
gathered_after m rest (Ok End) = m
gathered_after m rest (Err why) = m
