-- All commands of a sheet, taken.
use Rattle.std.specs.Prelude.{ℕ, ◌<◌, List, [], drop, Result, Ok, Err}
use Rattle.format.specs.Sheet.{all_commands}
use Rattle.format.specs.declared.Form.{Form}
use Rattle.format.specs.declared.Refusal.{Refusal}
use Rattle.base_tables.specs.declared.Graph.{Graph}
use Rattle.sheet_commands.specs.Labels.{labels_in}
use Rattle.sheet_commands.specs.Turn.{Run, going, ended, stopped, Reached}

-- A run at offset `at` of the sheet s of that form: past a command.
pub record Running (form : Form) (s : List ℕ) (at : ℕ) (g : Graph) : Type 0 where
  pub past : 0 < at
  pub reached : Reached (labels_in form s) (all_commands form s) (drop at s) (going g)

-- What a run that is over says of what the sheet's commands come to.
abbrev pub over : Result Graph Refusal → Run
over (Ok g) = ended g
over (Err why) = stopped why

-- the answer to a lent graph, with what it holds afterwards
abbrev pub filled : Result Unit Refusal → Graph → Result Graph Refusal
filled (Ok u) g = Ok g
filled (Err why) g = Err why

abbrev pub Ran : Form → List ℕ → Result Graph Refusal → Type 0
Ran form s r = Reached (labels_in form s) (all_commands form s) [] (over r)
