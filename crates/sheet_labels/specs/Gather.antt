-- What a command says of labels.
use Rattle.std.specs.Prelude.{Bool, true, false, ltb}
use Rattle.format.specs.Sheet as spec
use Rattle.sheet_commands.specs.declared.command.Command.{Command}
use Rattle.sheet_commands.specs.declared.command.Command.TheVariants.{Nodes, Tree, Dominance, Label, Differ, End}

-- another command follows
abbrev pub goes_on : Command → Bool
goes_on (Nodes n) = false
goes_on (Tree p c) = true
goes_on (Dominance l r) = true
goes_on (Label p s) = ltb p 128
goes_on Differ = true
goes_on End = false

-- what is said with it
abbrev pub after_step : spec.Labels → Command → spec.Labels
after_step m (Nodes n) = m
after_step m (Tree p c) = m
after_step m (Dominance l r) = m
after_step m (Label p s) = spec.labelling m p s
after_step m Differ = spec.differing m
after_step m End = m
