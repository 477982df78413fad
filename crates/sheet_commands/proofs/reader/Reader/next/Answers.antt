use mathlib.Core.Path.{ap}
use native.Mathlib.Omega.{arith}
use Rattle.sheet_commands.specs.Step.{width_of}
use Rattle.sheet_commands.proofs.Runs.{step_within}
use Rattle.sheet_commands.proofs.reader.Reader.next.Goals as goal

pub overflow_add-self : goal.overflow_add-self
overflow_add-self c = let s = c.args.self.now in omega (arith, c.width.ensures, ap width_of c.in_ok-command.ensures, step_within s.form s.sheet.now s.at)
