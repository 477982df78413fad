use mathlib.Core.Path.{refl}
use Rattle.std.proofs.Common.{arith}
use Rattle.std.proofs.lemmas.Grind.{common_steps}
use Rattle.std.proofs.lemmas.List.Edits.{sets-eq}
use Rattle.base_text.proofs.put.Goals as goal

pub returns : goal.returns
returns c = record { stored = grind (arith, common_steps, sets-eq); after = refl }
