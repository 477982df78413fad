use mathlib.Core.Path.{refl}
use Rattle.sheet_labels.proofs.Kept.{keeps_none}
use Rattle.sheet_labels.proofs.table.Labels.none.Goals as goal

pub returns : goal.returns
returns c = keeps_none 128 refl c.empty.result c.empty.ensures
