use Rattle.std.proofs.iter.runs.Sources.{ranges}
use Rattle.std.proofs.Common.{rules}
use Rattle.sheet_labels.specs.Fit.{unfit_in}
use Rattle.sheet_labels.proofs.Fits.{any_decided}
use Rattle.sheet_labels.proofs.fit.unfit.Goals as goal

pub returns : goal.returns
returns c =
    let unfit = unfit_in c.args.labels.now c.args.n c.args.parent.now in
    any_decided c.args.n unfit c.any.result (search (rules, ranges))
