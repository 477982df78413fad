use Rattle.base_finite.proofs.Laws.{or_comm}
use Rattle.base_nodeset.specs.Set.{mem}
use Rattle.sheet_labels.proofs.Kept.{keeps_more}
use Rattle.sheet_labels.proofs.table.Labels.label.Goals as goal

pub returns : goal.returns
returns c =
    λ m keeps.
    let a = c.args in
    keeps_more m a.self.now keeps a.p a.s c.requires c.with-self.result c.with-self.ensures _ (rw c.has.ensures (or_comm a.self.now.twice (mem a.self.now.labelled a.p)))
