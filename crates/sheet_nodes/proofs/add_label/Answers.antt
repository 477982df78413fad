-- The symbol is written before p's children, so that they stay.
use native.Mathlib.Omega.{arith}
use Rattle.sheet_nodes.proofs.Holds.{holding_label}
use Rattle.sheet_nodes.proofs.add_label.Goals as goal

pub returns : goal.returns
returns c = λ t m holding.
    let a = c.args in
    holding_label holding a.p c.requires.0 a.s c.requires.1 _ (omega arith) _ c.with-more.ensures
