use native.Mathlib.Omega.{arith}
use Rattle.sheet_grow.proofs.Grown.{set_counted, set_written}
use Rattle.sheet_grow.proofs.grow.Goals as goal

pub list-requires : goal.list-requires
list-requires c =
    omega (arith, c.requires.0.long, c.requires.1, set_counted _ _ _ c.bare_nodes-bare.ensures)

pub returns : goal.returns
returns c = set_written _ _ _ c.bare_nodes-bare.ensures c.list.ensures
