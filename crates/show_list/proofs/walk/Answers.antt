-- The walk stands at the first reading, and goes on from there.
use native.Mathlib.Omega.{arith}
use Rattle.solve_numbered.proofs.Numbers.{large_tables}
use Rattle.show_list.proofs.walk.Goals as goal

pub first-at-requires : goal.first-at-requires
first-at-requires c =
    let t = large_tables c.args.trees.now.n c.requires.walkable.walked.table.bounded.few in
    (c.requires.walkable, omega (arith, t.0, c.requires.in_bounds.0), omega (arith, t.1, c.requires.in_bounds.1))

pub fill-requires : goal.fill-requires
fill-requires c =
    let few = c.requires.walkable.walked.table.bounded.few in
    record {
      standing = (record { walked = c.requires.walkable.walked; stands = c.first-at.ensures c.requires.walkable }, omega (arith, large_tables c.args.trees.now.n few, c.requires.in_bounds.1));
      last_lt_limit = (omega arith, omega (arith, few, c.requires.in_bounds.2));
    }

pub returns : goal.returns
returns c = record { last_lt_limit = c.fill.ensures.last_lt_last.1; filled = λ s. c.fill.ensures.filled s.walked.graph s.walked.fits (c.first-at.ensures s) }
