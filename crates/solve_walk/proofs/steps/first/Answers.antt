-- No decision is taken at the outset, and a graph that has a solved form is not left without a reading.
use Rattle.solve_branch.proofs.Walks.{dives_outset, outset_stays}
use Rattle.solve_branch.proofs.Ways.{arrived_to, arrived_stuck}
use Rattle.solve_walk.proofs.steps.first.Goals as goal

pub start-outset-requires : goal.start-outset-requires
start-outset-requires c = (c.requires.0.rows_are.long, c.requires.0.walked.table, c.requires.1)

pub descend-requires : goal.descend-requires
descend-requires c =
    let s = c.requires.0 in
    let w = s.walked in
    (record { walked = w; passed = 0; dives = dives_outset s.solvable c.start-outset.ensures.depth_value.0 c.start-outset.ensures.depth_value.1 c.start-outset.ensures.depth_value.2 (c.start-outset.ensures.cases w.graph c.args.trail.now w.fits s.rows_are) }, c.requires.2)

pub returns-in_default : goal.returns-in_default
returns-in_default c =
    λ s.
    let w = s.walked in
    let d = dives_outset s.solvable c.start-outset.ensures.depth_value.0 c.start-outset.ensures.depth_value.1 c.start-outset.ensures.depth_value.2 (c.start-outset.ensures.cases w.graph c.args.trail.now w.fits s.rows_are) in
    absurd (outset_stays s.solvable c.start-outset.ensures.depth_value.0 w.fits d c.descend.ensures.kept (arrived_stuck w.graph _ _ 0 c.start-outset.result.depth c.in_default.is (c.descend.ensures.arrives w.graph 0 w.fits d)))

pub returns : goal.returns
returns c =
    λ s.
    let w = s.walked in
    let d = dives_outset s.solvable c.start-outset.ensures.depth_value.0 c.start-outset.ensures.depth_value.1 c.start-outset.ensures.depth_value.2 (c.start-outset.ensures.cases w.graph c.args.trail.now w.fits s.rows_are) in
    arrived_to w.graph _ _ 0 c.start-outset.result.depth c.in-Ok.is (c.descend.ensures.arrives w.graph 0 w.fits d)
