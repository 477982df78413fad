-- The way starts at the graph itself.
use Rattle.theory_forest.proofs.Shape.{well_formed_shaped}
use Rattle.check_placing.proofs.Guides.{started}
use Rattle.check_placing.proofs.guide.reading.Goals as goal

pub returns : goal.returns
returns c =
    λ g edges t e under f.
    let s = well_formed_shaped t.well_formed in
    let form = c.reduce.ensures g s e.trees (c.graph_rows.ensures g edges (rw c.requires.parents.2 at t)) in
    c.follow.ensures g (started e under f form) s f
