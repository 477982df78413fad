use Rattle.sheet_decode.proofs.Answers.{well_written}
use Rattle.sheet_encode.specs.Tidy.{TidyTables}
use Rattle.sheet_encode.proofs.tidy.Goals as goal
use Rattle.sheet_encode.proofs.tidy.Goals.{In_ok-graph}

abbrev tables : (c : In_ok-graph) → TidyTables c.in_ok-graph.graph
tables c =
    let a = c.in_ok-graph.ensures in
    record { graph = a.0.written; well_written = well_written c.args.form c.args.sheet.now c.in_ok-graph.graph a; nodes = a.2.nodes; holds = a.2.tables }

pub write-requires : goal.write-requires
write-requires c = tables (goal.at.write-requires c).In_ok-graph

pub returns : goal.returns
returns c = rw c.in_ok-graph.ensures.1 (c.write.ensures (tables (goal.at.returns c).In_ok-graph))
