-- Cleared rows are given the tables' edges, which are the graph's; the walk fills them.
use Rattle.solve_closure.proofs.Laws.{rows_map}
use Rattle.solve_closure.proofs.Edges.{both_added, both_among, link_from, head_from}
use Rattle.solve_closure.proofs.GraphRows.{parents_links, graph_paths}
use borrow.Author.Rules.{rules}
use Rattle.solve_closure.proofs.graph_rows.Goals as goal

pub fill-requires : goal.fill-requires
fill-requires c =
    let graph = c.args.graph.now in (
      search rules,
      c.requires.0.few,
      both_among
          (both_added c.clear.ensures c.add_links.ensures c.add_heads.ensures)
          (link_from graph.n graph.parent (parents_links c.requires.0))
          (head_from graph.n graph.heads),
    )

pub returns : goal.returns
returns c g edges t =
    rows_map (graph_paths g t (both_added c.clear.ensures c.add_links.ensures c.add_heads.ensures)) c.fill.ensures
