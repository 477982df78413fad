-- As for a graph, with the placing's bytes as the second table.
use Rattle.solve_closure.proofs.Laws.{rows_map}
use Rattle.solve_closure.proofs.Edges.{both_added, both_among, link_from}
use Rattle.solve_closure.proofs.GraphRows.{parents_links, placing_paths}
use borrow.Author.Rules.{rules}
use Rattle.solve_closure.proofs.placing_rows.Goals as goal

pub add_links-requires : goal.add_links-requires
add_links-requires c = (parents_links c.requires.0, search rules, search rules)

pub fill-requires : goal.fill-requires
fill-requires c =
    let parents = c.args.parent.now in
    let bytes = c.args.placing.now in (
      search rules,
      c.requires.0.few,
      both_among
          (both_added c.clear.ensures c.add_links.ensures c.add_links-2.ensures)
          (link_from c.args.n parents (parents_links c.requires.0))
          (link_from c.args.n bytes c.requires.1),
    )

pub returns : goal.returns
returns c g heads edges t is_placing =
    rows_map (placing_paths g t c.args.placing.now is_placing (both_added c.clear.ensures c.add_links.ensures c.add_links-2.ensures)) c.fill.ensures
