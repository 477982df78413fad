use mathlib.Core.Path.{ap}
use Prim.Native.Nat.{◌≤◌}
use native.Mathlib.Omega.{arith}
use lib.ListN.{length, length-set}
use borrow.Author.Tests.{lt-ltb, le-ltb}
use Rattle.format.specs.Sheet.{tidy}
use Rattle.std.specs.Prelude.{Ok}
use Rattle.sheet_encode.proofs.GraphBytes.{held_parents, held_few, held_heads, held_edges, held_trees, held_length, held_parts, all_written}
use Rattle.sheet_encode.proofs.write.Goals as goal

pub tree_edges-requires : goal.tree_edges-requires
tree_edges-requires c =
    let a = c.args in
    let tables = c.requires in
    held_parents a.graph.now tables

pub overflow_mul-needed : goal.overflow_mul-needed
overflow_mul-needed c =
    let a = c.args in
    let tables = c.requires in
    omega (arith, c.tree_edges.ensures, held_trees a.graph.now tables, held_few a.graph.now tables, held_edges a.graph.now tables)

pub overflow_add-needed : goal.overflow_add-needed
overflow_add-needed c =
    let a = c.args in
    let tables = c.requires in
    omega (arith, c.tree_edges.ensures, held_trees a.graph.now tables, held_few a.graph.now tables, held_edges a.graph.now tables)

pub overflow_add-needed-2 : goal.overflow_add-needed-2
overflow_add-needed-2 c =
    let a = c.args in
    let tables = c.requires in
    omega (arith, c.tree_edges.ensures, held_trees a.graph.now tables, held_few a.graph.now tables, held_edges a.graph.now tables)

pub returns-then-out-needed : goal.returns-then-out-needed
returns-then-out-needed c h =
    let a = c.args in
    let short = lt-ltb (length a.out.now) (length (tidy h.graph))
    (omega (arith, c.tree_edges.ensures, held_length a.graph.now h)) in
    (rw short, rw short)

pub write_tree-after_tree-requires : goal.write_tree-after_tree-requires
write_tree-after_tree-requires c =
    let a = c.args in
    let tables = c.requires in (
      held_parents a.graph.now tables,
      simp length-set (omega (arith, c.tree_edges.ensures, held_length a.graph.now tables, held_parts a.graph.now tables)),
    )

pub write_dominance-end-requires : goal.write_dominance-end-requires
write_dominance-end-requires c =
    let a = c.args in
    let tables = c.requires in
    let t = c.write_tree-after_tree in (
      held_few a.graph.now tables,
      held_heads a.graph.now tables,
      omega (arith, t.ensures.after, c.tree_edges.ensures, held_length a.graph.now tables, held_parts a.graph.now tables, simp length-set at t.auto.out),
    )

pub bounds-out-end : goal.bounds-out-end
bounds-out-end c =
    let a = c.args in
    let tables = c.requires in
    let t = c.write_tree-after_tree in
    let d = c.write_dominance-end in
    omega (arith, t.ensures.after, d.ensures.after, c.tree_edges.ensures, held_length a.graph.now tables, held_parts a.graph.now tables, simp length-set at t.auto.out, d.auto.out)

pub returns : goal.returns
returns c h =
    let a = c.args in
    let t = c.write_tree-after_tree in
    let d = c.write_dominance-end in
    let room : length (tidy h.graph) ≤ length a.out.now =
    omega (arith, c.tree_edges.ensures, held_length a.graph.now h) in
    let fits = le-ltb (length a.out.now) (length (tidy h.graph)) room in (
      rw fits (rw c.tree_edges.ensures (ap Ok (held_length a.graph.now h))),
      rw fits (all_written a.graph.now h a.out.now t.new.out d.new.out t.result d.result t.ensures d.ensures room),
    )
