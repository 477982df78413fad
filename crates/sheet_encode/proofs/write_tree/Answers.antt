use lib.ListN.{get_or}
use Rattle.sheet_encode.specs.Tidy.{tree_bytes, tree_part}
use Rattle.sheet_encode.proofs.Runs.{tree_part_none, tree_part_more, tree_part_longer}
use Prim.Native.Nat.{◌+◌}
use mathlib.Core.Path.{refl, ◌∙◌}
use native.Mathlib.Omega.{arith}
use Rattle.base_finite.proofs.Stores.{room, written_none, written_more}
use Rattle.sheet_encode.proofs.write_tree.Goals as goal

pub loop-c-init : goal.loop-c-init
loop-c-init c = (refl, rw tree_part_none (written_none _ _))

pub put_tree-at-requires : goal.put_tree-at-requires
put_tree-at-requires c =
    let l = c.loop-c in
    let ps = c.args.parent.now in
    let whole = tree_part_longer (l.c + 1) c.args.n ps (omega arith) in
    let fits = room c.args.out.now c.args.start (tree_part l.c ps) l.out l.at (tree_bytes (get_or ps l.c 0) l.c) (tree_part c.args.n ps) l.invariant.1 (rw tree_part_more at whole) c.requires.1 in
    omega (arith, fits)

pub loop-c-preserved : goal.loop-c-preserved
loop-c-preserved c =
    let l = c.loop-c in
    let k = c.put_tree-at in (
      k.auto.out ∙ l.invariant.0,
      rw tree_part_more (written_more _ _ _ l.out l.at _ _ _ l.invariant.1 k.ensures),
    )
