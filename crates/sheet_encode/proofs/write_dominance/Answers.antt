use lib.ListN.{get_or}
use Rattle.base_tables.specs.Rows.{nothing}
use Rattle.sheet_encode.specs.Tidy.{row_bytes, dominance_part}
use Rattle.sheet_encode.proofs.Runs.{dominance_part_none, dominance_part_more, dominance_part_longer}
use Prim.Native.Nat.{◌+◌}
use mathlib.Core.Path.{refl, ◌∙◌}
use native.Mathlib.Omega.{arith}
use Rattle.base_finite.proofs.Stores.{room, written_none, written_more}
use Rattle.sheet_encode.proofs.write_dominance.Goals as goal

pub loop-l-init : goal.loop-l-init
loop-l-init c = (refl, rw dominance_part_none (written_none _ _))

pub write_row-at-requires : goal.write_row-at-requires
write_row-at-requires c =
    let l = c.loop-l in
    let hs = c.args.heads.now in
    let whole = dominance_part_longer (l.l + 1) c.args.n hs (omega arith) in
    let fits = room c.args.out.now c.args.start (dominance_part l.l hs) l.out l.at (row_bytes l.l (get_or hs l.l nothing)) (dominance_part c.args.n hs) l.invariant.1 (rw dominance_part_more at whole) c.requires.2 in
    omega (arith, fits)

pub loop-l-preserved : goal.loop-l-preserved
loop-l-preserved c =
    let l = c.loop-l in
    let k = c.write_row-at in (
      k.auto.out ∙ l.invariant.0,
      rw dominance_part_more (written_more _ _ _ l.out l.at _ _ _ l.invariant.1 k.ensures),
    )
