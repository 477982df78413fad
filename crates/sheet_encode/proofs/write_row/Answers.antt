use mathlib.Core.Path.{◌≡◌, refl, ◌∙◌}
use native.Mathlib.Omega.{arith}
use lib.ListN.{length}
use Rattle.base_nodeset.proofs.Writing.{member_room, member_written, all_written}
use Rattle.sheet_encode.proofs.write_row.Goals as goal

pub returns : goal.returns
returns c = all_written _ _ _ _ _ _ _ c.loop-r.invariant.1 (c.pop_first.ensures.empty c.in_default.is)

pub overflow_cast-r : goal.overflow_cast-r
overflow_cast-r c =
    let first = c.pop_first.ensures.lowest _ c.in-Some.is in
    omega arith

pub put-requires : goal.put-requires
put-requires c =
    let long : length c.loop-r.out ≡ length c.args.out.now = c.loop-r.invariant.0 in
    omega (arith, member_room _ _ _ _ _ _ _ c.loop-r.invariant.1 _ _ (c.pop_first.ensures.lowest _ c.in-Some.is) c.requires)

pub loop-r-smaller : goal.loop-r-smaller
loop-r-smaller c =
    let first = c.pop_first.ensures.lowest _ c.in-Some.is in
    omega arith

pub loop-r-preserved : goal.loop-r-preserved
loop-r-preserved c =
    (c.put.auto.out ∙ c.loop-r.invariant.0, member_written _ _ _ _ _ _ _ c.loop-r.invariant.1 _ _ (c.pop_first.ensures.lowest _ c.in-Some.is) _ _ (record { stored = c.put.ensures; after = refl }))
