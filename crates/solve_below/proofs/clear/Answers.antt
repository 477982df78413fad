use Prim.Native.Nat.{◌≤◌}
use native.Mathlib.Omega.{arith}
use lib.ListN.{length, take}
use Rattle.std.proofs.lemmas.List.{length-take}
use Rattle.solve_below.proofs.Roots.{blank_filled}
use Rattle.solve_below.proofs.clear.Goals as goal

pub returns : goal.returns
returns c =
    let sets = c.args.sets.now in
    let fits : c.args.n ≤ length (take c.args.n sets) = omega (arith, length-take c.args.n sets) in
    blank_filled c.args.n _ _ c.fill.new.self _ fits c.empty.ensures (c.fill.ensures.after (λ y h. h))
