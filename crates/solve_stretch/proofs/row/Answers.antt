-- The placing is settled in the bytes from `at` on.
use Prim.Native.Nat.{◌≤◌}
use native.Mathlib.Omega.{arith}
use lib.ListN.{length}
use Rattle.solve_stretch.proofs.Placings.{row_first, row_rest}
use Rattle.solve_stretch.proofs.row.Goals as goal

pub returns : goal.returns
returns c =
    let a = c.args in
    let h : a.at ≤ length a.out.now = omega (arith, c.requires.2) in
    record {
      out_unchanged = row_rest a.at a.trees.now.n a.out.now _ h c.read_off.ensures.out_unchanged;
      out_after = λ g ends x. row_first a.at a.trees.now.n a.out.now _ h _ (c.read_off.ensures.out_after g ends x);
    }
