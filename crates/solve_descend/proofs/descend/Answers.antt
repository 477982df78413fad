use mathlib.Core.Path.{refl}
use mathlib.Core.Logic.{inl, inr}
use native.Mathlib.Omega.{arith}
use Rattle.std.proofs.lemmas.Result.{err_from_is_err_and}
use Rattle.solve_levels.proofs.Tables.{kept_all, kept_both, noted_long}
use Rattle.solve_levels.proofs.Fitting.{few, valid_noted}
use Rattle.solve_levels.proofs.Stack.{stack_here, open_within}
use Rattle.solve_branch.proofs.Walks.{enters_dives, stays_or_left}
use Rattle.solve_branch.proofs.Ways.{stuck_deeper, reached_stuck, opened_to, opened_stuck}
use Rattle.solve_descend.proofs.descend.Goals as goal

pub loop-reading-init : goal.loop-reading-init
loop-reading-init c = (omega arith, refl, kept_all _ _, refl, λ g k f x. (x, inl refl))

pub dive-requires : goal.dive-requires
dive-requires c =
    let p = c.requires.0 in
    let y = c.loop-reading.invariant.4 p.walked.graph p.passed p.walked.fits p.dives in
    (record { walked = p.walked; passed = p.passed; dives = y.0 }, omega (arith, c.requires.1, c.loop-reading.invariant.1))

pub leave-requires : goal.leave-requires
leave-requires c =
    let p = c.requires.0 in
    let w = p.walked in
    let y = c.loop-reading.invariant.4 w.graph p.passed w.fits p.dives in
    let z = reached_stuck w.graph _ _ p.passed c.in-Err.is (c.dive.ensures.reaches w.graph p.passed w.fits y.0) in
    let noted = valid_noted w.graph c.args.trees.now _ w.fits _ (omega (arith, c.requires.1, c.loop-reading.invariant.1, c.dive.auto)) z.leaving.valid in
    (w.table, stack_here c.args.trees.now.n w.fits.trees.nodes z.matches, noted, stuck_deeper c.loop-reading.here.depth c.in-Err.is c.dive.ensures.kept.1, omega (arith, open_within z.matches, noted_long _ noted))

pub loop-reading-smaller : goal.loop-reading-smaller
loop-reading-smaller c =
    let p = c.requires.0 in
    let w = p.walked in
    let y = c.loop-reading.invariant.4 w.graph p.passed w.fits p.dives in
    let z = reached_stuck w.graph _ _ p.passed c.in-Err.is (c.dive.ensures.reaches w.graph p.passed w.fits y.0) in
    let o = opened_to w.graph _ _ p.passed c.loop-reading.here.depth c.in_ok-here-in-Err.was (c.leave.ensures.opens w.graph p.passed w.fits z) in
    omega (arith, o.2, few w.graph c.args.trees.now _ w.fits _ o.0.entering.valid)

pub loop-reading-preserved : goal.loop-reading-preserved
loop-reading-preserved c =
    let p = c.requires.0 in
    let w = p.walked in
    let l = c.loop-reading in
    let y = l.invariant.4 w.graph p.passed w.fits p.dives in
    let z = reached_stuck w.graph _ _ p.passed c.in-Err.is (c.dive.ensures.reaches w.graph p.passed w.fits y.0) in
    let o = opened_to w.graph _ _ p.passed l.here.depth c.in_ok-here-in-Err.was (c.leave.ensures.opens w.graph p.passed w.fits z) in (
      omega (arith, l.invariant.0, o.2),
      omega (arith, l.invariant.1, c.dive.auto, c.leave.auto),
      kept_both l.invariant.0 (kept_both l.invariant.0 l.invariant.2 c.dive.ensures.kept.0) c.leave.ensures.kept,
      omega (arith, l.invariant.3, c.dive.auto, c.leave.auto),
      λ g k f x.
          let q = opened_to g _ _ k l.here.depth c.in_ok-here-in-Err.was (c.leave.ensures.opens g k f (reached_stuck g _ _ k c.in-Err.is (c.dive.ensures.reaches g k f (l.invariant.4 g k f x).0))) in
          (enters_dives f q.0 q.1, inr q.1),
    )

pub returns-in_err-here-in-Err : goal.returns-in_err-here-in-Err
returns-in_err-here-in-Err c = let l = c.loop-reading in record {
  kept = kept_both l.invariant.0 (kept_both l.invariant.0 l.invariant.2 c.dive.ensures.kept.0) c.leave.ensures.kept;
  arrives = λ g k f x.
      let y = l.invariant.4 g k f x in
      let q = opened_stuck g _ _ k l.here.depth c.in_err-here-in-Err.was (c.leave.ensures.opens g k f (reached_stuck g _ _ k c.in-Err.is (c.dive.ensures.reaches g k f y.0))) in
      let r = err_from_is_err_and c.from_residual.result c.from_residual.ensures.1 in
      rw (r.1, r.2) (stays_or_left f y.0 (kept_both (omega arith) c.dive.ensures.kept.0 c.leave.ensures.kept) q c.args.at.depth y.1);
}
