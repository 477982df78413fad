use Prim.Native.Nat.{◌+◌, ◌-◌}
use mathlib.Core.Path.{sym, ◌∙◌}
use native.Mathlib.Omega.{arith}
use Rattle.sheet_decode.proofs.Judges.{rises_stops, rises_goes_on, rises_top}
use Rattle.sheet_decode.proofs.judge.rises.Goals as goal

pub returns-then-above : goal.returns-then-above
returns-then-above c =
    let l = c.loop-step in
    sym (rises_stops (c.args.n - l._step) _ l.at (omega arith) c.if-above.true) ∙ l.invariant.2

pub loop-step-preserved : goal.loop-step-preserved
loop-step-preserved c =
    let l = c.loop-step in (
      c.requires.0.node_or_none l.at l.invariant.0 c.if-above.false,
      omega arith,
      rises_goes_on (c.args.n - l._step) (c.args.n - (l._step + 1)) c.args.parent.now l.at (omega arith) c.if-above.false ∙ l.invariant.2,
    )

pub returns : goal.returns
returns c =
    let l = c.loop-step in
    sym (rises_top (c.args.n - l._step) _ l.at (omega arith)) ∙ l.invariant.2
