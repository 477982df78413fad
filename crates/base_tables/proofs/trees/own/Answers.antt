use Prim.Native.Nat.{ℕ, ◌+◌, ◌-◌}
use mathlib.Core.Path.{◌≡◌, sym, ◌∙◌}
use native.Mathlib.Omega.{arith}
use Rattle.base_tables.proofs.Climbing.{top_ends, top_goes_on, top_stops}
use Rattle.base_tables.proofs.trees.own.Goals as goal

less_none : (n : ℕ) → n - 0 ≡ n
less_none n = omega arith

pub loop-step-init : goal.loop-step-init
loop-step-init c = (omega (arith, c.requires.1), omega arith, rw (less_none c.args.n))

pub returns-then-above : goal.returns-then-above
returns-then-above c =
    let l = c.loop-step in
    (sym (top_ends (c.args.n - l._step) _ l.at c.if-above.true) ∙ l.invariant.2, l.invariant.0)

pub loop-step-preserved : goal.loop-step-preserved
loop-step-preserved c =
    let l = c.loop-step in (
      c.requires.0.node_or_none l.at l.invariant.0 c.if-above.false,
      omega arith,
      top_goes_on (c.args.n - l._step) (c.args.n - (l._step + 1)) c.args.parent.now l.at (omega arith) c.if-above.false ∙ l.invariant.2,
    )

pub returns : goal.returns
returns c =
    let l = c.loop-step in
    (sym (top_stops (c.args.n - l._step) _ l.at (omega arith)) ∙ l.invariant.2, l.invariant.0)
