use Prim.Native.Nat.{◌-◌, ◌≤◌, ◌<◌}
use mathlib.Core.Path.{◌≡◌}
use Rattle.sheet_decode.specs.Judge.{rises_in}
use Rattle.sheet_decode.proofs.judge.rises.Given as goal

abbrev pub invariant-loop-step : goal.invariant-loop-step
invariant-loop-step l = (l.at < l.n) × (l._step ≤ l.n) × (rises_in (l.n - l._step) l.parent l.at ≡ rises_in l.n l.parent l.v)
