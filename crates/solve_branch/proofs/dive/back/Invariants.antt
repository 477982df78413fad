-- The decisions passed over are second halves.
use Prim.Native.Nat.{ℕ, ◌≤◌, ◌<◌}
use Rattle.solve_levels.specs.Decisions.{upper_at, lower_at}
use Rattle.solve_branch.proofs.dive.back.Given as goal

abbrev pub invariant-loop-last : goal.invariant-loop-last
invariant-loop-last l = (i : ℕ) → l.last ≤ i → i < l.depth → lower_at l.trail i ≤ upper_at l.trail i
