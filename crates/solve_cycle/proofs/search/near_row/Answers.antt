use Prim.Native.Nat.{ℕ}
use mathlib.Core.Path.{◌≡◌, sym, ◌∙◌}
use mathlib.Core.Bool.{Bool}
use native.Mathlib.Omega.{arith}
use Rattle.solve_cycle.specs.Searching.{joined_in}
use Rattle.solve_cycle.proofs.Searches.{nodes_none, nodes_there, nodes_not}
use Rattle.solve_cycle.proofs.search.near_row.Goals as goal
use Rattle.solve_cycle.proofs.search.near_row.Goals.{then-joined, else-joined}

pub loop-v-init : goal.loop-v-init
loop-v-init c =
    (omega arith, nodes_none (joined_in c.args.graph.now.parent c.args.graph.now.heads c.args.u) _ c.empty-set.ensures)

pub loop-v-preserved : goal.loop-v-preserved
loop-v-preserved c =
    let l = c.loop-v in
    let a = c.args in
    let p : ℕ → Bool = joined_in a.graph.now.parent a.graph.now.heads a.u in (
      omega arith,
      elim c.if-joined.branch [
        | then-joined w ↦ rw w.set-is (nodes_there p l.v l.set l.invariant.1 w.with-set.result (sym c.joined.ensures ∙ w.if-joined.true) w.with-set.ensures)
        | else-joined w ↦ rw w.set-is (nodes_not p l.v l.set l.invariant.1 (sym c.joined.ensures ∙ w.if-joined.false))
      ],
    )

pub returns : goal.returns
returns c =
    let l = c.loop-v in
    let all : l.v ≡ c.args.graph.now.n = omega arith in
    rw (← all) l.invariant.1
