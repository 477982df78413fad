use native.Mathlib.Omega.{arith}
use mathlib.Core.Path.{◌≡◌, sym, ◌∙◌}
use lib.ListN.{length}
use Rattle.solve_rule1.specs.Solved.{Solved}
use Rattle.solve_rule1.proofs.SolvedTables.{few, solved_length}
use Rattle.solve_rule1.proofs.Stepping.{few_steps, reached_none, reached_more, reached_end, reached_all, stepped_solved}
use Rattle.solve_rule1.proofs.steps.Goals as goal

pub overflow_mul-done-end : goal.overflow_mul-done-end
overflow_mul-done-end c =
    let a = c.args in
    omega (arith, few_steps a.graph.now.n (few a.graph.now.n a.graph.now.parent c.requires.0.sheet))

pub loop-done-init : goal.loop-done-init
loop-done-init c =
    let a = c.args in
    (c.requires.0, λ s. reached_none a.graph.now.n a.graph.now.parent a.p.now s)

pub step-requires : goal.step-requires
step-requires c = (c.loop-done.invariant.0, c.requires.1)

pub shape_of-p-then-not-step : goal.shape_of-p-then-not-step
shape_of-p-then-not-step c =
    let l = c.loop-done in
    let a = c.args in
    let kept : length c.step.new.p ≡ length l.p = c.step.auto.p in
    kept ∙ solved_length a.graph.now.n a.graph.now.parent l.p l.invariant.0 ∙ sym (solved_length a.graph.now.n a.graph.now.parent a.p.now c.requires.0)

pub returns-then-not-step : goal.returns-then-not-step
returns-then-not-step c = λ s.
    let l = c.loop-done in
    let a = c.args in
    let w = l.invariant.1 s in
    let here : Solved a.graph.now.n a.graph.now.parent l.p = record { sheet = s.sheet; solved = w.solved } in
    reached_end a.graph.now.n a.graph.now.parent a.p.now s l._done l.p c.step.new.p c.step.result w (c.step.ensures here) c.if-not-step.true

pub loop-done-preserved : goal.loop-done-preserved
loop-done-preserved c =
    let l = c.loop-done in
    let a = c.args in (
      stepped_solved a.graph.now.n a.graph.now.parent l.p c.step.new.p c.step.result l.invariant.0 (c.step.ensures l.invariant.0),
      λ s.
          let w = l.invariant.1 s in
          let here : Solved a.graph.now.n a.graph.now.parent l.p = record { sheet = s.sheet; solved = w.solved } in
          reached_more a.graph.now.n a.graph.now.parent a.p.now s l._done l.p c.step.new.p c.step.result w (c.step.ensures here) c.if-not-step.false,
    )

pub shape_of-p : goal.shape_of-p
shape_of-p c =
    let l = c.loop-done in
    let a = c.args in
    solved_length a.graph.now.n a.graph.now.parent l.p l.invariant.0 ∙ sym (solved_length a.graph.now.n a.graph.now.parent a.p.now c.requires.0)

pub returns : goal.returns
returns c = λ s.
    let l = c.loop-done in
    let a = c.args in
    reached_all a.graph.now.n a.graph.now.parent a.p.now s l._done l.p (l.invariant.1 s) c.loop-done-test.false
