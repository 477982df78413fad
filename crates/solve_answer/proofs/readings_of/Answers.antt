-- 10, 9 with its cycle, 11 where no reading is left after the place, and the readings.
use mathlib.Core.Path.{refl, sym}
use native.Mathlib.Omega.{arith}
use lib.Seq.{length-take-le}
use Rattle.solve_answer.proofs.Answering.{unsolved_tables, small_call, no_reading, none_after, read_after}
use borrow.Author.Rules.{rules}
use Rattle.solve_answer.proofs.readings_of.Goals as goal

pub returns-then-out-graph : goal.returns-then-out-graph
returns-then-out-graph c =
    λ s. small_call s _ _ _ (omega (arith, c.if-out-graph.true))

pub begin-requires : goal.begin-requires
begin-requires c =
    let s = c.requires.sheet_tables in (s, refl)

pub witness-pairs-requires : goal.witness-pairs-requires
witness-pairs-requires c =
    let s = c.requires.sheet_tables in
    (unsolved_tables s ((c.begin.ensures.started s).unsolved c.in_default.is), omega (arith, c.if-out-graph.false))

pub returns-in_default : goal.returns-in_default
returns-in_default c =
    λ s. no_reading s _ _ _ _ _ (omega (arith, c.if-out-graph.false)) ((c.begin.ensures.started s).unsolved c.in_default.is) c.witness-pairs.ensures.within (search rules) c.witness-pairs.ensures.cycle c.witness-pairs.ensures.rest

pub slice_bounds-stretch-end-2 : goal.slice_bounds-stretch-end-2
slice_bounds-stretch-end-2 c =
    (c.requires.n_le_room (omega (arith, c.if-out-graph.false))).1

pub slice_bounds-stretch-end-3 : goal.slice_bounds-stretch-end-3
slice_bounds-stretch-end-3 c =
    sym (length-take-le _ _ (c.requires.n_le_room (omega (arith, c.if-out-graph.false))).1)

pub stretch-last-requires : goal.stretch-last-requires
stretch-last-requires c =
    let s = c.requires.sheet_tables in
    let w = c.requires.n_le_room (omega (arith, c.if-out-graph.false)) in
    (((c.begin.ensures.started s).solved _ c.in-Some.is).sheet, omega (arith, w.0, c.begin.ensures.n_value _ c.in-Some.is, length-take-le c.args.wanted.room c.args.out.now w.1))

pub returns-then-last-passed : goal.returns-then-last-passed
returns-then-last-passed c =
    λ s. none_after s ((c.begin.ensures.started s).solved _ c.in-Some.is) _ (omega (arith, c.if-out-graph.false)) (c.requires.n_le_room (omega (arith, c.if-out-graph.false))).1 c.stretch-last.ensures (omega (arith, c.if-last-passed.true))

pub returns : goal.returns
returns c =
    λ s. read_after s ((c.begin.ensures.started s).solved _ c.in-Some.is) _ (omega (arith, c.if-out-graph.false)) (c.requires.n_le_room (omega (arith, c.if-out-graph.false))).1 c.stretch-last.ensures c.if-last-passed.false
