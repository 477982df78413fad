use native.Mathlib.Omega.{arith}
use Prim.Native.Nat.{◌-◌}
use mathlib.Core.Path.{◌≡◌, sym, ◌∙◌}
use Rattle.solve_rule1.proofs.SolvedTables.{up_within}
use Rattle.solve_rule1.proofs.Climbing.{depth_start, rise_ends, rise_goes_on, rise_stops}
use Rattle.solve_rule1.proofs.edges_above.Goals as goal

pub loop-edges-init : goal.loop-edges-init
loop-edges-init c =
    let a = c.args in
    (c.requires.1, λ s. depth_start s.sheet.graph a.p.now a.graph.now.n a.v s.sheet.tables.nodes)

pub above-over-requires : goal.above-over-requires
above-over-requires c = (c.requires.0, c.loop-edges.invariant.0)

pub returns-then-over : goal.returns-then-over
returns-then-over c = λ s.
    let l = c.loop-edges in
    let a = c.args in
    rise_ends s.sheet.graph a.p.now l.edges (a.graph.now.n - l.edges) l.at (sym (c.above-over.ensures s) ∙ c.if-over.true) ∙ l.invariant.1 s

pub loop-edges-preserved : goal.loop-edges-preserved
loop-edges-preserved c =
    let l = c.loop-edges in
    let a = c.args in
    let up_is = c.above-over.ensures in (
      rw (up_is c.requires.0) (up_within a.graph.now.n a.graph.now.parent a.p.now c.requires.0 l.at l.invariant.0 (λ e. c.if-over.false (up_is c.requires.0 ∙ e))),
      λ s. rw (up_is s) (rise_goes_on s.sheet.graph a.p.now l.edges a.graph.now.n l.at (omega arith) (λ e. c.if-over.false (up_is s ∙ e)) ∙ l.invariant.1 s),
    )

pub returns : goal.returns
returns c = λ s.
    let l = c.loop-edges in
    let a = c.args in
    let all : a.graph.now.n ≡ l.edges = omega arith in
    all ∙ rise_stops s.sheet.graph a.p.now l.edges a.graph.now.n l.at (omega arith) ∙ l.invariant.1 s
