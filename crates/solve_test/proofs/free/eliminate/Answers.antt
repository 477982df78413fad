use mathlib.Core.Path.{◌≡◌, ap, sym, ◌∙◌}
use mathlib.Core.Bool.{not}
use native.Mathlib.Omega.{arith}
use Rattle.base_finite.proofs.Laws.{any_found}
use Rattle.base_finite.specs.Below.{count}
use Rattle.base_nodeset.specs.Set.{mem}
use Rattle.base_nodeset.proofs.Members.{some_member, no_member}
use Rattle.solve_test.specs.Free.{none_taken}
use Rattle.solve_test.proofs.Rounds.{taking_trans}
use Rattle.solve_test.proofs.free.eliminate.Goals as goal

pub loop-rem-init : goal.loop-rem-init
loop-rem-init c = λ closed. none_taken

pub round-rest-requires : goal.round-rest-requires
round-rest-requires c = record { long = c.requires.long; symmetric = c.requires.symmetric }

pub returns-then-count : goal.returns-then-count
returns-then-count c = λ closed.
    let l = c.loop-rem in
    let x = any_found 128 (mem l.rem) (some_member l.rem _ c.is_empty.ensures (ap not c.loop-rem-test.true)) in
    let same : count 128 (mem c.round-rest.result) ≡ count 128 (mem l.rem) = sym c.count.ensures ∙ c.if-count.true ∙ c.count-in-loop-rem.ensures in
    (l.rem, l.invariant closed, (x.0, x.2), c.round-rest.ensures.or_stuck closed same)

pub loop-rem-smaller : goal.loop-rem-smaller
loop-rem-smaller c = omega (arith, c.round-rest.ensures.fewer, c.count.ensures, c.count-in-loop-rem.ensures, c.if-count.false)

pub loop-rem-preserved : goal.loop-rem-preserved
loop-rem-preserved c = λ closed. taking_trans (c.loop-rem.invariant closed) (c.round-rest.ensures.taking closed)

pub returns : goal.returns
returns c = λ closed. (c.loop-rem.rem, c.loop-rem.invariant closed, no_member c.loop-rem.rem _ c.is_empty.ensures (ap not c.loop-rem-test.false))
