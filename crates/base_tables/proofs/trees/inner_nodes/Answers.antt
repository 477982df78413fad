use Rattle.base_tables.proofs.Parents.{inner_none, inner_more}
use Prim.Native.Nat.{◌<◌}
use Rattle.std.proofs.lemmas.List.{get_or-take}
use Rattle.std.proofs.lemmas.List.{length-take}
use mathlib.Core.Path.{◌≡◌, sym, ◌∙◌}
use native.Mathlib.Omega.{arith}
use Rattle.base_tables.proofs.trees.inner_nodes.Goals as goal

pub loop-above-init : goal.loop-above-init
loop-above-init c = λ u h. c.empty-set.ensures u ∙ sym (inner_none _ u)

pub loop-above-preserved : goal.loop-above-preserved
loop-above-preserved c =
    let l = c.loop-above in
    let before : l.above-index < c.args.n = omega (arith, c.loop-above-test.true, length-take c.args.n c.args.parent.now) in
    λ u h. c.with_parent-set.ensures u h ∙ rw (l.invariant u h, get_or-take c.args.n c.args.parent.now l.above-index 0 before) (sym (inner_more l.above-index _ u))

pub returns : goal.returns
returns c =
    let l = c.loop-above in
    let all : l.above-index ≡ c.args.n = omega (arith, c.requires.few, c.requires.long, c.loop-above-test.false, length-take c.args.n c.args.parent.now) in
    λ u h. l.invariant u h ∙ rw all
