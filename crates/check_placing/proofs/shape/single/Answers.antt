use mathlib.Core.Path.{◌≡◌, sym, ap, ◌∙◌}
use mathlib.Core.Bool.{true, false, not}
use native.Mathlib.Omega.{arith}
use borrow.Author.Count.{below_none, below_more}
use lib.ListN.{length-take}
use lib.Seq.{get_or-take}
use Prim.Native.Nat.{◌<◌}
use Rattle.base_finite.specs.Below.{any}
use Rattle.base_finite.proofs.Laws.{not_not, any_none}
use Rattle.base_nodeset.specs.Set.{mem, OfByte}
use Rattle.graph.specs.Placing.{at}
use Rattle.check_placing.proofs.Shapes.{used_more, used_again, single_every, single_fails}
use Rattle.check_placing.proofs.shape.single.Goals as goal

pub loop-byte-init : goal.loop-byte-init
loop-byte-init c = (λ x. c.empty-used.ensures x ∙ sym (any_none 0 _ (λ k h. absurd (omega arith))), below_none _)

pub returns-then-not-is_empty : goal.returns-then-not-is_empty
returns-then-not-is_empty c =
    let a = c.args in
    let l = c.loop-byte in
    let both = c.intersection in
    let here : l.byte-index < a.n = omega (arith, length-take a.n a.placing.now) in
    let leaf : OfByte (at a.placing.now l.byte-index) c.of_byte-leaf.result = rw (← get_or-take a.n a.placing.now l.byte-index 0 here) c.of_byte-leaf.ensures in
    let found : any 128 (mem both.result) ≡ true = sym (not_not (any 128 (mem both.result))) ∙ ap not (sym c.is_empty.ensures) ∙ ap not c.if-not-is_empty.true in
    sym (single_fails a.n a.placing.now l.byte-index here
    (sym (used_again l.byte-index a.placing.now l.used c.of_byte-leaf.result both.result l.invariant.0 leaf both.ensures) ∙ found))

pub loop-byte-preserved : goal.loop-byte-preserved
loop-byte-preserved c =
    let a = c.args in
    let l = c.loop-byte in
    let both = c.intersection in
    let here : l.byte-index < a.n = omega (arith, length-take a.n a.placing.now) in
    let leaf : OfByte (at a.placing.now l.byte-index) c.of_byte-leaf.result = rw (← get_or-take a.n a.placing.now l.byte-index 0 here) c.of_byte-leaf.ensures in
    let none_found : any 128 (mem both.result) ≡ false = sym (not_not (any 128 (mem both.result))) ∙ ap not (sym c.is_empty.ensures) ∙ ap not c.if-not-is_empty.false in (
      used_more l.byte-index a.placing.now l.used c.of_byte-leaf.result c.union-used.result l.invariant.0 leaf c.union-used.ensures,
      below_more _ _ l.invariant.1 (sym (used_again l.byte-index a.placing.now l.used c.of_byte-leaf.result both.result l.invariant.0 leaf both.ensures) ∙ none_found),
    )

pub returns : goal.returns
returns c =
    let a = c.args in
    let l = c.loop-byte in
    sym (single_every a.n a.placing.now (λ k h. l.invariant.1 k (omega (arith, length-take a.n a.placing.now, c.requires))))
