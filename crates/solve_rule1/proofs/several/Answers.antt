use native.Mathlib.Omega.{arith}
use mathlib.Core.Path.{◌≡◌, sym, ◌∙◌}
use lib.ListN.{length, get_or}
use Rattle.base_finite.proofs.Counting.{none_counted, once_more, twice_more}
use Rattle.base_nodeset.proofs.Members.{of_byte_is}
use Rattle.base_finite.specs.Stores.{entry_is}
use Rattle.solve_rule1.proofs.several.Goals as goal

pub loop-byte-init : goal.loop-byte-init
loop-byte-init c =
    let p = c.args.p.now in (
      λ l h. c.empty-once.ensures l ∙ sym (none_counted 1 (entry_is p l) (omega arith)),
      λ l h. c.empty-twice.ensures l ∙ sym (none_counted 2 (entry_is p l) (omega arith)),
    )

pub loop-byte-preserved : goal.loop-byte-preserved
loop-byte-preserved c =
    let l = c.loop-byte in
    let p = c.args.p.now in
    let leaf = of_byte_is (get_or p l.byte-index 0) c.of_byte-leaf.result c.of_byte-leaf.ensures in (
      λ k h. c.union-once.ensures k ∙ rw (leaf k h, l.invariant.0 k h) (once_more l.byte-index (entry_is p k)),
      λ k h. c.union-twice.ensures k ∙ rw (c.intersection.ensures k, leaf k h, l.invariant.0 k h, l.invariant.1 k h) (twice_more l.byte-index (entry_is p k)),
    )

pub returns : goal.returns
returns c =
    let l = c.loop-byte in
    let all : l.byte-index ≡ length c.args.p.now = omega arith in
    λ k h. l.invariant.1 k h ∙ rw all
