use Rattle.std.proofs.Common.{sym, ◌∙◌, arith}
use lib.ListN.{length-set, length-replicate}
use Rattle.graph.specs.declared.Fragment.{Fragment}
use Rattle.sheet_fragments.proofs.Owned.{records_none, record_skipped, record_stored}
use Rattle.sheet_fragments.proofs.records.fill.Goals as goal
use Rattle.sheet_fragments.proofs.records.fill.Goals.{then-has, else-has}

pub loop-r-init : goal.loop-r-init
loop-r-init c = let a = c.args in (sym (records_none a.n a.owner.now a.inner a.roots), omega arith, length-replicate {A = Fragment} 128 (record { root = 0; lowest_leaf = 0; leaves = 0 }))

pub loop-r-preserved : goal.loop-r-preserved
loop-r-preserved c =
    let a = c.args in
    let l = c.loop-r in
    let i = l.invariant in
    elim c.if-has.branch [
      | then-has w ↦ (
        rw (w.count-is, w.fragments-is, w.record.ensures) (record_stored a.n a.owner.now a.inner a.roots l.fragments l.r l.count i.0 w.if-has.ensures (omega (arith, i.2))),
        omega arith,
        rw w.fragments-is (length-set _ _ _ ∙ i.2),
      )
      | else-has w ↦ (rw (w.count-is, w.fragments-is) (record_skipped a.n a.owner.now a.inner a.roots l.fragments l.r l.count i.0 w.if-has.ensures), omega arith, rw w.fragments-is i.2)
    ]
