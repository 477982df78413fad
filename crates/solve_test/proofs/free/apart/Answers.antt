use mathlib.Core.Path.{refl, ap}
use mathlib.Core.Bool.{not, false≢true}
use lib.ListN.{get_or}
use Rattle.base_tables.specs.Rows.{nothing}
use native.Mathlib.Omega.{arith}
use Rattle.base_nodeset.proofs.Members.{small_set, some_member, no_member, empty_set}
use Rattle.solve_test.proofs.Rounds.{apart_start, not_apart, apart_last, apart_more, apart_end}
use borrow.Author.Rules.{rules}
use Rattle.solve_test.proofs.free.apart.Goals as goal

pub loop-l-init : goal.loop-l-init
loop-l-init c = apart_start _ _ _ _ c.empty-seen.result c.empty-seen.ensures

pub returns : goal.returns
returns c =
    (λ h. apart_end _ _ c.args.within c.args.leaves c.loop-l.left c.loop-l.seen c.loop-l.invariant (c.pop_first.ensures.empty c.in_default.is), λ a. refl)

pub bounds-rows-l : goal.bounds-rows-l
bounds-rows-l c =
    let first = c.pop_first.ensures.lowest _ c.in-Some.is in
    search rules

pub offset_bounds-rows-l : goal.offset_bounds-rows-l
offset_bounds-rows-l c =
    let first = c.pop_first.ensures.lowest _ c.in-Some.is in
    search rules

pub returns-then-not-is_empty : goal.returns-then-not-is_empty
returns-then-not-is_empty c =
    let first = c.pop_first.ensures.lowest _ c.in-Some.is in
    (λ h. absurd (false≢true h), λ a. absurd (not_apart _ _ _ _ _ _ c.loop-l.seen (get_or c.args.rows.now c.in-Some.l nothing) c.intersection.result _ c.loop-l.invariant first (λ v. refl) c.intersection.ensures (some_member _ _ c.is_empty.ensures (ap not c.if-not-is_empty.true)) a))

pub returns-then-is_empty : goal.returns-then-is_empty
returns-then-is_empty c =
    let first = c.pop_first.ensures.lowest _ c.in-Some.is in (
      λ h. apart_last _ _ c.args.within c.args.leaves _ _ c.loop-l.seen (get_or c.args.rows.now c.in-Some.l nothing) c.intersection.result _ c.loop-l.invariant first (λ v. refl) c.intersection.ensures c.requires.symmetric (small_set c.args.within (omega (arith, c.well_formed))) (no_member _ _ c.is_empty.ensures (ap not c.if-not-is_empty.false))
          (small_set c.args.leaves (omega (arith, c.well_formed))) (empty_set _ _ c.is_empty-in-Some.ensures c.if-is_empty.true),
      λ a. refl,
    )

pub grow-joined-requires : goal.grow-joined-requires
grow-joined-requires c = c.requires.long.1

pub loop-l-smaller : goal.loop-l-smaller
loop-l-smaller c =
    let first = c.pop_first.ensures.lowest _ c.in-Some.is in
    omega arith

pub loop-l-preserved : goal.loop-l-preserved
loop-l-preserved c =
    let first = c.pop_first.ensures.lowest _ c.in-Some.is in
    apart_more _ _ c.args.within c.args.leaves _ _ c.loop-l.seen (get_or c.args.rows.now c.in-Some.l nothing) c.intersection.result _ c.loop-l.invariant first (λ v. refl) c.intersection.ensures c.requires.symmetric (small_set c.args.within (omega (arith, c.well_formed))) (no_member _ _ c.is_empty.ensures (ap not c.if-not-is_empty.false))
    c.grow-joined.result c.union-seen.result c.grow-joined.ensures c.union-seen.ensures
