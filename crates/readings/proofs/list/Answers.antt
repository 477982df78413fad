-- A page fits into the place for it, and the list is underway after it.
use mathlib.Core.Path.{sym}
use native.Mathlib.Omega.{arith}
use lib.Seq.{length-take-le}
use borrow.Author.Rules.{rules}
use Rattle.readings.proofs.list.Invariants.{fewer}
use Rattle.readings.proofs.list.Goals as goal

pub slice_bounds-out-end : goal.slice_bounds-out-end
slice_bounds-out-end g c =
    let b = c.first_page-page.ensures c.requires.0 c.requires.1 in
    omega (arith, b.shown.fits, c.first_page-page.auto.out)

pub slice_bounds-write_all-end : goal.slice_bounds-write_all-end
slice_bounds-write_all-end g c =
    let b = c.first_page-page.ensures c.requires.0 c.requires.1 in
    sym (length-take-le _ _ (omega (arith, b.shown.fits, c.first_page-page.auto.out)))

pub loop-page-init : goal.loop-page-init
loop-page-init g c =
    let b = c.first_page-page.ensures c.requires.0 c.requires.1 in
    (search rules, search rules, search rules, search rules, λ rest e. (c.requires.0, (b.printed.on rest e).1))

pub next_page-page-requires-clause-underway : goal.next_page-page-requires-clause-underway
next_page-page-requires-clause-underway g c = c.loop-page.invariant.4 c.in-Some.rest c.in-Some.is

pub slice_bounds-out-end-in-Some : goal.slice_bounds-out-end-in-Some
slice_bounds-out-end-in-Some g c =
    let u = c.loop-page.invariant.4 c.in-Some.rest c.in-Some.is in
    let x = (c.next_page-page.ensures u.0 u.1).page in
    omega (arith, x.shown.fits, c.loop-page.invariant.3, c.next_page-page.auto.out)

pub slice_bounds-write_all-end-in-Some : goal.slice_bounds-write_all-end-in-Some
slice_bounds-write_all-end-in-Some g c =
    let u = c.loop-page.invariant.4 c.in-Some.rest c.in-Some.is in
    let x = (c.next_page-page.ensures u.0 u.1).page in
    sym (length-take-le _ _ (omega (arith, x.shown.fits, c.loop-page.invariant.3, c.next_page-page.auto.out)))

pub loop-page-smaller : goal.loop-page-smaller
loop-page-smaller g c =
    let u = c.loop-page.invariant.4 c.in-Some.rest c.in-Some.is in
    let x = (c.next_page-page.ensures u.0 u.1).page in
    rw c.in-Some.is (fewer c.next_page-page.result.next c.in-Some.rest.done x.to (λ rest e. (x.printed.on rest e).0) x.further (omega (arith, x.within)))

pub loop-page-preserved : goal.loop-page-preserved
loop-page-preserved g c =
    let u = c.loop-page.invariant.4 c.in-Some.rest c.in-Some.is in
    let x = (c.next_page-page.ensures u.0 u.1).page in
    (search rules, search rules, search rules, search rules, λ rest e. (u.0, (x.printed.on rest e).1))
