use Prim.Native.Nat.{◌+◌}
use mathlib.Core.Path.{refl, sym}
use mathlib.Core.Bool.{true≢false}
use mathlib.Core.Logic.{inl, inr}
use native.Mathlib.Omega.{arith}
use Rattle.std.proofs.lemmas.Option.{none-some}
use Rattle.solve_levels.proofs.Stack.{stack_here}
use Rattle.solve_walk.proofs.Moved.{moved_to, moved_end}
use Rattle.solve_stretch.proofs.Placings.{handed_none, handed_more, handed_all, stands_within, stands_taken}
use Rattle.solve_stretch.proofs.fill.Goals as goal

pub loop-last-init : goal.loop-last-init
loop-last-init c = ((omega arith, c.requires.last_lt_limit.0), omega (arith, c.requires.last_lt_limit.1), refl, refl, refl, λ g f x. (x, handed_none g c.args.passed c.args.out.now))

pub row-requires : goal.row-requires
row-requires c = (omega (arith, stack_here c.args.trees.now.n c.requires.standing.0.walked.fits.trees.nodes c.requires.standing.0.stands.matches, c.loop-last.invariant.2), c.requires.standing.0.walked.table.bounded, c.loop-last.invariant.1)

pub overflow_add-last : goal.overflow_add-last
overflow_add-last c = omega (arith, c.loop-last.invariant.0)

pub overflow_add-end : goal.overflow_add-end
overflow_add-end c = omega (arith, c.loop-last.invariant.1, c.loop-last.invariant.4, c.well_formed)

pub returns-then-last-eq-LAST : goal.returns-then-last-eq-LAST
returns-then-last-eq-LAST c = let l = c.loop-last in record {
  last_lt_last = (omega (arith, l.invariant.0), λ e. absurd (true≢false (sym e)));
  filled = λ g f x.
      let y = l.invariant.5 g f x in
      let all = stands_within f y.0 l.invariant.0.1 in (
        handed_all g c.args.passed c.args.out.now (l.last + 1) (l.end + c.args.trees.now.n) _ (omega (arith, l.invariant.0.0)) all (inl (omega (arith, all, c.if-last-eq-LAST.true)))
            (handed_more f y.0 c.args.passed c.args.out.now _ _ _ l.invariant.1 c.row.auto.out c.row.ensures.out_unchanged c.row.ensures.out_after y.1),
        record { on = λ at e. absurd (none-some at e); ended = λ e. omega (arith, all, c.if-last-eq-LAST.true) },
      );
}

pub next-requires : goal.next-requires
next-requires c =
    let l = c.loop-last in
    let p = c.requires.standing.0 in
    ((l.last, record { walked = p.walked; stands = (l.invariant.5 p.walked.graph p.walked.fits p.stands).0 }), omega (arith, c.requires.standing.1, l.invariant.3))

pub returns-in_default : goal.returns-in_default
returns-in_default c = let l = c.loop-last in record {
  last_lt_last = (omega (arith, l.invariant.0), λ e. absurd (true≢false (sym e)));
  filled = λ g f x.
      let y = l.invariant.5 g f x in
      let all = stands_within f y.0 l.invariant.0.1 in
      let end = moved_end g _ _ (l.last + 1) c.in_default.is (c.next.ensures g l.last f y.0) in (
        handed_all g c.args.passed c.args.out.now (l.last + 1) (l.end + c.args.trees.now.n) _ (omega (arith, l.invariant.0.0)) all (inl (omega (arith, all, end, l.invariant.0)))
            (handed_more f y.0 c.args.passed c.args.out.now _ _ _ l.invariant.1 c.row.auto.out c.row.ensures.out_unchanged c.row.ensures.out_after y.1),
        record { on = λ at e. absurd (none-some at e); ended = λ e. omega (arith, all, end, l.invariant.0) },
      );
}

pub returns-then-out-end : goal.returns-then-out-end
returns-then-out-end c = let l = c.loop-last in record {
  last_lt_last = (omega (arith, l.invariant.0), λ e. omega (arith, l.invariant.0, c.if-last-eq-LAST.false));
  filled = λ g f x.
      let y = l.invariant.5 g f x in
      let all = stands_within f y.0 l.invariant.0.1 in (
        handed_all g c.args.passed c.args.out.now (l.last + 1) (l.end + c.args.trees.now.n) _ (omega (arith, l.invariant.0.0)) all (inr (omega (arith, c.if-out-end.true, f.trees.nodes, l.invariant.4, c.row.auto)))
            (handed_more f y.0 c.args.passed c.args.out.now _ _ _ l.invariant.1 c.row.auto.out c.row.ensures.out_unchanged c.row.ensures.out_after y.1),
        record { on = λ here e. stands_taken refl e (moved_to g _ _ (l.last + 1) c.in-Some.is (c.next.ensures g l.last f y.0)); ended = λ e. absurd (none-some _ (sym e)) },
      );
}

pub loop-last-smaller : goal.loop-last-smaller
loop-last-smaller c = omega (arith, c.loop-last.invariant.0)

pub loop-last-preserved : goal.loop-last-preserved
loop-last-preserved c =
    let l = c.loop-last in (
      (omega (arith, l.invariant.0), omega (arith, l.invariant.0, c.if-last-eq-LAST.false)),
      omega (arith, c.if-out-end.false),
      omega (arith, l.invariant.2, c.next.auto),
      omega (arith, l.invariant.3, c.next.auto),
      omega (arith, l.invariant.4, c.row.auto),
      λ g f x.
          let y = l.invariant.5 g f x in (
            moved_to g _ _ (l.last + 1) c.in-Some.is (c.next.ensures g l.last f y.0),
            handed_more f y.0 c.args.passed c.args.out.now _ _ _ l.invariant.1 c.row.auto.out c.row.ensures.out_unchanged c.row.ensures.out_after y.1,
          ),
    )
