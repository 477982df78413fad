use mathlib.Core.Path.{refl, sym, ◌∙◌}
use mathlib.Core.Bool.{not}
use mathlib.Core.Logic.{⊎_elim}
use lib.ListN.{get_or}
use Rattle.base_tables.specs.Rows.{nothing}
use native.Mathlib.Omega.{arith}
use lib.Dec.{eqb}
use borrow.Author.Tests.{eqb-true}
use Rattle.base_finite.proofs.Laws.{and_both, or_cases}
use Rattle.base_nodeset.specs.Set.{mem}
use Rattle.base_nodeset.proofs.Members.{removed_member}
use Rattle.solve_reduce.proofs.Rises.{over_rows, climb_start, climb_more, climb_end}
use Rattle.solve_reduce.proofs.over.over.Goals as goal

pub only-over-requires : goal.only-over-requires
only-over-requires c = omega (arith, c.requires.1.bounded.few, c.requires.2)

pub bounds-trees-a : goal.bounds-trees-a
bounds-trees-a c = omega (arith, c.requires.1.long, c.requires.2)

pub overflow_cast-trees : goal.overflow_cast-trees
overflow_cast-trees c = omega (arith, c.requires.1.within c.args.a c.requires.2, c.requires.1.bounded.few)

pub bounds-sets-trees : goal.bounds-sets-trees
bounds-sets-trees c = omega (arith, c.requires.0, c.requires.1.within c.args.a c.requires.2)

pub loop-step-init : goal.loop-step-init
loop-step-init c =
    let a = c.args in
    let t = a.trees.now in (
      omega arith,
      λ l m. omega (arith, eqb-true l a.a (sym (c.only-over.ensures l) ∙ m), c.requires.2),
      λ l m. c.requires.1.bounded.leaves_within l (and_both (mem (get_or a.sets.now (get_or a.trees.now.owner a.a 0) nothing) l) (mem t.leaves l) (sym (c.intersection-left.ensures l) ∙ m)).1,
      λ g f free form h. climb_start g f.shaped f.trees free a.sets.now form a.a _ h (f.owners_are a.a c.requires.2) c.only-over.result (get_or a.sets.now (get_or a.trees.now.owner a.a 0) nothing) c.intersection-left.result c.only-over.ensures (λ v. refl) c.intersection-left.ensures,
    )

pub returns-in_default : goal.returns-in_default
returns-in_default c = record { by_index = c.loop-step.invariant.1; over_leaf = λ g f free form h. climb_end g f.shaped f.trees free c.args.sets.now form c.args.a c.loop-step.over c.loop-step.left (c.pop_first.ensures.empty c.in_default.is) (c.loop-step.invariant.3 g f free form h) }

pub with-over-requires : goal.with-over-requires
with-over-requires c = (c.pop_first.ensures.lowest _ c.in-Some.is).below

pub bounds-trees-l : goal.bounds-trees-l
bounds-trees-l c = omega (arith, c.requires.1.long, c.loop-step.invariant.2 _ (c.pop_first.ensures.lowest _ c.in-Some.is).in_set)

pub overflow_cast-trees-in-loop-step : goal.overflow_cast-trees-in-loop-step
overflow_cast-trees-in-loop-step c = omega (arith, c.requires.1.within _ (c.loop-step.invariant.2 _ (c.pop_first.ensures.lowest _ c.in-Some.is).in_set), c.requires.1.bounded.few)

pub bounds-sets-trees-in-loop-step : goal.bounds-sets-trees-in-loop-step
bounds-sets-trees-in-loop-step c = omega (arith, c.requires.0, c.requires.1.within _ (c.loop-step.invariant.2 _ (c.pop_first.ensures.lowest _ c.in-Some.is).in_set))

pub loop-step-preserved : goal.loop-step-preserved
loop-step-preserved c =
    let a = c.args in
    let t = a.trees.now in
    let l = c.loop-step in
    let first = c.pop_first.ensures.lowest _ c.in-Some.is in (
      omega arith,
      λ x m. ⊎_elim (λ e. omega (arith, eqb-true x _ e, l.invariant.2 _ first.in_set)) (λ e. l.invariant.1 x e) (or_cases (eqb x _) (mem l.over x) (sym (c.with-over.ensures x) ∙ m)),
      λ x m.
          let b = and_both (mem c.union.result x) (not (mem c.with-over.result x)) (sym (c.difference-left.ensures x) ∙ m) in
          ⊎_elim
          (λ e. l.invariant.2 x (removed_member l.left _ _ first.others x e).0)
          (λ e. c.requires.1.bounded.leaves_within x (and_both (mem (get_or c.args.sets.now (get_or c.args.trees.now.owner c.in-Some.l 0) nothing) x) (mem t.leaves x) (sym (c.intersection-more.ensures x) ∙ e)).1)
          (or_cases (mem _ x) (mem c.intersection-more.result x) (sym (c.union.ensures x) ∙ b.0)),
      λ g f free form h. climb_more g f.shaped f.trees free a.sets.now form a.a _ _ l.over l.left _ c.with-over.result (get_or c.args.sets.now (get_or c.args.trees.now.owner c.in-Some.l 0) nothing) c.intersection-more.result c.union.result c.difference-left.result (f.owners_are _ (l.invariant.2 _ first.in_set)) first c.with-over.ensures (λ v. refl) c.intersection-more.ensures c.union.ensures c.difference-left.ensures (l.invariant.3 g f free form h),
    )

pub rising-requires : goal.rising-requires
rising-requires c = (c.requires.0, c.requires.1.bounded.few, c.requires.2)

pub returns : goal.returns
returns c = record { by_index = λ l m. c.requires.1.bounded.leaves_within l (and_both (mem c.rising.result l) (mem c.args.trees.now.leaves l) (sym (c.intersection.ensures l) ∙ m)).1; over_leaf = λ g f free form h. over_rows g f.trees form c.args.a c.rising.result c.intersection.result c.rising.ensures c.intersection.ensures }
