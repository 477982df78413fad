-- The rows of the leaves above are joined, the edges that have become redundant go, and the new one comes.
use mathlib.Core.Path.{refl, sym, ◌∙◌}
use lib.ListN.{get_or, set, length-set}
use Rattle.base_tables.specs.Rows.{nothing}
use Rattle.base_tables.proofs.Stored.{row_put}
use native.Mathlib.Omega.{arith}
use Rattle.base_finite.proofs.Laws.{and_both}
use Rattle.base_nodeset.specs.Set.{mem}
use Rattle.graph.specs.Order.{adding}
use Rattle.theory_forest.proofs.Fragments.{root_adding}
use Rattle.solve_reduce.specs.Reduced.{Forks}
use Rattle.solve_reduce.proofs.Tables.{nodes_adding, added, joined_forks, marked, forks_put}
use Rattle.solve_reduce.proofs.reduced.add.Goals as goal

pub bounds-sets-n : goal.bounds-sets-n
bounds-sets-n c = omega (arith, c.requires.0, c.join.auto, c.revise-fewer.auto, length-set c.revise-fewer.new.sets c.args.r c.with-from.result)

pub over-rising-requires : goal.over-rising-requires
over-rising-requires c = (omega (arith, c.requires.0), c.requires.1, c.requires.2)

pub join-requires : goal.join-requires
join-requires c = λ x m. omega (arith, c.requires.0, c.over-rising.ensures.by_index x m)

pub revise-fewer-requires : goal.revise-fewer-requires
revise-fewer-requires c = λ v m. omega (arith, c.requires.0, c.join.auto, c.requires.1.bounded.roots_within v (and_both (mem c.args.below v) (mem c.args.trees.now.roots v) (sym (c.intersection-lower.ensures v) ∙ m)).1)

pub bounds-sets-r : goal.bounds-sets-r
bounds-sets-r c = omega (arith, c.requires.0, c.requires.3, c.join.auto, c.revise-fewer.auto)

pub with-from-requires : goal.with-from-requires
with-from-requires c = omega (arith, c.requires.1.bounded.few, c.requires.2)

pub noted-requires : goal.noted-requires
noted-requires c = omega (arith, c.requires.1.bounded.few, c.requires.3)

pub shape_of-sets : goal.shape_of-sets
shape_of-sets c =
    let first = length-set c.revise-fewer.new.sets c.args.r c.with-from.result in
    omega (arith, c.join.auto, c.revise-fewer.auto, first, length-set (set c.revise-fewer.new.sets c.args.r c.with-from.result) c.args.trees.now.n c.noted.result)

pub returns : goal.returns
returns c =
    let a = c.args in
    let t = a.trees.now in
    λ g f free new is before.
    let s = f.shaped in
    let first = row_put a.r c.with-from.result c.revise-fewer.new.sets (omega (arith, c.requires.0, c.requires.3, c.join.auto, c.revise-fewer.auto)) in
    let second = row_put t.n c.noted.result (set c.revise-fewer.new.sets a.r c.with-from.result) (omega (arith, c.requires.0, c.join.auto, c.revise-fewer.auto, first.long)) in
    let ends = f.trees in
    let up = c.over-rising.ensures.over_leaf g f free before new.from_leaf in
    let old : Forks t.roots a.sets.now (get_or a.sets.now t.n nothing) = λ v. before.forks v ∙ rw (ends.roots_are v) in
    let edge = added g s t ends a.a a.r new before c.over-rising.result a.below c.intersection-lower.result c.empty.result (get_or c.revise-fewer.new.sets a.r nothing) c.with-from.result is up c.join.ensures c.intersection-lower.ensures c.empty.ensures c.revise-fewer.ensures.revised (λ v. refl) c.with-from.ensures first
    (omega (arith, c.requires.0, first.long, c.join.auto, c.revise-fewer.auto)) in
    let joined = joined_forks g s t ends a.a a.r new before c.over-rising.result a.below c.intersection-lower.result c.empty.result (get_or c.revise-fewer.new.sets a.r nothing) c.with-from.result is up c.join.ensures c.intersection-lower.ensures c.empty.ensures c.revise-fewer.ensures.revised (λ v. refl) c.with-from.ensures first (get_or a.sets.now t.n nothing) old in
    let fewer = c.revise-fewer.ensures.by_index t.roots (λ v m. (and_both (mem a.below v) (mem t.roots v) (sym (c.intersection-lower.ensures v) ∙ m)).1) joined in
    marked t.roots (adding g a.a a.r) (ends.nodes ∙ sym (nodes_adding g a.a a.r)) (λ v. ends.roots_are v ∙ sym (root_adding g a.a a.r v)) edge (forks_put t.roots a.r c.revise-fewer.result c.noted.result (ends.roots_are a.r ∙ new.to_root) first c.noted.ensures fewer) second
