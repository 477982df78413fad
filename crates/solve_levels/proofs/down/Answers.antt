-- The decision's edge is added at the slot of the level where it leads.
use native.Mathlib.Omega.{arith}
use Rattle.solve_levels.specs.Decisions.{reached}
use Rattle.solve_levels.proofs.Stack.{one_deeper, fragments_here, level_here}
use Rattle.solve_levels.proofs.Fitting.{edge_taken}
use Rattle.solve_levels.proofs.down.Goals as goal

pub bounds-trail-at : goal.bounds-trail-at
bounds-trail-at c = omega (arith, c.requires.2.long)

pub bounds-trees-taken : goal.bounds-trees-taken
bounds-trees-taken c = omega (arith, c.requires.2.lower, c.requires.0.long)

pub overflow_cast-root-2 : goal.overflow_cast-root-2
overflow_cast-root-2 c = omega (arith, c.requires.0.within _ c.requires.2.lower, c.requires.0.bounded.few)

pub below_at-below-requires : goal.below_at-below-requires
below_at-below-requires c = (c.requires.1, c.requires.0.bounded, c.requires.0.within _ c.requires.2.lower)

pub deepen-next-requires : goal.deepen-next-requires
deepen-next-requires c = (c.requires.1, c.requires.0.bounded.few, c.requires.2.long, c.requires.3)

pub width-wide-requires : goal.width-wide-requires
width-wide-requires c = c.requires.0.bounded.few

pub slot-to-requires : goal.slot-to-requires
slot-to-requires c = c.requires.0.bounded.few

pub overflow_add-to : goal.overflow_add-to
overflow_add-to c = omega (arith, c.requires.0.bounded.few, c.width-wide.ensures, c.slot-to.ensures.1)

pub offset_bounds-states-to : goal.offset_bounds-states-to
offset_bounds-states-to c = omega (arith, c.requires.0.bounded.few, c.slot-to.ensures.1)

pub slice_bounds-add-start : goal.slice_bounds-add-start
slice_bounds-add-start c = omega (arith, c.requires.1, c.slot-to.ensures.1, c.deepen-next.auto)

pub slice_bounds-add-end : goal.slice_bounds-add-end
slice_bounds-add-end c = omega (arith, c.requires.1, c.width-wide.ensures, c.slot-to.ensures.1, c.deepen-next.auto)

pub add-requires : goal.add-requires
add-requires c = (omega (arith, c.requires.1, c.width-wide.ensures, c.slot-to.ensures.1, c.deepen-next.auto), c.requires.0, c.requires.2.upper, c.requires.0.within _ c.requires.2.lower)

pub returns : goal.returns
returns c = let a = c.args in record {
  depth_value = (c.deepen-next.ensures.depth_value.0, c.deepen-next.ensures.depth_value.2, c.deepen-next.ensures.depth_value.3);
  cases = λ g f m here s free new. (
    one_deeper a.trees.now.n f.trees.nodes (c.deepen-next.ensures.ready g f.trees.nodes m here) c.deepen-next.ensures.depth_value.0 _ _ c.width-wide.ensures c.slot-to.ensures.0 _ c.add.auto.sets
        (edge_taken g a.trees.now a.trail.now f a.at.depth s c.requires.2.lower new (λ fits fresh before.
        c.add.ensures (reached g a.trail.now a.at.depth) fits free fresh
        (c.below_at-below.ensures (reached g a.trail.now a.at.depth) fits.shaped fits.trees (fragments_here a.trees.now.n f.trees.nodes a.at.depth m) (level_here a.trees.now.n f.trees.nodes m here).under fresh.to_root) before)),
    omega (arith, c.deepen-next.ensures.depth_value.1, c.deepen-next.ensures.depth_value.3 here),
  );
}
