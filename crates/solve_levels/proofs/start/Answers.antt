-- The fragments and the reduced form are made at their slots, and the form is copied to the first level's.
use Prim.Native.Nat.{ℕ, ◌*◌}
use mathlib.Core.Path.{refl, ap}
use native.Mathlib.Omega.{arith}
use Rattle.solve_below.proofs.Roots.{fragments_own}
use Rattle.solve_levels.proofs.Stack.{copied_part, outset_made}
use Rattle.solve_levels.proofs.Fitting.{at_reduction}
use Rattle.solve_levels.proofs.start.Goals as goal

pub width-wide-requires : goal.width-wide-requires
width-wide-requires c = c.requires.1.bounded.few

pub overflow_mul-outset : goal.overflow_mul-outset
overflow_mul-outset c = omega (arith, c.width-wide.ensures, c.requires.1.bounded.few)

pub overflow_add-last : goal.overflow_add-last
overflow_add-last c = omega (arith, c.width-wide.ensures, c.requires.1.bounded.few)

pub overflow_add-last-2 : goal.overflow_add-last-2
overflow_add-last-2 c = omega (arith, c.width-wide.ensures, c.requires.1.bounded.few)

pub offset_bounds-states-last : goal.offset_bounds-states-last
offset_bounds-states-last c = omega (arith, c.width-wide.ensures, c.requires.1.bounded.few)

pub slice_bounds-fragments-end : goal.slice_bounds-fragments-end
slice_bounds-fragments-end c = omega (arith, c.width-wide.ensures, c.requires.2)

pub fragments-requires : goal.fragments-requires
fragments-requires c = (c.requires.1, omega (arith, c.width-wide.ensures, c.requires.2))

pub overflow_add-outset : goal.overflow_add-outset
overflow_add-outset c = omega (arith, c.width-wide.ensures, c.requires.1.bounded.few)

pub offset_bounds-states-outset : goal.offset_bounds-states-outset
offset_bounds-states-outset c = omega (arith, c.width-wide.ensures, c.requires.1.bounded.few)

pub slice_bounds-reduce-end : goal.slice_bounds-reduce-end
slice_bounds-reduce-end c = omega (arith, c.width-wide.ensures, c.requires.2, c.fragments.auto)

pub reduce-requires : goal.reduce-requires
reduce-requires c = (c.requires.0, c.requires.1.bounded, omega (arith, c.width-wide.ensures, c.requires.2, c.fragments.auto))

pub returns : goal.returns
returns c = record { depth_value = (refl, refl, refl); cases = λ g trail f rows. outset_made c.args.states.now _ c.args.trees.now.n f.trees.nodes c.requires.2 _ _ _ c.width-wide.ensures (ap (λ (k : ℕ). k * 32) c.width-wide.ensures) (omega (arith, c.width-wide.ensures)) c.fragments.auto.sets c.reduce.auto.sets (copied_part (c.width-wide.result * 32) _ 0 _ refl c.copy_within.ensures.by_index.0 c.copy_within.ensures.by_index.1 c.copy_within.ensures.by_index.2) c.copy_within.ensures.len (fragments_own g _ f c.fragments.ensures) (at_reduction f.trees.nodes (c.reduce.ensures g f.shaped f.trees rows)) _ refl refl refl }
