-- Nothing for a root on top; otherwise a blank, the root, a colon and the leaf, one after the other.
use borrow.Author.Rules.{rules}
use mathlib.Core.List.{[], ◌∷◌}
use native.Mathlib.Omega.{arith}
use lib.ListN.{length-set}
use Rattle.base_finite.proofs.Stores.{written_none, written_one, written_more}
use Rattle.base_text.proofs.Lines.{pair_top, pair_is, pair_length}
use Rattle.base_text.proofs.hung.Goals as goal

pub returns-then-leaf-eq-NONE : goal.returns-then-leaf-eq-NONE
returns-then-leaf-eq-NONE c = rw (pair_top c.args.leaf c.args.r (search rules)) (written_none _ _)

pub bounds-out-at : goal.bounds-out-at
bounds-out-at c =
    let long = pair_length c.args.leaf c.args.r (search rules) in
    omega (arith, long)

pub small-colon-requires : goal.small-colon-requires
small-colon-requires c =
    let long = pair_length c.args.leaf c.args.r (search rules) in
    (omega arith, rw length-set (omega (arith, long)))

pub bounds-out-colon : goal.bounds-out-colon
bounds-out-colon c =
    let long = pair_length c.args.leaf c.args.r (search rules) in
    let d = c.small-colon in
    omega (arith, long, d.ensures.after, rw length-set at d.auto.out)

pub overflow_add-colon : goal.overflow_add-colon
overflow_add-colon c =
    let long = pair_length c.args.leaf c.args.r (search rules) in
    let d = c.small-colon in
    omega (arith, long, d.ensures.after, rw length-set at d.auto.out)

pub small-requires : goal.small-requires
small-requires c =
    let long = pair_length c.args.leaf c.args.r (search rules) in
    let d = c.small-colon in
    (omega arith, rw length-set (omega (arith, long, d.ensures.after, rw length-set at d.auto.out)))

pub returns : goal.returns
returns c =
    rw (pair_is c.args.leaf c.args.r (search rules))
    (written_more _ _ (32 ∷ []) _ _ _ _ _ (written_one _ _ _) (written_more _ _ _ _ _ _ _ _ c.small-colon.ensures (written_more _ _ (58 ∷ []) _ _ _ _ _ (written_one _ _ _) c.small.ensures)))
