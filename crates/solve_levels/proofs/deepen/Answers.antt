-- The last state is copied, or the slot is the same.
use mathlib.Core.Path.{◌≡◌, refl}
use mathlib.Core.Logic.{⊎_elim}
use native.Mathlib.Omega.{arith}
use Rattle.solve_levels.proofs.Stack.{copied_part, ready_same, ready_copied}
use Rattle.solve_levels.proofs.deepen.Goals as goal

pub bounds-trail-at : goal.bounds-trail-at
bounds-trail-at c = omega (arith, c.requires.2)

pub width-requires : goal.width-requires
width-requires c = c.requires.1

pub slot-from-requires : goal.slot-from-requires
slot-from-requires c = c.requires.1

pub slot-requires : goal.slot-requires
slot-requires c = c.requires.1

pub returns-then-taken : goal.returns-then-taken
returns-then-taken c = let a = c.args in record { depth_value = (refl, omega arith, omega arith, λ h. ⊎_elim (λ (e : c.oldest.result ≡ a.at.kept). omega arith) (λ e. omega arith) c.oldest.ensures.2); ready = λ g same m here. ready_copied a.n same m here c.copy_within.ensures.len _ _ _ c.width.ensures c.slot-from.ensures.0 c.slot.ensures.0 (copied_part c.slot-from.result _ c.slot.result _ refl c.copy_within.ensures.by_index.0 c.copy_within.ensures.by_index.1 c.copy_within.ensures.by_index.2) _ c.if-taken.true refl refl c.oldest.ensures.0 c.oldest.ensures.1 }

pub returns : goal.returns
returns c = record { depth_value = (refl, omega arith, omega arith, λ h. h); ready = λ g same m here. ready_same _ m here c.if-taken.false refl refl refl }
