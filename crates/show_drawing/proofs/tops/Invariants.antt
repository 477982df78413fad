-- The loop draws a run with nothing before its first text; whether bytes are written tells whether a text is the first. It
-- draws as many fragments as there are.
use Prim.Native.Nat.{◌-◌}
use mathlib.Core.List.{[], ◌∷◌}
use Rattle.show_drawing.specs.Drawn.{fragment_in, size_in, top_at}
use Rattle.show_drawing.proofs.Loops.{Running}
use Rattle.show_drawing.proofs.tops.Given as goal

abbrev pub invariant-loop-r : goal.invariant-loop-r
invariant-loop-r l =
    Running [] (59 ∷ []) (λ s. fragment_in l.n l.n l.home l.placing s) (λ s. size_in l.n l.n l.home l.placing s) (top_at l.parent l.placing) l.n l.initial.out l.initial.pen l.out l.pen l.r

abbrev pub decreases-loop-r : goal.decreases-loop-r
decreases-loop-r l = l.n - l.r
