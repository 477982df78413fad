-- The invariant: a graph that the choices so far lead to, and turns enough for those that are left.
use Prim.Native.Nat.{◌+◌, ◌-◌, ◌*◌}
use lib.ListN.{take}
use Rattle.graph.specs.Graph.{Graph}
use Rattle.check_placing.specs.Guide.{Standing}
use Rattle.check_placing.proofs.guide.Guide.follow.Given as goal

abbrev pub invariant-loop-turn : goal.invariant-loop-turn
invariant-loop-turn l =
    (g : Graph) → Standing g (take l.trees.n l.placing) l.trees l.self.under.now (l.trees.n * l.trees.n + 1) l.initial.sets →
    Standing g (take l.trees.n l.placing) l.trees l.self.under.now (l.trees.n * l.trees.n + 1 - l._turn) l.sets
