-- Between two pages the list is underway, as long as another follows.
use Rattle.std.proofs.Common.{ℕ, length, ◌-◌, ◌<◌, ◌≤◌, ◌≡◌, Option, Some, None, refl, arith}
use Rattle.graph.specs.Graph.{Graph}
use Rattle.graph.specs.Order.{limit}
use Rattle.show_list.specs.Run.{Underway}
use Rattle.show_list.specs.declared.Rest.{Rest}
use Rattle.readings.proofs.list.Given as goal

abbrev pub invariant-loop-page : goal.invariant-loop-page
invariant-loop-page g l =
    (length l.states ≡ 4386)
    × (length l.trail ≡ 16384)
    × (length l.placings ≡ 262144)
    × (length l.out ≡ 65536)
    × ((rest : Rest) → l.page.next ≡ Some rest → (h : Graph) × Underway h rest l.states l.trail l.placings)

-- how many numbers may be left
abbrev pub left : Option Rest → ℕ
left None = 0
left (Some rest) = limit - rest.done

abbrev pub decreases-loop-page : goal.decreases-loop-page
decreases-loop-page g l = left l.page.next

pub fewer : (next : Option Rest) (done k : ℕ) → ((rest : Rest) → next ≡ Some rest → rest.done ≡ k) → done < k → k ≤ limit → left next < limit - done
fewer None done k on further within = omega arith
fewer (Some rest) done k on further within = omega (arith, on rest refl)
