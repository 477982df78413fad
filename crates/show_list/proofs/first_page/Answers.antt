-- The first placings are at hand, and how many readings there are.
use native.Mathlib.Omega.{arith}
use Rattle.base_text.proofs.Lines.{count_short}
use Rattle.show_list.proofs.Underway.{begins}
use Rattle.show_list.proofs.first_page.Goals as goal

pub total-readings-requires : goal.total-readings-requires
total-readings-requires c = record { walkable = c.requires.ready.1.walkable.sheet; last_value = λ x. (c.walk-stop.ensures.filled x).1.ended }

pub count_line-bytes-requires : goal.count_line-bytes-requires
count_line-bytes-requires c = omega (arith, count_short c.total-readings.result, c.requires.in_bounds.3)

pub returns : goal.returns
returns c =
    λ g x.
    begins x.walkable _ c.walk-stop.ensures.last_lt_limit c.walk-stop.ensures.filled _ c.total-readings.ensures c.count_line-bytes.ensures
    (omega (arith, count_short c.total-readings.result, c.requires.in_bounds.3, c.count_line-bytes.ensures.after))
