-- Below the limit the last number is the length of the list.
use Prim.Native.Nat.{ℕ, ◌<◌, min}
use mathlib.Core.Path.{◌≡◌, ap, ◌∙◌}
use mathlib.Core.Bool.{not}
use native.Mathlib.Omega.{arith}
use lib.ListN.{length}
use borrow.Author.Tests.{le-leb}
use Rattle.graph.specs.Order.{limit, count_answer}
use Rattle.graph.specs.declared.Count.TheVariants.{Exactly}
use Rattle.theory_list.specs.Readings.{listed}
use Rattle.show_list.proofs.Underway.{none_there}
use Rattle.show_list.proofs.total.Goals as goal

exactly : (all last : ℕ) → last ≡ min all limit → last < limit → Exactly last ≡ count_answer all
unfolding count_answer
exactly all last e h =
    let same : all ≡ last = omega arith in
    rw (same, le-leb last limit (omega arith))

pub returns-then-is_none : goal.returns-then-is_none
returns-then-is_none c =
    λ x. exactly (length (listed x.walked.graph)) c.args.stop.last (c.requires.last_value x (none_there c.args.stop.next (c.is_none.ensures ∙ ap not c.if-is_none.true))) (omega arith)
