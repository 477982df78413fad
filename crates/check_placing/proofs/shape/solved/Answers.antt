-- A cycle, or none and the edges' answer.
use mathlib.Core.Path.{◌≡◌, sym, ◌∙◌}
use mathlib.Core.Bool.{false}
use Rattle.base_finite.specs.Below.{any}
use Rattle.base_tables.specs.Rows.{in_row}
use Rattle.check_placing.proofs.shape.solved.Goals as goal

pub returns-then-not-cyclic : goal.returns-then-not-cyclic
returns-then-not-cyclic c =
    let a = c.args in
    let e : any a.n (λ u. in_row a.rows.now u u) ≡ false = sym c.cyclic.ensures ∙ c.if-not-cyclic.true in
    c.downward.ensures ∙ rw e
