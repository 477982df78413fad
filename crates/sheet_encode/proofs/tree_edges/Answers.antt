use Rattle.std.proofs.Common.{rules, ◌≡◌, ◌∙◌, take}
use Rattle.std.specs.Prelude.{count_by, not}
use native.Mathlib.Omega.{arith}
use lib.Dec.{eqb}
use Rattle.sheet_encode.proofs.Runs.{counted}
use Rattle.sheet_encode.specs.Tidy.{trees_in}
use Rattle.sheet_encode.proofs.tree_edges.Goals as goal

pub returns : goal.returns
unfolding trees_in
returns c =
    let a = c.args in
    let chain : c.count.result ≡ count_by (λ x. not (eqb x 255)) (take a.n a.parent.now) = search rules in
    chain ∙ counted (λ x. not (eqb x 255)) a.parent.now a.n (omega (arith, c.requires.few, c.requires.long))
