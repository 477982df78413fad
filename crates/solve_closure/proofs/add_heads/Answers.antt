use mathlib.Core.Path.{◌≡◌, refl}
use lib.ListN.{get_or}
use native.Mathlib.Omega.{arith}
use Rattle.base_tables.specs.Rows.{nothing, in_row}
use Rattle.base_tables.proofs.Stored.{row_put}
use Rattle.solve_closure.proofs.Edges.{adds_ext, adds_none, adds_more, put_adds, head_none, head_more}
use Rattle.solve_closure.proofs.add_heads.Goals as goal

pub loop-l-init : goal.loop-l-init
loop-l-init c =
    let a = c.args in
    (omega arith, adds_none _ _ (head_none a.heads.now))

pub loop-l-preserved : goal.loop-l-preserved
loop-l-preserved c =
    let l = c.loop-l in
    let heads = c.args.heads.now in
    let row = get_or l.rows l.l nothing in (
      omega arith,
      adds_ext
          (head_more l.l heads)
          (adds_more
          l.invariant.1
          (put_adds l.l (in_row heads l.l) row (λ v. refl) (λ v. c.union.ensures v) (row_put l.l c.union.result l.rows (omega (arith, c.requires.1, c.requires.2, l.invariant.1.long))))),
    )

pub returns : goal.returns
returns c =
    let l = c.loop-l in
    let all : l.l ≡ c.args.n = omega arith in
    rw all at l.invariant.1
