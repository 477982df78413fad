-- The set is stored, or it was the same.
use mathlib.Core.Path.{refl, sym, ◌∙◌}
use lib.ListN.{get_or}
use Rattle.base_tables.specs.Rows.{nothing}
use Rattle.base_tables.proofs.Stored.{row_put}
use lib.Dec.{eqb}
use borrow.Author.Tests.{eqb-true}
use Rattle.base_finite.proofs.Laws.{and_both}
use Rattle.solve_reduce.proofs.Tables.{revised_put, revised_same, forks_put}
use Rattle.solve_reduce.proofs.reduced.revise_one.Goals as goal

pub returns-then-eq : goal.returns-then-eq
returns-then-eq c =
    let old = get_or c.args.sets.now c.args.v nothing in
    let from = c.union-from.result in
    let same = and_both (eqb old.low from.low) (eqb old.high from.high) (sym c.eq.ensures ∙ c.if-eq.true) in
    record { revised_at = revised_same c.args.v c.args.less c.args.more old c.difference.result c.union-from.result c.args.sets.now (λ v. refl) c.difference.ensures c.union-from.ensures (eqb-true old.low from.low same.0) (eqb-true old.high from.high same.1); forks = λ roots h are. are }

pub noted-requires : goal.noted-requires
noted-requires c = c.requires.1

pub returns : goal.returns
returns c =
    let old = get_or c.args.sets.now c.args.v nothing in
    let put = row_put c.args.v c.union-from.result c.args.sets.now c.requires.0 in
    record { revised_at = revised_put c.args.v c.args.less c.args.more old c.difference.result c.union-from.result c.args.sets.now (λ v. refl) c.difference.ensures c.union-from.ensures put; forks = λ roots h are. forks_put roots c.args.v c.args.forks c.noted.result h put c.noted.ensures are }
