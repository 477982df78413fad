-- The sheet's refusal, or the answer of its tables.
use mathlib.Core.Path.{refl}
use Rattle.std.proofs.lemmas.Result.{err_from_is_err_and}
use Rattle.theory_forest.proofs.Shape.{well_formed_shaped}
use Rattle.solve_term.proofs.Answers.{meant_read}
use Rattle.counter.proofs.Numbers.{text_numbered}
use Rattle.counter.proofs.term.Goals as goal

pub term_of-requires : goal.term_of-requires
term_of-requires c = meant_read c.args.sheet.now _ c.in_ok-graph.ensures

pub returns-in_err-graph : goal.returns-in_err-graph
returns-in_err-graph c =
    let p = err_from_is_err_and c.from_residual.result c.from_residual.ensures.1 in
    rw (p.1, p.2, c.in_err-graph.ensures) (record { term_of = (refl, refl); term_numbered = refl })

pub returns : goal.returns
returns c =
    let m = meant_read c.args.sheet.now _ c.in_ok-graph.ensures in
    let called = c.term_of.ensures m in
    rw m.is (record { term_of = called; term_numbered = text_numbered m.content (well_formed_shaped m.tables.well_formed) called })
