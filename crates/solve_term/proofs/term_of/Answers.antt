-- 10, then 9 and 11 as the search has them, or the term of the reading that was found.
use mathlib.Core.Path.{refl}
use native.Mathlib.Omega.{arith}
use Rattle.std.proofs.lemmas.Result.{err_from_is_err_and}
use Rattle.solve_answer.specs.Calls as calls
use Rattle.solve_answer.proofs.Texts.{text_refused}
use Rattle.solve_term.proofs.Answers.{empty_table, sheet_tables, writable, term_drawn}
use Rattle.solve_term.proofs.term_of.Goals as goal

pub returns-then-out-lt-TERM : goal.returns-then-out-lt-TERM
returns-then-out-lt-TERM c =
    λ m. calls.TextCall.small (omega (arith, c.if-out-lt-TERM.true))

pub seek-requires : goal.seek-requires
seek-requires c =
    sheet_tables c.requires

pub node_table-labelled-requires : goal.node_table-labelled-requires
node_table-labelled-requires c =
    empty_table _ refl

pub write-requires : goal.write-requires
write-requires c =
    let m = c.requires in
    (writable m (c.in_ok-seek.ensures (sheet_tables m)) refl (c.node_table-labelled.ensures m.content m.is), omega (arith, c.if-out-lt-TERM.false))

pub returns-in_err-seek : goal.returns-in_err-seek
returns-in_err-seek c =
    let p = err_from_is_err_and c.from_residual.result c.from_residual.ensures.1 in
    λ m. rw (p.1, p.2) (text_refused (omega (arith, c.if-out-lt-TERM.false)) (c.in_err-seek.ensures (sheet_tables m)) refl)

pub returns : goal.returns
returns c =
    λ m. term_drawn m (c.in_ok-seek.ensures (sheet_tables m)) refl (omega (arith, c.if-out-lt-TERM.false)) (c.node_table-labelled.ensures m.content m.is) c.write.ensures
