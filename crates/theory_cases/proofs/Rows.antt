-- The single lemma over the rows of the table, `all_hold`: what each row claims is true of its sheet, by the definitions.
-- Each row is tested, and the whole table tests true by computation, in one step (`all_true`); a row that tests true
-- holds, by the one law of the tests. So a row more is a line more in the table, and nothing here.
use Prim.Native.Nat.{zero, suc}
use mathlib.Core.Path.{◌≡◌, refl}
use mathlib.Core.List.{List, [], ◌∷◌}
use mathlib.Core.Bool.{Bool, true, ◌&&◌}
use native.Mathlib.Nat.{le_of_suc-le-suc, not-suc-le-zero}
use Rattle.base_finite.specs.Below.{any, all, count, least, spread, select}
use Rattle.base_finite.proofs.Laws.{and_both}
use Rattle.graph.specs.Graph.{among, different, entered, left, root, leaf, parent, top, own, leaf_of, cyclic, rises, bare, added_leaf, grown_tree}
use Rattle.format.specs.Sheet.{outcome_of, all_commands, commands, takes_two, takes_none, beyond, whole, fitted, overgrown, astray}
use Rattle.graph.specs.Placing.{hangs}
use Rattle.graph.specs.Order.{count_answer}
use Rattle.graph.specs.Rule1.{problem, up, rise, depth, shallowest, problem_leaf, staying, lowest_leaf_of, shifted}
use Rattle.graph.specs.Cycle.{pairs, joined, same_edge, cycle, dominance_at, hypernormal, hypernormal_cycle}
use Rattle.format.specs.Text.{digits, decimal, count_line, reading_line, numbered, printed}
use Rattle.format.specs.Drawing.{separated, leaf_text, fragment_text, drawing}
use Rattle.theory_list.specs.Readings.{listed}
use Rattle.theory_rule1.proofs.Ending.{configured}
use Rattle.theory_cases.specs.Table.{Row, rows, AllHold}
use Rattle.theory_cases.proofs.Tests.{holds?, tested}

-- every row tests true
unfoldable pub every : List Row → Bool
unfolding holds?
every [] = true
every (r ∷ rs) = holds? r.sheet r.claim && every rs

every_holds : (rs : List Row) → every rs ≡ true → AllHold rs
unfolding every
every_holds [] h i l = absurd (not-suc-le-zero l)
every_holds (r ∷ rs) h zero l = tested r.sheet r.claim (and_both (holds? r.sheet r.claim) (every rs) h).0
every_holds (r ∷ rs) h (suc i) l =
    every_holds rs (and_both (holds? r.sheet r.claim) (every rs) h).1 i (le_of_suc-le-suc l)

-- the table, computed
pub all_true : every rows ≡ true
unfolding every rows numbered printed outcome_of all_commands commands takes_two takes_none beyond whole fitted cyclic rises overgrown bare added_leaf grown_tree astray listed configured count_answer count_line reading_line digits decimal drawing fragment_text leaf_text separated pairs joined same_edge cycle dominance_at hypernormal hypernormal_cycle problem up rise depth shallowest problem_leaf staying lowest_leaf_of shifted hangs among different entered left root leaf parent top own leaf_of any all count least spread select
all_true = refl

-- the row with any number below the table's length holds
pub all_hold : AllHold rows
all_hold = every_holds rows all_true
