-- Bytes that are no placing, a placing that is no solved form, a solved form.
use mathlib.Core.Path.{sym, ◌∙◌}
use Rattle.theory_forest.proofs.Shape.{well_formed_shaped}
use Rattle.base_tables.proofs.TreeLaws.{tree_of}
use Rattle.check_placing.proofs.Shapes.{placing_tested}
use Rattle.check_placing.proofs.Verdicts.{links_here, placed_here, not_placing, reads_here, is_solved, not_solved, noes_answered, yes_answered}
use borrow.Author.Rules.{rules}
use Rattle.check_placing.proofs.check.Goals as goal

pub returns-then-not-is_placing : goal.returns-then-not-is_placing
returns-then-not-is_placing c =
    let a = c.args in
    let r = c.ends-trees in
    let is = placing_tested r.result a.placing.now c.is_placing.result c.is_placing.ensures in
    λ g edges t.
    let e = r.ensures.trees_of g (well_formed_shaped t.well_formed) (tree_of t) in
    noes_answered g _ c.default.result (search rules) (not_placing r.result r.ensures.bounded.1 a.placing.now c.requires.1 e (sym is ∙ c.if-not-is_placing.true))

pub placing_rows-requires : goal.placing_rows-requires
placing_rows-requires c =
    let a = c.args in
    let r = c.ends-trees in
    let is = placing_tested r.result a.placing.now c.is_placing.result c.is_placing.ensures in
    (c.requires.0, links_here r.result r.ensures.bounded.1 a.placing.now c.requires.1 (sym is ∙ c.if-not-is_placing.false), search rules)

pub returns-then-not-solved : goal.returns-then-not-solved
returns-then-not-solved c =
    let a = c.args in
    let r = c.ends-trees in
    let is = placing_tested r.result a.placing.now c.is_placing.result c.is_placing.ensures in
    let all = c.solved in
    λ g edges t.
    let e = r.ensures.trees_of g (well_formed_shaped t.well_formed) (tree_of t) in
    let placed = placed_here r.result r.ensures.bounded.1 a.placing.now c.requires.1 e (sym is ∙ c.if-not-is_placing.false) in
    let rows = c.placing_rows.ensures g _ edges t placed in
    noes_answered g _ c.default-then-not-solved.result (search rules) (not_solved t rows placed (sym all.ensures ∙ c.if-not-solved.true))

pub returns : goal.returns
returns c =
    let a = c.args in
    let r = c.ends-trees in
    let f = c.fill_owners in
    let is = placing_tested r.result a.placing.now c.is_placing.result c.is_placing.ensures in
    let all = c.solved in
    λ g edges t.
    let s = well_formed_shaped t.well_formed in
    let e = r.ensures.trees_of g s (tree_of t) in
    let placed = placed_here r.result r.ensures.bounded.1 a.placing.now c.requires.1 e (sym is ∙ c.if-not-is_placing.false) in
    let rows = c.placing_rows.ensures g _ edges t placed in
    let form = is_solved t rows placed (sym all.ensures ∙ c.if-not-solved.false) in
    let same = f.ensures.ends.0 ∙ r.ensures.bounded.1 in
    let fits = f.ensures.trees_of g s (rw r.ensures.bounded.1 (tree_of t)) e in
    let reads = reads_here f.new.self same a.placing.now c.reading.result (λ tables under. c.reading.ensures g edges tables fits under) t rows form in
    yes_answered g a.graph.now.n s t.nodes a.placing.now placed form c.single.result c.reading.result c.single.ensures reads
