-- The steps are made on the first n bytes, and these are put back before the others.
use native.Mathlib.Omega.{arith}
use mathlib.Core.Path.{◌≡◌, sym, subst⁻¹, ◌∙◌}
use mathlib.Core.List.{List}
use Prim.Native.Nat.{ℕ}
use native.Mathlib.Nat.{min-le_right}
use lib.ListN.{length, take, drop, length-take}
use lib.Seq.{take_at, drop_at}
use Rattle.graph.specs.Rule1.{Rule1}
use Rattle.base_tables.proofs.TreeLaws.{tables_parents}
use Rattle.solve_rule1.proofs.SolvedTables.{solved_length}
use Rattle.solve_rule1.proofs.configure.Goals as goal

pub inner_nodes-inner-requires : goal.inner_nodes-inner-requires
inner_nodes-inner-requires c =
    tables_parents c.requires.sheet.tables

pub slice_bounds-steps-end : goal.slice_bounds-steps-end
slice_bounds-steps-end c =
    let a = c.args in
    omega (arith, solved_length a.graph.now.n a.graph.now.parent (take a.graph.now.n a.placing.now) c.requires, length-take a.graph.now.n a.placing.now, min-le_right a.graph.now.n (length a.placing.now))

pub slice_bounds-steps-end-2 : goal.slice_bounds-steps-end-2
slice_bounds-steps-end-2 c =
    let a = c.args in
    sym (solved_length a.graph.now.n a.graph.now.parent (take a.graph.now.n a.placing.now) c.requires)

pub returns : goal.returns
returns c =
    let a = c.args in
    let old : List ℕ = a.placing.now in
    let new : List ℕ = c.steps.new.p in
    let kept : length new ≡ length (take a.graph.now.n old) = c.steps.auto.p in
    let long : length new ≡ a.graph.now.n = kept ∙ solved_length a.graph.now.n a.graph.now.parent (take a.graph.now.n old) c.requires in
    record {
      reached = λ s. subst⁻¹ (λ (q : List ℕ). Rule1 s.sheet.graph (take a.graph.now.n old) q) (take_at new (drop a.graph.now.n old) a.graph.now.n long) (c.steps.ensures s);
      others = drop_at new (drop a.graph.now.n old) a.graph.now.n long;
    }
