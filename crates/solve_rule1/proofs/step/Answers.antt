-- The leaf chosen is the problem leaf; from it come the root that stays and the leaf that the others go to, so the bytes
-- become the shifted placing.
use Rattle.std.proofs.Common.{rules}
use Prim.Native.Nat.{ℕ, ◌<◌}
use mathlib.Core.Path.{◌≡◌, refl, sym, ◌∙◌}
use mathlib.Core.List.{List}
use mathlib.Core.Bool.{true, false}
use native.Mathlib.Omega.{arith}
use lib.ListN.{length}
use borrow.Author.Tests.{not-true, not-false}
use Rattle.base_finite.specs.Below.{any, least}
use Rattle.base_finite.specs.Stores.{entry_is}
use Rattle.base_nodeset.specs.Set.{mem}
use Rattle.base_nodeset.specs.declared.NodeSet.{NodeSet}
use Rattle.graph.specs.Rule1.{depth, problem_leaf, lowest_leaf_of}
use Rattle.theory_rule1.proofs.Shifting.{Problem}
use Rattle.solve_rule1.specs.Carried.{Carrying, Best}
use Rattle.solve_rule1.specs.Solved.{Solved}
use Rattle.solve_rule1.proofs.SolvedTables.{few, solved_length, any_several, any_problem}
use Rattle.solve_rule1.proofs.Choosing.{best_is, some_first}
use Rattle.solve_rule1.proofs.Stepping.{staying_first, target_first, target_within, shifted_is}
use Rattle.solve_rule1.proofs.step.Goals as goal

-- the leaves are those that carry several roots, and the one chosen is the problem leaf
carried : (n : ℕ) (parents p : List ℕ) → Solved n parents p → (leaves : NodeSet) → Carrying 2 (length p) p leaves → Carrying 2 n p leaves
carried n parents p s leaves c = rw (solved_length n parents p s) at c

chosen : (n : ℕ) (parents p : List ℕ) (s : Solved n parents p) (leaves : NodeSet) → Carrying 2 (length p) p leaves → any 128 (mem leaves) ≡ true
    → (from : ℕ) → from < n → Best leaves (depth s.sheet.graph p) n from → Problem s.sheet.graph p × (from ≡ problem_leaf s.sheet.graph p)
chosen n parents p s leaves c t from h b =
    let w = carried n parents p s leaves c in
    (sym (any_problem n parents p s leaves w) ∙ t, best_is n parents p s leaves w from h b)

pub returns-then-is_empty : goal.returns-then-is_empty
returns-then-is_empty c = λ s.
    let a = c.args in
    let e = c.several-leaves in
    let empty : any 128 (mem e.result) ≡ false = not-true (any 128 (mem e.result)) (sym c.is_empty.ensures ∙ c.if-is_empty.true) in
    record {
      answer = sym empty ∙ any_problem a.graph.now.n a.graph.now.parent a.p.now s e.result (carried a.graph.now.n a.graph.now.parent a.p.now s e.result e.ensures);
      placing = refl;
    }

pub best_leaf-from-requires : goal.best_leaf-from-requires
best_leaf-from-requires c =
    let a = c.args in
    let s = c.requires.0 in
    let e = c.several-leaves in
    let some : any 128 (mem e.result) ≡ true = not-false (any 128 (mem e.result)) (sym c.is_empty.ensures ∙ c.if-is_empty.false) in
    (s, sym (any_several a.graph.now.n a.graph.now.parent a.p.now s e.result (carried a.graph.now.n a.graph.now.parent a.p.now s e.result e.ensures)) ∙ some)

pub unwrap-stays-requires : goal.unwrap-stays-requires
unwrap-stays-requires c =
    let a = c.args in
    let s = c.requires.0 in
    let e = c.several-leaves in
    let b = c.best_leaf-from in
    let some : any 128 (mem e.result) ≡ true = not-false (any 128 (mem e.result)) (sym c.is_empty.ensures ∙ c.if-is_empty.false) in
    let w = chosen a.graph.now.n a.graph.now.parent a.p.now s e.result e.ensures some b.result b.ensures.0 (b.ensures.1 s) in
    let found = staying_first a.graph.now.n a.graph.now.parent a.p.now s b.result w.1 b.ensures.0 w.0 c.lowest_root.result c.lowest_root.ensures in
    search rules

pub unwrap-to-requires : goal.unwrap-to-requires
unwrap-to-requires c =
    let a = c.args in
    let s = c.requires.0 in
    let e = c.several-leaves in
    let b = c.best_leaf-from in
    let some : any 128 (mem e.result) ≡ true = not-false (any 128 (mem e.result)) (sym c.is_empty.ensures ∙ c.if-is_empty.false) in
    let w = chosen a.graph.now.n a.graph.now.parent a.p.now s e.result e.ensures some b.result b.ensures.0 (b.ensures.1 s) in
    let found = staying_first a.graph.now.n a.graph.now.parent a.p.now s b.result w.1 b.ensures.0 w.0 c.lowest_root.result c.lowest_root.ensures in
    let is : c.unwrap-stays.result ≡ least a.graph.now.n (entry_is a.p.now b.result) = some_first (sym c.unwrap-stays.ensures ∙ found) in
    let leaf = target_first a.graph.now.n a.graph.now.parent a.p.now s b.result w.1 b.ensures.0 w.0 c.unwrap-stays.result is c.lowest_leaf.result (c.lowest_leaf.ensures s.sheet) in
    search rules

pub overflow_cast-to : goal.overflow_cast-to
overflow_cast-to c =
    let a = c.args in
    let s = c.requires.0 in
    omega (arith, few a.graph.now.n a.graph.now.parent s.sheet, target_within _ _ c.lowest_leaf.result c.unwrap-to.result (c.lowest_leaf.ensures s.sheet) c.unwrap-to.ensures)

pub returns : goal.returns
returns c = λ s.
    let a = c.args in
    let e = c.several-leaves in
    let b = c.best_leaf-from in
    let new = c.move_others.new.p in
    let some : any 128 (mem e.result) ≡ true = not-false (any 128 (mem e.result)) (sym c.is_empty.ensures ∙ c.if-is_empty.false) in
    let w = chosen a.graph.now.n a.graph.now.parent a.p.now s e.result e.ensures some b.result b.ensures.0 (b.ensures.1 s) in
    let found = staying_first a.graph.now.n a.graph.now.parent a.p.now s b.result w.1 b.ensures.0 w.0 c.lowest_root.result c.lowest_root.ensures in
    let is : c.unwrap-stays.result ≡ least a.graph.now.n (entry_is a.p.now b.result) = some_first (sym c.unwrap-stays.ensures ∙ found) in
    let leaf = target_first a.graph.now.n a.graph.now.parent a.p.now s b.result w.1 b.ensures.0 w.0 c.unwrap-stays.result is c.lowest_leaf.result (c.lowest_leaf.ensures s.sheet) in
    let to : c.unwrap-to.result ≡ lowest_leaf_of s.sheet.graph c.unwrap-stays.result = some_first (sym c.unwrap-to.ensures ∙ leaf) in
    let long = solved_length a.graph.now.n a.graph.now.parent a.p.now s in
    let kept : length new ≡ length a.p.now = c.move_others.auto.p in
    record {
      answer = sym w.0;
      placing =
          shifted_is a.graph.now.n a.graph.now.parent a.p.now s b.result w.1 b.ensures.0 c.unwrap-stays.result c.unwrap-to.result
          new is to (kept ∙ long) (rw long at c.move_others.ensures);
    }
