-- From the answers of the tests to the three answers.
use Prim.Native.Nat.{ℕ, ◌≤◌}
use mathlib.Core.Path.{◌≡◌, refl, sym, subst, ◌∙◌}
use mathlib.Core.List.{List}
use mathlib.Core.Bool.{Bool, true, false, not, ◌&&◌, true≢false}
use mathlib.Core.Logic.{◌↔◌}
use lib.ListN.{length, take}
use Rattle.base_finite.specs.Below.{any}
use Rattle.base_nodeset.specs.declared.NodeSet.{NodeSet}
use Rattle.graph.specs.Graph.{Graph}
use Rattle.graph.specs.Placing.{placing, Below, SolvedForm, Reading}
use Rattle.theory_forest.specs.Shape.{Shaped}
use Rattle.base_tables.specs.Rows.{in_row, Rows}
use Rattle.base_tables.specs.Tables.{Tables}
use Rattle.base_tables.specs.Trees.{TreesOf}
use Rattle.base_tables.specs.declared.trees.Trees.{Trees}
use Rattle.solve_closure.specs.Closing.{Links}
use Rattle.check_placing.specs.Tests.{placing_in, downward_in, single_in}
use Rattle.check_placing.specs.Answered.{Answered, Noes}
use Rattle.check_placing.specs.declared.Answers.{Answers}
use Rattle.check_placing.proofs.Shapes.{placing_links, placing_is, solved_is, single_is}

-- the trees count as many nodes as there are

module _ (t : Trees) {n : ℕ} (same : t.n ≡ n) (bytes : List ℕ) (long : n ≤ length bytes) where
  enough : t.n ≤ length bytes
  enough = subst (λ (k : ℕ). k ≤ length bytes) (sym same) long

  pub links_here : placing_in t bytes ≡ true → Links n bytes
  links_here is = subst (λ (k : ℕ). Links k bytes) same (placing_links t bytes enough is)

  module _ {g : Graph} (e : TreesOf g t) where
    placed_is : placing_in t bytes ≡ placing g (take n bytes)
    placed_is = subst (λ (k : ℕ). placing_in t bytes ≡ placing g (take k bytes)) same (placing_is g t bytes e enough)

    pub placed_here : placing_in t bytes ≡ true → placing g (take n bytes) ≡ true
    placed_here is = sym placed_is ∙ is

    pub not_placing : placing_in t bytes ≡ false → SolvedForm g (take n bytes) → ⊥
    not_placing is f = true≢false (sym f.is_placing ∙ sym placed_is ∙ is)

pub reads_here : (t : Trees) {n : ℕ} → t.n ≡ n → (bytes : List ℕ) {g : Graph} {parents : List ℕ} {heads under : List NodeSet} {edges : ℕ} (reads : Bool)
    → (Tables g t.n parents heads edges → Rows (Below g (take t.n bytes)) under → SolvedForm g (take t.n bytes) → (reads ≡ true) ↔ Reading g (take t.n bytes))
    → Tables g n parents heads edges → Rows (Below g (take n bytes)) under → SolvedForm g (take n bytes) → (reads ≡ true) ↔ Reading g (take n bytes)
reads_here t same bytes {g} {parents} {heads} {under} {edges} reads =
    subst (λ (k : ℕ). Tables g k parents heads edges → Rows (Below g (take k bytes)) under → SolvedForm g (take k bytes) → (reads ≡ true) ↔ Reading g (take k bytes)) same

module _ {g : Graph} {n : ℕ} {parents : List ℕ} {heads rows : List NodeSet} {p : List ℕ} {edges : ℕ} (t : Tables g n parents heads edges) (are : Rows (Below g p) rows)
    (is : placing g p ≡ true) where
  pub is_solved : (not (any n (λ u. in_row rows u u)) && downward_in n heads rows) ≡ true → SolvedForm g p
  is_solved = (solved_is g n parents heads rows edges t p are is).0

  pub not_solved : (not (any n (λ u. in_row rows u u)) && downward_in n heads rows) ≡ false → SolvedForm g p → ⊥
  not_solved fails f = true≢false (sym ((solved_is g n parents heads rows edges t p are is).1 f) ∙ fails)

pub noes_answered : (g : Graph) (p : List ℕ) (r : Answers) → Noes r → (SolvedForm g p → ⊥) → Answered g p r
noes_answered g p r noes not_one =
    record {
      solved = (λ t. absurd (true≢false (sym t ∙ noes.solved)), λ f. absurd (not_one f));
      configuration = (λ t. absurd (true≢false (sym t ∙ noes.configuration)), λ k. absurd (not_one k.solved));
      reading = (λ t. absurd (true≢false (sym t ∙ noes.reading)), λ k. absurd (not_one k.solved));
    }

pub yes_answered : (g : Graph) (n : ℕ) → Shaped g → n ≡ g.nodes → (bytes : List ℕ) → placing g (take n bytes) ≡ true → SolvedForm g (take n bytes) → (alone reads : Bool) → alone ≡ single_in n bytes
    → (reads ≡ true) ↔ Reading g (take n bytes) → Answered g (take n bytes) (record { solved = true; configuration = alone; reading = reads })
yes_answered g n s same bytes is f alone reads e r =
    let one = single_is g n s same bytes is in
    record {
      solved = (λ t. f, λ k. refl);
      configuration = (λ t. record { solved = f; one_root = one.0 (sym e ∙ t) }, λ k. e ∙ one.1 k.one_root);
      reading = r;
    }
