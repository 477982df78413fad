-- The readings by their numbers: where the walk stands, and the answer to how many there are.
use Prim.Native.Nat.{ℕ, ◌+◌, ◌-◌, ◌%◌, ◌≤◌, ◌<◌}
use mathlib.Core.Path.{◌≡◌, refl, sym, ap, ◌∙◌}
use mathlib.Core.List.{List, ◌++◌}
use mathlib.Core.Bool.{true, false, true≢false}
use native.Mathlib.Nat.{mul-le-mul}
use native.Mathlib.Omega.{arith}
use lib.ListN.{length, take, drop, take-append-drop}
use borrow.Author.Tests.{le-leb, lt-leb}
use Rattle.base_nodeset.specs.declared.NodeSet.{NodeSet}
use Rattle.graph.specs.Graph.{Graph}
use Rattle.graph.specs.Order.{entry, limit, count_answer}
use Rattle.graph.specs.declared.Count.TheVariants.{Exactly, More}
use Rattle.theory_list.specs.Readings.{listed}
use Rattle.theory_list.specs.Settled.{settled}
use Rattle.theory_walk.proofs.States.{at_below, at_entry}
use Rattle.base_tables.specs.Trees.{TreesOf, Fits}
use Rattle.base_tables.specs.declared.trees.Trees.{Trees}
use Rattle.solve_reduce.specs.Reduced.{LooplessForm}
use Rattle.solve_levels.specs.Decisions.{Trail, reached}
use Rattle.solve_levels.specs.Levels.{state}
use Rattle.solve_branch.specs.States.{Stands}
use Rattle.solve_levels.specs.declared.Level.{Level}
use Rattle.solve_branch.proofs.Walks.{stands_form, stands_trees}
use Rattle.solve_walk.specs.States.{Walkable}
use Rattle.solve_numbered.specs.Numbered.{Tables, Reaches, Finds}
use Rattle.std.specs.Prelude.{Result, Ok, Err}
use Rattle.solve_numbered.specs.declared.TooFew.{TooFew}

-- where the walk has led
module _ (g : Graph) (trail : Trail) (states : List NodeSet) (k : ℕ) where
  pub reached_at : {r : Result Level TooFew} {at : Level} → Reaches g trail states k r → r ≡ Ok at → Stands g trail states at (k - 1)
  reached_at x e = rw e at x

  pub reached_only : {r : Result Level TooFew} {few : TooFew} → Reaches g trail states k r → r ≡ Err few → (length (listed g) ≡ few.all) × (few.all < k)
  reached_only x e = rw e at x

-- the count, by the walk to one more than the last number
module _ (g : Graph) (trail : Trail) (states : List NodeSet) {r : Result Level TooFew} (x : Reaches g trail states (limit + 1) r) where
  pub all_exact : {few : TooFew} → r ≡ Err few → Exactly few.all ≡ count_answer (length (listed g))
  unfolding count_answer
  all_exact {few} e =
      let y = reached_only g trail states (limit + 1) x e in
      rw (y.0, le-leb few.all limit (omega (arith, y.1)))

  pub all_more : {at : Level} → r ≡ Ok at → More ≡ count_answer (length (listed g))
  unfolding count_answer
  all_more e = rw (lt-leb (length (listed g)) limit (at_below (reached_at g trail states (limit + 1) x e).reading))

-- at a reading: its placing is read off the level
pub stands_entry : {g : Graph} {t : Trees} {trail : Trail} {states : List NodeSet} {at : Level} {k : ℕ} → Fits g t → Stands g trail states at k
    → (out : List ℕ) → ((h : Graph) → TreesOf h t → LooplessForm h t.n (state t.n (at.opened % 32) states) → take t.n out ≡ settled h) → take t.n out ≡ entry (listed g) k
stands_entry {g} {trail = trail} {at = at} f x out wrote = wrote (reached g trail at.depth) (stands_trees f x) (stands_form f x) ∙ sym (at_entry x.reading)

module _ {t : Trees} {rows : List NodeSet} (s : Walkable t rows) (trail : Trail) (states : List NodeSet) (k : ℕ) {r : Result Level TooFew} (x : Reaches s.walked.graph trail states k r) where
  pub found_none : {few : TooFew} → r ≡ Err few → (old : List ℕ) → Finds s.walked.graph k old false old
  found_none e old =
      let y = reached_only s.walked.graph trail states k x e in
      record { found = λ b. absurd (true≢false (sym b)); fewer = λ b. (omega (arith, y.0, y.1), refl) }

  pub found : {at : Level} → 1 ≤ k → r ≡ Ok at → (old new : List ℕ) → drop t.n new ≡ drop t.n old
      → ((g : Graph) → TreesOf g t → LooplessForm g t.n (state t.n (at.opened % 32) states) → take t.n new ≡ settled g) → Finds s.walked.graph k old true new
  found one e old new rest wrote =
      let g = s.walked.graph in
      let f = s.walked.fits in
      let y = reached_at g trail states k x e in
      let below = at_below y.reading in
      record {
        found = λ b. (
          omega (arith, below),
          sym (take-append-drop t.n new) ∙ rw (stands_entry f y new wrote, rest) (ap (λ (m : ℕ). entry (listed g) (k - 1) ++ drop m old) f.trees.nodes),
        );
        fewer = λ b. absurd (true≢false b);
      }

-- the tables of the two sizes
pub small_tables : (n : ℕ) → n ≤ 32 → Tables n 1122 1024
small_tables n h = ((omega arith, omega arith), (omega (arith, mul-le-mul h h), omega arith))

pub large_tables : (n : ℕ) → n ≤ 128 → Tables n 4386 16384
large_tables n h = ((omega arith, omega arith), (omega (arith, mul-le-mul h h), omega arith))
