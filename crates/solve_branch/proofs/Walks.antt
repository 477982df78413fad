-- The steps of the walk, on the table of decisions: one more, the last one turned or dropped, a reading reached, the end.
use Prim.Native.Nat.{ℕ, zero, suc, ◌+◌, ◌*◌, ◌-◌, ◌%◌, ◌≤◌, ◌<◌}
use mathlib.Core.Path.{◌≡◌, sym, ap, subst, ◌∙◌}
use mathlib.Core.List.{List, [], ◌∷◌, ◌++◌}
use mathlib.Core.Bool.{Bool, true, false}
use mathlib.Core.Logic.{◌⊎◌, ⊎_elim, ◌↔◌}
use native.Mathlib.Omega.{arith}
use lib.Dec.{ltb}
use lib.ListN.{length}
use borrow.Author.Tests.{ltb-true, ltb-false}
use Rattle.base_finite.proofs.Laws.{by_bool}
use Rattle.base_nodeset.specs.declared.NodeSet.{NodeSet}
use Rattle.graph.specs.Graph.{Graph, Descent, leaf, own}
use Rattle.graph.specs.Order.{Choice}
use Rattle.graph.specs.Placing.{Solvable, Unsolvable}
use Rattle.theory_forest.specs.Shape.{Shaped}
use Rattle.theory_list.specs.Redundancy.{Loopless}
use Rattle.theory_list.specs.Keeping.{Fresh}
use Rattle.theory_list.proofs.Choosing.{lower_leaf, upper_leaf}
use Rattle.theory_list.proofs.Keeping.{closes, first_fresh, second_fresh}
use Rattle.theory_list.specs.Readings.{listed}
use Rattle.base_tables.specs.Trees.{TreesOf, Fits}
use Rattle.base_tables.specs.declared.trees.Trees.{Trees}
use Rattle.solve_below.specs.Below.{Fragments, Under}
use Rattle.solve_reduce.specs.Reduced.{LooplessForm}
use Rattle.solve_reduce.specs.Chosen.{Chosen}
use Rattle.solve_reduce.specs.declared.choose.Fork.{Fork}
use Rattle.std.specs.Prelude.{Option, Some, None}
use Rattle.solve_reduce.proofs.Found.{chosen_none, chosen_choice}
use Rattle.theory_walk.specs.Walk.{Decision, first, second, half, graph_at, Valid, Entering, Leaving}
use Rattle.theory_walk.proofs.Halves.{solvable_loopless}
use Rattle.theory_walk.proofs.Decisions.{graph_leaf, graph_pushed, graph_shaped, Last, valid_popped}
use Rattle.theory_walk.proofs.States.{entering_outset, entering_shaped, entering_none, entering_solvable_stays, entering_room, entering_first, entering_at, leaving_turned, leaving_second, leaving_end}
use Rattle.solve_levels.specs.Decisions.{Trail, upper_at, lower_at, decisions, opens, reached, Kept, written, turned}
use Rattle.solve_levels.specs.Levels.{state, Matches}
use Rattle.solve_branch.specs.States.{Enters, Dives, Stands, Leaves}
use Rattle.solve_branch.specs.Dives.{Turns}
use Rattle.solve_branch.specs.Dead.{Dead}
use Rattle.solve_levels.specs.declared.Level.{Level}
use Rattle.solve_levels.proofs.Tables.{kept_upper, kept_lower, decision_first, decision_second, reached_none, decisions_none, decisions_more, decisions_length, decisions_pushed, opens_second, opens_seconds, kept_decisions, written_kept, written_upper, written_lower}
use Rattle.solve_levels.proofs.Stack.{level_here, fragments_here, matches_kept}
use Rattle.solve_levels.proofs.Fitting.{reduction_at, fits_in, same_nodes, valid_shaped, decision_loopless, last_choice}

-- a decision written down is one that can be taken
module _ (g : Graph) (trail : Trail) (d a b : ℕ) (long : d < length trail) where
  pub reached_written : reached g (written d a b trail) d ≡ reached g trail d
  reached_written = ap (graph_at g) (kept_decisions (written_kept trail d a b))

  pub written_shaped : Shaped (reached g trail d) → Shaped (reached g (written d a b trail) d)
  written_shaped s = subst Shaped (sym reached_written) s

  pub written_loopless : Loopless (reached g trail d) → Loopless (reached g (written d a b trail) d)
  written_loopless s = subst Loopless (sym reached_written) s

  pub written_fresh : Fresh (reached g trail d) a (own (reached g trail d) b)
      → Fresh (reached g (written d a b trail) d) (upper_at (written d a b trail) d) (own (reached g (written d a b trail) d) (lower_at (written d a b trail) d))
  written_fresh new = rw (reached_written, written_upper trail d a b long, written_lower trail d a b long) new

  -- the first half of a choice, and the second
  pub first_written : a < b → decisions (written d a b trail) (d + 1) ≡ decisions trail d ++ (first a b ∷ [])
  first_written h = decisions_pushed trail d a b long ∙ ap (λ (x : Decision). decisions trail d ++ (x ∷ [])) (decision_first a b h)

  pub second_written : b ≤ a → decisions (written d a b trail) (d + 1) ≡ decisions trail d ++ (second b a ∷ [])
  second_written h = decisions_pushed trail d a b long ∙ ap (λ (x : Decision). decisions trail d ++ (x ∷ [])) (decision_second b a h)

-- so is a first half turned
pub record Open (g : Graph) (trail trail' : Trail) (at : ℕ) : Type 0 where
  pub kept : Kept at trail trail'
  pub shaped : Shaped (reached g trail' at)
  pub loopless : Loopless (reached g trail' at)
  pub fresh : Fresh (reached g trail' at) (upper_at trail' at) (own (reached g trail' at) (lower_at trail' at))

pub turned_open : {g : Graph} {t : Trees} → Fits g t → (trail trail' : Trail) (last at : ℕ) → trail' ≡ turned last trail → at ≡ last → last < length trail
    → Valid g (decisions trail (last + 1)) → upper_at trail last < lower_at trail last → Open g trail trail' at
turned_open {g} {t} f trail trail' last at e is long v h =
    let s : Shaped (reached g trail last) = valid_shaped g t trail f last (last + 1) (omega arith) v in
    let c = last_choice g t trail f last v h in
    rw (e, is)
    (record {
      kept = written_kept trail last (lower_at trail last) (upper_at trail last);
      shaped = written_shaped g trail last (lower_at trail last) (upper_at trail last) long s;
      loopless = written_loopless g trail last (lower_at trail last) (upper_at trail last) long (decision_loopless g t trail f last (last + 1) (omega arith) v);
      fresh = written_fresh g trail last (lower_at trail last) (upper_at trail last) long (second_fresh (reached g trail last) s {v = c.0} c.1);
    })

pub reached_half : (g : Graph) (trail : Trail) (depth : ℕ) (ds : List Decision) (d : Decision) → decisions trail depth ≡ ds ++ (d ∷ []) → reached g trail depth ≡ half (graph_at g ds) d
reached_half g trail depth ds d e = ap (graph_at g) e ∙ graph_pushed g ds d

-- at a level

level_form : {g : Graph} {t : Trees} {trail : Trail} {states : List NodeSet} {at : Level} → Fits g t → Matches g trail states at → at.kept ≤ at.opened → Shaped (reached g trail at.depth) → Loopless (reached g trail at.depth)
    → LooplessForm (reached g trail at.depth) t.n (state t.n (at.opened % 32) states)
level_form {g} {t} {trail} {at = at} f m here s free =
    let e = same_nodes g t trail f at.depth in
    record { shaped = s; loopless = free; nodes = e; reduced = reduction_at e (level_here t.n f.trees.nodes m here) }

module _ {g : Graph} {t : Trees} {trail : Trail} {states : List NodeSet} {at : Level} {k : ℕ} (f : Fits g t) where
  pub stands_form : Stands g trail states at k → LooplessForm (reached g trail at.depth) t.n (state t.n (at.opened % 32) states)
  stands_form x = level_form f x.matches x.here (graph_shaped f.shaped x.reading.valid) x.reading.loopless

  pub stands_trees : Stands g trail states at k → TreesOf (reached g trail at.depth) t
  stands_trees x = (fits_in (decisions trail at.depth) t (graph_shaped f.shaped x.reading.valid) f).trees

  pub enters_shaped : Enters g trail states at k → Shaped (reached g trail at.depth)
  enters_shaped x = entering_shaped f.shaped x.entering

  enters_fits : Enters g trail states at k → Fits (reached g trail at.depth) t
  enters_fits x = fits_in (decisions trail at.depth) t (enters_shaped x) f

  pub enters_none : Enters g trail states at k → Unsolvable (reached g trail at.depth) → Leaves g trail states at at.depth k
  enters_none x n = record { leaving = entering_none f.shaped x.entering n; matches = x.matches; above = omega arith; seconds = sym x.matches.open_is }

  pub enters_dives : Enters g trail states at k → Solvable (reached g trail at.depth) → Dives g trail states at k
  enters_dives x s = record { enters = x; loopless = solvable_loopless s }

  -- whether it has a solved form
  pub tested_level : (r : Bool) → Enters g trail states at k
      → ((h : Graph) → Fits h t → Fragments t.n (own h) (state t.n 33 states) → Under h (state t.n (at.opened % 32) states) → (r ≡ true) ↔ Solvable h)
      → (r ≡ true) ↔ Solvable (reached g trail at.depth)
  tested_level r x tests =
      tests (reached g trail at.depth) (enters_fits x) (fragments_here t.n f.trees.nodes at.depth x.matches) (level_here t.n f.trees.nodes x.matches x.here).under

-- down

-- one edge more, from a leaf that each cycle goes through
pub record Led (g : Graph) (trail : Trail) (states : List NodeSet) (at : Level) (from k : ℕ) : Type 0 where
  pub enters : Enters g trail states at k
  pub is_leaf : leaf (reached g trail at.depth) from ≡ true
  pub cycle : (u : ℕ) → Descent (reached g trail at.depth) u u → Descent (reached g trail at.depth) from from

module _ {g : Graph} {t : Trees} {trail : Trail} {states : List NodeSet} {at : Level} {from k : ℕ} (f : Fits g t) (x : Led g trail states at from k) (r : Bool)
    (test : (h : Graph) → Fits h t → Fragments t.n (own h) (state t.n 33 states) → Under h (state t.n (at.opened % 32) states) → leaf h from ≡ true → Dead h from r) where
  led : Dead (reached g trail at.depth) from r
  led =
      test (reached g trail at.depth) (enters_fits f x.enters) (fragments_here t.n f.trees.nodes at.depth x.enters.matches)
      (level_here t.n f.trees.nodes x.enters.matches x.enters.here).under x.is_leaf

  pub led_open : r ≡ false → Dives g trail states at k
  led_open e =
      let free : Descent (reached g trail at.depth) from from → ⊥ = subst (λ (b : Bool). Dead (reached g trail at.depth) from b) e led in
      record { enters = x.enters; loopless = λ u d. free (x.cycle u d) }

  pub led_closed : r ≡ true → Leaves g trail states at at.depth k
  led_closed e = enters_none f x.enters (subst (λ (b : Bool). Dead (reached g trail at.depth) from b) e led)

module _ {g : Graph} {t : Trees} {trail : Trail} {states : List NodeSet} {at : Level} {k : ℕ} (f : Fits g t) (x : Dives g trail states at k)
    (r : Option Fork) (found : (h : Graph) → LooplessForm h t.n (state t.n (at.opened % 32) states) → Chosen h r) where
  chosen : Chosen (reached g trail at.depth) r
  chosen = found (reached g trail at.depth) (level_form f x.enters.matches x.enters.here (enters_shaped f x.enters) x.loopless)

  -- where no choice is left
  pub found_none : r ≡ None → Stands g trail states at k
  found_none is =
      record {
        reading = entering_at f.shaped x.enters.entering x.loopless (chosen_none (reached g trail at.depth) chosen is);
        matches = x.enters.matches;
        here = x.enters.here;
      }

  -- where one is left
  module _ {fork : Fork} (is : r ≡ Some fork) where
    abbrev here : Graph
    here = reached g trail at.depth

    found_choice : Choice here fork.root fork.first fork.second
    found_choice = chosen_choice here chosen is

    pub found_room : at.depth < t.n * t.n
    found_room =
        let room : at.depth < g.nodes * g.nodes = rw (decisions_length trail at.depth) at (entering_room f.shaped x.enters.entering x.loopless found_choice) in
        subst (λ (m : ℕ). at.depth < m * m) (sym f.trees.nodes) room

    module _ {trail' : Trail} (next : Level) (long : at.depth < length trail) (e : trail' ≡ written at.depth fork.first fork.second trail) (deeper : next.depth ≡ at.depth + 1) where
      first_taken : decisions trail' next.depth ≡ decisions trail at.depth ++ (first fork.first fork.second ∷ [])
      first_taken = ap (decisions trail') deeper ∙ ap (λ (l : Trail). decisions l (at.depth + 1)) e ∙ first_written g trail at.depth fork.first fork.second long found_choice.lower

      first_matches : {states' : List NodeSet} → (Matches g trail' states at → at.kept ≤ at.opened → Shaped (reached g trail' at.depth) → Loopless (reached g trail' at.depth) → Fresh (reached g trail' at.depth) (upper_at trail' at.depth) (own (reached g trail' at.depth) (lower_at trail' at.depth)) → Matches g trail' states' next × (next.kept ≤ next.opened))
          → Matches g trail' states' next × (next.kept ≤ next.opened)
      first_matches step =
          let s : Shaped here = enters_shaped f x.enters in
          step
          (rw e (matches_kept (written_kept trail at.depth fork.first fork.second) x.enters.matches))
          x.enters.here
          (rw e (written_shaped g trail at.depth fork.first fork.second long s))
          (rw e (written_loopless g trail at.depth fork.first fork.second long x.loopless))
          (rw e (written_fresh g trail at.depth fork.first fork.second long (first_fresh here s {v = fork.root} found_choice)))

      pub found_first : {states' : List NodeSet} → (Matches g trail' states at → at.kept ≤ at.opened → Shaped (reached g trail' at.depth) → Loopless (reached g trail' at.depth) → Fresh (reached g trail' at.depth) (upper_at trail' at.depth) (own (reached g trail' at.depth) (lower_at trail' at.depth)) → Matches g trail' states' next × (next.kept ≤ next.opened))
          → Led g trail' states' next fork.first k
      found_first step =
          let m = first_matches step in
          record {
            enters = record {
              entering = subst (λ (l : List Decision). Entering g l k) (sym first_taken) (entering_first f.shaped x.enters.entering x.loopless found_choice);
              matches = m.0;
              here = m.1;
            };
            is_leaf = graph_leaf g (decisions trail' next.depth) fork.first ∙ sym (graph_leaf g (decisions trail at.depth) fork.first) ∙ lower_leaf here (enters_shaped f x.enters) found_choice;
            cycle = subst (λ (h : Graph). (u : ℕ) → Descent h u u → Descent h fork.first fork.first) (sym (reached_half g trail' next.depth (decisions trail at.depth) (first fork.first fork.second) first_taken)) (closes here fork.first (own here fork.second) x.loopless);
          }

-- out of a half

pub dropped_second : {g : Graph} (trail : Trail) (last : ℕ) {k : ℕ} → Leaving g (decisions trail (last + 1)) k → lower_at trail last ≤ upper_at trail last → Leaving g (decisions trail last) k
dropped_second {g} trail last {k} x h =
    leaving_second (decisions trail last) (lower_at trail last) (upper_at trail last)
    (subst (λ (l : List Decision). Leaving g l k)
    (decisions_more trail last ∙ ap (λ (d : Decision). decisions trail last ++ (d ∷ [])) (decision_second (lower_at trail last) (upper_at trail last) h)) x)

-- into the other, as the code turns the decision
module _ {g : Graph} {states states' : List NodeSet} {at next : Level} {k : ℕ} (shaped : Shaped g) (trail : Trail) {trail' : Trail} (last : ℕ) (x : Leaves g trail states at (last + 1) k) (h : upper_at trail last < lower_at trail last) (long : last < length trail) (e : trail' ≡ turned last trail) (deep : next.depth ≡ last + 1)
    (step : Matches g trail states at → last ≤ at.depth → opens trail (last + 1) ≡ at.opened → Valid g (decisions trail (last + 1)) → upper_at trail last < lower_at trail last → Matches g trail' states' next × (next.kept ≤ next.opened)) where
  pub turned_led : Led g trail' states' next (upper_at trail' last) k
  turned_led =
      let a : ℕ = upper_at trail last in
      let b : ℕ = lower_at trail last in
      let ds : decisions trail' next.depth ≡ decisions trail last ++ (second a b ∷ []) = ap (decisions trail') deep ∙ ap (λ (l : Trail). decisions l (last + 1)) e ∙ second_written g trail last b a long (omega arith) in
      let from : upper_at trail' last ≡ b = ap (λ (l : Trail). upper_at l last) e ∙ written_upper trail last b a long in
      let one : Leaving g (decisions trail last ++ (first a b ∷ [])) k =
      subst (λ (l : List Decision). Leaving g l k) (decisions_more trail last ∙ ap (λ (d : Decision). decisions trail last ++ (d ∷ [])) (decision_first a b h)) x.leaving in
      let m = step x.matches (omega (arith, x.above)) x.seconds x.leaving.valid h in
      let p : Last g (decisions trail last) (first a b) = valid_popped g (decisions trail last) (first a b) one.valid in
      let b_leaf : leaf (reached g trail last) b ≡ true = upper_leaf (reached g trail last) (graph_shaped shaped p.before) p.choice in
      record {
        enters = record {
          entering = subst (λ (l : List Decision). Entering g l k) (sym ds) (leaving_turned (decisions trail last) a b one);
          matches = m.0;
          here = m.1;
        };
        is_leaf = graph_leaf g (decisions trail' next.depth) (upper_at trail' last) ∙ ap (leaf g) from ∙ sym (graph_leaf g (decisions trail last) b) ∙ b_leaf;
        cycle = subst (λ (y : ℕ). (u : ℕ) → Descent (reached g trail' next.depth) u u → Descent (reached g trail' next.depth) y y) (sym from)
            (subst (λ (z : Graph). (u : ℕ) → Descent z u u → Descent z b b) (sym (reached_half g trail' next.depth (decisions trail last) (second a b) ds))
            (closes (reached g trail last) b (own (reached g trail last) a) p.loopless));
      }

-- its decision is a second half
turned_second : {trail' : Trail} (trail : Trail) (last : ℕ) → upper_at trail last < lower_at trail last → last < length trail → trail' ≡ turned last trail → lower_at trail' last ≤ upper_at trail' last
turned_second trail last h long e =
    rw e (omega (arith, written_upper trail last (lower_at trail last) (upper_at trail last) long, written_lower trail last (lower_at trail last) (upper_at trail last) long))

-- out of it too, once its readings are passed
pub second_left : {g : Graph} {trail' trail'' : Trail} {states : List NodeSet} {at : Level} {k : ℕ} (trail : Trail) (last depth : ℕ) → upper_at trail last < lower_at trail last → last < length trail → trail' ≡ turned last trail → depth ≡ last + 1 → Kept depth trail' trail''
    → Leaves g trail'' states at depth k → Leaves g trail'' states at last k
second_left {g} {trail'} {trail''} {k = k} trail last depth h long e is kept x =
    let second : lower_at trail' last ≤ upper_at trail' last = turned_second trail last h long e in
    let second'' : lower_at trail'' last ≤ upper_at trail'' last = omega (arith, kept_upper kept last (omega arith), kept_lower kept last (omega arith)) in
    record {
      leaving = dropped_second trail'' last (subst (λ (d : ℕ). Leaving g (decisions trail'' d) k) is x.leaving) second'';
      matches = x.matches;
      above = omega (arith, x.above);
      seconds = sym (opens_second trail'' last second'') ∙ ap (opens trail'') (sym is) ∙ x.seconds;
    }

pub left_all : {g : Graph} (trail : Trail) {k : ℕ} → Leaving g (decisions trail 0) k → length (listed g) ≡ k
left_all {g} trail {k} x = leaving_end (subst (λ (l : List Decision). Leaving g l k) (decisions_none trail) x)

-- one second half more
pub second_or_after : (trail : Trail) (at i : ℕ) → lower_at trail (at - 1) ≤ upper_at trail (at - 1) → (at ≤ i → lower_at trail i ≤ upper_at trail i) → at - 1 ≤ i → lower_at trail i ≤ upper_at trail i
second_or_after trail at i h f l =
    by_bool (ltb i at)
    (λ (e : ltb i at ≡ true). let same : at - 1 ≡ i = omega (arith, ltb-true i at e) in subst (λ (j : ℕ). lower_at trail j ≤ upper_at trail j) same h)
    (λ (e : ltb i at ≡ false). f (ltb-false i at e))

-- second halves dropped
dropped_all : {g : Graph} (trail : Trail) (depth r : ℕ) {k : ℕ} → r ≤ depth → ((i : ℕ) → r ≤ i → i < depth → lower_at trail i ≤ upper_at trail i)
    → Leaving g (decisions trail depth) k → Leaving g (decisions trail r) k
dropped_all {g} trail zero r {k} h f x = let e : 0 ≡ r = omega arith in subst (λ (m : ℕ). Leaving g (decisions trail m) k) e x
dropped_all {g} trail (suc depth) r {k} h f x =
    by_bool (ltb depth r)
    (λ (e : ltb depth r ≡ true). let same : suc depth ≡ r = omega (arith, ltb-true depth r e) in subst (λ (m : ℕ). Leaving g (decisions trail m) k) same x)
    (λ (e : ltb depth r ≡ false).
    let less : r ≤ depth = ltb-false depth r e in
    let one : suc depth ≡ depth + 1 = omega arith in
    dropped_all trail depth r less (λ i a b. f i a (omega arith))
    (dropped_second trail depth (subst (λ (m : ℕ). Leaving g (decisions trail m) k) one x) (f depth less (omega arith))))

-- back towards the last first half
pub back_leaves : {g : Graph} {states : List NodeSet} {at : Level} {k : ℕ} (trail : Trail) (top left to : ℕ) → Turns trail top left → left ≤ to → to ≤ top → Leaves g trail states at top k → Leaves g trail states at to k
back_leaves trail top left to b low high x =
    record {
      leaving = dropped_all trail top to high (λ i l h. b.seconds i (omega arith) h) x.leaving;
      matches = x.matches;
      above = omega (arith, x.above);
      seconds = opens_seconds trail to top high (λ i l h. b.seconds i (omega arith) h) ∙ x.seconds;
    }

-- out of a graph that was entered
module _ {g : Graph} {t : Trees} {trail trail' : Trail} {states states' : List NodeSet} {at level : Level} {k : ℕ} (f : Fits g t) (x : Dives g trail states at k) (kept : Kept at.depth trail trail') (y : Leaves g trail' states' level at.depth k) where
  pub solvable_stays : Solvable (reached g trail at.depth) → ⊥
  solvable_stays s = entering_solvable_stays f.shaped x.enters.entering s (subst (λ (ds : List Decision). Leaving g ds k) (kept_decisions kept) y.leaving)

  pub stays_or_left : (base : ℕ) → (at.depth ≡ base) ⊎ Solvable (reached g trail at.depth) → Leaves g trail' states' level base k
  stays_or_left base = ⊎_elim (λ (e : at.depth ≡ base). subst (λ (d : ℕ). Leaves g trail' states' level d k) e y) (λ (s : Solvable (reached g trail at.depth)). absurd (solvable_stays s))

-- at the outset
outset_solvable : {g : Graph} (trail : Trail) (depth : ℕ) → Solvable g → depth ≡ 0 → Solvable (reached g trail depth)
outset_solvable {g} trail depth s none = subst Solvable (sym (ap (reached g trail) none ∙ reached_none g trail)) s

pub dives_outset : {g : Graph} {trail : Trail} {states : List NodeSet} {at : Level} → Solvable g → at.depth ≡ 0 → at.opened ≡ 0 → at.kept ≡ 0 → Matches g trail states at → Dives g trail states at 0
dives_outset {g} {trail} {at = at} s none open_none kept m =
    record {
      enters = record {
        entering = subst (λ (l : List Decision). Entering g l 0) (sym (ap (decisions trail) none ∙ decisions_none trail)) (entering_outset g);
        matches = m;
        here = omega arith;
      };
      loopless = solvable_loopless (outset_solvable trail at.depth s none);
    }

pub outset_stays : {g : Graph} {t : Trees} {trail trail' : Trail} {states states' : List NodeSet} {at level : Level} {k : ℕ} → Solvable g → at.depth ≡ 0 → Fits g t → Dives g trail states at k → Kept at.depth trail trail' → Leaves g trail' states' level at.depth k → ⊥
outset_stays {trail = trail} {at = at} s none f x kept y = solvable_stays f x kept y (outset_solvable trail at.depth s none)
