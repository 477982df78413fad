-- A test of a claim that computes, and the law that a claim that tests true holds. The test reads the sheet's outcome,
-- and of a sheet that is accepted the list of readings that Rule 3's recursion makes, the end that Rule 1 comes to, and
-- the tests of cycles. The law ties each of these to the relations: the recursion's list is the listing, its first entry
-- is a solved form, from which Rule 1 reaches a configuration, and a hypernormal cycle excludes a solved form.
use Prim.Native.Nat.{ℕ, ◌-◌}
use mathlib.Core.Path.{◌≡◌, refl, ap₂, subst}
use mathlib.Core.List.{List, [], ◌∷◌}
use mathlib.Core.Bool.{Bool, true, false, not, ◌&&◌, false≢true}
use lib.Dec.{eqb, leb}
use lib.ListN.{length}
use borrow.Author.Tests.{eqb-true, leb-true, not-true}
use Rattle.base_finite.proofs.Laws.{and_both}
use Rattle.graph.specs.Graph.{Graph}
use Rattle.format.specs.Sheet.{Content, Outcome, refused, accepted, outcome}
use Rattle.graph.specs.Placing.{SolvedForm}
use Rattle.graph.specs.Order.{entry}
use Rattle.graph.specs.Rule1.{Rule1}
use Rattle.graph.specs.Cycle.{cycle, hypernormal, hypernormal_cycle}
use Rattle.format.specs.Drawing.{drawing}
use Rattle.format.specs.Refusal.{number}
use Rattle.format.specs.declared.Refusal.TheVariants.{NoReading}
use Rattle.theory_format.proofs.Spelling.{accepted_well_formed}
use Rattle.theory_forest.specs.Shape.{Shaped}
use Rattle.theory_forest.proofs.Shape.{well_formed_shaped}
use Rattle.theory_list.specs.Readings.{listed}
use Rattle.theory_list.proofs.Readings.{listing_exists}
use Rattle.theory_rule1.proofs.Ending.{configured, configured_reaches, rule1_configuration}
use Rattle.theory_refutes.proofs.Excludes.{no_both}
use Rattle.format.specs.Text.{printed}
use Rattle.theory_cases.specs.Table.{Claim, refusal, no_reading, not_hypernormal, lists, drawn, configured_to, Holds}

-- equal bytes, and equal lines

unfoldable pub same : List ℕ → List ℕ → Bool
same [] [] = true
same [] (y ∷ ys) = false
same (x ∷ xs) [] = false
same (x ∷ xs) (y ∷ ys) = eqb x y && same xs ys

unfoldable pub same_lines : List (List ℕ) → List (List ℕ) → Bool
unfolding same
same_lines [] [] = true
same_lines [] (y ∷ ys) = false
same_lines (x ∷ xs) [] = false
same_lines (x ∷ xs) (y ∷ ys) = same x y && same_lines xs ys

pub same_equal : (xs ys : List ℕ) → same xs ys ≡ true → xs ≡ ys
unfolding same
same_equal [] [] h = refl
same_equal [] (y ∷ ys) h = absurd (false≢true h)
same_equal (x ∷ xs) [] h = absurd (false≢true h)
same_equal (x ∷ xs) (y ∷ ys) h =
    let b = and_both (eqb x y) (same xs ys) h in
    ap₂ ◌∷◌ (eqb-true x y b.0) (same_equal xs ys b.1)

pub same_lines_equal : (xs ys : List (List ℕ)) → same_lines xs ys ≡ true → xs ≡ ys
unfolding same_lines
same_lines_equal [] [] h = refl
same_lines_equal [] (y ∷ ys) h = absurd (false≢true h)
same_lines_equal (x ∷ xs) [] h = absurd (false≢true h)
same_lines_equal (x ∷ xs) (y ∷ ys) h =
    let b = and_both (same x y) (same_lines xs ys) h in
    ap₂ ◌∷◌ (same_equal x y b.0) (same_lines_equal xs ys b.1)

-- the tests of what is claimed of an accepted sheet's readings

unfoldable pub test_drawn : Graph → List (List ℕ) → ℕ → List ℕ → Bool
unfolding same
test_drawn g ps k text = leb 1 k && leb k (length ps) && same text (drawing g (entry ps (k - 1)))

unfoldable pub test_configured : Graph → List (List ℕ) → List ℕ → Bool
unfolding same
test_configured g ps q = leb 1 (length ps) && same (configured g (entry ps 0)) q

unfoldable pub test : Outcome → Claim → Bool
unfolding same_lines test_drawn test_configured
test (refused why) (refusal k) = eqb (number why) k
test (refused why) (no_reading k cs) = false
test (refused why) (not_hypernormal cs) = false
test (refused why) (lists ls) = false
test (refused why) (drawn k text) = false
test (refused why) (configured_to q) = false
test (accepted s) (refusal k) = false
test (accepted s) (no_reading k cs) = eqb (number NoReading) k && hypernormal_cycle s.graph cs
test (accepted s) (not_hypernormal cs) = cycle s.graph cs && not (hypernormal s.graph cs)
test (accepted s) (lists ls) = same_lines ls (printed s.graph (listed s.graph))
test (accepted s) (drawn k text) = test_drawn s.graph (listed s.graph) k text
test (accepted s) (configured_to q) = test_configured s.graph (listed s.graph) q

unfoldable pub holds? : List ℕ → Claim → Bool
unfolding test
holds? bs c = test (outcome bs) c

-- the law

module _ (bs : List ℕ) (s : Content) (e : outcome bs ≡ accepted s) where
  abbrev g : Graph
  g = s.graph

  shaped : Shaped g
  shaped = well_formed_shaped (accepted_well_formed bs s e)

  drawn_tested : (k : ℕ) (text : List ℕ) → test_drawn g (listed g) k text ≡ true → Holds bs (drawn k text)
  unfolding test_drawn
  drawn_tested k text h =
      let ps : List (List ℕ) = listed g in
      let a = and_both (leb 1 k && leb k (length ps)) (same text (drawing g (entry ps (k - 1)))) h in
      let b = and_both (leb 1 k) (leb k (length ps)) a.0 in
      record {
        content = s;
        is_accepted = e;
        readings = ps;
        listing = listing_exists g shaped;
        from_one = leb-true 1 k b.0;
        to_last = leb-true k (length ps) b.1;
        its_text = same_equal text (drawing g (entry ps (k - 1))) a.1;
      }

  configured_tested : (q : List ℕ) → test_configured g (listed g) q ≡ true → Holds bs (configured_to q)
  unfolding test_configured
  configured_tested q h =
      let ps : List (List ℕ) = listed g in
      let p : List ℕ = entry ps 0 in
      let a = and_both (leb 1 (length ps)) (same (configured g p) q) h in
      let solved : SolvedForm g p = ((listing_exists g shaped).only_readings 0 (leb-true 1 (length ps) a.0)).solved in
      let reached : Rule1 g p q = subst (Rule1 g p) (same_equal (configured g p) q a.1) (configured_reaches g p shaped solved) in
      record {
        content = s;
        is_accepted = e;
        handed_out = record { readings = ps; listing = listing_exists g shaped; reached = reached };
        is_configuration = rule1_configuration shaped reached solved;
      }

  accepted_tested : (c : Claim) → test (accepted s) c ≡ true → Holds bs c
  unfolding test
  accepted_tested (refusal k) h = absurd (false≢true h)
  accepted_tested (no_reading k cs) h =
      let a = and_both (eqb (number NoReading) k) (hypernormal_cycle g cs) h in
      record {
        content = s;
        is_accepted = e;
        its_number = eqb-true (number NoReading) k a.0;
        unsolvable = no_both g cs (accepted_well_formed bs s e) a.1;
        its_cycle = a.1;
      }
  accepted_tested (not_hypernormal cs) h =
      let a = and_both (cycle g cs) (not (hypernormal g cs)) h in
      record { content = s; is_accepted = e; is_cycle = a.0; is_other = not-true (hypernormal g cs) a.1 }
  accepted_tested (lists ls) h =
      record {
        content = s;
        is_accepted = e;
        readings = listed g;
        listing = listing_exists g shaped;
        its_lines = same_lines_equal ls (printed g (listed g)) h;
      }
  accepted_tested (drawn k text) h = drawn_tested k text h
  accepted_tested (configured_to q) h = configured_tested q h

pub tested : (bs : List ℕ) (c : Claim) → holds? bs c ≡ true → Holds bs c
unfolding holds? test
tested bs c h = go (outcome bs) refl c h
  where
    go : (o : Outcome) → outcome bs ≡ o → (c : Claim) → test o c ≡ true → Holds bs c
    go (refused why) e (refusal k) h = record { why = why; is_refused = e; its_number = eqb-true (number why) k h }
    go (refused why) e (no_reading k cs) h = absurd (false≢true h)
    go (refused why) e (not_hypernormal cs) h = absurd (false≢true h)
    go (refused why) e (lists ls) h = absurd (false≢true h)
    go (refused why) e (drawn k text) h = absurd (false≢true h)
    go (refused why) e (configured_to q) h = absurd (false≢true h)
    go (accepted s) e c h = accepted_tested bs s e c h
