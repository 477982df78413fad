-- The refusals as having no reading: each call gives this one, its buffer being large enough, exactly where there is no
-- hanging; what it carries, and what the configuration gives elsewhere. Here of an accepted graph.
use Prim.Native.Nat.{ℕ, ◌*◌, ◌≤◌, ◌<◌}
use mathlib.Core.Path.{◌≡◌, refl, sym, subst}
use mathlib.Core.List.{List}
use mathlib.Core.Logic.{◌↔◌}
use native.Mathlib.Omega.{arith}
use lib.ListN.{length, drop}
use lib.Seq.{take_at}
use Rattle.graph.specs.Graph.{Graph}
use Rattle.graph.specs.Placing.{Configuration, Solvable, Unsolvable}
use Rattle.graph.specs.Order.{Listing, entry}
use Rattle.graph.specs.Rule1.{HandedOut}
use Rattle.theory_forest.specs.Shape.{Shaped}
use Rattle.theory_forest.proofs.Forests.{hanging_solved, placing_length}
use Rattle.theory_list.proofs.Readings.{solvable_reading}
use Rattle.theory_rule1.proofs.Ending.{rule1_configuration}
use Rattle.solve_answer.specs.Calls.{refusal_number, placed_number, Counts, ReadingCall, ConfigurationCall, DrawingCall}
use Rattle.theory_demand.specs.Demand.{NoHanging, as_no_reading, Carries, Gives}
use Rattle.std.specs.Prelude.{Result}
use Rattle.graph.specs.declared.Count.{Count}
use Rattle.format.specs.declared.Refusal.{Refusal}
use Rattle.solve_answer.specs.declared.Unplaced.{Unplaced}

pub no_hanging : {g : Graph} → Unsolvable g → NoHanging g
no_hanging {g} u p h = u (p, (hanging_solved g p).0 h)

pub solved_hangs : {g : Graph} → NoHanging g → Unsolvable g
solved_hangs {g} n f = n f.0 ((hanging_solved g f.0).1 f.1)

-- a sheet with a reading has a hanging
pub listed_hangs : {g : Graph} {ps : List (List ℕ)} → Listing g ps → 0 < length ps → NoHanging g → ⊥
listed_hangs {g} {ps} l h n = solved_hangs n (entry ps 0, (l.only_readings 0 h).solved)

refusing : {g : Graph} {k : ℕ} → k ≡ as_no_reading → Unsolvable g → (k ≡ as_no_reading) ↔ NoHanging g
refusing e u = (λ _. no_hanging u, λ _. e)

reading_there : {g : Graph} {ps : List (List ℕ)} {k : ℕ} → (k ≡ as_no_reading → ⊥) → Listing g ps → 0 < length ps → (k ≡ as_no_reading) ↔ NoHanging g
reading_there d l h = (λ e. absurd (d e), λ n. absurd (listed_hangs l h n))

pub count_refuses : {g : Graph} {r : Result Count Refusal} → Counts g r → (refusal_number r ≡ as_no_reading) ↔ NoHanging g
count_refuses (Counts.none u) = refusing refl u
count_refuses (Counts.counted ps l h) = reading_there (λ e. omega arith) l h

pub reading_refuses : {g : Graph} {m m' : ℕ} {old new : List ℕ} {r : Result (Unit {0}) Unplaced} → ReadingCall g m old r m' new → 2 * g.nodes ≤ length old
    → (placed_number r ≡ as_no_reading) ↔ NoHanging g
reading_refuses (ReadingCall.small f) h = absurd (omega arith)
reading_refuses (ReadingCall.none f u c) h = refusing refl u
reading_refuses (ReadingCall.beyond ps f l some b) h = reading_there (λ e. omega arith) l some
reading_refuses (ReadingCall.read ps f l b) h = reading_there (λ e. omega arith) l (omega arith)

pub configuration_refuses : {g : Graph} {old new : List ℕ} {r : Result (Unit {0}) Unplaced} → ConfigurationCall g old r new → 2 * g.nodes ≤ length old
    → (placed_number r ≡ as_no_reading) ↔ NoHanging g
configuration_refuses (ConfigurationCall.small f) h = absurd (omega arith)
configuration_refuses (ConfigurationCall.none f u c) h = refusing refl u
configuration_refuses (ConfigurationCall.configured q f o d) h = (λ e. absurd (omega arith), λ n. absurd (solved_hangs n o))

pub drawing_refuses : {g : Graph} {k : ℕ} {old new : List ℕ} {r : Result ℕ Refusal} → DrawingCall g k old r new → 1024 ≤ length old → (refusal_number r ≡ as_no_reading) ↔ NoHanging g
drawing_refuses (DrawingCall.small f) h = absurd (omega arith)
drawing_refuses (DrawingCall.none f u) h = refusing refl u
drawing_refuses (DrawingCall.beyond ps f l some b) h = reading_there (λ e. omega arith) l some
drawing_refuses (DrawingCall.drawn ps f l b c) h = reading_there (λ e. omega arith) l (omega arith)

pub reading_cycle : {g : Graph} {m m' : ℕ} {old new : List ℕ} {r : Result (Unit {0}) Unplaced} → ReadingCall g m old r m' new → placed_number r ≡ as_no_reading → Carries g r old new
reading_cycle (ReadingCall.small f) e = absurd (omega arith)
reading_cycle (ReadingCall.none {c = c} f u w) e = record { pairs = c; told = refl; fits = w.fits; spelt = w.cycle }
reading_cycle (ReadingCall.beyond ps f l some b) e = absurd (omega arith)
reading_cycle (ReadingCall.read ps f l b) e = absurd (omega arith)

pub configuration_cycle : {g : Graph} {old new : List ℕ} {r : Result (Unit {0}) Unplaced} → ConfigurationCall g old r new → placed_number r ≡ as_no_reading → Carries g r old new
configuration_cycle (ConfigurationCall.small f) e = absurd (omega arith)
configuration_cycle (ConfigurationCall.none {c = c} f u w) e = record { pairs = c; told = refl; fits = w.fits; spelt = w.cycle }
configuration_cycle (ConfigurationCall.configured q f o d) e = absurd (omega arith)

-- what Rule 1 ends in is a configuration: a solvable sheet has a first reading
pub handed_configuration : {g : Graph} {q : List ℕ} → Shaped g → Solvable g → HandedOut g q → Configuration g q
handed_configuration {g} {q} s o d =
    let r = (solvable_reading g s).0 o in
    let at = d.listing.every_reading r.0 r.1 in
    rule1_configuration s d.reached (d.listing.only_readings 0 (omega (arith, at.1))).solved

pub configuration_given : {g : Graph} {old new : List ℕ} {r : Result (Unit {0}) Unplaced} → Shaped g → ConfigurationCall g old r new → 2 * g.nodes ≤ length old → (NoHanging g → ⊥)
    → Gives g r new
configuration_given s (ConfigurationCall.small f) h n = absurd (omega arith)
configuration_given s (ConfigurationCall.none f u c) h n = absurd (n (no_hanging u))
configuration_given {g} {old} s (ConfigurationCall.configured q f o d) h n =
    let c : Configuration g q = handed_configuration s o d in
    record {
      done = refl;
      given = subst (Configuration g) (sym (take_at q (drop g.nodes old) g.nodes (placing_length g q c.solved.is_placing))) c;
    }
