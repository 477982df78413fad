-- Guards: the table's claims are about something. One of its sheets is a well-formed graph with a solved form, which is
-- written out, and one a well-formed graph without; both are read off the rows by the single lemma. And the claims say
-- enough: of a sheet only one number, one printed list, one drawing of a reading and one configuration can be claimed,
-- so that a row with another byte in one of these would not hold.
use Prim.Native.Nat.{ℕ, ◌-◌}
use mathlib.Core.Path.{◌≡◌, refl, sym, ap, ap₂, subst, ◌∙◌}
use mathlib.Core.List.{List}
use native.Mathlib.Omega.{arith}
use lib.ListN.{length}
use Rattle.graph.specs.Graph.{Graph, WellFormed}
use Rattle.format.specs.Sheet.{Content, outcome, accepted}
use Rattle.graph.specs.Placing.{SolvedForm, Solvable}
use Rattle.graph.specs.Order.{Listing, entry}
use Rattle.graph.specs.Rule1.{Rule1, HandedOut}
use Rattle.format.specs.Drawing.{drawing}
use Rattle.format.specs.Refusal.{number}
use Rattle.theory_format.proofs.Spelling.{accepted_well_formed}
use Rattle.theory_forest.proofs.Shape.{well_formed_shaped}
use Rattle.theory_list.proofs.Readings.{listing_unique}
use Rattle.theory_rule1.proofs.Ending.{rule1_function}
use Rattle.format.specs.Text.{printed}
use Rattle.theory_cases.specs.Table.{refusal, lists, drawn, configured_to, Holds, rows, square, fork, square_placing, ConfiguredTo}
use Rattle.theory_cases.proofs.Rows.{all_hold}

pub all_rows : length rows ≡ 21
unfolding rows
all_rows = refl

-- the square, by the row of its configuration
pub some_solvable : (s : Content) × (outcome square ≡ accepted s) × WellFormed s.graph × SolvedForm s.graph square_placing
unfolding rows square square_placing
some_solvable =
    let h : ConfiguredTo square square_placing = all_hold 8 (omega arith) in
    (h.content, h.is_accepted, accepted_well_formed square h.content h.is_accepted, h.is_configuration.solved)

-- 0-1, 0-2, 3-4 with 1-3, 2-3, which has no directed cycle
pub some_unsolvable : (s : Content) × (outcome fork ≡ accepted s) × WellFormed s.graph × (Solvable s.graph → ⊥)
unfolding rows fork
some_unsolvable =
    let h = all_hold 5 (omega arith) in
    (h.content, h.is_accepted, accepted_well_formed fork h.content h.is_accepted, h.unsolvable)

-- one value for each claim

same_graph : (bs : List ℕ) (s t : Content) → outcome bs ≡ accepted s → outcome bs ≡ accepted t → s.graph ≡ t.graph
same_graph bs s t p q =
    let same : s ≡ t = cc in
    ap (λ (x : Content). x.graph) same

same_readings : (bs : List ℕ) (s t : Content) (ps qs : List (List ℕ)) → outcome bs ≡ accepted s → outcome bs ≡ accepted t → Listing s.graph ps → Listing t.graph qs → ps ≡ qs
same_readings bs s t ps qs p q x y =
    let e : s.graph ≡ t.graph = same_graph bs s t p q in
    listing_unique s.graph (well_formed_shaped (accepted_well_formed bs s p)) x (subst (λ (z : Graph). Listing z qs) (sym e) y)

pub one_number : (bs : List ℕ) (k m : ℕ) → Holds bs (refusal k) → Holds bs (refusal m) → k ≡ m
one_number bs k m x y =
    let e : x.why ≡ y.why = cc (x.is_refused, y.is_refused) in
    sym x.its_number ∙ ap number e ∙ y.its_number

pub one_list : (bs : List ℕ) (ls ms : List (List ℕ)) → Holds bs (lists ls) → Holds bs (lists ms) → ls ≡ ms
one_list bs ls ms x y =
    let e : x.content.graph ≡ y.content.graph = same_graph bs x.content y.content x.is_accepted y.is_accepted in
    let d : x.readings ≡ y.readings = same_readings bs x.content y.content x.readings y.readings x.is_accepted y.is_accepted x.listing y.listing in
    x.its_lines ∙ ap₂ printed e d ∙ sym y.its_lines

pub one_drawing : (bs : List ℕ) (k : ℕ) (s t : List ℕ) → Holds bs (drawn k s) → Holds bs (drawn k t) → s ≡ t
one_drawing bs k s t x y =
    let e : x.content.graph ≡ y.content.graph = same_graph bs x.content y.content x.is_accepted y.is_accepted in
    let d : x.readings ≡ y.readings = same_readings bs x.content y.content x.readings y.readings x.is_accepted y.is_accepted x.listing y.listing in
    x.its_text ∙ ap₂ (λ (g : Graph) (ps : List (List ℕ)). drawing g (entry ps (k - 1))) e d ∙ sym y.its_text

pub one_configuration : (bs p q : List ℕ) → Holds bs (configured_to p) → Holds bs (configured_to q) → p ≡ q
one_configuration bs p q x y =
    let e : x.content.graph ≡ y.content.graph = same_graph bs x.content y.content x.is_accepted y.is_accepted in
    let a : HandedOut x.content.graph p = x.handed_out in
    let b : HandedOut x.content.graph q = subst (λ (g : Graph). HandedOut g q) (sym e) y.handed_out in
    let d : b.readings ≡ a.readings = same_readings bs x.content x.content b.readings a.readings x.is_accepted x.is_accepted b.listing a.listing in
    rule1_function a.reached (subst (λ (ps : List (List ℕ)). Rule1 x.content.graph (entry ps 0) q) d b.reached)
