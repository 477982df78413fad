-- The third demand, of every well-formed sheet.
use Prim.Native.Nat.{ℕ, ◌-◌, min}
use mathlib.Core.Path.{◌≡◌, sym, ap, subst, ◌∙◌}
use mathlib.Core.List.{List}
use native.Mathlib.Omega.{arith}
use lib.ListN.{length, take}
use lib.Seq.{take-length}
use Rattle.graph.specs.Graph.{Graph, grown}
use Rattle.format.specs.Sheet.{Labels, Content, Outcome, outcome, accepted}
use Rattle.graph.specs.Placing.{Below, Contains}
use Rattle.graph.specs.Order.{Listing, ExactlyOne}
use Rattle.theory_format.proofs.Spelling.{accepted_grown, accepted_well_formed}
use Rattle.theory_forest.specs.Shape.{Shaped}
use Rattle.theory_forest.proofs.Shape.{well_formed_shaped}
use Rattle.theory_list.specs.Readings.{listed}
use Rattle.theory_list.proofs.Readings.{listing_exists, listing_unique, one_below}
use Rattle.theory_refutes.proofs.Excludes.{no_both}
use Rattle.solve_answer.specs.Calls.{reach}
use Rattle.counter.specs.Calls.{CountOf, ReadingOf, ConfigurationOf, DrawingOf}
use Rattle.theory_demand.specs.Demand.{Call, Chain, handed_out, lent_enough, least, Demand3}
use Rattle.theory_demand.proofs.Refusing.{count_refuses, reading_refuses, configuration_refuses, drawing_refuses, reading_cycle, configuration_cycle, configuration_given}
use Rattle.theory_demand.proofs.Handing.{chain_hands}

module _ (written g : Graph) (labels : Labels) (s : Shaped g) (cs : List Call) (c : Chain (accepted (record { written = written; graph = g; labels = labels })) 0 cs) (ps : List (List ℕ)) (l : Listing g ps) where
  handed_in_turn : handed_out g.nodes cs ≡ take (least g.nodes cs ps) ps
  handed_in_turn =
      let same : min (lent_enough g.nodes cs) (reach ps - 0) ≡ least g.nodes cs ps = omega arith in
      chain_hands g s ps l written labels cs 0 (omega arith) c ∙ ap (λ (k : ℕ). take k ps) same

  handed_all : least g.nodes cs ps ≡ length ps → handed_out g.nodes cs ≡ listed g
  handed_all e = handed_in_turn ∙ ap (λ (k : ℕ). take k ps) e ∙ take-length ps ∙ listing_unique g s l (listing_exists g s)

-- of the graph that it means
of_meaning : (bs : List ℕ) (x : Content) → outcome bs ≡ accepted x → Demand3 bs x.graph
of_meaning bs x e =
    let g : Graph = x.graph in
    let w = accepted_well_formed bs x e in
    let s = well_formed_shaped w in
    record {
      count = λ r c. count_refuses (subst (λ (o : Outcome). CountOf o r) e c);
      reading = λ m m' old new r h c. reading_refuses (subst (λ (o : Outcome). ReadingOf o m old r m' new) e c) h;
      configuration = λ old new r h c. configuration_refuses (subst (λ (o : Outcome). ConfigurationOf o old r new) e c) h;
      drawing = λ k old new r h c. drawing_refuses (subst (λ (o : Outcome). DrawingOf o k old r new) e c) h;
      reading_carries = λ m m' old new r c n. reading_cycle (subst (λ (o : Outcome). ReadingOf o m old r m' new) e c) n;
      configuration_carries = λ old new r c n. configuration_cycle (subst (λ (o : Outcome). ConfigurationOf o old r new) e c) n;
      configuration_gives = λ old new r h c n. configuration_given s (subst (λ (o : Outcome). ConfigurationOf o old r new) e c) h n;
      not_both = λ cs p h f. no_both g cs w h (p, f);
      the_order = (listed g, listing_exists g s, λ qs l. listing_unique g s l (listing_exists g s));
      in_turn = λ cs c ps l. handed_in_turn x.written g x.labels s cs (subst (λ (o : Outcome). Chain o 0 cs) e c) ps l;
      exactly_one = λ cs c ps l k p f.
          subst (ExactlyOne (λ q. Contains (Below g p) (Below g q))) (sym (handed_all x.written g x.labels s cs (subst (λ (o : Outcome). Chain o 0 cs) e c) ps l k)) (one_below g s p f);
    }

-- 02, Two: "the mission's third demand speaks of the grown graph", that of the nodes and edges written
pub demand_3 : (bs : List ℕ) (x : Content) → outcome bs ≡ accepted x → Demand3 bs (grown x.written)
demand_3 bs x e = subst (Demand3 bs) (accepted_grown bs x e) (of_meaning bs x e)
