-- The promises can be kept, so the third demand speaks of something: each call has an answer, whatever is lent. Where
-- there is no solved form Theorem 6.2 gives a cycle, which has at most n nodes and so fits in 2n bytes. So there is a list
-- of reading calls for every list of lent buffers, from every place.
use Prim.Native.Nat.{ℕ, ◌*◌, ◌%◌, ◌≤◌, ◌<◌}
use mathlib.Core.Path.{◌≡◌, refl, sym, ap, subst}
use mathlib.Core.List.{List, [], ◌∷◌, ◌++◌}
use mathlib.Core.Bool.{Bool, true, false, not, ◌&&◌}
use mathlib.Core.Logic.{inl, inr, dite}
use native.Mathlib.Omega.{arith}
use native.Mathlib.Decide.{dec_le}
use lib.Dec.{eqb, leb}
use lib.ListN.{length, drop, length-append, length-drop}
use lib.Seq.{take_at, drop_at}
use borrow.Author.Tests.{eqb-true, leb-true, leb-false}
use Rattle.base_finite.specs.Below.{all}
use Rattle.base_finite.proofs.Laws.{by_bool, and_both}
use Rattle.graph.specs.Graph.{Graph}
use Rattle.format.specs.Drawing.{drawing}
use Rattle.format.specs.Sheet.{Content, Outcome, accepted, outcome}
use Rattle.graph.specs.Placing.{Unsolvable}
use Rattle.graph.specs.Order.{entry}
use Rattle.graph.specs.Cycle.{pairs, node, kind, next, joined, same_edge, cycle}
use Rattle.theory_edges.proofs.Pigeonhole.{pigeonhole}
use Rattle.theory_format.proofs.Spelling.{accepted_well_formed}
use Rattle.theory_forest.specs.Shape.{Shaped}
use Rattle.theory_forest.proofs.Shape.{well_formed_shaped}
use Rattle.theory_list.specs.Readings.{listed}
use Rattle.theory_list.proofs.Readings.{listing_exists, solvable_decided}
use Rattle.theory_rule1.proofs.Ending.{rule1_ends}
use Rattle.theory_refutes.proofs.Cycles.{joined_below, CycleFacts, cycle_facts, hypernormal_cycle_lem}
use Rattle.theory_cycle.proofs.Theorem62.{unsolvable_cycle}
use Rattle.solve_answer.proofs.Answering.{some_listed}
use Rattle.solve_answer.proofs.Texts.{drawing_from_text}
use Rattle.solve_answer.specs.Calls.{reach, CycleWritten, Counts, ReadingCall, ConfigurationCall, DrawingCall, TextCall}
use Rattle.theory_demand.specs.Demand.{Call, Chain}
use Rattle.std.specs.Prelude.{Result}
use Rattle.graph.specs.declared.Count.{Count}
use Rattle.format.specs.declared.Refusal.{Refusal}
use Rattle.solve_answer.specs.declared.Unplaced.{Unplaced}

-- a cycle has an even number of bytes
even_bytes : (g : Graph) (bs : List ℕ) → cycle g bs ≡ true → length bs % 2 ≡ 0
unfolding cycle
even_bytes g bs h =
    let c : ℕ = pairs bs in
    let nodes : Bool = all c (λ i. all i (λ j. not (eqb (node bs i) (node bs j)))) in
    let joints : Bool = all c (λ i. joined g (kind bs i) (node bs i) (next bs i)) in
    let edges : Bool = all c (λ i. all i (λ j. not (same_edge bs i j))) in
    let even : Bool = eqb (length bs % 2) 0 in
    let h4 = and_both (even && leb 2 c && nodes && joints) edges h in
    let h3 = and_both (even && leb 2 c && nodes) joints h4.0 in
    let h2 = and_both (even && leb 2 c) nodes h3.0 in
    let h1 = and_both even (leb 2 c) h2.0 in
    eqb-true (length bs % 2) 0 h1.0

pairs_half : (bs : List ℕ) → length bs % 2 ≡ 0 → 2 * pairs bs ≡ length bs
unfolding pairs
pairs_half bs e = omega arith

module _ (g : Graph) (s : Shaped g) where
  -- its nodes are all different
  not_longer : (bs : List ℕ) → CycleFacts g bs → pairs bs ≤ g.nodes
  not_longer bs f =
      by_bool (leb (pairs bs) g.nodes)
      (λ (e : leb (pairs bs) g.nodes ≡ true). leb-true (pairs bs) g.nodes e)
      (λ (e : leb (pairs bs) g.nodes ≡ false).
      let more : g.nodes < pairs bs = leb-false (pairs bs) g.nodes e in
      let r = pigeonhole g.nodes (node bs) (λ i l. joined_below g s (kind bs i) (node bs i) (next bs i) (f.joins i (omega arith))) in
      let one : r.0 ≡ r.1 = f.one_place r.0 r.1 (omega (arith, r.2, r.3)) (omega (arith, r.3)) r.4 in
      absurd (omega (arith, r.2, one)))

  -- the cycle fits and can be written
  pub cycle_writes : (old : List ℕ) → 2 * g.nodes ≤ length old → Unsolvable g → (c : ℕ) × (new : List ℕ) × CycleWritten g old c new
  cycle_writes old h u =
      let b = unsolvable_cycle g s u in
      let bs : List ℕ = b.0 in
      let c = (hypernormal_cycle_lem g bs b.1).0 in
      let whole : length bs ≡ 2 * pairs bs = sym (pairs_half bs (even_bytes g bs c)) in
      let few : pairs bs ≤ g.nodes = not_longer bs (cycle_facts g bs c) in (
        pairs bs,
        bs ++ drop (2 * pairs bs) old,
        record {
          fits = omega arith;
          long = simp (length-append, length-drop) (omega arith);
          cycle = rw (take_at bs (drop (2 * pairs bs) old) (2 * pairs bs) whole) b.1;
          rest = drop_at bs (drop (2 * pairs bs) old) (2 * pairs bs) whole;
        },
      )

  pub count_possible : (r : Result Count Refusal) × Counts g r
  count_possible =
      dite (solvable_decided g s)
      (λ o. (_, Counts.counted (listed g) (listing_exists g s) (some_listed g s o)))
      (λ u. (_, Counts.none u))

  pub reading_possible : (m : ℕ) (old : List ℕ) → (r : Result (Unit {0}) Unplaced) × (m' : ℕ) × (new : List ℕ) × ReadingCall g m old r m' new
  reading_possible m old =
      dite (dec_le (2 * g.nodes) (length old))
      (λ f.
      dite (solvable_decided g s)
      (λ o.
      dite (dec_le (reach (listed g)) m)
      (λ b. (_, _, _, ReadingCall.beyond (listed g) f (listing_exists g s) (some_listed g s o) b))
      (λ b. (_, _, _, ReadingCall.read (listed g) f (listing_exists g s) (omega arith))))
      (λ u. let w = cycle_writes old f u in (_, _, _, ReadingCall.none f u w.2)))
      (λ f. (_, _, _, ReadingCall.small (omega arith)))

  pub configuration_possible : (old : List ℕ) → (r : Result (Unit {0}) Unplaced) × (new : List ℕ) × ConfigurationCall g old r new
  configuration_possible old =
      dite (dec_le (2 * g.nodes) (length old))
      (λ f.
      dite (solvable_decided g s)
      (λ o.
      let l = listing_exists g s in
      let q = rule1_ends g (entry (listed g) 0) s (l.only_readings 0 (some_listed g s o)).solved in
      (_, _, ConfigurationCall.configured q.0 f o (record { readings = listed g; listing = l; reached = q.1 })))
      (λ u. let w = cycle_writes old f u in (_, _, ConfigurationCall.none f u w.2)))
      (λ f. (_, _, ConfigurationCall.small (omega arith)))

  pub text_possible : (least : ℕ) (text : List ℕ → List ℕ) (k : ℕ) (old : List ℕ) → (r : Result ℕ Refusal) × (new : List ℕ) × TextCall least text g k old r new
  text_possible least text k old =
      dite (dec_le least (length old))
      (λ f.
      dite (solvable_decided g s)
      (λ o.
      let l = listing_exists g s in
      dite (dec_le k 0)
      (λ z. (_, _, TextCall.beyond (listed g) f l (some_listed g s o) (inl (omega arith))))
      (λ z.
      dite (dec_le k (reach (listed g)))
      (λ b. (_, _, TextCall.drawn (listed g) f l (omega arith) b))
      (λ b. (_, _, TextCall.beyond (listed g) f l (some_listed g s o) (inr (omega arith))))))
      (λ u. (_, _, TextCall.none f u)))
      (λ f. (_, _, TextCall.small (omega arith)))

  pub drawing_possible : (k : ℕ) (old : List ℕ) → (r : Result ℕ Refusal) × (new : List ℕ) × DrawingCall g k old r new
  drawing_possible k old = let x = text_possible 1024 (drawing g) k old in (x.0, x.1, drawing_from_text x.2)

-- the buffers that the calls are lent
abbrev pub buffers : List Call → List (List ℕ)
buffers [] = []
buffers (c ∷ cs) = c.lent ∷ buffers cs

-- every list of lent buffers has its list of reading calls
pub chain_possible : (x : Content) → Shaped x.graph → (bufs : List (List ℕ)) (m : ℕ) → (cs : List Call) × Chain (accepted x) m cs × (buffers cs ≡ bufs)
chain_possible x s [] m = ([], tt, refl)
chain_possible x s (b ∷ bufs) m =
    let r = reading_possible x.graph s m b in
    let c : Call = record { lent = b; answer = r.0; place = r.1; after = r.2 } in
    let rest = chain_possible x s bufs r.1 in
    (c ∷ rest.0, (r.3, rest.1), ap (λ (z : List (List ℕ)). b ∷ z) rest.2)

pub sheet_chain : (bs : List ℕ) (x : Content) → outcome bs ≡ accepted x → (bufs : List (List ℕ)) → (cs : List Call) × Chain (outcome bs) 0 cs × (buffers cs ≡ bufs)
sheet_chain bs x e bufs =
    let c = chain_possible x (well_formed_shaped (accepted_well_formed bs x e)) bufs 0 in
    (c.0, subst (λ (o : Outcome). Chain o 0 c.0) (sym e) c.1, c.2)
