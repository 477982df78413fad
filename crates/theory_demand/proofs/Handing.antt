-- A list of reading calls: from the place m on, each call that is lent enough hands out the next reading as long as there
-- is one and its number is at most 65,535; every other call hands out nothing and leaves the place where it was.
use Prim.Native.Nat.{ℕ, suc, ◌+◌, ◌-◌, ◌*◌, ◌≤◌, ◌<◌, min}
use mathlib.Core.Path.{◌≡◌, sym, ap, subst, ◌∙◌}
use mathlib.Core.List.{List, [], ◌∷◌}
use mathlib.Core.Bool.{cond}
use native.Mathlib.Nat.{zero-add}
use native.Mathlib.Numerals.{add-one}
use native.Mathlib.Omega.{arith}
use lib.Dec.{leb}
use lib.ListN.{length, take, drop}
use lib.Seq.{take_at, drop-cons}
use borrow.Author.Tests.{le-leb, lt-leb}
use Rattle.graph.specs.Graph.{Graph}
use Rattle.format.specs.Sheet.{Labels, accepted}
use Rattle.graph.specs.Order.{Listing, entry}
use Rattle.theory_forest.specs.Shape.{Shaped}
use Rattle.theory_list.proofs.Readings.{listing_unique, listing_exists, unsolvable_empty}
use Rattle.graph.specs.Placing.{Unsolvable}
use Rattle.solve_answer.specs.Calls.{reach, ReadingCall}
use Rattle.theory_demand.specs.Demand.{Call, Chain, unless_refused, handed_out, lent_enough}
use Rattle.theory_forest.proofs.Forests.{placing_length}
use Rattle.std.specs.Prelude.{Result}
use Rattle.solve_answer.specs.declared.Unplaced.{Unplaced}

-- the readings that k calls lent enough hand out from the place m on
abbrev next : List (List ℕ) → ℕ → ℕ → List (List ℕ)
next ps k m = take (min k (reach ps - m)) (drop m ps)

-- whether a call is lent enough, as a number
abbrev one_enough : ℕ → List ℕ → ℕ
one_enough n old = cond (leb (2 * n) (length old)) 1 0

module _ (g : Graph) (s : Shaped g) (ps : List (List ℕ)) (l : Listing g ps) where
  unsolvable_none : Unsolvable g → length ps ≡ 0
  unsolvable_none u = ap length (listing_unique g s l (listing_exists g s) ∙ (unsolvable_empty g s).0 u)

  -- beyond the last, nothing more, however many calls
  none_left : (a b m : ℕ) → reach ps ≤ m → next ps a m ≡ next ps b m
  none_left a b m h =
      let x : min a (reach ps - m) ≡ 0 = omega arith in
      let y : min b (reach ps - m) ≡ 0 = omega arith in
      ap (λ (k : ℕ). take k (drop m ps)) (x ∙ sym y)

  -- the next one, and then the others
  one_more : (k m : ℕ) → m < reach ps → entry ps m ∷ next ps k (m + 1) ≡ next ps (1 + k) m
  one_more k m h =
      let split : drop m ps ≡ entry ps m ∷ drop (suc m) ps = drop-cons ps m [] (omega arith) in
      let count : min (1 + k) (reach ps - m) ≡ suc (min k (reach ps - suc m)) = omega arith in
      rw (count, split, add-one)

  -- one call, the others handing out as they should
  pub one_call : {m m' : ℕ} {old new : List ℕ} {r : Result (Unit {0}) Unplaced} → ReadingCall g m old r m' new → m ≤ reach ps → (k : ℕ)
      → (m' ≤ reach ps) × (unless_refused r (take g.nodes new) (next ps k m') ≡ next ps (one_enough g.nodes old + k) m)
  unfolding unless_refused
  one_call {m} {old = old} (ReadingCall.small f) h k = (h, rw (lt-leb (2 * g.nodes) (length old), zero-add))
  one_call {m} {old = old} (ReadingCall.none f u c) h k = (h, none_left k (one_enough g.nodes old + k) m (omega (arith, unsolvable_none u)))
  one_call {m} {old = old} (ReadingCall.beyond qs f x some b) h k = (h, none_left k (one_enough g.nodes old + k) m (subst (λ (z : List (List ℕ)). reach z ≤ m) (listing_unique g s x l) b))
  one_call {m} {old = old} (ReadingCall.read qs f x b) h k =
      let e : qs ≡ ps = listing_unique g s x l in
      let there : m < reach ps = subst (λ (z : List (List ℕ)). m < reach z) e b in
      let whole : length (entry qs m) ≡ g.nodes = placing_length g (entry qs m) (x.only_readings m (omega arith)).solved.is_placing in (
        omega arith,
        rw (take_at (entry qs m) (drop g.nodes old) g.nodes whole, e, le-leb (2 * g.nodes) (length old)) (one_more k m there),
      )

  pub chain_hands : (written : Graph) (labels : Labels) (cs : List Call) (m : ℕ) → m ≤ reach ps → Chain (accepted (record { written = written; graph = g; labels = labels })) m cs → handed_out g.nodes cs ≡ next ps (lent_enough g.nodes cs) m
  unfolding handed_out lent_enough
  chain_hands written labels [] m h c = let z : min 0 (reach ps - m) ≡ 0 = omega arith in rw z
  chain_hands written labels (c ∷ cs) m h x =
      let o = one_call x.0 h (lent_enough g.nodes cs) in
      rw (chain_hands written labels cs c.place o.0 x.1) o.1
