-- A list that is printed page by page: how it begins, the placings at hand, and what a page leaves.
use Prim.Native.Nat.{ℕ, ◌≤◌, ◌<◌, min}
use mathlib.Core.Path.{◌≡◌, refl, sym, ap, subst, ◌∙◌}
use mathlib.Core.List.{List, ◌++◌}
use mathlib.Core.Bool.{Bool, true, false, cond, ◌||◌, true≢false}
use mathlib.Core.Logic.{inl, inr, ⊎_elim}
use native.Mathlib.Omega.{arith}
use lib.Dec.{ltb}
use lib.ListN.{length, drop}
use borrow.Author.Tests.{ltb-true, ltb-false, lt-ltb, le-ltb}
use Rattle.std.proofs.lemmas.Option.{none-some}
use Rattle.base_finite.specs.Stores.{Written}
use Rattle.base_finite.proofs.Laws.{or_cases, or_none}
use Rattle.base_nodeset.specs.declared.NodeSet.{NodeSet}
use Rattle.graph.specs.Graph.{Graph}
use Rattle.graph.specs.Order.{limit, count_answer}
use Rattle.graph.specs.declared.Count.{Count}
use Rattle.format.specs.Text.{count_line}
use Rattle.theory_list.specs.Readings.{listed}
use Rattle.solve_walk.specs.States.{Walkable}
use Rattle.solve_start.specs.Started.{WalkableOf}
use Rattle.solve_stretch.specs.Stretch.{placings, Filled, Goes}
use Rattle.base_tables.specs.declared.trees.Trees.{Trees}
use Rattle.base_tables.specs.Trees.{Owners, Fits}
use Rattle.solve_stretch.specs.declared.Stop.{Stop}
use Rattle.show_page.specs.Pages.{lines, Held}
use Rattle.show_list.specs.Run.{AtHand, Underway, Printed, Begins, first_at_hand}
use Rattle.show_list.specs.declared.Rest.{Rest}
use Rattle.std.specs.Prelude.{Option, Some, None, IsSome, is_some}
use Rattle.solve_levels.specs.Decisions.{Trail}

-- what an option's test says
pub some_there : {A : Type 0} (o : Option A) → IsSome o → (x : A) × (o ≡ Some x)
some_there (Some x) e = (x, refl)
some_there None e = absurd (true≢false (sym e))

pub none_there : {A : Type 0} (o : Option A) → is_some o ≡ false → o ≡ None
none_there (Some x) e = absurd (true≢false e)
none_there None e = refl

-- the placings at hand
abbrev pub held_of : {g : Graph} {p : Rest} {states : List NodeSet} {trail : Trail} {held : List ℕ} → AtHand g p states trail held → Held p.trees p.passed p.stop.last held
held_of {g} a = record { graph = g; shaped = a.fits.shaped; trees = a.fits.trees; within = omega (arith, a.within); rest = a.rest; placed = a.placed }

-- a list that goes on
printed_on : {g : Graph} {p : Rest} {states : List NodeSet} {trail : Trail} {held : List ℕ} (bytes done : ℕ) → Underway g p states trail held
    → Printed g p.done (record { bytes = bytes; done = done; next = Some p }) states trail held
printed_on {g} {p} {states} {trail} {held} bytes done u = record {
  on = λ rest e. let same : p ≡ rest = grind arith in subst (λ (r : Rest). (r.done ≡ p.done) × Underway g r states trail held) same (refl, u);
  ended = λ e. absurd (none-some p (sym e));
}

-- where all placings at hand are printed, the walk goes on
pub goes_on : {g : Graph} {p : Rest} {states : List NodeSet} {trail : Trail} {held : List ℕ} → Underway g p states trail held → p.stop.last ≤ p.done → IsSome p.stop.next
goes_on u all = ⊎_elim (λ e. e) (λ h. absurd (omega (arith, all))) u.on

-- the first placings are at hand, nothing is printed of them, and line 1 is written
pub begins : {g : Graph} {t : Trees} {rows : List NodeSet} → WalkableOf g t rows
    → (to : Stop) {old held : List ℕ} {states : List NodeSet} {trail : Trail} → (IsSome to.next → to.last < limit)
    → ((s : Walkable t rows) → Filled s.walked.graph 0 old to.last held × Goes s.walked.graph trail states to)
    → (total : Count) → ((s : Walkable t rows) → total ≡ count_answer (length (listed s.walked.graph)))
    → {before after : List ℕ} {bytes : ℕ} → Written before 0 (count_line total) after bytes → bytes ≤ length before
    → Begins g before (record { bytes = bytes; done = 0; next = Some (record { done = 0; passed = 0; stop = to; trees = t }) }) states trail held after
begins {t = t} x to {held = held} {states} {trail} numbered walked total counts {before} {after} {bytes} line fits =
    let s = x.sheet in
    let w = walked s in
    let first : Rest = record { done = 0; passed = 0; stop = to; trees = t } in
    let underway : Underway s.walked.graph first states trail held = record {
      at_hand = record {
        table = s.walked.table;
        fits = s.walked.fits;
        from = omega arith;
        to = omega arith;
        within = w.0.within;
        rest = _;
        placed = w.0.bytes;
        goes = w.1;
        numbered = numbered;
      };
      on = inr w.0.some;
    } in
    subst
    (λ (g : Graph). Begins g before (record { bytes = bytes; done = 0; next = Some first }) states trail held after)
    x.is
    (record {
      some = omega (arith, w.0.some, w.0.within);
      shown = record { written = subst (λ (k : Count). Written before 0 (count_line k) after bytes) (counts s) line; fits = fits };
      more = refl;
      start = refl;
      printed = printed_on bytes 0 underway;
    })

-- all placings at hand are printed, and those that come next are in their place
pub refilled : {g : Graph} {p : Rest} {states : List NodeSet} {trail : Trail} {held : List ℕ} → AtHand g p states trail held → p.stop.last ≤ p.done
    → (to : Stop) {states' : List NodeSet} {trail' : Trail} {held' : List ℕ} → Filled g p.stop.last held to.last held' → Goes g trail' states' to → (IsSome to.next → to.last < limit)
    → Underway g (record { done = p.done; passed = p.done; stop = to; trees = p.trees }) states' trail' held'
refilled {g} {p} {held = held} a all to w goes numbered =
    let same : p.stop.last ≡ p.done = omega (arith, a.to) in
    let rest : List ℕ = drop (length (placings (listed g) p.stop.last to.last)) held in
    record {
      at_hand = record {
        table = a.table;
        fits = a.fits;
        from = omega arith;
        to = omega (arith, w.some);
        within = w.within;
        rest = rest;
        placed = w.bytes ∙ ap (λ (k : ℕ). placings (listed g) k to.last ++ rest) same;
        goes = goes;
        numbered = numbered;
      };
      on = inr (omega (arith, w.some));
    }

-- the lines up to the number k are printed
module _ {g : Graph} {p : Rest} {states : List NodeSet} {trail : Trail} {held : List ℕ} (a : AtHand g p states trail held) (k : ℕ) (after : p.done ≤ k) (before : k ≤ p.stop.last) where
  pub paged : (bytes done : ℕ) → (is_some p.stop.next || ltb k p.stop.last) ≡ true
      → Printed g k (record { bytes = bytes; done = done; next = Some (record { done = k; passed = p.passed; stop = p.stop; trees = p.trees }) }) states trail held
  paged bytes done is = printed_on bytes done (record {
    at_hand = record {
      table = a.table;
      fits = a.fits;
      from = omega (arith, a.from);
      to = before;
      within = a.within;
      rest = a.rest;
      placed = a.placed;
      goes = a.goes;
      numbered = a.numbered;
    };
    on = ⊎_elim (λ (e : is_some p.stop.next ≡ true). inl e) (λ (l : ltb k p.stop.last ≡ true). inr (ltb-true k p.stop.last l)) (or_cases (is_some p.stop.next) (ltb k p.stop.last) is);
  })

  module _ (is : (is_some p.stop.next || ltb k p.stop.last) ≡ false) where
    last : k ≡ p.stop.last
    last = omega (arith, ltb-false k p.stop.last (or_none (is_some p.stop.next) (ltb k p.stop.last) is).1, before)

    all : k ≡ min (length (listed g)) limit
    all = last ∙ a.goes.ended (none_there p.stop.next (or_none (is_some p.stop.next) (ltb k p.stop.last) is).0)

    pub paged_last : (bytes done : ℕ) → {states' : List NodeSet} {trail' : Trail} {held' : List ℕ} → Printed g k (record { bytes = bytes; done = done; next = None }) states' trail' held'
    paged_last bytes done = record { on = λ rest e. absurd (none-some rest e); ended = λ e. all }

    pub left_at_hand : {from : ℕ} → p.passed ≡ from → {t : Trees} → p.trees ≡ t → AtHand g (record { done = k; passed = from; stop = record { last = k; next = None }; trees = t }) states trail held
    left_at_hand {from} is_from {t} is_trees = record {
      table = subst (λ (x : Trees). Owners x) is_trees a.table;
      fits = subst (λ (x : Trees). Fits g x) is_trees a.fits;
      from = omega (arith, a.from, is_from, after);
      to = omega arith;
      within = omega (arith, all);
      rest = a.rest;
      placed = a.placed ∙ ap (λ (i : ℕ). placings (listed g) i p.stop.last ++ a.rest) is_from ∙ ap (λ (i : ℕ). placings (listed g) from i ++ a.rest) (sym last);
      goes = record { on = λ at e. absurd (none-some at e); ended = λ e. all };
      numbered = λ e. absurd (true≢false (sym e));
    }

-- where the placings at hand begin
pub kept : (p : Rest) → p.done < p.stop.last → p.passed ≡ first_at_hand p
kept p l = sym (ap (λ (b : Bool). cond b p.passed p.done) (lt-ltb p.done p.stop.last l))

pub begun_anew : (p : Rest) → p.stop.last ≤ p.done → p.done ≡ first_at_hand p
begun_anew p l = sym (ap (λ (b : Bool). cond b p.passed p.done) (le-ltb p.done p.stop.last l))

-- from the number where they begin
pub lines_from_there : (g : Graph) {from to : ℕ} → from ≡ to → (last : ℕ) {old new : List ℕ} {end : ℕ} → Written old 0 (lines g from last) new end → Written old 0 (lines g to last) new end
lines_from_there g is last {old} {new} {end} w = subst (λ (k : ℕ). Written old 0 (lines g k last) new end) is w
