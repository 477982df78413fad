-- Records stored one after the other, three bytes each.
use Prim.Native.Nat.{ℕ, ◌+◌, ◌*◌, ◌≤◌, ◌<◌}
use mathlib.Core.Path.{◌≡◌, refl, sym, ap, ◌∙◌}
use mathlib.Core.List.{List, [], ◌∷◌, ◌++◌}
use native.Mathlib.Omega.{arith}
use lib.Dec.{ltb}
use lib.ListN.{length, get_or, set, take, drop, length-take}
use lib.Seq.{sets, sets-eq}
use mathlib.Core.Bool.{true, false}
use borrow.Author.Tests.{le-ltb}
use Rattle.base_finite.proofs.Laws.{by_bool}
use Rattle.format.specs.declared.Refusal.{Refusal}
use Rattle.format.specs.declared.Refusal.TheVariants.{SmallBuffer}
use Rattle.std.specs.Prelude.{Result, Ok, Err}
use Rattle.std.proofs.lemmas.List.{take_more}
use Rattle.base_finite.proofs.Runs.{sets_append, three_stored}
use Rattle.format.specs.Sheet.{Content, Outcome, refused, accepted}
use Rattle.graph.specs.Table.{fragments}
use Rattle.graph.specs.declared.Fragment.{Fragment}
use Rattle.sheet_fragments.specs.Table.{flat, Tabled}
use Rattle.sheet_fragments.specs.Records.{answer_of, FragmentsOf, Prepared, Recorded}
use Rattle.sheet_fragments.specs.declared.records.Records.{Records}

flat_append : (a b : List Fragment) → flat (a ++ b) ≡ flat a ++ flat b
unfolding flat
flat_append [] b = refl
flat_append (f ∷ a) b = rw (flat_append a b)

flat_length : (fs : List Fragment) → length (flat fs) ≡ 3 * length fs
unfolding flat
flat_length [] = refl
flat_length (f ∷ fs) =
    let ih : length (flat fs) ≡ 3 * length fs = flat_length fs in
    omega arith

pub none_stored : (l : List ℕ) → l ≡ sets l 0 (flat [])
unfolding flat
none_stored l = refl

pub more_stored : (l out : List ℕ) (fs : List Fragment) (k at : ℕ) (d : Fragment) → at ≡ 3 * k → k < length fs → out ≡ sets l 0 (flat (take k fs))
    → set (set (set out at (get_or fs k d).root) (at + 1) (get_or fs k d).lowest_leaf) (at + 2) (get_or fs k d).leaves ≡ sets l 0 (flat (take (k + 1) fs))
unfolding flat
more_stored l out fs k at d e h so_far =
    let f : Fragment = get_or fs k d in
    let here : at ≡ 0 + length (flat (take k fs)) = omega (arith, flat_length (take k fs), length-take k fs) in
    let next : flat (take (k + 1) fs) ≡ flat (take k fs) ++ f.root ∷ f.lowest_leaf ∷ f.leaves ∷ [] = ap flat (take_more fs k d h) ∙ flat_append (take k fs) (f ∷ []) in
    three_stored out at f.root f.lowest_leaf f.leaves ∙ rw (so_far, here, next) (sets_append (flat (take k fs)) l 0 (f.root ∷ f.lowest_leaf ∷ f.leaves ∷ []))

-- the table that is written
pub all_stored : (o : Outcome) (p : Records) (fs : List Fragment) (old new : List ℕ) → ((s : Content) × (o ≡ accepted s) × FragmentsOf s.graph p) → 3 * p.count ≤ length old
    → fs ≡ take p.count p.fragments → new ≡ sets old 0 (flat fs) → Tabled o (Ok p.count) old new
all_stored o p fs old new a fits is e =
    let gs : List Fragment = fragments a.0.graph in
    let room : 3 * length gs ≤ length old = rw (← a.2.counted) fits in
    let enough = le-ltb (length old) (3 * length gs) room in
    let long : 0 + length (flat gs) ≡ 3 * length gs = omega (arith, flat_length gs) in
    rw a.1
    (record {
      answer = rw (enough, a.2.counted);
      bytes = e ∙ rw (enough, is, a.2.are) (sets-eq (flat gs) old 0 (rw long room) ∙ rw long);
    })

-- a lent slice of records, before and after

module _ (old : List Fragment) where
  pub prepares_recorded : (o : Outcome) (p : Records) (new : List Fragment) → Prepared o (length old) p → new ≡ take p.count p.fragments ++ drop p.count old
      → Recorded o (Ok p.count) old new
  prepares_recorded (refused why) p new h e = absurd (let f = h.answer in cc)
  prepares_recorded (accepted s) p new h e =
      let n = length (fragments s.graph) in
      by_bool (ltb (length old) n)
      (λ (t : ltb (length old) n ≡ true). let f : ◌≡◌ {A = Result ℕ Refusal} (Err SmallBuffer) (Ok p.count) = rw t at h.answer in absurd cc)
      (λ (t : ltb (length old) n ≡ false).
      let f : ◌≡◌ {A = Result ℕ Refusal} (Ok n) (Ok p.count) = rw t at h.answer in
      let same : n ≡ p.count = cc in
      let all : take p.count p.fragments ≡ fragments s.graph = rw t at h.holds in
      record { answer = sym h.answer; records = e ∙ rw (all, t, same) })

  pub prepares_refused : (o : Outcome) (why : Refusal) → answer_of o (length old) ≡ Err why → Recorded o (Err why) old old
  prepares_refused (refused k) why e = record { answer = sym e; records = refl }
  prepares_refused (accepted s) why e =
      let n = length (fragments s.graph) in
      by_bool (ltb (length old) n)
      (λ (t : ltb (length old) n ≡ true). record { answer = sym e; records = rw t })
      (λ (t : ltb (length old) n ≡ false). let f : ◌≡◌ {A = Result ℕ Refusal} (Ok n) (Err why) = rw t at e in absurd cc)
