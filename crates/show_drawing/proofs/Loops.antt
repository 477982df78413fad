-- The loop that draws a run: what it has drawn before x, the room for the next text, and what stands before that.
use Prim.Native.Nat.{ℕ, ◌+◌, ◌≤◌, ◌<◌}
use mathlib.Core.Path.{◌≡◌, refl, ◌∙◌}
use mathlib.Core.List.{List, [], ◌∷◌, ◌++◌}
use mathlib.Core.Bool.{Bool, true, false, cond}
use native.Mathlib.Omega.{arith}
use lib.ListN.{length, length-append}
use borrow.Author.Tests.{eq-eqb, ne_eqb}
use Rattle.base_finite.specs.Below.{any}
use Rattle.base_finite.proofs.Laws.{by_bool, any_more, or_false, or_right}
use Rattle.base_finite.proofs.Stores.{written_none, written_more, written_length}
use Rattle.show_drawing.specs.Drawn.{run, sum_where, joint, Ready, Moved}
use Rattle.show_drawing.specs.declared.Pen.{Pen}
use Rattle.show_drawing.proofs.Texts.{run_none, run_skip, run_take, run_room, run_empty, run_some, sum_none, sum_skip, sum_take, sum_room}

-- a pen moves on

pub moved_none : (pen : Pen) (old : List ℕ) → Moved [] 0 pen old pen old
moved_none pen old = record { written = written_none old pen.at; counted = omega arith }

pub moved_long : {text : List ℕ} {size : ℕ} {from : Pen} {old : List ℕ} {pen : Pen} {new : List ℕ} → Moved text size from old pen new → length new ≡ length old
moved_long m = written_length _ _ _ _ _ m.written

-- one text after the other: the fragments of both, and the room that is left for the second
module _ {a : List ℕ} {s : ℕ} {from : Pen} {old : List ℕ} {mid : Pen} {out : List ℕ} (m : Moved a s from old mid out) (b : List ℕ) {u w : ℕ} where
  pub moved_more : {pen : Pen} {new : List ℕ} → Moved b u mid out pen new → w ≡ s + u → Moved (a ++ b) w from old pen new
  moved_more k e =
      record {
        written = written_more _ _ _ _ _ _ _ _ m.written k.written;
        counted = omega (arith, m.counted, k.counted, e);
      }

  pub ready_more : {n : ℕ} → Ready (a ++ b) w n from old → s + u ≤ w → Ready b u n mid out
  ready_more r h =
      let long = length-append a b in
      record {
        room = omega (arith, r.room, m.written.after, moved_long m);
        enough = omega (arith, r.enough, m.counted);
        few = omega (arith, r.few, m.counted);
      }

-- the texts before x are drawn, and a pen could go on with those up to n
pub record Running (o b : List ℕ) (f : ℕ → List ℕ) (size : ℕ → ℕ) (t : ℕ → Bool) (n : ℕ) (old : List ℕ) (from : Pen) (new : List ℕ) (pen : Pen) (x : ℕ) : Type 0 where
  pub few : x ≤ n
  pub long : length new ≡ length old
  pub ready : Ready (run o b f t n) (sum_where size t n) n from old
  pub so_far : Moved (run o b f t x) (sum_where size t x) from old pen new

module _ {o b : List ℕ} {f : ℕ → List ℕ} {size : ℕ → ℕ} {t : ℕ → Bool} {n : ℕ} {old : List ℕ} {from : Pen} where
  pub running_none : Ready (run o b f t n) (sum_where size t n) n from old → Running o b f size t n old from old from 0
  running_none r =
      record {
        few = omega arith;
        long = refl;
        ready = r;
        so_far = record { written = rw run_none (written_none old from.at); counted = omega (arith, sum_none size t) };
      }

  module _ {new : List ℕ} {pen : Pen} {x : ℕ} (w : Running o b f size t n old from new pen x) where
    pub running_skip : x < n → t x ≡ false → Running o b f size t n old from new pen (x + 1)
    running_skip h e =
        record { few = omega arith; long = w.long; ready = w.ready; so_far = rw (run_skip o b f t x e, sum_skip size t x e) w.so_far }

    pub running_done : n ≤ x → Moved (run o b f t n) (sum_where size t n) from old pen new
    running_done h =
        let few = w.few in
        let all : x ≡ n = omega arith in
        rw (← all) w.so_far

    -- the next text, and what stands before it
    module _ (h : x < n) (e : t x ≡ true) {before : List ℕ} (i : cond (any x t) b o ≡ before) where
      next_ready : Ready (before ++ f x) (size x) n pen new
      next_ready =
          let long = length-append before (f x) in
          record {
            room = omega (arith, rw i at (run_room o b f t x n h e), w.so_far.written.after, w.ready.room, w.long);
            enough = omega (arith, sum_room size t x n h e, w.so_far.counted, w.ready.enough);
            few = omega (arith, w.so_far.counted, w.ready.few);
          }

      pub before_room : pen.at + length before ≤ length new
      before_room = omega (arith, next_ready.room, length-append before (f x))

      module _ {next : Pen} {mid : List ℕ} (v : Moved before 0 pen new next mid) where
        pub text_ready : Ready (f x) (size x) n next mid
        text_ready = ready_more v (f x) next_ready (omega arith)

        pub running_take : {last : Pen} {end : List ℕ} → Moved (f x) (size x) next mid last end → Running o b f size t n old from end last (x + 1)
        running_take {last} {end} u =
            let both : Moved (before ++ f x) (size x) pen new last end = moved_more v (f x) u (omega arith) in
            record {
              few = omega arith;
              long = moved_long both ∙ w.long;
              ready = w.ready;
              so_far = rw (run_take o b f t x e, i) (moved_more w.so_far (before ++ f x) both (sum_take size t x e));
            }

-- a run with the mark o before its first text and b before each other
pub record Marked (o b : ℕ) (f : ℕ → List ℕ) (size : ℕ → ℕ) (t : ℕ → Bool) (n : ℕ) (old : List ℕ) (from : Pen) (new : List ℕ) (pen : Pen) (mark x : ℕ) : Type 0 where
  pub running : Running (o ∷ []) (b ∷ []) f size t n old from new pen x
  pub mark_is : mark ≡ cond (any x t) b o

mark_list : (c : Bool) (o b mark : ℕ) → mark ≡ cond c b o → cond c (b ∷ []) (o ∷ []) ≡ mark ∷ []
mark_list true o b mark e = rw e
mark_list false o b mark e = rw e

module _ {o b : ℕ} {f : ℕ → List ℕ} {size : ℕ → ℕ} {t : ℕ → Bool} {n : ℕ} {old : List ℕ} {from : Pen} where
  pub marked_none : Ready (run (o ∷ []) (b ∷ []) f t n) (sum_where size t n) n from old → Marked o b f size t n old from old from o 0
  unfolding any
  marked_none r = record { running = running_none r; mark_is = refl }

  module _ {new : List ℕ} {pen : Pen} {mark x : ℕ} (w : Marked o b f size t n old from new pen mark x) where
    pub marked_skip : x < n → t x ≡ false → Marked o b f size t n old from new pen mark (x + 1)
    marked_skip h e = record { running = running_skip w.running h e; mark_is = w.mark_is ∙ rw (any_more x t, e, or_false (any x t)) }

    module _ (h : x < n) (e : t x ≡ true) where
      before : cond (any x t) (b ∷ []) (o ∷ []) ≡ mark ∷ []
      before = mark_list (any x t) o b mark w.mark_is

      pub marked_room : pen.at < length new
      marked_room = omega (arith, before_room w.running h e before)

      module _ {next : Pen} {mid : List ℕ} (v : Moved (mark ∷ []) 0 pen new next mid) where
        pub marked_ready : Ready (f x) (size x) n next mid
        marked_ready = text_ready w.running h e before v

        pub marked_take : {last : Pen} {end : List ℕ} → Moved (f x) (size x) next mid last end → Marked o b f size t n old from end last b (x + 1)
        marked_take u = record { running = running_take w.running h e before v u; mark_is = rw (any_more x t, or_right (any x t) (t x) e) }

-- nothing before the first text: what stands before the next is told by whether bytes are stored
pub joint_is : {f : ℕ → List ℕ} {size : ℕ → ℕ} {t : ℕ → Bool} {n : ℕ} {old : List ℕ} {from : Pen} {new : List ℕ} {pen : Pen} {x : ℕ} → Running [] (59 ∷ []) f size t n old from new pen x
    → ((k : ℕ) → 0 < length (f k)) → from.at ≡ 0 → cond (any x t) (59 ∷ []) [] ≡ joint pen.at
joint_is {f} {size} {t} {n} {old} {from} {new} {pen} {x} w some first =
    let after : pen.at ≡ from.at + length (run [] (59 ∷ []) f t x) = w.so_far.written.after in
    by_bool (any x t)
    (λ (e : any x t ≡ true).
    let long = run_some [] (59 ∷ []) f t x e some in
    rw (e, ne_eqb pen.at 0 (λ z. omega arith)))
    (λ (e : any x t ≡ false).
    let none : length (run [] (59 ∷ []) f t x) ≡ 0 = rw (run_empty [] (59 ∷ []) f t x e) in
    rw (e, eq-eqb pen.at 0 (omega arith)))
