-- The way back, spelled: two bytes more go one step further.
use Prim.Native.Nat.{ℕ, ◌+◌, ◌*◌, ◌≤◌, ◌<◌}
use mathlib.Core.Path.{◌≡◌, refl, sym, ap, ◌∙◌}
use mathlib.Core.List.{List}
use mathlib.Core.Bool.{Bool, true, false}
use native.Mathlib.Omega.{arith}
use lib.ListN.{length, get_or, set, drop, length-set}
use lib.Seq.{get_or-set_same, get_or-set_other, drop-set-lt, drop-drop}
use Rattle.graph.specs.Cycle.{node, kind}
use Rattle.base_tables.specs.Trees.{tied_in}
use Rattle.solve_cycle.specs.Spelling.{kind_in, Back, WayBack}
use Rattle.solve_cycle.proofs.Searches.{last_or_old}

-- the kind of a step, by the answer b of `tied`

pub kind_tree : (parents : List ℕ) (u v : ℕ) (b : Bool) → b ≡ tied_in parents u v → b ≡ true → 2 ≡ kind_in parents u v
unfolding kind_in
kind_tree parents u v b e t = let y : tied_in parents u v ≡ true = sym e ∙ t in rw y

pub kind_dominance : (parents : List ℕ) (u v : ℕ) (b : Bool) → b ≡ tied_in parents u v → b ≡ false → 3 ≡ kind_in parents u v
unfolding kind_in
kind_dominance parents u v b e t = let z : tied_in parents u v ≡ false = sym e ∙ t in rw z

-- a shorter part of the end is the same where the end is
pub drop_more : (a b : List ℕ) (m k : ℕ) → drop m a ≡ drop m b → drop (m + k) a ≡ drop (m + k) b
drop_more a b m k e = sym (drop-drop k m a) ∙ ap (drop k) e ∙ drop-drop k m b

pub way_start : (parents queue came : List ℕ) (at : ℕ) (out : List ℕ) → 0 < length out
    → WayBack parents queue came at at (set out 0 (get_or queue at 0)) (set out 0 (get_or queue at 0)) 0
way_start parents queue came at out h =
    let first : get_or (set out 0 (get_or queue at 0)) 0 0 ≡ get_or queue at 0 = get_or-set_same out 0 (get_or queue at 0) 0 h in
    record {
      long = refl;
      few = omega arith;
      first = first;
      last = first;
      places = λ i l. let z : i ≡ 0 = omega arith in (at, omega arith, omega arith, rw z first);
      different = λ i j l m e. omega arith;
      steps = λ i l. absurd (omega arith);
      kinds = λ i l. absurd (omega arith);
      rest = refl;
    }

-- the bytes before the first store are those at entry
pub way_end : (parents queue came : List ℕ) (at : ℕ) (old : List ℕ) (x : ℕ) (new : List ℕ) (c : ℕ) → WayBack parents queue came at 0 (set old 0 x) new c → WayBack parents queue came at 0 old new c
way_end parents queue came at old x new c t =
    record {
      long = t.long ∙ simp length-set;
      few = t.few;
      first = t.first;
      last = t.last;
      places = t.places;
      different = t.different;
      steps = t.steps;
      kinds = t.kinds;
      rest = t.rest ∙ drop-set-lt (2 * c + 1) old 0 x (omega arith);
    }

-- a kind and a node, stored after c steps
abbrev stored : List ℕ → ℕ → ℕ → ℕ → List ℕ
stored new c edge v = set (set new (2 * c + 1) edge) (2 * c + 2) v

module _ (new : List ℕ) (c edge v : ℕ) (room : 2 * c + 2 < length new) where
  kept : (j : ℕ) → j < 2 * c + 1 → get_or (stored new c edge v) j 0 ≡ get_or new j 0
  kept j h =
      get_or-set_other (set new (2 * c + 1) edge) (2 * c + 2) j v 0 (λ (e : j ≡ 2 * c + 2). omega arith)
      ∙ get_or-set_other new (2 * c + 1) j edge 0 (λ (e : j ≡ 2 * c + 1). omega arith)

  node_old : (i : ℕ) → i ≤ c → node (stored new c edge v) i ≡ node new i
  node_old i h = kept (2 * i) (omega arith)

  kind_old : (i : ℕ) → i < c → kind (stored new c edge v) i ≡ kind new i
  kind_old i h = kept (2 * i + 1) (omega arith)

  node_new : node (stored new c edge v) (c + 1) ≡ v
  node_new =
      let e : 2 * (c + 1) ≡ 2 * c + 2 = omega arith in
      let long : length (set new (2 * c + 1) edge) ≡ length new = length-set new (2 * c + 1) edge in
      rw e (get_or-set_same (set new (2 * c + 1) edge) (2 * c + 2) v 0 (omega arith))

  kind_new : kind (stored new c edge v) c ≡ edge
  kind_new =
      get_or-set_other (set new (2 * c + 1) edge) (2 * c + 2) (2 * c + 1) v 0 (λ (e : 2 * c + 1 ≡ 2 * c + 2). omega arith)
      ∙ get_or-set_same new (2 * c + 1) edge 0 (omega arith)

  after : drop (2 * (c + 1) + 1) (stored new c edge v) ≡ drop (2 * (c + 1) + 1) new
  after =
      drop-set-lt (2 * (c + 1) + 1) (set new (2 * c + 1) edge) (2 * c + 2) v (omega arith)
      ∙ drop-set-lt (2 * (c + 1) + 1) new (2 * c + 1) edge (omega arith)

module _
    (parents queue came : List ℕ)
    (at k : ℕ)
    (old new : List ℕ)
    (c : ℕ)
    (b : Back queue came at)
    (t : WayBack parents queue came at k old new c)
    (more : 0 < k)
    (long : 2 * at < length old)
    (edge : ℕ)
    (is_kind : edge ≡ kind_in parents (get_or queue k 0) (get_or queue (get_or came k 0) 0)) where
  up : k ≤ at
  up = let f = t.few in omega arith

  earlier : get_or came k 0 < k
  earlier = b.earlier k more up

  room : 2 * c + 2 < length new
  room = let f = t.few in omega (arith, t.long)

  pub way_more : WayBack parents queue came at (get_or came k 0) old (stored new c edge (get_or queue (get_or came k 0) 0)) (c + 1)
  way_more =
      let v : ℕ = get_or queue (get_or came k 0) 0 in
      let less = earlier in
      let f = t.few in
      let olds = node_old new c edge v room in
      let one = node_new new c edge v room in
      record {
        long = simp length-set t.long;
        few = omega arith;
        first = olds 0 (omega arith) ∙ t.first;
        last = one;
        places = λ i h.
            last_or_old i (c + 1) (omega arith)
            (λ (e : i ≡ c + 1). (get_or came k 0, omega arith, omega arith, rw e one))
            (λ (l : i < c + 1).
            let p = t.places i (omega arith) in
            (p.0, omega (arith, p.1), p.2, olds i (omega arith) ∙ p.3));
        different = λ i j h d q.
            last_or_old i (c + 1) (omega arith)
            (λ (e : i ≡ c + 1).
            let p = t.places j (omega arith) in
            let is : node (stored new c edge v) i ≡ v = rw e one in
            b.different p.0 (get_or came k 0) p.2 (omega (arith, p.1)) (sym p.3 ∙ sym (olds j (omega arith)) ∙ sym q ∙ is))
            (λ (l : i < c + 1). t.different i j (omega arith) d (sym (olds i (omega arith)) ∙ q ∙ olds j (omega arith)));
        steps = λ i h.
            last_or_old i c h
            (λ (e : i ≡ c).
            (k, more, up, rw e (olds c (omega arith) ∙ t.last), rw e one))
            (λ (l : i < c).
            let p = t.steps i l in
            (p.0, p.1, p.2, olds i (omega arith) ∙ p.3, olds (i + 1) (omega arith) ∙ p.4));
        kinds = λ i h.
            last_or_old i c h
            (λ (e : i ≡ c). rw (e, kind_new new c edge v room, olds c (omega arith), one, t.last) is_kind)
            (λ (l : i < c). rw (kind_old new c edge v room i l, olds i (omega arith), olds (i + 1) (omega arith)) (t.kinds i l));
        rest =
            let e : 2 * (c + 1) + 1 ≡ (2 * c + 1) + 2 = omega arith in
            after new c edge v room ∙ rw e (drop_more new old (2 * c + 1) 2 t.rest);
      }
