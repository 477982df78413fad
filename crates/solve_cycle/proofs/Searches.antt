-- The queue of the search: a node put at its end keeps it a queue.
use Prim.Native.Nat.{ℕ, ◌+◌, ◌≤◌, ◌<◌}
use mathlib.Core.Path.{◌≡◌, refl, sym, ◌∙◌}
use mathlib.Core.List.{List}
use mathlib.Core.Bool.{Bool, true, false, not, ◌&&◌, ◌||◌, true≢false}
use native.Mathlib.Omega.{arith}
use lib.Dec.{eqb, ltb}
use lib.ListN.{get_or, set, length-set, replicate, length-replicate, get_or-replicate}
use lib.Seq.{get_or-set_same, get_or-set_other}
use borrow.Author.Tests.{eq-eqb, ne_eqb, eqb-true, eqb-false, lt-ltb, le-ltb, ltb-true, ltb-false, not-true, not-false}
use Rattle.base_finite.specs.Below.{count}
use Rattle.base_finite.proofs.Laws.{by_bool, or_false, or_right, and_false, count_one_more, count_le, count_none}
use Rattle.graph.specs.Graph.{none}
use Rattle.base_nodeset.specs.Set.{mem, Empty, Inserted}
use Rattle.base_nodeset.specs.declared.NodeSet.{NodeSet}
use Rattle.base_tables.specs.Rows.{Long, in_row, RowPut}
use Rattle.base_tables.specs.Trees.{tied_in}
use Rattle.solve_closure.proofs.Edges.{below_more_test}
use Rattle.solve_cycle.specs.Searching.{joined_in, Near, seen_in, Queue, Grown, Reached, Visited, Unsearched, Searched}

-- below m + 1 is m, or below m
pub last_or_old : {C : Type 0} (k m : ℕ) → k < m + 1 → (k ≡ m → C) → (k < m → C) → C
last_or_old k m h f g = by_bool (ltb k m) (λ t. g (ltb-true k m t)) (λ t. f (omega (arith, ltb-false k m t)))

-- the members of a set, node by node

pub nodes_none : (p : ℕ → Bool) (s : NodeSet) → Empty s → (x : ℕ) → mem s x ≡ (ltb x 0 && p x)
nodes_none p s none x = rw (le-ltb x 0 (omega arith)) (none x)

module _ (p : ℕ → Bool) (n : ℕ) (s : NodeSet) (before : (x : ℕ) → mem s x ≡ (ltb x n && p x)) where
  pub nodes_there : (t : NodeSet) → p n ≡ true → Inserted s n t → (x : ℕ) → mem t x ≡ (ltb x (n + 1) && p x)
  nodes_there t there is x =
      is x
      ∙ rw (before x, below_more_test x n)
      (by_bool (eqb x n)
      (λ (e : eqb x n ≡ true). rw (e, eqb-true x n e, there, le-ltb n n (omega arith)))
      (λ (e : eqb x n ≡ false). rw (e, or_false (ltb x n))))

  pub nodes_not : p n ≡ false → (x : ℕ) → mem s x ≡ (ltb x (n + 1) && p x)
  nodes_not gone x =
      before x
      ∙ rw (below_more_test x n)
      (by_bool (eqb x n)
      (λ (e : eqb x n ≡ true). rw (e, eqb-true x n e, gone, and_false (ltb n n), and_false (ltb n n || true)))
      (λ (e : eqb x n ≡ false). rw (e, or_false (ltb x n))))

-- the answers of `joined`, by cases

module _ (parents : List ℕ) (heads : List NodeSet) (u v : ℕ) where
  pub joined_first : (b : Bool) → b ≡ tied_in parents u v → b ≡ true → true ≡ joined_in parents heads u v
  unfolding joined_in
  joined_first b e t = let y : tied_in parents u v ≡ true = sym e ∙ t in rw y

  pub joined_second : (b : Bool) → b ≡ in_row heads u v → b ≡ true → true ≡ joined_in parents heads u v
  unfolding joined_in
  joined_second b e t =
      let y : in_row heads u v ≡ true = sym e ∙ t in
      rw y (sym (or_right (tied_in parents u v) true refl))

  pub joined_third : (a b d : Bool) → a ≡ tied_in parents u v → b ≡ in_row heads u v → d ≡ in_row heads v u → a ≡ false → b ≡ false → d ≡ joined_in parents heads u v
  unfolding joined_in
  joined_third a b d e f h s t = rw (← e, s, ← f, t) h

-- the rows of what is joined, one more

pub near_none : (n : ℕ) (joined : ℕ → ℕ → Bool) (near : List NodeSet) → Long near → Near n joined 0 near
near_none n joined near long = record { long = long; row_is = λ u v h. absurd (omega arith) }

pub near_more : (n : ℕ) (joined : ℕ → ℕ → Bool) (k : ℕ) (near near' : List NodeSet) (row : NodeSet) → Near n joined k near → ((v : ℕ) → mem row v ≡ (ltb v n && joined k v)) → RowPut k row near near' → Near n joined (k + 1) near'
near_more n joined k near near' row so is put =
    record {
      long = put.long ∙ so.long;
      row_is = λ u v h.
          put.row_is u v
          ∙ last_or_old u k h
          (λ (e : u ≡ k). rw (eq-eqb u k e, e) (is v))
          (λ (l : u < k). rw (ne_eqb u k (λ (e : u ≡ k). omega arith)) (so.row_is u v l));
    }

-- seen or not

pub seen_other : (place : List ℕ) (v : ℕ) → (get_or place v 0 ≡ none → ⊥) → seen_in place v ≡ true
unfolding seen_in
seen_other place v h = rw (ne_eqb (get_or place v 0) none h)

pub seen_none : (place : List ℕ) (v : ℕ) → get_or place v 0 ≡ none → seen_in place v ≡ false
unfolding seen_in
seen_none place v h = rw (eq-eqb (get_or place v 0) none h)

pub seen_set_other : (place : List ℕ) (v x w : ℕ) → (w ≡ v → ⊥) → seen_in (set place v x) w ≡ seen_in place w
unfolding seen_in
seen_set_other place v x w h = rw (get_or-set_other place v w x 0 h)

-- nothing changes

pub grown_none : (queue place : List ℕ) (found : ℕ) → Grown queue place found queue place found
grown_none queue place found = record { more = omega arith; same = λ i h. refl; still = λ v h. h }

pub grown_more : (queue place : List ℕ) (found : ℕ) (queue₁ place₁ : List ℕ) (found₁ : ℕ) (queue₂ place₂ : List ℕ) (found₂ : ℕ) → Grown queue place found queue₁ place₁ found₁ → Grown queue₁ place₁ found₁ queue₂ place₂ found₂ → Grown queue place found queue₂ place₂ found₂
grown_more queue place found queue₁ place₁ found₁ queue₂ place₂ found₂ a b =
    let p = a.more in
    let q = b.more in
    record {
      more = omega arith;
      same = λ i h. b.same i (omega arith) ∙ a.same i h;
      still = λ v h. b.still v (a.still v h);
    }

module _ (n : ℕ) (joined : ℕ → ℕ → Bool) (queue came place : List ℕ) (found : ℕ) (q : Queue n joined queue came place found) where
  pub few_found : found ≤ n
  few_found = omega (arith, q.found_are, count_le n (seen_in place))

  -- the node at v stays unseen, or was seen before
  pub reached_before : (u v : ℕ) → (get_or place v 0 ≡ none → ⊥) → Reached n joined u v queue place found queue came place found
  reached_before u v h = record { holds = q; grown = grown_none queue place found; reached = λ _. seen_other place v h }

  pub reached_not : (u v : ℕ) (b : Bool) → b ≡ joined u v → not b ≡ true → Reached n joined u v queue place found queue came place found
  reached_not u v b e h = record { holds = q; grown = grown_none queue place found; reached = λ t. absurd (true≢false (sym t ∙ sym e ∙ not-true b h)) }

  module _ (few : n ≤ 128) (from v : ℕ) (before : from < found) (small : v < n) (unseen : get_or place v 0 ≡ none) where
    pub room : found < n
    room =
        let e = q.found_are in
        ltb-true found n (by_bool (ltb found n) (λ t. t) (λ (t : ltb found n ≡ false). absurd (full (omega (arith, ltb-false found n t, few_found)))))
      where
        full : found ≡ n → ⊥
        full e =
            let more = count_one_more n (seen_in place) (λ w. eqb w v || seen_in place w) v small (seen_none place v unseen)
            (rw (eq-eqb v v refl)) (λ j o. rw (ne_eqb j v o)) in
            omega (arith, more, q.found_are, count_le n (λ w. eqb w v || seen_in place w))

    old_entry : (table : List ℕ) (x k : ℕ) → k < found → get_or (set table found x) k 0 ≡ get_or table k 0
    old_entry table x k h = get_or-set_other table found k x 0 (λ (e : k ≡ found). omega arith)

    new_node : get_or (set queue found v) found 0 ≡ v
    new_node = get_or-set_same queue found v 0 (omega (arith, room, q.queue_long))

    new_came : get_or (set came found from) found 0 ≡ from
    new_came = get_or-set_same came found from 0 (omega (arith, room, q.came_long))

    old_place : (w : ℕ) → (w ≡ v → ⊥) → get_or (set place v found) w 0 ≡ get_or place w 0
    old_place w h = get_or-set_other place v w found 0 h

    new_place : get_or (set place v found) v 0 ≡ found
    new_place = get_or-set_same place v found 0 (omega (arith, q.place_long))

    is_seen : seen_in (set place v found) v ≡ true
    is_seen = seen_other (set place v found) v (λ e. let a : found ≡ none = sym new_place ∙ e in omega (arith, room))

    -- a node of the queue is another one
    apart : (k : ℕ) → k < found → get_or queue k 0 ≡ v → ⊥
    apart k h e =
        let a : k ≡ none = sym (q.node_at k h).1 ∙ rw e unseen in
        omega (arith, room)

    one_longer : found + 1 ≡ count n (seen_in (set place v found))
    one_longer =
        omega (
          arith,
          q.found_are,
          count_one_more n (seen_in place) (seen_in (set place v found)) v small (seen_none place v unseen) is_seen (λ j o. sym (seen_set_other place v found j o)),
        )

    pushed : joined (get_or queue from 0) v ≡ true → Queue n joined (set queue found v) (set came found from) (set place v found) (found + 1)
    pushed j =
        record {
          queue_long = simp length-set q.queue_long;
          came_long = simp length-set q.came_long;
          place_long = simp length-set q.place_long;
          some = omega arith;
          found_are = one_longer;
          came_from = λ k p h.
              last_or_old k found h
              (λ (e : k ≡ found). rw (e, new_came, new_node, old_entry queue v from before) (before, j))
              (λ (l : k < found).
              let old = q.came_from k p l in
              let less = old.0 in
              rw (old_entry came from k l, old_entry queue v k l, old_entry queue v (get_or came k 0) (omega arith)) old);
          node_at = λ k h.
              last_or_old k found h
              (λ (e : k ≡ found). rw (e, new_node, new_place) (small, refl))
              (λ (l : k < found). rw (old_entry queue v k l, old_place (get_or queue k 0) (apart k l)) (q.node_at k l));
          place_of = λ w h s.
              by_bool (eqb w v)
              (λ t. let e : w ≡ v = eqb-true w v t in rw (e, new_place, new_node) (omega arith, refl))
              (λ t.
              let o : w ≡ v → ⊥ = eqb-false w v t in
              let old = q.place_of w h (sym (seen_set_other place v found w o) ∙ s) in
              rw (old_place w o, old_entry queue v (get_or place w 0) old.0) (omega (arith, old.0), old.1));
        }

    pub reached_new : (b : Bool) → b ≡ joined (get_or queue from 0) v → not b ≡ false
        → Reached n joined (get_or queue from 0) v queue place found (set queue found v) (set came found from) (set place v found) (found + 1)
    reached_new b e h =
        record {
          holds = pushed (sym e ∙ not-false b h);
          grown = record {
            more = omega arith;
            same = old_entry queue v;
            still = λ w s.
                by_bool (eqb w v)
                (λ t. let e : w ≡ v = eqb-true w v t in rw e is_seen)
                (λ t. seen_set_other place v found w (eqb-false w v t) ∙ s);
          };
          reached = λ _. is_seen;
        }

-- one node after the other

pub visited_none : (n : ℕ) (joined : ℕ → ℕ → Bool) (u : ℕ) (queue came place : List ℕ) (found : ℕ) → Queue n joined queue came place found → Visited n joined u 0 queue place found queue came place found
visited_none n joined u queue came place found q =
    record { holds = q; grown = grown_none queue place found; reached = λ w h. absurd (omega arith) }

pub visited_more : (n : ℕ) (joined : ℕ → ℕ → Bool) (from v : ℕ) (queue place : List ℕ) (found : ℕ) (queue₁ came₁ place₁ : List ℕ) (found₁ : ℕ) (queue₂ came₂ place₂ : List ℕ) (found₂ : ℕ) → from < found
    → Visited n joined (get_or queue from 0) v queue place found queue₁ came₁ place₁ found₁
    → Reached n joined (get_or queue₁ from 0) v queue₁ place₁ found₁ queue₂ came₂ place₂ found₂
    → Visited n joined (get_or queue from 0) (v + 1) queue place found queue₂ came₂ place₂ found₂
visited_more n joined from v queue place found queue₁ came₁ place₁ found₁ queue₂ came₂ place₂ found₂ h a b =
    record {
      holds = b.holds;
      grown = grown_more queue place found queue₁ place₁ found₁ queue₂ place₂ found₂ a.grown b.grown;
      reached = λ w l j.
          last_or_old w v l
          (λ (e : w ≡ v). rw e (b.reached (rw (a.grown.same from h, ← e) j)))
          (λ (m : w < v). b.grown.still w (a.reached w m j));
    }

-- the root alone

pub searched_start : (n : ℕ) (joined : ℕ → ℕ → Bool) (root : ℕ) (queue came place : List ℕ) → n ≤ 128 → root < n → Unsearched queue came place → Searched n joined root 0 (set queue 0 root) came (set place root 0) 1
searched_start n joined root queue came place few small u =
    let is_root : get_or (set queue 0 root) 0 0 ≡ root = get_or-set_same queue 0 root 0 (omega (arith, u.queue_long)) in
    let at_root : ◌≡◌ {A = ℕ} (get_or (set place root 0) root 0) 0 = get_or-set_same place root 0 0 (omega (arith, u.place_long)) in
    let seen : seen_in (set place root 0) root ≡ true = seen_other (set place root 0) root (λ e. omega (arith, e, at_root)) in
    let before : (w : ℕ) → w < n → seen_in place w ≡ false = λ w h. seen_none place w (u.none_seen w (omega arith)) in
    record {
      holds = record {
        queue_long = simp length-set u.queue_long;
        came_long = u.came_long;
        place_long = simp length-set u.place_long;
        some = omega arith;
        found_are =
            omega (
              arith,
              count_none n (seen_in place) before,
              count_one_more n (seen_in place) (seen_in (set place root 0)) root small (before root small) seen (λ j o. sym (seen_set_other place root 0 j o)),
            );
        came_from = λ k p h. absurd (omega arith);
        node_at = λ k h.
            let z : k ≡ 0 = omega arith in
            rw (z, is_root, at_root) (small, refl);
        place_of = λ w h s.
            by_bool (eqb w root)
            (λ t. let e : w ≡ root = eqb-true w root t in rw (e, at_root, is_root) (omega arith, refl))
            (λ t. absurd (true≢false (sym s ∙ seen_set_other place root 0 w (eqb-false w root t) ∙ before w h)));
      };
      first = is_root;
      closed = λ i w h. absurd (omega arith);
    }

pub searched_more : (n : ℕ) (joined : ℕ → ℕ → Bool) (root done : ℕ) (queue came place : List ℕ) (found : ℕ) (queue' came' place' : List ℕ) (found' : ℕ) → done < found
    → Searched n joined root done queue came place found → Visited n joined (get_or queue done 0) n queue place found queue' came' place' found'
    → Searched n joined root (done + 1) queue' came' place' found'
searched_more n joined root done queue came place found queue' came' place' found' h s v =
    record {
      holds = v.holds;
      first = v.grown.same 0 (omega arith) ∙ s.first;
      closed = λ i w l b j.
          let same : get_or queue' i 0 ≡ get_or queue i 0 = v.grown.same i (omega arith) in
          let j' : joined (get_or queue i 0) w ≡ true = rw same at j in
          last_or_old i done l
          (λ (e : i ≡ done). v.reached w b (rw e at j'))
          (λ (m : i < done). v.grown.still w (s.closed i w m b j'));
    }

-- a search of the rows is one of what they hold
pub near_searched : (n : ℕ) (joined : ℕ → ℕ → Bool) (near : List NodeSet) (root : ℕ) (queue came place : List ℕ) (found : ℕ) → Near n joined n near
    → Searched n (in_row near) root found queue came place found → Searched n joined root found queue came place found
near_searched n joined near root queue came place found is s =
    let q = s.holds in
    record {
      holds = record {
        queue_long = q.queue_long;
        came_long = q.came_long;
        place_long = q.place_long;
        some = q.some;
        found_are = q.found_are;
        came_from = λ k p h.
            let b = q.came_from k p h in
            (b.0, sym (same (get_or queue (get_or came k 0) 0) (get_or queue k 0) (q.node_at (get_or came k 0) (omega (arith, b.0))).0 (q.node_at k h).0) ∙ b.1);
        node_at = q.node_at;
        place_of = q.place_of;
      };
      first = s.first;
      closed = λ i w l h j. s.closed i w l h (same (get_or queue i 0) w (q.node_at i l).0 h ∙ j);
    }
  where
    same : (u v : ℕ) → u < n → v < n → in_row near u v ≡ joined u v
    same u v a b = is.row_is u v a ∙ rw (lt-ltb v n b)

-- places that are all `none`
pub unsearched : (m : ℕ) → m ≡ 128 → Unsearched (replicate m 0) (replicate m 0) (replicate m 255)
unsearched m e =
    record {
      queue_long = length-replicate m 0 ∙ e;
      came_long = length-replicate m 0 ∙ e;
      place_long = length-replicate m 255 ∙ e;
      none_seen = λ v h. get_or-replicate m v 255 0 (omega arith);
    }
