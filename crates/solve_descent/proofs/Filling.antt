-- Rows that are filled one by one. A row that is put in place of its node's successors has just what paths lead to: so the paths
-- stay what they were, and the rows filled are whole. Besides, what bounds the way down to the next row.
use Prim.Native.Nat.{ℕ, ◌+◌, ◌*◌, ◌-◌, ◌≤◌, ◌<◌}
use mathlib.Core.Path.{◌≡◌, refl, sym, ◌∙◌}
use mathlib.Core.List.{List}
use mathlib.Core.Bool.{true, false, not, false≢true}
use mathlib.Core.Logic.{⊎_elim, ◌↔◌}
use native.Mathlib.Nat.{eq-or-lt_of_le}
use native.Mathlib.Omega.{arith}
use lib.Dec.{eqb}
use lib.ListN.{length, get_or, set, length-set}
use lib.Seq.{get_or-set_same, get_or-set_other}
use borrow.Author.Tests.{eq-eqb, eqb-true, eqb-false, not-true}
use Rattle.base_finite.specs.Below.{count}
use Rattle.base_finite.proofs.Laws.{by_bool, or_left, or_right, or_cases, and_both, count_le, count_one_more}
use Rattle.base_finite.proofs.Bounds.{count_without}
use Rattle.base_finite.proofs.Counting.{count_grows}
use Rattle.base_nodeset.specs.Set.{mem, Empty, Inserted, Difference}
use Rattle.base_nodeset.specs.declared.NodeSet.{NodeSet}
use Rattle.graph.specs.Graph.{Path, one, more}
use Rattle.theory_forest.proofs.Closure.{path_trans, path_cons, path_lift, path_map}
use Rattle.base_tables.specs.Rows.{Long, RowPut, Rows}
use Rattle.solve_descent.specs.Descent.{Edges, Among, Under, Whole, OnWay, Longer, Fills}

-- from a member of the whole ones a path leads nowhere that its row does not
whole_path : (rows : List NodeSet) (whole : NodeSet) → Whole rows whole → (u : ℕ) → mem whole u ≡ true → {v : ℕ} → Path (Edges rows) u v → Edges rows u v
whole_path rows whole is u t (one e) = e
whole_path rows whole is u t (more p e) = is u _ _ t (whole_path rows whole is u t p) e

path_starts : (n : ℕ) (rows : List NodeSet) → Among n rows → {u v : ℕ} → Path (Edges rows) u v → u < n
path_starts n rows among (one e) = among _ _ e
path_starts n rows among (more p e) = path_starts n rows among p

-- rows filled: none, some and then more, all

pub fills_none : (rows : List NodeSet) (whole : NodeSet) → Whole rows whole → Fills rows whole rows whole
fills_none rows whole is =
    record {
      long = refl;
      same_paths = λ u v. (λ p. p, λ p. p);
      is_whole = is;
      grows = λ u t. t;
    }

pub fills_more : {rows rows₁ rows₂ : List NodeSet} {whole whole₁ whole₂ : NodeSet} → Fills rows whole rows₁ whole₁ → Fills rows₁ whole₁ rows₂ whole₂ → Fills rows whole rows₂ whole₂
fills_more f g =
    record {
      long = g.long ∙ f.long;
      same_paths = λ u v. (λ p. (f.same_paths u v).0 ((g.same_paths u v).0 p), λ p. (g.same_paths u v).1 ((f.same_paths u v).1 p));
      is_whole = g.is_whole;
      grows = λ u t. g.grows u (f.grows u t);
    }

pub none_whole : (rows : List NodeSet) (whole : NodeSet) → Empty whole → Whole rows whole
none_whole rows whole none u v w t = absurd (false≢true (sym (none u) ∙ t))

pub fills_all : (n : ℕ) (rows rows' : List NodeSet) (whole whole' : NodeSet) → Long rows → Among n rows → Fills rows whole rows' whole'
    → ((u : ℕ) → u < n → mem whole' u ≡ true) → Rows (Path (Edges rows)) rows'
fills_all n rows rows' whole whole' long among f all =
    record {
      long = f.long ∙ long;
      row_is = λ u v. (
        λ e. (f.same_paths u v).0 (one e),
        λ p. whole_path rows' whole' f.is_whole u (all u (path_starts n rows among p)) ((f.same_paths u v).1 p),
      );
    }

-- one row
module _ (rows : List NodeSet) (whole : NodeSet) (is_whole : Whole rows whole) (k : ℕ) (row : NodeSet) (is : Under rows k row)
    (rows' : List NodeSet) (put : RowPut k row rows rows') (whole' : NodeSet) (with_k : Inserted whole k whole') where
  here : (v : ℕ) → Edges rows' k v ↔ Path (Edges rows) k v
  here v =
      let at_k : Edges rows' k v ↔ (mem row v ≡ true) = (λ e. sym (put.row_is k v ∙ rw (eq-eqb k k refl)) ∙ e, λ t. put.row_is k v ∙ rw (eq-eqb k k refl) t) in
      (λ e. (is v).0 (at_k.0 e), λ p. at_k.1 ((is v).1 p))

  -- an edge as it was before, or from k
  edge : {C : Type 0} (u v : ℕ) → Edges rows' u v → (u ≡ k → Path (Edges rows) k v → C) → ((u ≡ k → ⊥) → Edges rows u v → C) → C
  edge u v e new old =
      by_bool (eqb u k)
      (λ (q : eqb u k ≡ true). let i : u ≡ k = eqb-true u k q in new i ((here v).0 (rw i at e)))
      (λ (q : eqb u k ≡ false). old (eqb-false u k q) (sym (put.row_is u v ∙ rw q) ∙ e))

  back : (u v : ℕ) → Edges rows' u v → Path (Edges rows) u v
  back u v e = edge u v e (λ i p. rw i p) (λ other d. one d)

  forth : (u v : ℕ) → Edges rows u v → Edges rows' u v
  forth u v e =
      by_bool (eqb u k)
      (λ (q : eqb u k ≡ true). let i : u ≡ k = eqb-true u k q in rw i ((here v).1 (one (rw i at e))))
      (λ (q : eqb u k ≡ false). put.row_is u v ∙ rw q e)

  pub fills_row : Fills rows whole rows' whole'
  fills_row =
      record {
        long = put.long;
        same_paths = λ u v. (λ p. path_lift back p, λ p. path_map forth p);
        is_whole = λ u v w t d e.
            edge u v d
            (λ i p. rw i ((here w).1 (path_trans p (back v w e))))
            (λ other d'. forth u w (whole_path rows whole is_whole u (of_before u other t) (path_cons d' (back v w e))));
        grows = λ u t. with_k u ∙ or_right (eqb u k) (mem whole u) t;
      }
    where
      of_before : (u : ℕ) → (u ≡ k → ⊥) → mem whole' u ≡ true → mem whole u ≡ true
      of_before u other t = ⊎_elim (λ q. absurd (other (eqb-true u k q))) (λ m. m) (or_cases (eqb u k) (mem whole u) (sym (with_k u) ∙ t))

-- one node more, of those below a number that are all whole
pub below_whole : {rows rows' : List NodeSet} {whole whole' : NodeSet} (k : ℕ) → Fills rows whole rows' whole' → mem whole' k ≡ true
    → ((u : ℕ) → u < k → mem whole u ≡ true) → (u : ℕ) → u < k + 1 → mem whole' u ≡ true
below_whole {whole' = whole'} k f here below u h =
    ⊎_elim
    (λ (e : u ≡ k). rw e here)
    (λ (l : u < k). f.grows u (below u l))
    (eq-or-lt_of_le (omega arith))

-- the way down

pub longer_none : (way : List ℕ) (depth : ℕ) (seen : NodeSet) → OnWay way depth seen → Longer way depth seen way depth seen
longer_none way depth seen on =
    record {
      long = refl;
      kept = λ i h. refl;
      on_way = on;
      no_shorter = omega arith;
      each_seen = refl;
    }

pub unseen : (row seen fresh : NodeSet) → Difference row seen fresh → (v : ℕ) → mem fresh v ≡ true → mem seen v ≡ false
unseen row seen fresh is v t = not-true (mem seen v) (and_both (mem row v) (not (mem seen v)) (sym (is v) ∙ t)).1

-- a node that was not seen is put behind the others

module _ (seen : NodeSet) (next : ℕ) (node : next < 128) (new : mem seen next ≡ false) where
  -- so there is room for it
  pub some_unseen : count 128 (mem seen) < 128
  some_unseen = omega (arith, count_grows 128 (mem seen) (λ v. true) next (λ v h t. refl) node new refl, count_le 128 (λ v. true))

  pub one_seen : (seen' : NodeSet) → Inserted seen next seen' → count 128 (mem seen') ≡ count 128 (mem seen) + 1
  one_seen seen' with_next =
      count_one_more 128 (mem seen) (mem seen') next node new (with_next next ∙ or_left (eqb next next) (mem seen next) (eq-eqb next next refl))
      (λ j other. sym (with_next j ∙ by_bool (eqb j next) (λ q. absurd (other (eqb-true j next q))) (λ q. rw q)))

  pub longer_more : (way₀ : List ℕ) (depth₀ : ℕ) (seen₀ : NodeSet) (way : List ℕ) (depth : ℕ) → Longer way₀ depth₀ seen₀ way depth seen → length way₀ ≡ 128
      → (seen' : NodeSet) → Inserted seen next seen' → Longer way₀ depth₀ seen₀ (set way depth next) (depth + 1) seen'
  longer_more way₀ depth₀ seen₀ way depth l long seen' with_next =
      record {
        long = length-set way depth next ∙ l.long;
        kept = λ i h.
            let other : i ≡ depth → ⊥ = λ e. omega (arith, l.no_shorter) in
            get_or-set_other way depth i next 0 other ∙ l.kept i h;
        on_way =
            record {
              nodes = λ i h.
                  ⊎_elim
                  (λ (e : i ≡ depth). rw (e, get_or-set_same way depth next 0 room) node)
                  (λ (b : i < depth).
                  let other : i ≡ depth → ⊥ = λ e. omega arith in
                  rw (get_or-set_other way depth i next 0 other) (l.on_way.nodes i b))
                  (eq-or-lt_of_le (omega arith));
              few = omega (arith, l.on_way.few, one_seen seen' with_next);
            };
        no_shorter = omega (arith, l.no_shorter);
        each_seen = omega (arith, l.each_seen, one_seen seen' with_next);
      }
    where
      room : depth < length way
      room = omega (arith, l.long, l.on_way.few, some_unseen)

-- where a filling from a node stands: its way, and whether the node's own row is whole by now
pub record Underway (node : ℕ) (way : List ℕ) (depth : ℕ) (seen filled : NodeSet) : Type 0 where
  pub on_way : OnWay way depth seen
  pub from : 0 < depth → get_or way 0 0 ≡ node
  pub through : depth ≡ 0 → mem filled node ≡ true

pub underway_start : (node : ℕ) (way : List ℕ) (whole seen : NodeSet) → node < 128 → 0 < length way → Inserted whole node seen → Underway node (set way 0 node) 1 seen whole
underway_start node way whole seen h long with_node =
    record {
      on_way =
          record {
            nodes = λ i b. let e : i ≡ 0 = omega arith in rw (e, get_or-set_same way 0 node 0 long) h;
            few = some_seen;
          };
      from = λ _. get_or-set_same way 0 node 0 long;
      through = λ e. absurd (omega arith);
    }
  where
    some_seen : 1 ≤ count 128 (mem seen)
    some_seen = omega (arith, count_without 128 (mem seen) node h (with_node node ∙ or_left (eqb node node) (mem whole node) (eq-eqb node node refl)))

-- the last node of the way is taken off it, and its row is filled
module _ (node : ℕ) (way : List ℕ) (depth : ℕ) (seen filled : NodeSet) (u : Underway node way depth seen filled) (some : 0 < depth)
    (way' : List ℕ) (depth' : ℕ) (seen' : NodeSet) (l : Longer way depth seen way' depth' seen') where
  pub last_node : get_or way' (depth' - 1) 0 < 128
  last_node = l.on_way.nodes (depth' - 1) (omega (arith, l.no_shorter))

  pub way_falls : 2 * (128 - count 128 (mem seen')) + (depth' - 1) < 2 * (128 - count 128 (mem seen)) + depth
  way_falls = omega (arith, l.each_seen, l.no_shorter, count_le 128 (mem seen), count_le 128 (mem seen'))

  pub underway_more : (filled' : NodeSet) → Inserted filled (get_or way' (depth' - 1) 0) filled' → Underway node way' (depth' - 1) seen' filled'
  underway_more filled' with_last =
      record {
        on_way = record { nodes = λ i h. l.on_way.nodes i (omega (arith, l.no_shorter)); few = omega (arith, l.on_way.few) };
        from = λ _. first;
        through = λ e. with_last node ∙ or_left (eqb node (get_or way' (depth' - 1) 0)) (mem filled node) (eq-eqb node (get_or way' (depth' - 1) 0) (rw e (sym first)));
      }
    where
      first : get_or way' 0 0 ≡ node
      first = l.kept 0 some ∙ u.from some
