-- The stack of states: its slots, one level more, the way back, and that a level tells of the decisions before it alone.
use Prim.Native.Nat.{ℕ, ◌+◌, ◌*◌, ◌-◌, ◌%◌, ◌≤◌, ◌<◌}
use mathlib.Core.Path.{◌≡◌, refl, sym, ap, subst, ◌∙◌}
use mathlib.Core.List.{List, ◌++◌}
use mathlib.Core.Bool.{true, false}
use mathlib.Core.Logic.{◌⊎◌, inl, inr, ⊎_elim}
use native.Mathlib.Nat.{mul-le-mul_left}
use native.Mathlib.Omega.{arith}
use lib.Dec.{eqb, ltb}
use lib.ListN.{length, get_or, take, drop, length-drop, take-append-drop}
use lib.Seq.{get_or-take, get_or-drop, ext_get_or, length-take-le, take-append-le, drop-append-le, drop-drop, take_at, drop_at}
use borrow.Author.Tests.{eqb-true, eqb-false, ltb-true, ltb-false}
use borrow.Rule.Slice.PartMut.{mid_of, post_of, put_mid, same_len_mid, drop_put}
use Rattle.base_finite.proofs.Laws.{by_bool}
use Rattle.base_nodeset.specs.declared.NodeSet.{NodeSet}
use Rattle.std.specs.List.{CopiedTo, SameBelow, SameFrom}
use Rattle.graph.specs.Graph.{Graph, own}
use Rattle.base_tables.specs.Rows.{nothing}
use Rattle.theory_walk.specs.Walk.{Decision, graph_at}
use Rattle.theory_walk.proofs.Decisions.{graph_own}
use Rattle.solve_below.specs.Below.{Fragments}
use Rattle.solve_reduce.specs.Reduced.{wide}
use Rattle.solve_below.proofs.Roots.{fragments_same}
use Rattle.solve_levels.specs.Decisions.{Trail, upper_at, lower_at, decisions, opens, reached, Kept}
use Rattle.solve_levels.specs.Levels.{Reduction, Stack, state, Matches, Ready}
use Rattle.solve_levels.specs.declared.Level.{Level}
use Rattle.solve_levels.proofs.Tables.{kept_upper, kept_lower, decisions_same, reached_none, opens_none, opens_first, opens_second, opens_within, opens_before, opens_same}

-- the law of products: a slot ends where the next one begins, or before
pub slot_ends : (w i j : ℕ) → i < j → w * i + w ≤ w * j
slot_ends w i j h = let next : i + 1 ≤ j = omega arith in omega (arith, mul-le-mul_left w next)

-- how wide a slot is at most
pub wide_most : (n : ℕ) → n ≤ 128 → wide n ≤ 129
wide_most n h = omega arith

-- the sets from `to` on are those from `from` on, and the others are as before
pub record Copied (from to k : ℕ) (old new : List NodeSet) : Type 0 where
  pub there : (i : ℕ) → i < k → get_or new (to + i) nothing ≡ get_or old (from + i) nothing
  pub elsewhere : (j : ℕ) → (j < to) ⊎ (to + k ≤ j) → get_or new j nothing ≡ get_or old j nothing

-- slots of w sets

all_of_it : (a w : ℕ) → a + w - a ≡ w
all_of_it a w = omega arith

abbrev part : ℕ → ℕ → List NodeSet → List NodeSet
part w i states = take w (drop (w * i) states)

module _ (w : ℕ) where
  module _ (states : List NodeSet) (long : w * 34 ≤ length states) (i : ℕ) (some : i ≤ 33) where
    part_long : length (part w i states) ≡ w
    part_long = length-take-le w (drop (w * i) states) (omega (arith, long, length-drop (w * i) states, slot_ends w i 34 (omega arith)))

    part_set : (k : ℕ) → k < w → get_or (part w i states) k nothing ≡ get_or states (w * i + k) nothing
    part_set k h = get_or-take w (drop (w * i) states) k nothing h ∙ get_or-drop (w * i) states k nothing

  -- the same sets at another slot, or in other states
  same_part : (i j : ℕ) → i ≤ 33 → j ≤ 33 → (states states' : List NodeSet) → w * 34 ≤ length states → w * 34 ≤ length states'
      → ((k : ℕ) → k < w → get_or states' (w * j + k) nothing ≡ get_or states (w * i + k) nothing) → part w j states' ≡ part w i states
  same_part i j hi hj states states' long long' words =
      let full = part_long states' long' j hj in
      ext_get_or nothing (part w j states') (part w i states) (full ∙ sym (part_long states long i hi)) (λ k h.
      let less : k < w = omega (arith, full) in
      part_set states' long' j hj k less ∙ words k less ∙ sym (part_set states long i hi k less))

  -- a slot copied, and those that stay
  module _ (from to : ℕ) {states states' : List NodeSet} (hf : from ≤ 33) (ht : to ≤ 33) (long : w * 34 ≤ length states) (as_long : length states' ≡ length states) (c : Copied (w * from) (w * to) w states states') where
    copied_there : part w to states' ≡ part w from states
    copied_there = same_part from to hf ht states states' long (omega (arith, as_long)) (λ k l. c.there k l)

    copied_other : (i : ℕ) → i ≤ 33 → (i ≡ to → ⊥) → part w i states' ≡ part w i states
    copied_other i hi other =
        same_part i i hi hi states states' long (omega (arith, as_long)) (λ k l.
        c.elsewhere (w * i + k)
        (by_bool (ltb i to)
        (λ (t : ltb i to ≡ true). inl (omega (arith, slot_ends w i to (ltb-true i to t))))
        (λ (t : ltb i to ≡ false). inr (omega (arith, slot_ends w to i (later (ltb-false i to t)))))))
      where
        later : to ≤ i → to < i
        later h =
            by_bool (eqb i to)
            (λ (t : eqb i to ≡ true). absurd (other (eqb-true i to t)))
            (λ (t : eqb i to ≡ false). let d : i ≡ to → ⊥ = eqb-false i to t in omega arith)

  -- a slot lent and put back
  module _ (j : ℕ) (states new : List NodeSet) (long : w * 34 ≤ length states) (some : j ≤ 33) (full : length new ≡ w) where
    abbrev put : List NodeSet
    put = put_mid (w * j) w states new

    ends : w * j + w ≤ w * 34
    ends = slot_ends w j 34 (omega arith)

    front : length (take (w * j) states) ≡ w * j
    front = length-take-le (w * j) states (omega (arith, long, ends))

    put_length : length put ≡ length states
    put_length = same_len_mid (w * j) w states new (full ∙ sym (part_long states long j some))

    put_there : part w j put ≡ new
    put_there =
        let rest : List NodeSet = post_of (w * j) w states in
        ap (λ (l : List NodeSet). take w l) (drop_at (take (w * j) states) (new ++ rest) (w * j) front)
        ∙ take_at new rest w full

    part_front : (rest : List NodeSet) (i : ℕ) → i < j → part w i (take (w * j) states ++ rest) ≡ part w i (take (w * j) states)
    part_front rest i h =
        let before = slot_ends w i j h in
        ap (λ (l : List NodeSet). take w l) (drop-append-le (w * i) (take (w * j) states) rest (omega (arith, front, before)))
        ∙ take-append-le w (drop (w * i) (take (w * j) states)) rest (omega (arith, front, before, length-drop (w * i) (take (w * j) states)))

    put_before : (i : ℕ) → i < j → part w i put ≡ part w i states
    put_before i h =
        part_front (new ++ post_of (w * j) w states) i h
        ∙ sym (part_front (drop (w * j) states) i h)
        ∙ ap (part w i) (take-append-drop (w * j) states)

    rest_same : drop (w * j + w) put ≡ drop (w * j + w) states
    rest_same =
        subst (λ (k : ℕ). drop (w * j + w) (put_mid (w * j) k states new) ≡ drop (w * j + w) states) (all_of_it (w * j) w)
        (drop_put (w * j) (w * j + w) states new (omega arith) (omega (arith, long, ends)) (full ∙ sym (all_of_it (w * j) w)))

    put_after : (i : ℕ) → j < i → part w i put ≡ part w i states
    put_after i h =
        let end : ℕ = w * j + w in
        let at : end + (w * i - end) ≡ w * i = omega (arith, slot_ends w j i h) in
        ap (λ (l : List NodeSet). take w l)
        (ap (λ (k : ℕ). drop k put) (sym at)
        ∙ sym (drop-drop (w * i - end) end put)
        ∙ ap (λ (l : List NodeSet). drop (w * i - end) l) rest_same
        ∙ drop-drop (w * i - end) end states
        ∙ ap (λ (k : ℕ). drop k states) at)

    put_other : (i : ℕ) → (i ≡ j → ⊥) → part w i put ≡ part w i states
    put_other i other =
        by_bool (ltb i j)
        (λ (t : ltb i j ≡ true). put_before i (ltb-true i j t))
        (λ (t : ltb i j ≡ false).
        by_bool (ltb j i)
        (λ (u : ltb j i ≡ true). put_after i (ltb-true j i u))
        (λ (u : ltb j i ≡ false). absurd (other (omega (arith, ltb-false i j t, ltb-false j i u)))))

-- a slot as the code lends it, and as it comes back

pub lent_state : (n w from i : ℕ) (states : List NodeSet) → w ≡ wide n → from ≡ wide n * i → mid_of from (from + w - from) states ≡ state n i states
lent_state n w from i states is at =
    ap (λ (k : ℕ). mid_of from k states) (all_of_it from w ∙ is) ∙ ap (λ (k : ℕ). mid_of k (wide n) states) at

put_back : (n w from i : ℕ) (states new : List NodeSet) → w ≡ wide n → from ≡ wide n * i → put_mid from (from + w - from) states new ≡ put_mid (wide n * i) (wide n) states new
put_back n w from i states new is at =
    ap (λ (k : ℕ). put_mid from k states new) (all_of_it from w ∙ is) ∙ ap (λ (k : ℕ). put_mid k (wide n) states new) at

-- a part copied, as the library says it
pub copied_part : (from end to w : ℕ) {old new : List NodeSet} → end ≡ from + w → CopiedTo old new from to (end - from) → SameBelow old new to → SameFrom old new (to + (end - from)) → Copied from to w old new
copied_part from end to w {old} is there below after =
    record {
      there = λ i h. let same : from + (to + i - to) ≡ from + i = omega arith in there (to + i) nothing (omega arith) (omega (arith, is)) ∙ ap (λ (k : ℕ). get_or old k nothing) same;
      elsewhere = λ j l. ⊎_elim (λ (b : j < to). below j nothing b) (λ (b : to + w ≤ j). after j nothing (omega (arith, is))) l;
    }

-- levels that are near have slots of their own
pub apart : (i d : ℕ) → i < d → d < i + 32 → i % 32 ≡ d % 32 → ⊥
apart i d h l e = omega arith

pub slot_some : (i : ℕ) → i % 32 ≤ 33
slot_some i = omega arith

-- what the code has of a walk of a graph with n nodes

pub stack_here : {g : Graph} {trail : Trail} {states : List NodeSet} {at : Level} (n : ℕ) → n ≡ g.nodes → Matches g trail states at → Stack n states
stack_here {states = states} n same m = subst (λ (x : ℕ). Stack x states) (sym same) m.long

pub fragments_here : {g : Graph} {trail : Trail} {states : List NodeSet} {at : Level} (n : ℕ) → n ≡ g.nodes → (k : ℕ) → Matches g trail states at → Fragments n (own (reached g trail k)) (state n 33 states)
fragments_here {g} {trail} {states} n same k m =
    fragments_same n (own g) (own (reached g trail k)) (state n 33 states) (λ v h. graph_own g (decisions trail k) v)
    (subst (λ (x : ℕ). Fragments x (own g) (state x 33 states)) (sym same) m.fragments)

pub open_within : {g : Graph} {trail : Trail} {states : List NodeSet} {at : Level} → Matches g trail states at → at.opened ≤ at.depth
open_within {trail = trail} {at = at} m = omega (arith, m.open_is, opens_within trail at.depth)

pub level_here : {g : Graph} {trail : Trail} {states : List NodeSet} {at : Level} (n : ℕ) → n ≡ g.nodes → Matches g trail states at → at.kept ≤ at.opened → Reduction (reached g trail at.depth) (state n (at.opened % 32) states)
level_here {g} {trail} {states} {at} n same m here =
    subst (λ (x : ℕ). Reduction (reached g trail at.depth) (state x (at.opened % 32) states)) (sym same)
    (subst (λ (o : ℕ). Reduction (reached g trail at.depth) (state g.nodes (o % 32) states)) (sym m.open_is) (m.level at.depth (omega arith) (inl refl) (omega (arith, m.open_is))))

-- ready for one level more, where the walk turns here no more
pub ready_same : {g : Graph} {trail : Trail} {states : List NodeSet} {at : Level} (next : Level) → Matches g trail states at → at.kept ≤ at.opened → lower_at trail at.depth ≤ upper_at trail at.depth
    → next.depth ≡ at.depth + 1 → next.opened ≡ at.opened → next.kept ≡ at.kept → Ready g trail states at next
ready_same {g} {trail} {states} {at} next m here second deeper same kept =
    record {
      long = m.long;
      outset = m.outset;
      fragments = m.fragments;
      open_is = same ∙ m.open_is ∙ sym (opens_second trail at.depth second) ∙ ap (opens trail) (sym deeper);
      near = omega (arith, m.near);
      here = subst (λ (o : ℕ). Reduction (reached g trail at.depth) (state g.nodes (o % 32) states)) (sym same) (level_here g.nodes refl m here);
      level = λ i h less low. m.level i h (inr less) (omega arith);
    }

-- or where it may
module _ {g : Graph} {trail : Trail} {states copy : List NodeSet} {at : Level} (m : Matches g trail states at) (here : at.kept ≤ at.opened) (as_long : length copy ≡ length states)
    (c : Copied (wide g.nodes * (at.opened % 32)) (wide g.nodes * ((at.opened + 1) % 32)) (wide g.nodes) states copy) where
  abbrev w : ℕ
  w = wide g.nodes

  abbrev j : ℕ
  j = (at.opened + 1) % 32

  stays : (i : ℕ) → i ≤ 33 → (i ≡ j → ⊥) → state g.nodes i copy ≡ state g.nodes i states
  stays i hi other = copied_other w (at.opened % 32) j (slot_some at.opened) (slot_some (at.opened + 1)) m.long as_long c i hi other

  copied_level : Reduction (reached g trail at.depth) (state g.nodes j copy)
  copied_level =
      subst (λ (s : List NodeSet). Reduction (reached g trail at.depth) s)
      (sym (copied_there w (at.opened % 32) j (slot_some at.opened) (slot_some (at.opened + 1)) m.long as_long c)) (level_here g.nodes refl m here)

  ready_deeper : (next : Level) → upper_at trail at.depth < lower_at trail at.depth → next.depth ≡ at.depth + 1 → next.opened ≡ at.opened + 1 → at.kept ≤ next.kept → at.opened + 1 < next.kept + 32 → Ready g trail copy at next
  ready_deeper next first deeper one kept near =
      let many : opens trail (at.depth + 1) ≡ at.opened + 1 = omega (arith, opens_first trail at.depth first, m.open_is) in
      record {
        long = omega (arith, m.long, as_long);
        outset = subst (λ (s : List NodeSet). Reduction g s) (sym (stays 32 (omega arith) (λ e. omega arith))) m.outset;
        fragments = subst (λ (s : List NodeSet). Fragments g.nodes (own g) s) (sym (stays 33 (omega arith) (λ e. omega arith))) m.fragments;
        open_is = one ∙ sym many ∙ ap (opens trail) (sym deeper);
        near = omega arith;
        here = subst (λ (o : ℕ). Reduction (reached g trail at.depth) (state g.nodes (o % 32) copy)) (sym one) copied_level;
        level = λ i h less low.
            let before : opens trail i < at.opened + 1 = omega (arith, opens_before trail i (at.depth + 1) (omega arith) less, many) in
            subst (λ (s : List NodeSet). Reduction (reached g trail i) s) (sym (stays (opens trail i % 32) (slot_some (opens trail i)) (apart (opens trail i) (at.opened + 1) before (omega arith)))) (m.level i h (inr less) (omega arith));
      }

-- the same, as the code copies
pub ready_copied : {g : Graph} {trail : Trail} {states copy : List NodeSet} {at : Level} (n : ℕ) → n ≡ g.nodes → Matches g trail states at → at.kept ≤ at.opened → length copy ≡ length states
    → (w from to : ℕ) → w ≡ wide n → from ≡ wide n * (at.opened % 32) → to ≡ wide n * ((at.opened + 1) % 32) → Copied from to w states copy
    → (next : Level) → upper_at trail at.depth < lower_at trail at.depth → next.depth ≡ at.depth + 1 → next.opened ≡ at.opened + 1 → at.kept ≤ next.kept → at.opened + 1 < next.kept + 32
    → Ready g trail copy at next
ready_copied {g} {trail} {states} {copy} {at} n same m here as_long w from to is ef et c next first deeper one kept near =
    let N : ℕ = g.nodes in
    let j : ℕ = (at.opened + 1) % 32 in
    let is' : w ≡ wide N = is ∙ ap wide same in
    let ef' : from ≡ wide N * (at.opened % 32) = ef ∙ ap (λ (k : ℕ). wide k * (at.opened % 32)) same in
    let et' : to ≡ wide N * j = et ∙ ap (λ (k : ℕ). wide k * j) same in
    let c' : Copied (wide N * (at.opened % 32)) (wide N * j) (wide N) states copy = rw (is', ef', et') at c in
    ready_deeper m here as_long c' next first deeper one kept near

-- one level more
module _ {g : Graph} {trail : Trail} {states : List NodeSet} {at next : Level} (m : Ready g trail states at next) (deeper : next.depth ≡ at.depth + 1) where
  matches_deeper : (new : List NodeSet) → length new ≡ wide g.nodes → Reduction (reached g trail (at.depth + 1)) new
      → Matches g trail (put_mid (wide g.nodes * (next.opened % 32)) (wide g.nodes) states new) next
  matches_deeper new full r =
      let w : ℕ = wide g.nodes in
      let j : ℕ = next.opened % 32 in
      let others : (i : ℕ) → (i ≡ j → ⊥) → state g.nodes i (put_mid (w * j) w states new) ≡ state g.nodes i states = λ i other.
      put_other w j states new m.long (slot_some next.opened) full i other in
      record {
        long = omega (arith, m.long, put_length w j states new m.long (slot_some next.opened) full);
        outset = subst (λ (s : List NodeSet). Reduction g s) (sym (others 32 (λ e. omega arith))) m.outset;
        fragments = subst (λ (s : List NodeSet). Fragments g.nodes (own g) s) (sym (others 33 (λ e. omega arith))) m.fragments;
        open_is = m.open_is;
        near = m.near;
        level = λ i h kind low.
            by_bool (ltb i next.depth)
            (λ (t : ltb i next.depth ≡ true).
            let less : i < next.depth = ltb-true i next.depth t in
            let first : upper_at trail i < lower_at trail i = ⊎_elim (λ (e : i ≡ next.depth). absurd (omega arith)) (λ (x : upper_at trail i < lower_at trail i). x) kind in
            let before : opens trail i < next.opened = omega (arith, opens_before trail i next.depth less first, m.open_is) in
            subst (λ (s : List NodeSet). Reduction (reached g trail i) s) (sym (others (opens trail i % 32) (apart (opens trail i) next.opened before (omega (arith, m.near))))) (m.level i (omega arith) first low))
            (λ (t : ltb i next.depth ≡ false).
            let is : at.depth + 1 ≡ i = omega (arith, ltb-false i next.depth t) in
            let same : next.opened ≡ opens trail i = m.open_is ∙ ap (opens trail) (deeper ∙ is) in
            subst (λ (o : ℕ). Reduction (reached g trail i) (state g.nodes (o % 32) (put_mid (w * j) w states new))) same
            (subst (λ (k : ℕ). Reduction (reached g trail k) (state g.nodes j (put_mid (w * j) w states new))) is
            (subst (λ (s : List NodeSet). Reduction (reached g trail (at.depth + 1)) s) (sym (put_there w j states new m.long (slot_some next.opened) full)) r)));
      }

-- the same, as the code puts it: a state lent, changed and put back
pub one_deeper : {g : Graph} {trail : Trail} {states : List NodeSet} {at next : Level} (n : ℕ) → n ≡ g.nodes → Ready g trail states at next → next.depth ≡ at.depth + 1
    → (w to : ℕ) → w ≡ wide n → to ≡ wide n * (next.opened % 32) → (new : List NodeSet) → length new ≡ length (mid_of to (to + w - to) states)
    → (Reduction (reached g trail at.depth) (mid_of to (to + w - to) states) → Reduction (reached g trail (at.depth + 1)) new)
    → Matches g trail (put_mid to (to + w - to) states new) next
one_deeper {g} {trail} {states} {at} {next} n same m deeper w to is et new as_lent step =
    let N : ℕ = g.nodes in
    let j : ℕ = next.opened % 32 in
    let is' : w ≡ wide N = is ∙ ap wide same in
    let et' : to ≡ wide N * j = et ∙ ap (λ (k : ℕ). wide k * j) same in
    let lent : mid_of to (to + w - to) states ≡ state N j states = lent_state N w to j states is' et' in
    let full : length new ≡ wide N = as_lent ∙ ap length lent ∙ part_long (wide N) states m.long j (slot_some next.opened) in
    let r = step (subst (λ (s : List NodeSet). Reduction (reached g trail at.depth) s) (sym lent) m.here) in
    subst (λ (l : List NodeSet). Matches g trail l next) (sym (put_back N w to j states new is' et')) (matches_deeper m deeper new full r)

-- at the outset
pub matches_outset : {g : Graph} {trail : Trail} {states copy : List NodeSet} (n : ℕ) → n ≡ g.nodes → Stack n states → Reduction g (state g.nodes 32 states) → Fragments g.nodes (own g) (state g.nodes 33 states) → length copy ≡ length states
    → (w from : ℕ) → w ≡ wide n → from ≡ wide n * 32 → Copied from 0 w states copy → (next : Level) → next.depth ≡ 0 → next.opened ≡ 0 → next.kept ≡ 0 → Matches g trail copy next
matches_outset {g} {trail} {states} {copy} n same long r of as_long w from is ef c next d o k =
    let N : ℕ = g.nodes in
    let is' : w ≡ wide N = is ∙ ap wide same in
    let ef' : from ≡ wide N * 32 = ef ∙ ap (λ (x : ℕ). wide x * 32) same in
    let zero_slot : 0 ≡ wide N * 0 = omega arith in
    let c' : Copied (wide N * 32) (wide N * 0) (wide N) states copy = subst (λ (x : ℕ). Copied (wide N * 32) x (wide N) states copy) zero_slot (rw (is', ef') at c) in
    let long' : Stack N states = subst (λ (x : ℕ). Stack x states) same long in
    record {
      long = omega (arith, long', as_long);
      outset = subst (λ (s : List NodeSet). Reduction g s) (sym (copied_other (wide N) 32 0 (omega arith) (omega arith) long' as_long c' 32 (omega arith) (λ (e : ◌≡◌ {A = ℕ} 32 0). omega arith))) r;
      fragments = subst (λ (s : List NodeSet). Fragments N (own g) s) (sym (copied_other (wide N) 32 0 (omega arith) (omega arith) long' as_long c' 33 (omega arith) (λ (e : ◌≡◌ {A = ℕ} 33 0). omega arith))) of;
      open_is = o ∙ sym (opens_none trail) ∙ ap (opens trail) (sym d);
      near = omega arith;
      level = λ i a kind low.
          let none : 0 ≡ i = omega arith in
          subst (λ (x : ℕ). Reduction (reached g trail x) (state N (opens trail x % 32) copy)) none
          (subst (λ (x : ℕ). Reduction (reached g trail 0) (state N (x % 32) copy)) (sym (opens_none trail))
          (subst (λ (h : Graph). Reduction h (state N 0 copy)) (sym (reached_none g trail))
          (subst (λ (s : List NodeSet). Reduction g s) (sym (copied_there (wide N) 32 0 (omega arith) (omega arith) long' as_long c')) r)));
    }

-- both made there, one after the other, and the state copied
pub outset_made : {g : Graph} {trail : Trail} {new copy : List NodeSet} (states table : List NodeSet) (n : ℕ) → n ≡ g.nodes → Stack n states → (w from last : ℕ) → w ≡ wide n → from ≡ wide n * 32 → last ≡ wide n * 33
    → length table ≡ length (mid_of last (last + w - last) states) → length new ≡ length (mid_of from (from + w - from) (put_mid last (last + w - last) states table))
    → Copied from 0 w (put_mid from (from + w - from) (put_mid last (last + w - last) states table) new) copy
    → length copy ≡ length (put_mid from (from + w - from) (put_mid last (last + w - last) states table) new) → Fragments n (own g) table → Reduction g new
    → (next : Level) → next.depth ≡ 0 → next.opened ≡ 0 → next.kept ≡ 0 → Matches g trail copy next
outset_made {g} {trail} {new} {copy} states table n same long w from last is ef el table_lent new_lent c as_long of r next d o k =
    let N : ℕ = g.nodes in
    let W : ℕ = wide N in
    let is' : w ≡ W = is ∙ ap wide same in
    let ef' : from ≡ W * 32 = ef ∙ ap (λ (x : ℕ). wide x * 32) same in
    let el' : last ≡ W * 33 = el ∙ ap (λ (x : ℕ). wide x * 33) same in
    let long' : Stack N states = subst (λ (x : ℕ). Stack x states) same long in
    let first : List NodeSet = put_mid (W * 33) W states table in
    let made : List NodeSet = put_mid (W * 32) W first new in
    let at_first : put_mid last (last + w - last) states table ≡ first = put_back N w last 33 states table is' el' in
    let at : put_mid from (from + w - from) (put_mid last (last + w - last) states table) new ≡ made =
    ap (λ (l : List NodeSet). put_mid from (from + w - from) l new) at_first ∙ put_back N w from 32 first new is' ef' in
    let table_full : length table ≡ W = table_lent ∙ ap length (lent_state N w last 33 states is' el') ∙ part_long W states long' 33 (omega arith) in
    let first_long : Stack N first = omega (arith, long', put_length W 33 states table long' (omega arith) table_full) in
    let new_full : length new ≡ W =
    new_lent ∙ ap (λ (l : List NodeSet). length (mid_of from (from + w - from) l)) at_first ∙ ap length (lent_state N w from 32 first is' ef') ∙ part_long W first first_long 32 (omega arith) in
    let made_long : Stack N made = omega (arith, first_long, put_length W 32 first new first_long (omega arith) new_full) in
    let there : state N 33 made ≡ table =
    put_other W 32 first new first_long (omega arith) new_full 33 (λ (e : ◌≡◌ {A = ℕ} 33 32). omega arith) ∙ put_there W 33 states table long' (omega arith) table_full in
    matches_outset {g = g} {trail = trail} {states = made} {copy = copy} N refl made_long
    (subst (λ (s : List NodeSet). Reduction g s) (sym (put_there W 32 first new first_long (omega arith) new_full)) r)
    (subst (λ (s : List NodeSet). Fragments N (own g) s) (sym there) (subst (λ (x : ℕ). Fragments x (own g) table) same of))
    (as_long ∙ ap length at) w from is' ef' (subst (λ (l : List NodeSet). Copied from 0 w l copy) at c) next d o k

-- other decisions from here on
pub matches_kept : {g : Graph} {trail trail' : Trail} {states : List NodeSet} {at : Level} → Kept at.depth trail trail' → Matches g trail states at → Matches g trail' states at
matches_kept {g} {trail} {trail'} {states} {at} kept m =
    record {
      long = m.long;
      outset = m.outset;
      fragments = m.fragments;
      open_is = m.open_is ∙ same at.depth (omega arith);
      near = m.near;
      level = λ i h kind low.
          let many : opens trail i ≡ opens trail' i = same i h in
          let kind' : (i ≡ at.depth) ⊎ (upper_at trail i < lower_at trail i) = as_before i h kind in
          subst (λ (o : ℕ). Reduction (reached g trail' i) (state g.nodes (o % 32) states)) many
          (subst (λ (ds : List Decision). Reduction (graph_at g ds) (state g.nodes (opens trail i % 32) states))
          (decisions_same trail trail' i (λ k l. sym (kept.same k (omega arith))))
          (m.level i h kind' (omega arith)));
    }
  where
    same : (i : ℕ) → i ≤ at.depth → opens trail i ≡ opens trail' i
    same i h = opens_same trail trail' i (λ k l. sym (kept.same k (omega arith)))

    as_before : (i : ℕ) → i ≤ at.depth → (i ≡ at.depth) ⊎ (upper_at trail' i < lower_at trail' i) → (i ≡ at.depth) ⊎ (upper_at trail i < lower_at trail i)
    as_before i h kind =
        by_bool (ltb i at.depth)
        (λ (t : ltb i at.depth ≡ true).
        let less : i < at.depth = ltb-true i at.depth t in
        ⊎_elim (λ (e : i ≡ at.depth). inl e) (λ (x : upper_at trail' i < lower_at trail' i). inr (omega (arith, x, kept_upper kept i less, kept_lower kept i less))) kind)
        (λ (t : ltb i at.depth ≡ false). inl (omega (arith, ltb-false i at.depth t)))

-- back to the last level where a choice is open
pub matches_back : {g : Graph} {trail : Trail} {states : List NodeSet} {at : Level} (next : Level) → Matches g trail states at → next.depth ≤ at.depth → upper_at trail next.depth < lower_at trail next.depth
    → opens trail (next.depth + 1) ≡ at.opened → next.opened + 1 ≡ at.opened → next.kept ≡ at.kept → Matches g trail states next
matches_back {g} {trail} {states} {at} next m h first is one kept =
    record {
      long = m.long;
      outset = m.outset;
      fragments = m.fragments;
      open_is = omega (arith, opens_first trail next.depth first);
      near = omega (arith, m.near);
      level = λ i l kind low.
          m.level i (omega arith)
          (inr (⊎_elim (λ (e : i ≡ next.depth). subst (λ (k : ℕ). upper_at trail k < lower_at trail k) (sym e) first) (λ (x : upper_at trail i < lower_at trail i). x) kind))
          (omega arith);
    }
