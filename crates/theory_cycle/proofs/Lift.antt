-- From rings to cycles. A ring of fragments is cut at one of its edges, from l to r; the rest of it joins r and l by tree
-- edges and by dominance edges of which at most one starts at each leaf, and none at l. So a graph with a ring has a
-- simple hypernormal cycle.
use Prim.Native.Nat.{ℕ}
use mathlib.Core.Path.{◌≡◌, refl, sym, subst₂}
use mathlib.Core.List.Memᴰ
use mathlib.Core.List.{List}
use mathlib.Core.Bool.{true}
use mathlib.Core.Logic.{inl, inr, ⊎_elim}
use Rattle.graph.specs.Graph.{Edge, Graph, own, TreeEdge, DominanceEdge, Path}
use Rattle.graph.specs.Cycle.{hypernormal_cycle}
use Rattle.theory_forest.specs.Shape.{Shaped}
use Rattle.theory_forest.specs.Table.{Among}
use Rattle.theory_forest.proofs.Fragments.{own_above}
use Rattle.theory_ring.proofs.Ways.{Colour, out, into, ◌∈◌, Way, stop, step}
use Rattle.theory_ring.proofs.Cuts.{Extra}
use Rattle.theory_ring.proofs.Fragments.{Joined, FragmentRing}
use Rattle.theory_cycle.specs.Connected.{Connected, same, forth, back}
use Rattle.theory_cycle.proofs.Connected.{connected_trans, connected_sym, path_connected}
use Rattle.theory_cycle.proofs.Closing.{TreeOr, connected_cycle}
use Rattle.theory_cycle.proofs.Thin.{Elsewhere, Thin, after_hop, thinned}

-- a node is joined to its own root by tree edges
pub own_connected : (g : Graph) (D : ℕ → ℕ → Type 0) (v : ℕ) → Connected (TreeOr g D) (own g v) v
own_connected g D v =
    ⊎_elim
    (λ (i : own g v ≡ v). rw i same)
    (λ (p : Path (TreeEdge g) (own g v) v). path_connected (λ u w e. inl e) p)
    (own_above g v)

hop_connected : (g : Graph) (D : ℕ → ℕ → Type 0) {x : ℕ} {c : Colour} {y : ℕ} {z : Colour} → Joined (own g) D x c y z → Connected (TreeOr g D) x y
hop_connected g D {x} {c} {y} {z} h =
    let there : Connected (TreeOr g D) (own g h.0) h.1 = forth (own_connected g D h.0) (inr h.2) in
    ⊎_elim
    (λ (e : Extra (own g h.0) (out h.0) h.1 (into h.0) x c y z). rw (e.0, e.2) there)
    (λ (e : Extra h.1 (into h.0) (own g h.0) (out h.0) x c y z). rw (e.0, e.2) (connected_sym there))
    h.3

pub way_connected : (g : Graph) (D : ℕ → ℕ → Type 0) {x : ℕ} {c : Colour} {y : ℕ} {z : Colour} {l : List ℕ}
    → Way (Joined (own g) D) x c y z l → Connected (TreeOr g D) x y
way_connected g D stop = same
way_connected g D (step d h f w) = connected_trans (hop_connected g D h) (way_connected g D w)

-- A ring cut at an edge: the others, and how they join its ends
pub record Opened (g : Graph) (D : ℕ → ℕ → Type 0) : Type 0 where
  pub from : ℕ
  pub to : ℕ
  pub edge : D from to
  pub others : List Edge
  pub thin : Thin (Elsewhere D from) others
  pub connected : Connected (TreeOr g (Among others)) to from

-- the ends are two states, as those of a way are, and equal
opened_way : (g : Graph) (D : ℕ → ℕ → Type 0) {x y : ℕ} {c b : Colour} {l : List ℕ} → Way (Joined (own g) D) x c y b l → x ≡ y → c ≡ b → x ∈ l → Opened g D
opened_way g D stop p q m = absurd (Memᴰ.not-nil m)
opened_way g D {x} {y} {c} {b} (step {o = o} {n = n} {i = i} {l = l} d h f back_way) p q m =
    let w : Way (Joined (own g) D) n i x c l = subst₂ (λ (z : ℕ) (a : Colour). Way (Joined (own g) D) n i z a l) (sym p) (sym q) back_way in
    let k : ℕ = h.0 in
    let r : ℕ = h.1 in
    let t = thinned (own g) (Elsewhere D k) l (after_hop (own g) h f w f (λ e. d)) f in
    let E : ℕ → ℕ → Type 0 = TreeOr g (Among t.0) in
    let around : Connected E n x = way_connected g (Among t.0) t.2 in
    let back : Connected E r (own g k) = ⊎_elim
    (λ (e : Extra (own g k) (out k) r (into k) x o n i). subst₂ (Connected E) e.2 e.0 around)
    (λ (e : Extra r (into k) (own g k) (out k) x o n i). connected_sym (subst₂ (Connected E) e.2 e.0 around))
    h.3 in
    record { from = k; to = r; edge = h.2; others = t.0; thin = t.1; connected = connected_trans back (own_connected g (Among t.0) k) }

opened_ring : (g : Graph) (D : ℕ → ℕ → Type 0) {x : ℕ} {c : Colour} {l : List ℕ} → Way (Joined (own g) D) x c x c l → x ∈ l → Opened g D
opened_ring g D w m = opened_way g D w refl refl m

pub ring_opened : (g : Graph) (D : ℕ → ℕ → Type 0) → FragmentRing (own g) D → Opened g D
ring_opened g D c = opened_ring g D c.way c.some_passed

pub opened_cycle : (g : Graph) → Shaped g → Opened g (DominanceEdge g) → (bs : List ℕ) × (hypernormal_cycle g bs ≡ true)
opened_cycle g s o =
    connected_cycle g s (Among o.others) o.from o.to
    (record {
      inside = λ x y m. (o.thin.inside x y m).0;
      one_from = o.thin.one_from;
      edge = o.edge;
      none_from = λ y m. (o.thin.inside o.from y m).1 refl;
    })
    o.connected

pub ring_cycle : (g : Graph) → Shaped g → FragmentRing (own g) (DominanceEdge g) → (bs : List ℕ) × (hypernormal_cycle g bs ≡ true)
ring_cycle g s c = opened_cycle g s (ring_opened g (DominanceEdge g) c)
