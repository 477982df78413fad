-- The loop that climbs: one edge up, towards the top root.
use Prim.Native.Nat.{ℕ, zero, suc, ◌+◌, ◌-◌, ◌≤◌, ◌<◌}
use mathlib.Core.Path.{◌≡◌}
use mathlib.Core.List.{List}
use native.Mathlib.Omega.{arith}
use borrow.Author.Tests.{eq-eqb, ne_eqb}
use Rattle.graph.specs.Graph.{Graph, none}
use Rattle.graph.specs.Rule1.{up, rise, depth}

pub depth_start : (g : Graph) (p : List ℕ) (n v : ℕ) → n ≡ g.nodes → 0 + rise (n - 0) g p v ≡ depth g p v
unfolding depth
depth_start g p n v e =
    let all : n - 0 ≡ g.nodes = omega arith in
    rw all (omega arith)

module _ (g : Graph) (p : List ℕ) where
  pub rise_ends : (d k v : ℕ) → up g p v ≡ none → d ≡ d + rise k g p v
  unfolding rise
  rise_ends d zero v e = omega arith
  rise_ends d (suc k) v e = rw (eq-eqb (up g p v) none e) (omega arith)

  pub rise_goes_on : (d n v : ℕ) → d < n → (up g p v ≡ none → ⊥) → (d + 1) + rise (n - (d + 1)) g p (up g p v) ≡ d + rise (n - d) g p v
  unfolding rise
  rise_goes_on d n v h e =
      let more : n - d ≡ suc (n - (d + 1)) = omega arith in
      rw (more, ne_eqb (up g p v) none e) (omega arith)

  pub rise_stops : (d n v : ℕ) → n ≤ d → d ≡ d + rise (n - d) g p v
  unfolding rise
  rise_stops d n v h =
      let none_left : n - d ≡ zero = omega arith in
      rw none_left (omega arith)
