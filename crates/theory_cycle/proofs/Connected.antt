-- Connected nodes: the closure of a relation with its edges taken either way, in no step or more. The last edge stands
-- outermost, so that a search from u is held to it by one law (`connected_carry`): a set of nodes that u is in, and that
-- no edge leads out of either way, holds whatever is connected with u.
use Prim.Native.Nat.{ℕ}
use Rattle.graph.specs.Graph.{Path, one, more}
use Rattle.theory_cycle.specs.Connected.{Connected, same, forth, back}

pub connected_trans : {E : ℕ → ℕ → Type 0} {u v w : ℕ} → Connected E u v → Connected E v w → Connected E u w
connected_trans c same = c
connected_trans c (forth d e) = forth (connected_trans c d) e
connected_trans c (back d e) = back (connected_trans c d) e

pub connected_sym : {E : ℕ → ℕ → Type 0} {u v : ℕ} → Connected E u v → Connected E v u
connected_sym same = same
connected_sym (forth c e) = connected_trans (back same e) (connected_sym c)
connected_sym (back c e) = connected_trans (forth same e) (connected_sym c)

pub path_connected : {E F : ℕ → ℕ → Type 0} → ((u v : ℕ) → E u v → F u v) → {u v : ℕ} → Path E u v → Connected F u v
path_connected f (one {u = u} {v = v} e) = forth same (f u v e)
path_connected f (more {v = v} {w = w} p e) = forth (path_connected f p) (f v w e)

pub connected_carry : {E : ℕ → ℕ → Type 0} (P : ℕ → Type 0) → ((v w : ℕ) → E v w → P v → P w) → ((v w : ℕ) → E w v → P v → P w)
    → {u v : ℕ} → Connected E u v → P u → P v
connected_carry P f g same p = p
connected_carry P f g (forth {v = v} {w = w} c e) p = f v w e (connected_carry P f g c p)
connected_carry P f g (back {v = v} {w = w} c e) p = g v w e (connected_carry P f g c p)
