-- Joined by edges taken either way.
use Rattle.std.specs.Prelude.{ℕ}

pub data Connected (E : ℕ → ℕ → Type 0) : ℕ → ℕ → Type 0 where
  same : {u : ℕ} → Connected E u u
  forth : {u v w : ℕ} → Connected E u v → E v w → Connected E u w
  back : {u v w : ℕ} → Connected E u v → E w v → Connected E u w
