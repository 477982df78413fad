-- The nodes without tree edges, as a table of parents shows them.
use Rattle.std.specs.Prelude.{ℕ, ◌<◌, ◌≡◌, List, Bool, not, ◌&&◌}
use Rattle.base_nodeset.specs.Set.{mem}
use Rattle.base_nodeset.specs.declared.NodeSet.{NodeSet}
use Rattle.base_tables.specs.Trees.{inner_in, root_in}

-- v has neither a parent nor a child
unfoldable pub bare_in : ℕ → List ℕ → ℕ → Bool
bare_in n parents v = root_in n parents v && not (inner_in n parents v)

abbrev pub BareSet : ℕ → List ℕ → NodeSet → Type 0
BareSet n parents r = (v : ℕ) → v < 128 → mem r v ≡ bare_in n parents v
