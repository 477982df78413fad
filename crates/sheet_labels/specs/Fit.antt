-- What the tests of labels come to on the tables.
use Rattle.std.specs.Prelude.{ℕ, List, Bool, cond, not, eqb, get_or}
use Rattle.base_finite.specs.Below.{any, count}
use Rattle.base_nodeset.specs.Set.{mem}
use Rattle.base_nodeset.specs.declared.NodeSet.{NodeSet}
use Rattle.base_tables.specs.Rows.{in_row}
use Rattle.graph.specs.Constraint.{arity}
use Rattle.sheet_labels.specs.declared.table.Labels.{Labels}

-- how many nodes have v for their parent
unfoldable pub children_in : ℕ → List ℕ → ℕ → ℕ
children_in n parents v = count n (λ c. eqb (get_or parents c 0) v)

-- how many children v is to have
abbrev pub taken_in : Labels → ℕ → ℕ
taken_in labels v = cond (mem labels.labelled v) (arity (get_or labels.symbols v 0)) 0

abbrev pub unfit_in : Labels → ℕ → List ℕ → ℕ → Bool
unfit_in labels n parents v = not (eqb (children_in n parents v) (taken_in labels v))

abbrev pub hole_in : NodeSet → NodeSet → List NodeSet → ℕ → Bool
hole_in labelled bare heads v = cond (mem labelled v) (any 128 (in_row heads v)) (mem bare v)
