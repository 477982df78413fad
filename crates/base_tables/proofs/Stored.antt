-- A set stored in a table of sets.
use Prim.Native.Nat.{ℕ, ◌<◌}
use mathlib.Core.Path.{◌≡◌}
use mathlib.Core.List.{List}
use mathlib.Core.Bool.{true, false}
use lib.Dec.{eqb}
use lib.ListN.{length, set, length-set}
use lib.Seq.{get_or-set_same, get_or-set_other}
use borrow.Author.Tests.{eqb-true, eqb-false}
use Rattle.base_finite.proofs.Laws.{by_bool}
use Rattle.base_nodeset.specs.declared.NodeSet.{NodeSet}
use Rattle.base_tables.specs.Rows.{nothing, RowPut}

pub row_put : (i : ℕ) (s : NodeSet) (rows : List NodeSet) → i < length rows → RowPut i s rows (set rows i s)
row_put i s rows h =
    record {
      long = length-set rows i s;
      row_is = λ u v.
          by_bool (eqb u i)
          (λ (e : eqb u i ≡ true). rw (e, eqb-true u i e, get_or-set_same rows i s nothing h))
          (λ (e : eqb u i ≡ false). rw (e, get_or-set_other rows i u s nothing (eqb-false u i e)));
    }
