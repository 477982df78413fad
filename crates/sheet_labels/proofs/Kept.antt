-- A table that keeps what is said of labels: before the first, and with one more.
use Prim.Native.Nat.{ℕ, ◌<◌}
use mathlib.Core.Path.{◌≡◌, refl, sym, ◌∙◌}
use mathlib.Core.Bool.{Bool, true, false, ◌||◌}
use native.Mathlib.Omega.{arith}
use lib.Dec.{eqb}
use lib.ListN.{set, replicate, length-replicate, length-set}
use lib.Seq.{get_or-set_same, get_or-set_other}
use borrow.Author.Tests.{eqb-true, eqb-false}
use Rattle.base_finite.proofs.Laws.{by_bool, eqb_sym}
use Rattle.base_finite.proofs.Stores.{zeros}
use Rattle.base_nodeset.specs.Set.{mem, Empty, Inserted}
use Rattle.base_nodeset.specs.declared.NodeSet.{NodeSet}
use Rattle.graph.specs.Graph.{left}
use Rattle.format.specs.declared.Form.{Form}
use Rattle.format.specs.Sheet as spec
use Rattle.sheet_labels.specs.Keep.{Keeps}
use Rattle.sheet_labels.specs.declared.table.Labels.{Labels}

pub keeps_none : (k : ℕ) → k ≡ 128 → (s : NodeSet) → Empty s → (f : Form) → Keeps (spec.unlabelled f) (record { symbols = replicate k 0; labelled = s; twice = false; differ = false })
unfolding spec.symbol spec.twice left
keeps_none k long s empty f =
    record {
      long = length-replicate k 0 ∙ long;
      symbol_is = λ v h. zeros k v;
      labelled_are = empty;
      twice_is = refl;
      differ_is = refl;
    }

module _ (m : spec.Labels) (r : Labels) (keeps : Keeps m r) where
  pub keeps_more : (p s : ℕ) → p < 128 → (more : NodeSet) → Inserted r.labelled p more → (t : Bool) → t ≡ (mem r.labelled p || r.twice)
      → Keeps (spec.labelling m p s) (record { symbols = set r.symbols p s; labelled = more; twice = t; differ = r.differ })
  unfolding spec.symbol spec.twice left
  keeps_more p s h more inserted t is =
      record {
        long = length-set r.symbols p s ∙ keeps.long;
        symbol_is = λ v l.
            by_bool (eqb p v)
            (λ (e : eqb p v ≡ true). let q : p ≡ v = eqb-true p v e in rw (e, ← q) (get_or-set_same r.symbols p s 0 (omega (arith, keeps.long, h))))
            (λ (e : eqb p v ≡ false). rw e (get_or-set_other r.symbols p v s 0 (λ q. eqb-false p v e (sym q)) ∙ keeps.symbol_is v l));
        labelled_are = λ v. inserted v ∙ rw (eqb_sym v p, keeps.labelled_are v);
        twice_is = is ∙ rw (keeps.labelled_are p, keeps.twice_is);
        differ_is = keeps.differ_is;
      }
