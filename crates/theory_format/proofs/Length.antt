-- The limit of 2,048 bytes: a longer sheet is refused, whatever its bytes are, and one that is not is read. So 2,049 bytes of an
-- input tell all of it.
use Prim.Native.Nat.{ℕ, suc, ◌≤◌, ◌<◌}
use mathlib.Core.Path.{◌≡◌, sym, ap, ◌∙◌}
use mathlib.Core.List.{List}
use mathlib.Core.Bool.{true, false}
use native.Mathlib.Omega.{arith}
use lib.Dec.{ltb}
use lib.ListN.{length, length-take}
use lib.Seq.{take_all}
use borrow.Author.Tests.{lt-ltb, le-ltb, ltb-true, ltb-false}
use Rattle.base_finite.proofs.Laws.{by_bool}
use Rattle.format.specs.Sheet.{Content, refused, accepted, all_commands, longest, outcome_of, outcome}
use Rattle.format.specs.declared.Form.{Form}
use Rattle.format.specs.declared.Form.TheVariants.{Plain}
use Rattle.format.specs.Text.{judged}
use Rattle.format.specs.declared.Refusal.TheVariants.{TooLong}
use Rattle.theory_format.proofs.Whole.{passed}

pub too_long : (f : Form) (bs : List ℕ) → longest < length bs → outcome_of f bs ≡ refused TooLong
unfolding outcome_of
too_long f bs h = rw (lt-ltb longest (length bs) h)

pub short_enough : (f : Form) (bs : List ℕ) → length bs ≤ longest → outcome_of f bs ≡ all_commands f bs
unfolding outcome_of
short_enough f bs h = rw (le-ltb longest (length bs) h)

pub accepted_short : (f : Form) (bs : List ℕ) (s : Content) → outcome_of f bs ≡ accepted s → (length bs ≤ longest) × (all_commands f bs ≡ accepted s)
unfolding outcome_of
accepted_short f bs s e =
    let p = passed (ltb longest (length bs)) TooLong (all_commands f bs) s e in
    (ltb-false longest (length bs) p.0, p.1)

-- "the program reads 2,049 bytes to tell"
pub judged_tells : (input : List ℕ) → outcome (judged input) ≡ outcome input
judged_tells input =
    by_bool (ltb longest (length input))
    (λ (e : ltb longest (length input) ≡ true).
    let long = ltb-true longest (length input) e in
    too_long Plain (judged input) (omega (arith, long, length-take (suc longest) input)) ∙ sym (too_long Plain input long))
    (λ (e : ltb longest (length input) ≡ false). ap outcome (take_all (suc longest) input (omega (arith, ltb-false longest (length input) e))))
