-- The number, the hung roots and the line feed are stored one after the other.
use native.Mathlib.Omega.{arith}
use Rattle.base_finite.proofs.Stores.{written_more, written_byte}
use Rattle.base_text.proofs.Lines.{reading_is, reading_short}
use Rattle.base_text.proofs.reading_line.Goals as goal

pub decimal-after_number-requires : goal.decimal-after_number-requires
decimal-after_number-requires c =
    let a = c.args in
    let short = reading_short a.roots a.n a.placing.now a.k c.requires.0 (λ v. (c.type_inv.placing v).fits) in
    omega (arith, short)

pub all_hung-end-requires : goal.all_hung-end-requires
all_hung-end-requires c =
    let a = c.args in
    let short = reading_short a.roots a.n a.placing.now a.k c.requires.0 (λ v. (c.type_inv.placing v).fits) in
    let d = c.decimal-after_number in
    (omega arith, omega (arith, short, d.ensures.after, d.auto.out))

pub bounds-out-end : goal.bounds-out-end
bounds-out-end c =
    let a = c.args in
    let short = reading_short a.roots a.n a.placing.now a.k c.requires.0 (λ v. (c.type_inv.placing v).fits) in
    let d = c.decimal-after_number in
    let h = c.all_hung-end in
    omega (arith, short, d.ensures.after, d.auto.out, h.ensures.after, h.auto.out)

pub overflow_add-result : goal.overflow_add-result
overflow_add-result c =
    let a = c.args in
    let short = reading_short a.roots a.n a.placing.now a.k c.requires.0 (λ v. (c.type_inv.placing v).fits) in
    let d = c.decimal-after_number in
    let h = c.all_hung-end in
    omega (arith, short, d.ensures.after, h.ensures.after)

pub returns : goal.returns
returns c = let a = c.args in
    let short = reading_short a.roots a.n a.placing.now a.k c.requires.0 (λ v. (c.type_inv.placing v).fits) in
    let d = c.decimal-after_number in
    let h = c.all_hung-end in record { written = rw reading_is (written_byte _ _ _ _ _ _ (written_more _ _ _ _ _ _ _ _ d.ensures h.ensures)); upper_bound = omega (arith, short, d.ensures.after, h.ensures.after) }
