-- What is shown of an input, and what a program may go on from.
use Prim.Native.Nat.{ℕ, ◌+◌, ◌≤◌}
use mathlib.Core.Path.{◌≡◌, refl, sym, ap, subst, ◌∙◌}
use mathlib.Core.List.{List}
use native.Mathlib.Omega.{arith}
use lib.ListN.{length, take, drop}
use lib.Seq.{sets-eq, take_at}
use Rattle.std.specs.Prelude.{Result, Ok, Err}
use Rattle.graph.specs.Graph.{Graph}
use Rattle.format.specs.Sheet.{Outcome}
use Rattle.format.specs.Text.{refused_line}
use Rattle.format.specs.declared.Refusal.{Refusal}
use Rattle.format.specs.declared.Refusal.TheVariants.{NoReading}
use Rattle.show_input.specs.Input.{Shows, Ready, Prepared, ComesTo}
use Rattle.show_input.specs.declared.Input.{Input}

-- what is handed to the system is the text
pub shown_is : (text old : List ℕ) (bytes : ℕ) (new : List ℕ) → Shows text old bytes new → take bytes new ≡ text
shown_is text old bytes new s =
    let long : 0 + length text ≡ bytes = sym s.written.after in
    let fits : 0 + length text ≤ length old = omega (arith, long, s.fits) in
    ap (take bytes) (s.written.stored ∙ sets-eq text old 0 fits)
    ∙ take_at text (drop (0 + length text) old) bytes (omega (arith, long))

pub refusal_fits : {old : List ℕ} {r : Result Input ℕ} {new : List ℕ} {o : Outcome} → ComesTo old r new o → {bytes : ℕ} → r ≡ Err bytes → bytes ≤ length old
refusal_fits (ComesTo.refusal f) {bytes} e = let same : f.bytes ≡ bytes = cc (f.is, e) in rw (← same) f.shown.fits
refusal_fits (ComesTo.no_reading none f) {bytes} e = let same : f.bytes ≡ bytes = cc (f.is, e) in rw (← same) f.shown.fits
refusal_fits (ComesTo.ready is b same) e = let z : ◌≡◌ {A = ℕ} 0 1 = cc in absurd (omega arith)

pub ready_of : {old : List ℕ} {r : Result Input ℕ} {new : List ℕ} {o : Outcome} → ComesTo old r new o → {i : Input} → r ≡ Ok i → (g : Graph) × Ready g i
ready_of (ComesTo.refusal f) e = let z : ◌≡◌ {A = ℕ} 0 1 = cc (f.is, e) in absurd (omega arith)
ready_of (ComesTo.no_reading none f) e = let z : ◌≡◌ {A = ℕ} 0 1 = cc (f.is, e) in absurd (omega arith)
ready_of (ComesTo.ready {s} {i = j} is b same) {i} e = let one : j ≡ i = cc in (s.graph, subst (Ready s.graph) one b)

-- the line of a refusal, or the list, from what the sheet's list begins from

pub line_shown : {r : Result Input Refusal} {o : Outcome} {old : List ℕ} → Prepared r o → {why : Refusal} → r ≡ Err why → {bytes : ℕ} {new : List ℕ} → Shows (refused_line why) old bytes new
    → ComesTo old (Err bytes) new o
line_shown {old = old} (Prepared.refusal {why = k} is) {why} e {bytes} {new} shown =
    let same : why ≡ k = cc in
    ComesTo.refusal (record { bytes = bytes; is = refl; shown = subst (λ (w : Refusal). Shows (refused_line w) old bytes new) same shown })
line_shown {old = old} (Prepared.no_reading none is) {why} e {bytes} {new} shown =
    let same : why ≡ NoReading = cc in
    ComesTo.no_reading none (record { bytes = bytes; is = refl; shown = subst (λ (w : Refusal). Shows (refused_line w) old bytes new) same shown })
line_shown (Prepared.ready is b) e shown = let z : ◌≡◌ {A = ℕ} 0 1 = cc in absurd (omega arith)

pub list_begun : {r : Result Input Refusal} {o : Outcome} {old : List ℕ} → Prepared r o → {i : Input} → r ≡ Ok i → ComesTo old (Ok i) old o
list_begun (Prepared.refusal is) e = let z : ◌≡◌ {A = ℕ} 0 1 = cc in absurd (omega arith)
list_begun (Prepared.no_reading none is) e = let z : ◌≡◌ {A = ℕ} 0 1 = cc in absurd (omega arith)
list_begun (Prepared.ready {s} {i = j} is b) {i} e = let one : j ≡ i = cc in ComesTo.ready refl (subst (Ready s.graph) one b) refl
