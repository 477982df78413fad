-- A text of a reading, from the search for the reading: 9 and 11 are passed on, and a reading that was found is a solved form.
-- The call for a drawing is that for a text, with 1,024 bytes to lend.
use Prim.Native.Nat.{ℕ, ◌-◌, ◌≤◌}
use mathlib.Core.Path.{◌≡◌, sym, subst}
use mathlib.Core.List.{List, ◌++◌}
use native.Mathlib.Omega.{arith}
use Rattle.std.specs.Prelude.{Result, Ok, Err}
use lib.ListN.{length, take, drop}
use Rattle.graph.specs.Graph.{Graph}
use Rattle.graph.specs.Placing.{SolvedForm}
use Rattle.format.specs.Drawing.{drawing}
use Rattle.format.specs.declared.Refusal.{Refusal}
use Rattle.format.specs.declared.Refusal.TheVariants.{NoReading as NoReadingRefusal, NoSuchReading}
use Rattle.solve_answer.specs.Calls.{Seeks, TextCall, DrawingCall}
use Rattle.solve_answer.specs.Calls as calls

module _ {g : Graph} {k : ℕ} {placing : List ℕ} where
  pub sought_solved : {q : Result (Unit {0}) Refusal} → Seeks g k placing q → q ≡ Ok tt → SolvedForm g (take g.nodes placing)
  sought_solved (calls.Seeks.none u) e = absurd (let z : ◌≡◌ {A = ℕ} 0 1 = cc in omega arith)
  sought_solved (calls.Seeks.beyond ps l some b) e = absurd (let z : ◌≡◌ {A = ℕ} 0 1 = cc in omega arith)
  sought_solved (calls.Seeks.found ps l one most is) e = subst (SolvedForm g) (sym is) (l.only_readings (k - 1) (omega (arith, one, most))).solved

  module _ {least : ℕ} {text : List ℕ → List ℕ} {old : List ℕ} (enough : least ≤ length old) where
    pub text_refused : {q : Result (Unit {0}) Refusal} {why : Refusal} → Seeks g k placing q → q ≡ Err why → TextCall least text g k old (Err why) old
    text_refused {why = why} (calls.Seeks.none u) e = let same : NoReadingRefusal ≡ why = cc in rw (sym same) (calls.TextCall.none enough u)
    text_refused {why = why} (calls.Seeks.beyond ps l some b) e = let same : NoSuchReading ≡ why = cc in rw (sym same) (calls.TextCall.beyond ps enough l some b)
    text_refused {why = why} (calls.Seeks.found ps l one most is) e = absurd (let z : ◌≡◌ {A = ℕ} 0 1 = cc in omega arith)

    pub text_drawn : {q : Result (Unit {0}) Refusal} {m : ℕ} {new : List ℕ} → Seeks g k placing q → q ≡ Ok tt → m ≡ length (text (take g.nodes placing))
        → new ≡ text (take g.nodes placing) ++ drop (length (text (take g.nodes placing))) old → TextCall least text g k old (Ok m) new
    text_drawn (calls.Seeks.none u) e long bytes = absurd (let z : ◌≡◌ {A = ℕ} 0 1 = cc in omega arith)
    text_drawn (calls.Seeks.beyond ps l some b) e long bytes = absurd (let z : ◌≡◌ {A = ℕ} 0 1 = cc in omega arith)
    text_drawn {q} {m} {new} (calls.Seeks.found ps l one most is) e long bytes =
        rw (long, bytes, is) (calls.TextCall.drawn ps enough l one most)

module _ {g : Graph} {k : ℕ} {old : List ℕ} where
  pub drawing_from_text : {r : Result ℕ Refusal} {new : List ℕ} → TextCall 1024 (drawing g) g k old r new → DrawingCall g k old r new
  drawing_from_text (calls.TextCall.small h) = calls.DrawingCall.small h
  drawing_from_text (calls.TextCall.none h u) = calls.DrawingCall.none h u
  drawing_from_text (calls.TextCall.beyond ps h l some b) = calls.DrawingCall.beyond ps h l some b
  drawing_from_text (calls.TextCall.drawn ps h l one most) = calls.DrawingCall.drawn ps h l one most

  pub text_from_drawing : {r : Result ℕ Refusal} {new : List ℕ} → DrawingCall g k old r new → TextCall 1024 (drawing g) g k old r new
  text_from_drawing (calls.DrawingCall.small h) = calls.TextCall.small h
  text_from_drawing (calls.DrawingCall.none h u) = calls.TextCall.none h u
  text_from_drawing (calls.DrawingCall.beyond ps h l some b) = calls.TextCall.beyond ps h l some b
  text_from_drawing (calls.DrawingCall.drawn ps h l one most) = calls.TextCall.drawn ps h l one most
