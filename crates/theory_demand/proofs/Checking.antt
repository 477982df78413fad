-- The number of nodes and the checks: each has one answer; bytes that are no placing get three noes; and none of these calls, nor tidying,
-- nor the fragment table ever gives 9, which the numbers of their answers exclude (counter: Numbers).
use Prim.Native.Nat.{ℕ, ◌≤◌, ◌<◌}
use mathlib.Core.Path.{◌≡◌, refl, sym, ap, subst, ◌∙◌}
use mathlib.Core.List.{List}
use mathlib.Core.Bool.{Bool, true, false, true≢false}
use mathlib.Core.Logic.{◌↔◌, ⊎_elim}
use native.Mathlib.Omega.{arith}
use lib.ListN.{length, take}
use Rattle.base_finite.proofs.Laws.{not_holding, test_ext}
use Rattle.graph.specs.Graph.{Graph, grown}
use Rattle.graph.specs.Placing.{placing}
use Rattle.graph.specs.Table.{fragments}
use Rattle.graph.specs.declared.Fragment.{Fragment}
use Rattle.format.specs.Sheet.{Content, Outcome, refused, accepted, outcome_of, outcome, tidy}
use Rattle.format.specs.Refusal.{number}
use Rattle.theory_format.proofs.Spelling.{accepted_grown}
use Rattle.format.specs.declared.Form.{Form}
use Rattle.format.specs.declared.Form.TheVariants.{Plain}
use Rattle.theory_format.proofs.Refusals.{refused_number, not_9}
use Rattle.check_placing.specs.Answered.{Answered}
use Rattle.check_placing.specs.declared.Answers.{Answers}
use Rattle.sheet_encode.specs.Tidy.{Tidies}
use Rattle.sheet_fragments.specs.Table.{size, Tabled}
use Rattle.sheet_fragments.specs.Records.{Recorded}
use Rattle.solve_answer.specs.Calls.{refusal_number, PlacingCall}
use Rattle.counter.specs.Checks.{NodesOf, CycleOf, PlacingOf}
use Rattle.counter.specs.Numbers.{First, NoRefusal, Numbered, PlacingNumbered}
use Rattle.counter.proofs.Numbers.{placing_numbered, tidy_numbered, table_numbered, records_numbered}
use Rattle.theory_demand.specs.Demand.{as_no_reading}
use Rattle.std.specs.Prelude.{Result, Ok}
use Rattle.format.specs.declared.Refusal.{Refusal}

-- one answer

pub nodes_determined : (o : Outcome) (r r' : Result ℕ Refusal) → NodesOf o r → NodesOf o r' → r ≡ r'
nodes_determined (refused why) r r' e e' = e ∙ sym e'
nodes_determined (accepted s) r r' e e' = e ∙ sym e'

-- the number told is the grown one
pub nodes_grown : (bs : List ℕ) (s : Content) (r : Result ℕ Refusal) → outcome bs ≡ accepted s → NodesOf (outcome bs) r → r ≡ Ok (grown s.written).nodes
nodes_grown bs s r e n = subst (λ (o : Outcome). NodesOf o r) e n ∙ ap (λ (g : Graph). Ok g.nodes) (accepted_grown bs s e)

pub check_cycle_determined : (o : Outcome) (cycle : List ℕ) (r r' : Result Bool Refusal) → CycleOf o cycle r → CycleOf o cycle r' → r ≡ r'
check_cycle_determined (refused why) cycle r r' e e' = e ∙ sym e'
check_cycle_determined (accepted s) cycle r r' e e' = e ∙ sym e'

-- two tests of one fact agree
same_test : {P : Type 0} (a b : Bool) → (a ≡ true) ↔ P → (b ≡ true) ↔ P → a ≡ b
same_test a b p q = test_ext a b (λ e. q.1 (p.0 e)) (λ e. p.1 (q.0 e))

abbrev pub three : Bool → Bool → Bool → Answers
three s c r = record { solved = s; configuration = c; reading = r }

all_three : (a b : Answers) → a.solved ≡ b.solved → a.configuration ≡ b.configuration → a.reading ≡ b.reading → a ≡ b
all_three a b s c r =
    ap (λ (x : Bool). three x a.configuration a.reading) s ∙ ap (λ (x : Bool). three b.solved x a.reading) c
    ∙ ap (λ (x : Bool). three b.solved b.configuration x) r

same_answers : {g : Graph} {p : List ℕ} (a b : Answers) → Answered g p a → Answered g p b → a ≡ b
same_answers a b x y =
    all_three a b
    (same_test a.solved b.solved x.solved y.solved)
    (same_test a.configuration b.configuration x.configuration y.configuration)
    (same_test a.reading b.reading x.reading y.reading)

placing_determined : {g : Graph} {bytes : List ℕ} {r r' : Result Answers Refusal} → PlacingCall g bytes r → PlacingCall g bytes r' → r ≡ r'
placing_determined (PlacingCall.small f) (PlacingCall.small f') = refl
placing_determined (PlacingCall.small f) (PlacingCall.answered a f' x) = absurd (omega arith)
placing_determined (PlacingCall.answered a f x) (PlacingCall.small f') = absurd (omega arith)
placing_determined (PlacingCall.answered a f x) (PlacingCall.answered b f' y) = ap Ok (same_answers a b x y)

pub check_placing_determined : (o : Outcome) (bytes : List ℕ) (r r' : Result Answers Refusal) → PlacingOf o bytes r → PlacingOf o bytes r' → r ≡ r'
check_placing_determined (refused why) bytes r r' e e' = e ∙ sym e'
check_placing_determined (accepted s) bytes r r' x y = placing_determined x y

-- "Bytes that aren't a placing of the sheet get three noes."

abbrev pub three_noes : Answers
three_noes = three false false false

pub no_placing : {g : Graph} {bytes : List ℕ} {r : Result Answers Refusal} → PlacingCall g bytes r → g.nodes ≤ length bytes → placing g (take g.nodes bytes) ≡ false → r ≡ Ok three_noes
no_placing (PlacingCall.small f) h e = absurd (omega arith)
no_placing (PlacingCall.answered a f x) h e =
    ap Ok
    (all_three a three_noes
    (not_holding a.solved (λ t. true≢false (sym (x.solved.0 t).is_placing ∙ e)))
    (not_holding a.configuration (λ t. true≢false (sym (x.configuration.0 t).solved.is_placing ∙ e)))
    (not_holding a.reading (λ t. true≢false (sym (x.reading.0 t).solved.is_placing ∙ e))))

-- "Checking, tidying and the fragment table never give 9."

-- 1 to 4, 6, 8 and 12 to 16 are the sheet's, and after them comes only 10
never : (f : Form) (bs : List ℕ) (small : Content → Type 0) (o : Outcome) (k : ℕ) → outcome_of f bs ≡ o → Numbered (λ s. First 10 (small s) NoRefusal) o k → k ≡ as_no_reading → ⊥
never f bs small (refused why) k is e n = not_9 f (number why) (refused_number f bs why is) (sym e ∙ n)
never f bs small (accepted s) k is x n = ⊎_elim (λ (y : small s × (k ≡ 10)). omega (arith, n, y.1)) (λ (y : (small s → ⊥) × (k ≡ 0)). omega (arith, n, y.1)) x

nodes_never : (bs : List ℕ) (o : Outcome) (r : Result ℕ Refusal) → outcome bs ≡ o → NodesOf o r → refusal_number r ≡ as_no_reading → ⊥
nodes_never bs (refused why) r is e n = not_9 Plain (number why) (refused_number Plain bs why is) (sym (ap refusal_number e) ∙ n)
nodes_never bs (accepted s) r is e n = omega (arith, n, ap refusal_number e)

cycle_never : (bs cycle : List ℕ) (o : Outcome) (r : Result Bool Refusal) → outcome bs ≡ o → CycleOf o cycle r → refusal_number r ≡ as_no_reading → ⊥
cycle_never bs cycle (refused why) r is e n = not_9 Plain (number why) (refused_number Plain bs why is) (sym (ap refusal_number e) ∙ n)
cycle_never bs cycle (accepted s) r is e n = omega (arith, n, ap refusal_number e)

placing_number_lem : (o : Outcome) (bytes : List ℕ) (r : Result Answers Refusal) → PlacingOf o bytes r → PlacingNumbered bytes o (refusal_number r)
placing_number_lem (refused why) bytes r e = ap refusal_number e
placing_number_lem (accepted s) bytes r x = placing_numbered s x

pub nodes_never_9 : (bs : List ℕ) (r : Result ℕ Refusal) → NodesOf (outcome bs) r → refusal_number r ≡ as_no_reading → ⊥
nodes_never_9 bs r = nodes_never bs (outcome bs) r refl

pub check_cycle_never_9 : (bs cycle : List ℕ) (r : Result Bool Refusal) → CycleOf (outcome bs) cycle r → refusal_number r ≡ as_no_reading → ⊥
check_cycle_never_9 bs cycle r = cycle_never bs cycle (outcome bs) r refl

pub check_placing_never_9 : (bs bytes : List ℕ) (r : Result Answers Refusal) → PlacingOf (outcome bs) bytes r → refusal_number r ≡ as_no_reading → ⊥
check_placing_never_9 bs bytes r x =
    never Plain bs (λ s. length bytes < s.graph.nodes) (outcome bs) (refusal_number r) refl (placing_number_lem (outcome bs) bytes r x)

-- of a plain sheet, and of a labelled one
pub tidy_never_9 : (f : Form) (bs : List ℕ) (r : Result ℕ Refusal) (old new : List ℕ) → Tidies (outcome_of f bs) r old new → refusal_number r ≡ as_no_reading → ⊥
tidy_never_9 f bs r old new x =
    never f bs (λ s. length old < length (tidy s.written)) (outcome_of f bs) (refusal_number r) refl (tidy_numbered (outcome_of f bs) r old new x)

pub table_never_9 : (bs : List ℕ) (r : Result ℕ Refusal) (old new : List ℕ) → Tabled (outcome bs) r old new → refusal_number r ≡ as_no_reading → ⊥
table_never_9 bs r old new x =
    never Plain bs (λ s. length old < size s.graph) (outcome bs) (refusal_number r) refl (table_numbered (outcome bs) x)

pub records_never_9 : (bs : List ℕ) (r : Result ℕ Refusal) (old new : List Fragment) → Recorded (outcome bs) r old new → refusal_number r ≡ as_no_reading → ⊥
records_never_9 bs r old new x =
    never Plain bs (λ s. length old < length (fragments s.graph)) (outcome bs) (refusal_number r) refl (records_numbered (outcome bs) x)
