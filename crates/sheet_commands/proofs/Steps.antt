-- The laws of a command's steps, and what `commands` and `gathered` make of a command.
use Prim.Native.Nat.{ℕ, zero, suc, ◌+◌, ◌≤◌, ◌<◌}
use mathlib.Core.Path.{◌≡◌, refl, sym, ◌∙◌}
use mathlib.Core.List.{List, [], ◌∷◌}
use mathlib.Core.Bool.{Bool, true, false, cond, ◌&&◌, ◌||◌}
use native.Mathlib.Omega.{arith}
use lib.Dec.{eqb, leb, ltb}
use lib.ListN.{length, get_or, drop}
use lib.Seq.{drop-drop}
use borrow.Author.Tests.{ltb-true, ltb-false, eqb-true, ne_eqb}
use Rattle.std.specs.Prelude.{Result, Ok, Err}
use Rattle.base_finite.proofs.Laws.{by_bool}
use Rattle.graph.specs.Graph.{Edge}
use Rattle.format.specs.Sheet.{Labels, labelling, differing, takes_labels, takes_two, takes_none, commands}
use Rattle.format.specs.declared.Form.{Form}
use Rattle.format.specs.declared.Form.TheVariants.{Plain, Labelled}
use Rattle.format.specs.declared.Refusal.{Refusal}
use Rattle.format.specs.declared.Refusal.TheVariants.{Missing, Command as CommandRefusal}
use Rattle.sheet_commands.specs.Step.{byte_of, with_byte, pair_of, code_of, placed, command_of, operands_of, step_of, step_at, width_of}
use Rattle.sheet_commands.specs.Labels.{gathered, gathered_after}
use Rattle.sheet_commands.specs.Turn.{outcome_after}
use Rattle.sheet_commands.specs.declared.command.Kind.{Kind}
use Rattle.sheet_commands.specs.declared.command.Kind.TheVariants.{Nodes as NodesKind, Tree as TreeKind, Dominance as DominanceKind, Label as LabelKind, Differ as DifferKind, End as EndKind}
use Rattle.sheet_commands.specs.declared.command.Command.{Command}
use Rattle.sheet_commands.specs.declared.command.Command.TheVariants.{Nodes, Tree, Dominance, Label, Differ, End}

-- a needed byte

pub byte_missing : (s : List ℕ) (at : ℕ) → length s ≤ at → byte_of (drop at s) ≡ Err Missing
unfolding byte_of
byte_missing [] zero h = refl
byte_missing [] (suc at) h = refl
byte_missing (b ∷ s) zero h = absurd (omega arith)
byte_missing (b ∷ s) (suc at) h = byte_missing s at (omega arith)

pub byte_there : (s : List ℕ) (at : ℕ) → at < length s → byte_of (drop at s) ≡ Ok (get_or s at 0)
unfolding byte_of
byte_there [] at h = absurd (omega arith)
byte_there (b ∷ s) zero h = refl
byte_there (b ∷ s) (suc at) h = byte_there s at (omega arith)

-- the command with this byte and these operands
abbrev pub two_of : ℕ → Result (ℕ × ℕ) Refusal → Result Command Refusal
two_of b (Ok e) = Ok (cond (eqb b 2) (Tree e.0 e.1) (cond (eqb b 3) (Dominance e.0 e.1) (Label e.0 e.1)))
two_of b (Err why) = Err why

pub byte_within : (s : List ℕ) (at b : ℕ) → Ok b ≡ byte_of (drop at s) → at < length s
byte_within s at b e =
    by_bool (ltb at (length s))
    (λ (t : ltb at (length s) ≡ true). ltb-true at (length s) t)
    (λ (t : ltb at (length s) ≡ false).
    let read : Ok b ≡ Err Missing = e ∙ byte_missing s at (ltb-false at (length s) t) in
    absurd (let z : ◌≡◌ {A = ℕ} 0 1 = cc in omega arith))

-- after the first operand
pub pair_after : (s : List ℕ) (at x : ℕ) (second : Result ℕ Refusal) → Ok x ≡ byte_of (drop at s) → second ≡ byte_of (drop (at + 1) s)
    → with_byte second (λ y. Ok (x, y)) ≡ pair_of (drop at s)
pair_after s at x second e f = rw (← e, drop-drop, f)

-- the command byte

module _ (form : Form) (first : Bool) (bs : List ℕ) where
  unknown_astray : (b left : ℕ) → ((k : Kind) → code_of k ≡ b → ⊥) → placed form first b left ≡ false
  unfolding placed takes_two takes_none
  unknown_astray b left none =
      rw (
        ne_eqb b 0 (λ e. none EndKind (sym e)),
        ne_eqb b 1 (λ e. none NodesKind (sym e)),
        ne_eqb b 2 (λ e. none TreeKind (sym e)),
        ne_eqb b 3 (λ e. none DominanceKind (sym e)),
        ne_eqb b 5 (λ e. none LabelKind (sym e)),
        ne_eqb b 6 (λ e. none DifferKind (sym e)),
      ) (none_of form first)
    where
      none_of : (form : Form) (first : Bool) → cond first false (takes_labels form && false || takes_labels form && false) ≡ false
      none_of Plain true = refl
      none_of Plain false = refl
      none_of Labelled true = refl
      none_of Labelled false = refl

  pub command_missing : (why : Refusal) → Err why ≡ byte_of bs → command_of form first bs ≡ Err why
  unfolding command_of
  command_missing why e = rw (← e)

  pub command_unknown : (b : ℕ) → Ok b ≡ byte_of bs → ((k : Kind) → code_of k ≡ b → ⊥) → command_of form first bs ≡ Err CommandRefusal
  unfolding command_of
  command_unknown b e none = rw (← e, unknown_astray b (length bs) none)

  module _ (k : Kind) (e : Ok (code_of k) ≡ byte_of bs) where
    pub command_placed : true ≡ placed form first (code_of k) (length bs) → command_of form first bs ≡ Ok (code_of k)
    unfolding command_of
    command_placed p = rw (← e, ← p)

    pub command_astray : false ≡ placed form first (code_of k) (length bs) → command_of form first bs ≡ Err CommandRefusal
    unfolding command_of
    command_astray p = rw (← e, ← p)

pub command_within : (form : Form) (first : Bool) (s : List ℕ) (at b : ℕ) → command_of form first (drop at s) ≡ Ok b → at < length s
unfolding command_of
command_within form first s at b e =
    by_bool (ltb at (length s))
    (λ (t : ltb at (length s) ≡ true). ltb-true at (length s) t)
    (λ (t : ltb at (length s) ≡ false).
    let read : Ok b ≡ Err Missing = sym e ∙ rw (byte_missing s at (ltb-false at (length s) t)) in
    absurd (let z : ◌≡◌ {A = ℕ} 0 1 = cc in omega arith))

-- the command

module _ (form : Form) (s : List ℕ) (at : ℕ) where
  pub step_refused : (why : Refusal) → command_of form (eqb at 0) (drop at s) ≡ Err why → Err why ≡ step_at form s at
  unfolding step_of
  step_refused why e = rw e

  pub step_end : command_of form (eqb at 0) (drop at s) ≡ Ok 0 → Ok End ≡ step_at form s at
  unfolding step_of
  step_end e = rw e

  pub step_differ : command_of form (eqb at 0) (drop at s) ≡ Ok 6 → Ok Differ ≡ step_at form s at
  unfolding step_of
  step_differ e = rw e

  pub step_nodes : (x : Result ℕ Refusal) → command_of form (eqb at 0) (drop at s) ≡ Ok 1 → x ≡ byte_of (drop (at + 1) s)
      → with_byte x (λ n. Ok (Nodes n)) ≡ step_at form s at
  unfolding step_of operands_of
  step_nodes x e f = rw (e, drop-drop, f)

  pub step_two : (b : ℕ) (x : Result (ℕ × ℕ) Refusal) → command_of form (eqb at 0) (drop at s) ≡ Ok b → (b ≡ 0 → ⊥) → (b ≡ 1 → ⊥) → (b ≡ 6 → ⊥)
      → x ≡ pair_of (drop (at + 1) s) → two_of b x ≡ step_at form s at
  unfolding step_of operands_of
  step_two b x e end nodes differ f =
      rw (e, ne_eqb b 0 end, ne_eqb b 6 differ, f, ← drop-drop 1 at s) (both (byte_of (drop 1 (drop at s))) (byte_of (drop 1 (drop 1 (drop at s)))))
    where
      both : (x y : Result ℕ Refusal) → two_of b (with_byte x (λ v. with_byte y (λ w. Ok (v, w))))
          ≡ with_byte x (λ v. cond (eqb b 1) (Ok (Nodes v)) (with_byte y (λ w. Ok (cond (eqb b 2) (Tree v w) (cond (eqb b 3) (Dominance v w) (Label v w))))))
      both (Err why) y = refl
      both (Ok v) (Err why) = rw (ne_eqb b 1 nodes)
      both (Ok v) (Ok w) = rw (ne_eqb b 1 nodes)

-- by the command byte
by_command : (P : ℕ → Type 0) (b : ℕ) → P 0 → P 2 → P 3 → P 5 → P 6
    → (eqb b 0 ≡ false → eqb b 2 ≡ false → eqb b 3 ≡ false → eqb b 5 ≡ false → eqb b 6 ≡ false → P b) → P b
by_command P b p₀ p₂ p₃ p₅ p₆ other =
    by_bool (eqb b 0)
    (λ (e : eqb b 0 ≡ true). rw (eqb-true b 0 e) p₀)
    (λ (z : eqb b 0 ≡ false).
    by_bool (eqb b 2)
    (λ (e : eqb b 2 ≡ true). rw (eqb-true b 2 e) p₂)
    (λ (two : eqb b 2 ≡ false).
    by_bool (eqb b 3)
    (λ (e : eqb b 3 ≡ true). rw (eqb-true b 3 e) p₃)
    (λ (three : eqb b 3 ≡ false).
    by_bool (eqb b 5)
    (λ (e : eqb b 5 ≡ true). rw (eqb-true b 5 e) p₅)
    (λ (five : eqb b 5 ≡ false).
    by_bool (eqb b 6)
    (λ (e : eqb b 6 ≡ true). rw (eqb-true b 6 e) p₆)
    (λ (six : eqb b 6 ≡ false). other z two three five six)))))

-- a command has no more bytes than there are
pub step_width : (form : Form) (first : Bool) (bs : List ℕ) → width_of (step_of form first bs) ≤ length bs
unfolding step_of command_of operands_of byte_of
step_width form first [] = omega arith
step_width form first (b ∷ bs) =
    by_bool (placed form first b (length (b ∷ bs)))
    (λ (p : placed form first b (length (b ∷ bs)) ≡ true).
    rw p
    (by_bool (eqb b 0)
    (λ (z : eqb b 0 ≡ true). rw z (omega arith))
    (λ (z : eqb b 0 ≡ false). rw z (by_bool (eqb b 6) (λ (e : eqb b 6 ≡ true). rw e (omega arith)) (λ (e : eqb b 6 ≡ false). rw e (operands_width bs))))))
    (λ (p : placed form first b (length (b ∷ bs)) ≡ false). rw p (omega arith))
  where
    operands_width : (l : List ℕ) → width_of (operands_of b l) ≤ suc (length l)
    operands_width [] = omega arith
    operands_width (x ∷ []) = by_bool (eqb b 1) (λ (o : eqb b 1 ≡ true). rw o (omega arith)) (λ (o : eqb b 1 ≡ false). rw o (omega arith))
    operands_width (x ∷ y ∷ rest) =
        by_bool (eqb b 1)
        (λ (o : eqb b 1 ≡ true). rw o (omega arith))
        (λ (o : eqb b 1 ≡ false).
        rw o
        (by_bool (eqb b 2)
        (λ (q : eqb b 2 ≡ true). rw q (omega arith))
        (λ (q : eqb b 2 ≡ false). rw q (by_bool (eqb b 3) (λ (r : eqb b 3 ≡ true). rw r (omega arith)) (λ (r : eqb b 3 ≡ false). rw r (omega arith))))))

-- what `commands` and `gathered` make of it

more_than_one : (b x y : ℕ) (rest : List ℕ) → eqb (length (b ∷ x ∷ y ∷ rest)) 1 ≡ false
more_than_one b x y rest = ne_eqb (length (b ∷ x ∷ y ∷ rest)) 1 (λ q. omega arith)

module _ (symbols : List Edge) (differ : Bool) where
  abbrev said : Form → Labels
  said form = record { form = form; symbols = symbols; differ = differ }

  module _ (n : ℕ) (t d : List Edge) where
    abbrev Commands : Form → List ℕ → Type 0
    Commands form bs = commands n t d (said form) bs ≡ outcome_after n t d (said form) (drop (width_of (step_of form false bs)) bs) (step_of form false bs)

    commands_form : (form : Form) (bs : List ℕ) → Commands form bs
    unfolding commands outcome_after step_of command_of operands_of byte_of placed takes_two takes_none
    commands_form form [] = refl
    commands_form Plain (b ∷ []) = by_command (λ (b : ℕ). Commands Plain (b ∷ [])) b refl refl refl refl refl (λ z two three five six. rw (z, two, three))
    commands_form Plain (b ∷ x ∷ []) = by_command (λ (b : ℕ). Commands Plain (b ∷ x ∷ [])) b refl refl refl refl refl (λ z two three five six. rw (z, two, three))
    commands_form Plain (b ∷ x ∷ y ∷ rest) =
        by_command (λ (b : ℕ). Commands Plain (b ∷ x ∷ y ∷ rest)) b (rw (more_than_one 0 x y rest)) refl refl refl refl (λ z two three five six. rw (z, two, three))
    commands_form Labelled (b ∷ []) = by_command (λ (b : ℕ). Commands Labelled (b ∷ [])) b refl refl refl refl refl (λ z two three five six. rw (z, two, three, five, six))
    commands_form Labelled (b ∷ x ∷ []) =
        by_command (λ (b : ℕ). Commands Labelled (b ∷ x ∷ [])) b refl refl refl refl refl (λ z two three five six. rw (z, two, three, five, six))
    commands_form Labelled (b ∷ x ∷ y ∷ rest) =
        by_command (λ (b : ℕ). Commands Labelled (b ∷ x ∷ y ∷ rest)) b (rw (more_than_one 0 x y rest)) refl refl refl refl (λ z two three five six. rw (z, two, three, five, six))

  abbrev Gathered : Form → List ℕ → Type 0
  Gathered form bs = gathered (said form) bs ≡ gathered_after (said form) (drop (width_of (step_of form false bs)) bs) (step_of form false bs)

  gathered_of : (form : Form) (bs : List ℕ) → Gathered form bs
  unfolding gathered gathered_after step_of command_of operands_of byte_of placed takes_two takes_none
  gathered_of form [] = refl
  gathered_of Plain (b ∷ []) = by_command (λ (b : ℕ). Gathered Plain (b ∷ [])) b refl refl refl refl refl (λ z two three five six. rw (z, two, three))
  gathered_of Plain (b ∷ x ∷ []) = by_command (λ (b : ℕ). Gathered Plain (b ∷ x ∷ [])) b refl refl refl refl refl (λ z two three five six. rw (z, two, three))
  gathered_of Plain (b ∷ x ∷ y ∷ rest) =
      by_command (λ (b : ℕ). Gathered Plain (b ∷ x ∷ y ∷ rest)) b (rw (more_than_one 0 x y rest)) refl refl refl refl (λ z two three five six. rw (z, two, three))
  gathered_of Labelled (b ∷ []) = by_command (λ (b : ℕ). Gathered Labelled (b ∷ [])) b refl refl refl refl refl (λ z two three five six. rw (z, two, three, five, six))
  gathered_of Labelled (b ∷ x ∷ []) =
      by_command (λ (b : ℕ). Gathered Labelled (b ∷ x ∷ [])) b refl refl refl refl refl (λ z two three five six. rw (z, two, three, five, six))
  gathered_of Labelled (b ∷ x ∷ y ∷ rest) =
      by_command (λ (b : ℕ). Gathered Labelled (b ∷ x ∷ y ∷ rest)) b (rw (more_than_one 0 x y rest)) refl refl refl refl (λ z two three five six. rw (z, two, three, five, six))

pub commands_step : (n : ℕ) (t d : List Edge) (m : Labels) (bs : List ℕ)
    → commands n t d m bs ≡ outcome_after n t d m (drop (width_of (step_of m.form false bs)) bs) (step_of m.form false bs)
commands_step n t d m bs = commands_form m.symbols m.differ n t d m.form bs

pub gathered_step : (m : Labels) (bs : List ℕ) → gathered m bs ≡ gathered_after m (drop (width_of (step_of m.form false bs)) bs) (step_of m.form false bs)
gathered_step m bs = gathered_of m.symbols m.differ m.form bs

-- the form stays
pub gathered_form : (m : Labels) (bs : List ℕ) → (gathered m bs).form ≡ m.form
unfolding gathered
gathered_form m [] = refl
gathered_form m (b ∷ []) = by_bool (takes_none m.form b) (λ (e : takes_none m.form b ≡ true). rw e) (λ (e : takes_none m.form b ≡ false). rw e)
gathered_form m (b ∷ x ∷ []) =
    by_bool (takes_none m.form b)
    (λ (e : takes_none m.form b ≡ true). rw e (gathered_form (differing m) (x ∷ [])))
    (λ (e : takes_none m.form b ≡ false). rw e)
gathered_form m (b ∷ x ∷ y ∷ rest) =
    by_bool (takes_none m.form b)
    (λ (e : takes_none m.form b ≡ true). rw e (gathered_form (differing m) (x ∷ y ∷ rest)))
    (λ (e : takes_none m.form b ≡ false).
    rw e
    (by_bool (eqb b 2 || eqb b 3)
    (λ (f : (eqb b 2 || eqb b 3) ≡ true). rw f (gathered_form m rest))
    (λ (f : (eqb b 2 || eqb b 3) ≡ false).
    rw f
    (by_bool (takes_two m.form b)
    (λ (g : takes_two m.form b ≡ true).
    rw g (by_bool (leb 128 x) (λ (h : leb 128 x ≡ true). rw h) (λ (h : leb 128 x ≡ false). rw h (gathered_form (labelling m x y) rest))))
    (λ (g : takes_two m.form b ≡ false). rw g)))))
