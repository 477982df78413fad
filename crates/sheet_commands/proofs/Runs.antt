-- All commands, one after the other: the first begins a run, and each turn leaves it further on.
use Prim.Native.Nat.{ℕ, ◌+◌, ◌-◌, ◌≤◌, ◌<◌}
use mathlib.Core.Path.{◌≡◌, refl, sym, ap, ◌∙◌}
use mathlib.Core.List.{List, [], ◌∷◌}
use mathlib.Core.Bool.{true, false, ◌&&◌}
use native.Mathlib.Omega.{arith}
use lib.Dec.{eqb, leb}
use lib.ListN.{length, drop, length-drop}
use lib.Seq.{drop-drop}
use borrow.Author.Tests.{eqb-true, leb-true, ne_eqb}
use Rattle.std.specs.Prelude.{Result, Ok, Err}
use Rattle.base_finite.proofs.Laws.{by_bool, and_both}
use Rattle.graph.specs.Graph.{Edge}
use Rattle.format.specs.Sheet.{Labels, Outcome, unlabelled, refused, commands, all_commands}
use Rattle.format.specs.declared.Form.{Form}
use Rattle.format.specs.declared.Refusal.{Refusal}
use Rattle.format.specs.declared.Refusal.TheVariants.{Range}
use Rattle.base_tables.specs.Tables.{Holds}
use Rattle.base_tables.specs.declared.Graph.{Graph}
use Rattle.sheet_commands.proofs.Steps.{step_width, commands_step, gathered_step, gathered_form}
use Rattle.sheet_commands.specs.Step.{byte_of, placed, command_of, operands_of, step_of, step_at, width, width_of}
use Rattle.sheet_commands.specs.Labels.{gathered, gathered_after, labels_in}
use Rattle.sheet_commands.specs.Turn.{going, taken, run_of, outcome_after, begun, Blank, Reached, Turned}
use Rattle.sheet_commands.specs.Run.{Running, Ran}
use Rattle.sheet_commands.specs.declared.command.Command.{Command}
use Rattle.sheet_commands.specs.declared.command.Command.TheVariants.{Nodes, Tree, Dominance, Label, Differ, End}

-- past the bytes there are, a command has no width
pub step_within : (form : Form) (s : List ℕ) (at : ℕ) → width_of (step_at form s at) ≤ length s - at
step_within form s at = rw (← length-drop at s) (step_width form (eqb at 0) (drop at s))

wide : (x : Command) → 0 < width x
wide (Nodes n) = omega arith
wide (Tree p c) = omega arith
wide (Dominance l r) = omega arith
wide (Label p s) = omega arith
wide Differ = omega arith
wide End = omega arith

-- fewer bytes are left past a command
pub nearer : (form : Form) (s : List ℕ) (at : ℕ) (x : Command) → Ok x ≡ step_at form s at → length s - (at + width x) < length s - at
nearer form s at x e = let within = rw (← e) at (step_within form s at) in omega (arith, wide x)

-- the first command

abbrev first_after : Form → List ℕ → Result ℕ Refusal → Outcome
first_after form rest (Ok n) = commands n [] [] (unlabelled form) rest
first_after form rest (Err why) = refused why

abbrev first_of : Result Command Refusal → Result ℕ Refusal
first_of (Ok x) = begun x
first_of (Err why) = Err why

first_step : (form : Form) (s : List ℕ) → all_commands form s ≡ first_after form (drop 2 s) (first_of (step_at form s 0))
unfolding all_commands step_of command_of operands_of byte_of placed
first_step form [] = refl
first_step form (b ∷ []) = by_bool (eqb b 1) (λ (e : eqb b 1 ≡ true). rw (eqb-true b 1 e)) (λ (e : eqb b 1 ≡ false). rw e)
first_step form (b ∷ n ∷ rest) =
    by_bool (eqb b 1)
    (λ (e : eqb b 1 ≡ true).
    rw (eqb-true b 1 e)
    (by_bool (leb 1 n && leb n 128) (λ (f : (leb 1 n && leb n 128) ≡ true). rw f) (λ (f : (leb 1 n && leb n 128) ≡ false). rw f)))
    (λ (e : eqb b 1 ≡ false). rw e)

begun_nodes : (x : Command) (n : ℕ) → begun x ≡ Ok n → (width x ≡ 2) × (n ≤ 128)
begun_nodes (Nodes k) n f =
    by_bool (leb 1 k && leb k 128)
    (λ (t : (leb 1 k && leb k 128) ≡ true).
    let q : ◌≡◌ {A = Result ℕ Refusal} (Ok k) (Ok n) = rw t at f in
    let same : k ≡ n = cc in
    (refl, rw (← same) (leb-true k 128 (and_both (leb 1 k) (leb k 128) t).1)))
    (λ (t : (leb 1 k && leb k 128) ≡ false).
    let q : ◌≡◌ {A = Result ℕ Refusal} (Err Range) (Ok n) = rw t at f in
    absurd cc)
begun_nodes (Tree p c) n f = absurd cc
begun_nodes (Dominance l r) n f = absurd cc
begun_nodes (Label p s) n f = absurd cc
begun_nodes Differ n f = absurd cc
begun_nodes End n f = absurd cc

taken_going : (x : Command) (g : Graph) → (x ≡ End → ⊥) → taken x g ≡ going g
taken_going (Nodes k) g o = refl
taken_going (Tree p c) g o = refl
taken_going (Dominance l r) g o = refl
taken_going (Label p s) g o = refl
taken_going Differ g o = refl
taken_going End g o = absurd (o refl)

module _ (form : Form) (s : List ℕ) where
  pub first_refused : (why : Refusal) → Err why ≡ step_at form s 0 → Ran form s (Err why)
  unfolding Reached
  first_refused why e = first_step form s ∙ rw (← e)

  module _ (x : Command) (e : Ok x ≡ step_at form s 0) where
    pub begin_refused : (why : Refusal) → begun x ≡ Err why → Ran form s (Err why)
    unfolding Reached
    begin_refused why f = first_step form s ∙ rw (← e, f)

    pub running_first : (g : Graph) → begun x ≡ Ok g.n → Blank g → Running form s (width x) g
    unfolding Reached
    running_first g f blank =
        let nodes = begun_nodes x g.n f in
        record { past = wide x; reached = ([], [], unlabelled form, nodes.1, first_step form s ∙ rw (← e, f, nodes.0), rw nodes.0, blank g.n) }

-- what is read so far of a sheet is of its form
same_form : (form : Form) (s : List ℕ) (m : Labels) (bs : List ℕ) → labels_in form s ≡ gathered m bs → m.form ≡ form
same_form form s m bs e = sym (gathered_form m bs) ∙ ap (λ (l : Labels). l.form) (sym e) ∙ gathered_form (unlabelled form) (drop 2 s)

-- a later one
module _ (form : Form) (s : List ℕ) (at : ℕ) (g : Graph) (w : Running form s at g) where
  step_on : (m : Labels) → m.form ≡ form → step_of m.form false (drop at s) ≡ step_at form s at
  step_on m e = rw (e, ne_eqb at 0 (λ q. omega (arith, w.past)))

  -- what the sheet's commands come to, as the next one shows
  abbrev Onward : Result Command Refusal → Type 0
  Onward x =
      (t : List Edge) × (d : List Edge) × (m : Labels) × (g.n ≤ 128) × (all_commands form s ≡ outcome_after g.n t d m (drop (at + width_of x) s) x)
      × (labels_in form s ≡ gathered_after m (drop (at + width_of x) s) x) × Holds g.n t d g.parent g.heads g.edges

  onward : (x : Result Command Refusal) → x ≡ step_at form s at → Onward x
  unfolding Reached
  onward x e =
      let r = w.reached in
      let on = step_on r.2 (same_form form s r.2 (drop at s) r.5) in
      (r.0, r.1, r.2, r.3, r.4 ∙ commands_step g.n r.0 r.1 r.2 (drop at s) ∙ rw (on, ← e, drop-drop), r.5 ∙ gathered_step r.2 (drop at s) ∙ rw (on, ← e, drop-drop), r.6)

  pub next_refused : (why : Refusal) → Err why ≡ step_at form s at → Ran form s (Err why)
  unfolding Reached outcome_after
  next_refused why e = (onward (Err why) e).4

  pub next_ended : Ok End ≡ step_at form s at → Ran form s (Ok g)
  unfolding Reached outcome_after gathered_after
  next_ended e = let r = onward (Ok End) e in (r.0, r.1, r.3, rw r.5 r.4, r.6)

  module _ (x : Command) (e : Ok x ≡ step_at form s at) (y : Result Unit Refusal) (g' : Graph) (turned : Turned x g y g') where
    turned_on : Reached (labels_in form s) (all_commands form s) (drop (at + width x) s) (run_of x y g')
    turned_on = let r = onward (Ok x) e in rw (r.4, r.5) (turned r.0 r.1 r.2 (drop (at + width x) s) r.6)

    pub turn_refused : (why : Refusal) → y ≡ Err why → Ran form s (Err why)
    unfolding Reached
    turn_refused why f = rw f at turned_on

    pub running_on : (x ≡ End → ⊥) → y ≡ Ok tt → Running form s (at + width x) g'
    running_on o f = record { past = omega (arith, w.past); reached = let on = rw f at turned_on in rw (taken_going x g' o) at on }

-- what a turn asks
pub few_nodes : (form : Form) (s : List ℕ) (at : ℕ) (g : Graph) → Running form s at g → g.n ≤ 128
unfolding Reached
few_nodes form s at g w = w.reached.3
