-- The labels gathered from a sheet, a command more at each turn.
use Prim.Native.Nat.{ℕ, ◌+◌, ◌<◌}
use mathlib.Core.Path.{◌≡◌, refl, sym, ◌∙◌}
use mathlib.Core.List.{List}
use mathlib.Core.Bool.{true, false, false≢true, true≢false}
use native.Mathlib.Omega.{arith}
use lib.ListN.{drop}
use lib.Seq.{drop-drop}
use borrow.Author.Tests.{ltb-true, ltb-false, lt-leb, le-leb, ne_eqb}
use Rattle.std.specs.Prelude.{Result, Ok, Err}
use Rattle.format.specs.Sheet as spec
use Rattle.format.specs.declared.Form.TheVariants.{Labelled}
use Rattle.format.specs.declared.Refusal.{Refusal}
use Rattle.sheet_commands.specs.Step.{step_at, width, width_of}
use Rattle.sheet_commands.specs.Labels.{gathered, gathered_after, labels_in}
use Rattle.sheet_commands.specs.declared.command.Command.{Command}
use Rattle.sheet_commands.specs.declared.command.Command.TheVariants.{Nodes, Tree, Dominance, Label, Differ, End}
use Rattle.sheet_commands.proofs.Steps.{gathered_step}
use Rattle.sheet_labels.specs.Keep.{Keeps}
use Rattle.sheet_labels.specs.Gather.{goes_on, after_step}
use Rattle.sheet_labels.specs.declared.table.Labels.{Labels}

-- one command

after_on : (m : spec.Labels) (rest : List ℕ) (x : Command) → goes_on x ≡ true → gathered_after m rest (Ok x) ≡ gathered (after_step m x) rest
unfolding gathered_after
after_on m rest (Nodes n) h = absurd (false≢true h)
after_on m rest (Tree p c) h = refl
after_on m rest (Dominance l r) h = refl
after_on m rest (Label p s) h = rw (lt-leb 128 p (ltb-true p 128 h))
after_on m rest Differ h = refl
after_on m rest End h = absurd (false≢true h)

after_stop : (m : spec.Labels) (rest : List ℕ) (x : Command) → goes_on x ≡ false → gathered_after m rest (Ok x) ≡ m
unfolding gathered_after
after_stop m rest (Nodes n) h = refl
after_stop m rest (Tree p c) h = absurd (true≢false h)
after_stop m rest (Dominance l r) h = absurd (true≢false h)
after_stop m rest (Label p s) h = rw (le-leb 128 p (ltb-false p 128 h))
after_stop m rest Differ h = absurd (true≢false h)
after_stop m rest End h = refl

after_form : (m : spec.Labels) (x : Command) → (after_step m x).form ≡ m.form
after_form m (Nodes n) = refl
after_form m (Tree p c) = refl
after_form m (Dominance l r) = refl
after_form m (Label p s) = refl
after_form m Differ = refl
after_form m End = refl

-- at an offset past the first command: what is said so far is kept, and the commands from here on say the rest
pub record Gathers (s : List ℕ) (at : ℕ) (r : Labels) : Type 0 where
  pub past : 0 < at
  pub said : spec.Labels
  pub form_is : said.form ≡ Labelled
  pub rest_is : gathered said (drop at s) ≡ labels_in Labelled s
  pub keeps : Keeps said r

module _ (s : List ℕ) where
  pub gathers_none : (r : Labels) → Keeps (spec.unlabelled Labelled) r → Gathers s 2 r
  gathers_none r keeps =
      record {
        past = omega arith;
        said = spec.unlabelled Labelled;
        form_is = refl;
        rest_is = refl;
        keeps = keeps;
      }

  module _ (at : ℕ) (r : Labels) (w : Gathers s at r) where
    step : (x : Result Command Refusal) → x ≡ step_at Labelled s at → gathered_after w.said (drop (at + width_of x) s) x ≡ labels_in Labelled s
    step x e =
        let later = ne_eqb at 0 (λ q. omega (arith, w.past)) in
        rw (e, later) (sym (gathered_step w.said (drop at s) ∙ rw (w.form_is, drop-drop))) ∙ w.rest_is

    pub gathers_refused : (why : Refusal) → Err why ≡ step_at Labelled s at → Keeps (labels_in Labelled s) r
    unfolding gathered_after
    gathers_refused why e = rw (sym (step (Err why) e)) w.keeps

    module _ (x : Command) (e : Ok x ≡ step_at Labelled s at) where
      pub gathers_over : goes_on x ≡ false → Keeps (labels_in Labelled s) r
      gathers_over stop = rw (sym (step (Ok x) e) ∙ after_stop w.said (drop (at + width x) s) x stop) w.keeps

      pub gathers_on : goes_on x ≡ true → (r' : Labels) → ((m : spec.Labels) → Keeps m r → Keeps (after_step m x) r') → Gathers s (at + width x) r'
      gathers_on on r' after =
          record {
            past = omega (arith, w.past);
            said = after_step w.said x;
            form_is = after_form w.said x ∙ w.form_is;
            rest_is = sym (after_on w.said (drop (at + width x) s) x on) ∙ step (Ok x) e;
            keeps = after w.said w.keeps;
          }
