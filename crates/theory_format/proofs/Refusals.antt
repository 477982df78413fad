-- Bytes that are refused are refused by a number of 1 to 4, 6, 8, 12 or 13, and where labels are in place of 14 to 16: what later calls
-- add, 9, 10 and 11, is no refusal of the bytes. No refusal has the number 5 or 7.
use Prim.Native.Nat.{ℕ, ◌≤◌}
use mathlib.Core.Path.{◌≡◌, refl, subst}
use mathlib.Core.List.{List, [], ◌∷◌}
use mathlib.Core.Bool.{Bool, true, false, cond, ◌&&◌, ◌||◌}
use mathlib.Core.Logic.{◌⊎◌, inl, inr, ⊎_elim}
use native.Mathlib.Omega.{arith}
use lib.Dec.{eqb, leb, ltb}
use lib.ListN.{length}
use Rattle.graph.specs.Graph.{Edge, Graph, among, different, entered, cyclic, grown}
use Rattle.base_finite.proofs.Laws.{by_bool, and_both}
use Rattle.format.specs.Sheet.{takes_labels, Labels, unlabelled, labelling, differing, Outcome, refused, accepted, overgrown, astray, mislabelled, overlapping, holed, fitted, whole, takes_two, takes_none, beyond, pick, commands, all_commands, longest, outcome_of}
use Rattle.format.specs.declared.Form.{Form}
use Rattle.format.specs.Refusal.{number}
use Rattle.format.specs.declared.Refusal.{Refusal}
use Rattle.format.specs.declared.Refusal.TheVariants.{Missing, Command, Range, Tree, Ends, TooMany, NoReading, SmallBuffer, NoSuchReading, TooLong, Overgrown, Label, Overlap, Hole}

-- a number that bytes may be refused by
abbrev pub OfBytes : Form → ℕ → Type 0
OfBytes f k = ((1 ≤ k) × (k ≤ 4)) ⊎ ((k ≡ 6) ⊎ ((k ≡ 8) ⊎ (((12 ≤ k) × (k ≤ 13)) ⊎ ((takes_labels f ≡ true) × (14 ≤ k) × (k ≤ 16)))))

module _ (f : Form) where
  -- if it is a refusal, its number is one of these
  abbrev Few : Outcome → Type 0
  Few (refused why) = OfBytes f (number why)
  Few (accepted s) = Unit {0}

  either : (b : Bool) (x y : Outcome) → Few x → Few y → Few (cond b x y)
  either true x y p q = p
  either false x y p q = q

  picked : (b : Bool) (x y : Unit {0} → Outcome) → Few (x tt) → Few (y tt) → Few (pick b x y)
  picked true x y p q = p
  picked false x y p q = q

  either_why : (b : Bool) (x y : Refusal) → Few (refused x) → Few (refused y) → Few (refused (cond b x y))
  either_why true x y p q = p
  either_why false x y p q = q

  missing_or_command : (b : Bool) → Few (refused (cond b Missing Command))
  missing_or_command b = either_why b Missing Command (inl (omega arith, omega arith)) (inl (omega arith, omega arith))

  range : Few (refused Range)
  range = inl (omega arith, omega arith)

  tree : Few (refused Tree)
  tree = inl (omega arith, omega arith)

  command : Few (refused Command)
  command = inl (omega arith, omega arith)

  -- where labels are in place
  labels_only : (b : Bool) (why : Refusal) (y : Outcome) → 14 ≤ number why → number why ≤ 16 → Few y → Few (cond (takes_labels f && b) (refused why) y)
  labels_only b why y low high q =
      by_bool (takes_labels f && b)
      (λ (e : (takes_labels f && b) ≡ true). rw e (inr (inr (inr (inr ((and_both (takes_labels f) b e).0, low, high))))))
      (λ (e : (takes_labels f && b) ≡ false). rw e q)

fitted_few : (g : Graph) (m : Labels) → Few m.form (fitted g m)
unfolding fitted
fitted_few g m =
    labels_only m.form (mislabelled g m.symbols) Label _ (omega arith) (omega arith)
    (labels_only m.form (overlapping g m) Overlap _ (omega arith) (omega arith) (labels_only m.form (holed g m.symbols) Hole _ (omega arith) (omega arith) tt))

whole_few : (g : Graph) (m : Labels) → Few m.form (whole g m)
unfolding whole
whole_few g m =
    either m.form (cyclic g) _ _ (tree m.form)
    (either m.form (overgrown g) _ _ (inr (inr (inr (inl (omega arith, omega arith))))) (either m.form (astray (grown g)) _ _ (inr (inl refl)) (fitted_few g m)))

commands_few : (n : ℕ) (t d : List Edge) (m : Labels) (bs : List ℕ) → Few m.form (commands n t d m bs)
unfolding commands
commands_few n t d m [] = inl (omega arith, omega arith)
commands_few n t d m (b ∷ []) = either m.form (eqb b 0) _ _ (whole_few _ m) (missing_or_command m.form (takes_none m.form b || takes_two m.form b))
commands_few n t d m (b ∷ x ∷ []) =
    either m.form (takes_none m.form b) _ _ (commands_few n t d (differing m) (x ∷ [])) (missing_or_command m.form (takes_two m.form b))
commands_few n t d m (b ∷ x ∷ y ∷ rest) =
    picked m.form (takes_none m.form b) _ _ (commands_few n t d (differing m) (x ∷ y ∷ rest))
    (picked m.form (eqb b 2) _ _
    (either m.form (beyond n x y) _ _ (range m.form) (either m.form (eqb x y || entered t y) _ _ (tree m.form) (commands_few n ((x, y) ∷ t) d m rest)))
    (picked m.form (eqb b 3) _ _
    (either m.form (beyond n x y) _ _ (range m.form)
    (picked m.form (among d x y) _ _ (commands_few n t d m rest) (either m.form (leb 255 (different d)) _ _ (inr (inr (inl refl))) (commands_few n t ((x, y) ∷ d) m rest))))
    (either m.form (takes_two m.form b) _ _
    (either m.form (leb n x) _ _ (range m.form) (commands_few n t d (labelling m x y) rest))
    (command m.form))))

all_few : (f : Form) (bs : List ℕ) → Few f (all_commands f bs)
unfolding all_commands
all_few f [] = inl (omega arith, omega arith)
all_few f (b ∷ []) = missing_or_command f (eqb b 1)
all_few f (b ∷ n ∷ rest) = either f (eqb b 1) _ _ (either f (leb 1 n && leb n 128) _ _ (commands_few n [] [] (unlabelled f) rest) (range f)) (command f)

outcome_few : (f : Form) (bs : List ℕ) → Few f (outcome_of f bs)
unfolding outcome_of
outcome_few f bs = either f (ltb longest (length bs)) _ _ (inr (inr (inr (inl (omega arith, omega arith))))) (all_few f bs)

pub refused_number : (f : Form) (bs : List ℕ) (why : Refusal) → outcome_of f bs ≡ refused why → OfBytes f (number why)
refused_number f bs why e = subst (Few f) e (outcome_few f bs)

-- 9 is none of them
pub not_9 : (f : Form) (k : ℕ) → OfBytes f k → k ≡ 9 → ⊥
not_9 f k (inl b) e = omega (arith, b.1, e)
not_9 f k (inr (inl b)) e = omega (arith, b, e)
not_9 f k (inr (inr (inl b))) e = omega (arith, b, e)
not_9 f k (inr (inr (inr (inl b)))) e = omega (arith, b.0, e)
not_9 f k (inr (inr (inr (inr b)))) e = omega (arith, b.1, e)

-- 02, One: "Refusal 7 then no longer occurs"; Two: "refusal 5 no longer occurs"
pub never_5_or_7 : (why : Refusal) → (number why ≡ 5) ⊎ (number why ≡ 7) → ⊥
never_5_or_7 Missing = ⊎_elim (λ e. omega arith) (λ e. omega arith)
never_5_or_7 Command = ⊎_elim (λ e. omega arith) (λ e. omega arith)
never_5_or_7 Range = ⊎_elim (λ e. omega arith) (λ e. omega arith)
never_5_or_7 Tree = ⊎_elim (λ e. omega arith) (λ e. omega arith)
never_5_or_7 Ends = ⊎_elim (λ e. omega arith) (λ e. omega arith)
never_5_or_7 TooMany = ⊎_elim (λ e. omega arith) (λ e. omega arith)
never_5_or_7 NoReading = ⊎_elim (λ e. omega arith) (λ e. omega arith)
never_5_or_7 SmallBuffer = ⊎_elim (λ e. omega arith) (λ e. omega arith)
never_5_or_7 NoSuchReading = ⊎_elim (λ e. omega arith) (λ e. omega arith)
never_5_or_7 TooLong = ⊎_elim (λ e. omega arith) (λ e. omega arith)
never_5_or_7 Overgrown = ⊎_elim (λ e. omega arith) (λ e. omega arith)
never_5_or_7 Label = ⊎_elim (λ e. omega arith) (λ e. omega arith)
never_5_or_7 Overlap = ⊎_elim (λ e. omega arith) (λ e. omega arith)
never_5_or_7 Hole = ⊎_elim (λ e. omega arith) (λ e. omega arith)
