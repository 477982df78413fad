-- The theorem of acceptance: bytes are accepted exactly when they are a well-formed sheet, and the accepted graph has the nodes
-- and edges written, no others. Both forms of sheets go through it; what a labelled one says of labels is handed on to `fitted`.
-- What is accepted has each dominance edge once (`once`), and agrees with what is written, in which edges may be repeated.
-- Reading goes with `Taken`, what holds of the edges read so far. Writing goes the other way: what holds of the whole
-- graph's lists held of the lists at each point before, because a list only grows.
use Prim.Native.Nat.{ℕ, zero, suc, ◌≤◌, ◌<◌}
use mathlib.Core.Path.{◌≡◌, refl, sym, subst, ap, ◌∙◌}
use mathlib.Core.List.{List, [], ◌∷◌}
use mathlib.Core.Bool.{true, false, cond, ◌&&◌, ◌||◌, false≢true}
use mathlib.Core.Logic.{◌⊎◌, inl, inr, ⊎_elim, ◌↔◌}
use native.Mathlib.Omega.{arith}
use lib.Dec.{eqb, leb}
use lib.ListN.{length}
use borrow.Author.Tests.{eqb-true, leb-true, leb-false, le-leb, lt-leb, ne_eqb}
use Rattle.base_finite.proofs.Laws.{by_bool, or_none, and_both, and_intro, and_false}
use Rattle.graph.specs.Graph.{Edge, Graph, among, different, entered, single, TreeEdge, one, grown, WellFormed, WellWritten, Agree}
use Rattle.format.specs.Sheet.{takes_labels, Labels, unlabelled, labelling, differing, Content, Outcome, refused, accepted, says, content, fitted, whole, takes_two, takes_none, beyond, pick, commands, all_commands, longest, outcome_of, outcome, SheetCommand, tree_edge, dominance_edge, label, differ, spelt, written, labels_of, in_form, sheet, spells, WellFormedSheet}
use Rattle.format.specs.declared.Form.{Form}
use Rattle.format.specs.declared.Form.TheVariants.{Plain}
use Rattle.format.specs.declared.Refusal.TheVariants.{Missing, Command, Range, Tree, TooMany}
use Rattle.theory_edges.proofs.Edges.{among_cases, among_first, among_rest, among_none, among_again, within_more, single_cons}
use Rattle.theory_edges.proofs.Agreement.{agree_sym}
use Rattle.theory_edges.proofs.Growing.{few_written, grown_well_formed, well_written_agree}
use Rattle.theory_format.proofs.Whole.{Taken, not_refused, passed, fitted_same, fitted_plain, whole_passed, well_written_of_whole, whole_of_well_written}
use Rattle.theory_format.proofs.Length.{short_enough, accepted_short}

-- what the commands take

taken_none : (n : ℕ) → 1 ≤ n → n ≤ 128 → Taken n [] []
unfolding single different
taken_none n a b =
    record {
      some_nodes = a;
      few_nodes = b;
      tree_within = λ u v h. absurd (among_none u v h);
      one_parent = refl;
      dominance_within = λ u v h. absurd (among_none u v h);
      few_edges = omega arith;
    }

taken_tree : (n : ℕ) (t d : List Edge) (x y : ℕ) → Taken n t d → x < n → y < n → entered t y ≡ false → Taken n ((x, y) ∷ t) d
unfolding single
taken_tree n t d x y k a b fresh =
    record {
      some_nodes = k.some_nodes;
      few_nodes = k.few_nodes;
      tree_within = within_more n x y t a b k.tree_within;
      one_parent = rw fresh k.one_parent;
      dominance_within = k.dominance_within;
      few_edges = k.few_edges;
    }

taken_dominance : (n : ℕ) (t d : List Edge) (x y : ℕ) → Taken n t d → x < n → y < n → among d x y ≡ false → different d < 255 → Taken n t ((x, y) ∷ d)
unfolding different
taken_dominance n t d x y k a b fresh room =
    record {
      some_nodes = k.some_nodes;
      few_nodes = k.few_nodes;
      tree_within = k.tree_within;
      one_parent = k.one_parent;
      dominance_within = within_more n x y d a b k.dominance_within;
      few_edges = rw fresh (omega arith);
    }

-- what the tests of a command leave

pub not_beyond : (n x y : ℕ) → beyond n x y ≡ false → (x < n) × (y < n)
unfolding beyond
not_beyond n x y e =
    let b = or_none (leb n x) (leb n y) e in
    (leb-false n x b.0, leb-false n y b.1)

within_passed : (n x y : ℕ) (o : Outcome) (s : Content) → cond (beyond n x y) (refused Range) o ≡ accepted s → (x < n) × (y < n) × (o ≡ accepted s)
within_passed n x y o s e =
    let a = passed (beyond n x y) Range o s e in
    let w = not_beyond n x y a.0 in
    (w.0, w.1, a.1)

tree_passed : (x y : ℕ) (t : List Edge) (o : Outcome) (s : Content) → cond (eqb x y || entered t y) (refused Tree) o ≡ accepted s → (entered t y ≡ false) × (o ≡ accepted s)
tree_passed x y t o s e =
    let b = passed (eqb x y || entered t y) Tree o s e in
    ((or_none (eqb x y) (entered t y) b.0).1, b.1)

-- the graph that is read: a dominance edge that has stood before is left out

abbrev added : List Edge → ℕ → ℕ → List Edge
added d l r = cond (among d l r) d ((l, r) ∷ d)

unfoldable once : ℕ → List Edge → List Edge → List SheetCommand → Graph
once n t d [] = record { nodes = n; tree = t; dominance = d }
once n t d (tree_edge p c ∷ cs) = once n ((p, c) ∷ t) d cs
once n t d (dominance_edge l r ∷ cs) = once n t (added d l r) cs
once n t d (label p x ∷ cs) = once n t d cs
once n t d (differ ∷ cs) = once n t d cs

-- the labels are of nodes below n
abbrev pub Named : ℕ → Labels → Type 0
Named n m = (p x : ℕ) → among m.symbols p x ≡ true → p < n

-- The bytes after the first command spell commands that give s on top of t, d and m: what is written is well-formed, and its labels fit.
record Spelt (n : ℕ) (t d : List Edge) (m : Labels) (bs : List ℕ) (s : Content) : Type 0 where
  commands_spelt : List SheetCommand
  bytes : bs ≡ spelt commands_spelt
  in_form_lem : in_form m.form commands_spelt ≡ true
  said : s ≡ says (once n t d commands_spelt) (labels_of m commands_spelt)
  well_written : WellWritten (once n t d commands_spelt)
  fits : fitted (once n t d commands_spelt) (labels_of m commands_spelt) ≡ accepted s
  named : Named n (labels_of m commands_spelt)

spelt_end : (n : ℕ) (t d : List Edge) (m : Labels) (b : ℕ) (s : Content) → Taken n t d → Named n m → b ≡ 0 → whole (record { nodes = n; tree = t; dominance = d }) m ≡ accepted s → Spelt n t d m (b ∷ []) s
unfolding spelt once labels_of in_form
spelt_end n t d m b s k named q e =
    let h : Graph = record { nodes = n; tree = t; dominance = d } in
    let fits : fitted h m ≡ accepted s = (whole_passed h m s e).3 in
    record {
      commands_spelt = [];
      bytes = rw q;
      in_form_lem = refl;
      said = fitted_same h m s fits;
      well_written = well_written_of_whole h m s k e;
      fits = fits;
      named = named;
    }

-- One command, and the rest: what is said with it, on top of which the rest is accepted.
record Next (n : ℕ) (t d : List Edge) (m : Labels) (bs : List ℕ) (s : Content) : Type 0 where
  command : SheetCommand
  rest : List ℕ
  tree : List Edge
  dominance : List Edge
  labels : Labels
  bytes : (cs : List SheetCommand) → rest ≡ spelt cs → bs ≡ spelt (command ∷ cs)
  shorter : length rest < length bs
  in_form_lem : (cs : List SheetCommand) → in_form labels.form cs ≡ true → in_form m.form (command ∷ cs) ≡ true
  once_same : (cs : List SheetCommand) → once n t d (command ∷ cs) ≡ once n tree dominance cs
  labels_same : (cs : List SheetCommand) → labels_of m (command ∷ cs) ≡ labels_of labels cs
  taken : Taken n tree dominance
  named : Named n labels
  goes_on : commands n tree dominance labels rest ≡ accepted s

spelt_more : (n : ℕ) (t d : List Edge) (m : Labels) (bs : List ℕ) (s : Content) (x : Next n t d m bs s) → Spelt n x.tree x.dominance x.labels x.rest s → Spelt n t d m bs s
spelt_more n t d m bs s x r =
    let cs : List SheetCommand = r.commands_spelt in
    record {
      commands_spelt = x.command ∷ cs;
      bytes = x.bytes cs r.bytes;
      in_form_lem = x.in_form_lem cs r.in_form_lem;
      said = rw (x.once_same cs, x.labels_same cs) r.said;
      well_written = rw (x.once_same cs) r.well_written;
      fits = rw (x.once_same cs, x.labels_same cs) r.fits;
      named = rw (x.labels_same cs) r.named;
    }

named_more : (n : ℕ) (m : Labels) (x y : ℕ) → Named n m → x < n → Named n (labelling m x y)
named_more n m x y named h p z e = ⊎_elim (λ (q : (x ≡ p) × (y ≡ z)). subst (λ (k : ℕ). k < n) q.0 h) (named p z) (among_cases (x, y) m.symbols p z e)

module _ (n : ℕ) (t d : List Edge) (m : Labels) (s : Content) (k : Taken n t d) (named : Named n m) where
  next_differ : (b : ℕ) (rest : List ℕ) → takes_none m.form b ≡ true → commands n t d (differing m) rest ≡ accepted s → Next n t d m (b ∷ rest) s
  unfolding takes_none spelt once labels_of in_form
  next_differ b rest z e =
      let a = and_both (takes_labels m.form) (eqb b 6) z in
      record {
        command = differ;
        rest = rest;
        tree = t;
        dominance = d;
        labels = differing m;
        bytes = λ cs q. rw (eqb-true b 6 a.1, q);
        shorter = omega arith;
        in_form_lem = λ cs q. and_intro (takes_labels m.form) (in_form m.form cs) a.0 q;
        once_same = λ cs. refl;
        labels_same = λ cs. refl;
        taken = k;
        named = named;
        goes_on = e;
      }

  module _ (b x y : ℕ) (rest : List ℕ) where
    next_tree : b ≡ 2 → cond (beyond n x y) (refused Range) (cond (eqb x y || entered t y) (refused Tree) (commands n ((x, y) ∷ t) d m rest)) ≡ accepted s → Next n t d m (b ∷ x ∷ y ∷ rest) s
    unfolding spelt once labels_of in_form
    next_tree z e =
        let i = within_passed n x y _ s e in
        let p = tree_passed x y t _ s i.2 in
        record {
          command = tree_edge x y;
          rest = rest;
          tree = (x, y) ∷ t;
          dominance = d;
          labels = m;
          bytes = λ cs q. rw (z, q);
          shorter = omega arith;
          in_form_lem = λ cs q. q;
          once_same = λ cs. refl;
          labels_same = λ cs. refl;
          taken = taken_tree n t d x y k i.0 i.1 p.0;
          named = named;
          goes_on = p.1;
        }

    -- an edge that has stood before, or a new one
    next_added : b ≡ 3 → (e : List Edge) → added d x y ≡ e → Taken n t e → commands n t e m rest ≡ accepted s → Next n t d m (b ∷ x ∷ y ∷ rest) s
    unfolding spelt once labels_of in_form
    next_added z e is taken goes_on =
        record {
          command = dominance_edge x y;
          rest = rest;
          tree = t;
          dominance = e;
          labels = m;
          bytes = λ cs q. rw (z, q);
          shorter = omega arith;
          in_form_lem = λ cs q. q;
          once_same = λ cs. ap (λ (e : List Edge). once n t e cs) is;
          labels_same = λ cs. refl;
          taken = taken;
          named = named;
          goes_on = goes_on;
        }

    next_dominance : b ≡ 3
        → cond (beyond n x y) (refused Range) (pick (among d x y) (λ _. commands n t d m rest) (λ _. cond (leb 255 (different d)) (refused TooMany) (commands n t ((x, y) ∷ d) m rest))) ≡ accepted s
        → Next n t d m (b ∷ x ∷ y ∷ rest) s
    next_dominance z e =
        let i = within_passed n x y _ s e in
        by_bool (among d x y)
        (λ (f : among d x y ≡ true). next_added z d (rw f) k (rw f at i.2))
        (λ (f : among d x y ≡ false).
        let p = passed (leb 255 (different d)) TooMany (commands n t ((x, y) ∷ d) m rest) s (rw f at i.2) in
        next_added z ((x, y) ∷ d) (rw f) (taken_dominance n t d x y k i.0 i.1 f (leb-false 255 (different d) p.0)) p.1)

    -- what takes two operands and is no edge
    next_label : eqb b 2 ≡ false → eqb b 3 ≡ false → cond (takes_two m.form b) (cond (leb n x) (refused Range) (commands n t d (labelling m x y) rest)) (refused Command) ≡ accepted s
        → Next n t d m (b ∷ x ∷ y ∷ rest) s
    unfolding takes_two spelt once labels_of in_form
    next_label two three e =
        by_bool (takes_labels m.form && eqb b 5)
        (λ (z : (takes_labels m.form && eqb b 5) ≡ true).
        let a = and_both (takes_labels m.form) (eqb b 5) z in
        let p = passed (leb n x) Range (commands n t d (labelling m x y) rest) s (rw (two, three, z) at e) in
        record {
          command = label x y;
          rest = rest;
          tree = t;
          dominance = d;
          labels = labelling m x y;
          bytes = λ cs q. rw (eqb-true b 5 a.1, q);
          shorter = omega arith;
          in_form_lem = λ cs q. and_intro (takes_labels m.form) (in_form m.form cs) a.0 q;
          once_same = λ cs. refl;
          labels_same = λ cs. refl;
          taken = k;
          named = named_more n m x y named (leb-false n x p.0);
          goes_on = p.1;
        })
        (λ (z : (takes_labels m.form && eqb b 5) ≡ false). absurd (not_refused Command s (rw (two, three, z) at e)))

  -- the end, or a command
  next : (bs : List ℕ) → commands n t d m bs ≡ accepted s → Spelt n t d m bs s ⊎ Next n t d m bs s
  unfolding commands
  next [] e = absurd (not_refused Missing s e)
  next (b ∷ []) e =
      by_bool (eqb b 0)
      (λ (z : eqb b 0 ≡ true). inl (spelt_end n t d m b s k named (eqb-true b 0 z) (rw z at e)))
      (λ (z : eqb b 0 ≡ false). absurd (not_refused (cond (takes_none m.form b || takes_two m.form b) Missing Command) s (rw z at e)))
  next (b ∷ x ∷ []) e =
      by_bool (takes_none m.form b)
      (λ (z : takes_none m.form b ≡ true). inr (next_differ b (x ∷ []) z (rw z at e)))
      (λ (z : takes_none m.form b ≡ false). absurd (not_refused (cond (takes_two m.form b) Missing Command) s (rw z at e)))
  next (b ∷ x ∷ y ∷ rest) e =
      by_bool (takes_none m.form b)
      (λ (o : takes_none m.form b ≡ true). inr (next_differ b (x ∷ y ∷ rest) o (rw o at e)))
      (λ (o : takes_none m.form b ≡ false).
      by_bool (eqb b 2)
      (λ (z : eqb b 2 ≡ true). inr (next_tree b x y rest (eqb-true b 2 z) (rw (o, z) at e)))
      (λ (z : eqb b 2 ≡ false).
      by_bool (eqb b 3)
      (λ (w : eqb b 3 ≡ true). inr (next_dominance b x y rest (eqb-true b 3 w) (rw (o, z, w) at e)))
      (λ (w : eqb b 3 ≡ false). inr (next_label b x y rest z w (rw (o, z, w) at e)))))

-- so many commands at most as there are bytes
commands_spelt : (i n : ℕ) (t d : List Edge) (m : Labels) (bs : List ℕ) (s : Content) → length bs < i → Taken n t d → Named n m → commands n t d m bs ≡ accepted s → Spelt n t d m bs s
commands_spelt zero n t d m bs s l k named e = absurd (omega arith)
commands_spelt (suc i) n t d m bs s l k named e =
    ⊎_elim
    (λ (x : Spelt n t d m bs s). x)
    (λ (x : Next n t d m bs s). spelt_more n t d m bs s x (commands_spelt i n x.tree x.dominance x.labels x.rest s (omega (arith, l, x.shorter)) x.taken x.named x.goes_on))
    (next n t d m s k named bs e)

-- it has the nodes and edges written

once_nodes : (n : ℕ) (t d : List Edge) (cs : List SheetCommand) → (once n t d cs).nodes ≡ n
unfolding once
once_nodes n t d [] = refl
once_nodes n t d (tree_edge p c ∷ cs) = once_nodes n ((p, c) ∷ t) d cs
once_nodes n t d (dominance_edge l r ∷ cs) = once_nodes n t (added d l r) cs
once_nodes n t d (label p x ∷ cs) = once_nodes n t d cs
once_nodes n t d (differ ∷ cs) = once_nodes n t d cs

written_nodes : (n : ℕ) (t d : List Edge) (cs : List SheetCommand) → (written n t d cs).nodes ≡ n
unfolding written
written_nodes n t d [] = refl
written_nodes n t d (tree_edge p c ∷ cs) = written_nodes n ((p, c) ∷ t) d cs
written_nodes n t d (dominance_edge l r ∷ cs) = written_nodes n t ((l, r) ∷ d) cs
written_nodes n t d (label p x ∷ cs) = written_nodes n t d cs
written_nodes n t d (differ ∷ cs) = written_nodes n t d cs

pub spells_nodes : (n : ℕ) (cs : List SheetCommand) → (spells n cs).nodes ≡ n
unfolding spells
spells_nodes n cs = written_nodes n [] [] cs

once_tree : (n : ℕ) (t d d' : List Edge) (cs : List SheetCommand) → (once n t d cs).tree ≡ (written n t d' cs).tree
unfolding once written
once_tree n t d d' [] = refl
once_tree n t d d' (tree_edge p c ∷ cs) = once_tree n ((p, c) ∷ t) d d' cs
once_tree n t d d' (dominance_edge l r ∷ cs) = once_tree n t (added d l r) ((l, r) ∷ d') cs
once_tree n t d d' (label p x ∷ cs) = once_tree n t d d' cs
once_tree n t d d' (differ ∷ cs) = once_tree n t d d' cs

added_among : (d : List Edge) (l r u v : ℕ) → among (added d l r) u v ≡ among ((l, r) ∷ d) u v
added_among d l r u v =
    by_bool (among d l r)
    (λ (f : among d l r ≡ true). rw f (sym (among_again (l, r) d f u v)))
    (λ (f : among d l r ≡ false). rw f)

once_dominance : (n : ℕ) (t d d' : List Edge) (cs : List SheetCommand) → ((u v : ℕ) → among d u v ≡ among d' u v)
    → (u v : ℕ) → among (once n t d cs).dominance u v ≡ among (written n t d' cs).dominance u v
unfolding once written among
once_dominance n t d d' [] same = same
once_dominance n t d d' (tree_edge p c ∷ cs) same = once_dominance n ((p, c) ∷ t) d d' cs same
once_dominance n t d d' (dominance_edge l r ∷ cs) same =
    once_dominance n t (added d l r) ((l, r) ∷ d') cs (λ u v. added_among d l r u v ∙ rw (same u v))
once_dominance n t d d' (label p x ∷ cs) same = once_dominance n t d d' cs same
once_dominance n t d d' (differ ∷ cs) same = once_dominance n t d d' cs same

once_agrees : (n : ℕ) (cs : List SheetCommand) → Agree (once n [] [] cs) (spells n cs)
unfolding spells
once_agrees n cs =
    record {
      same_nodes = once_nodes n [] [] cs ∙ sym (written_nodes n [] [] cs);
      same_tree = λ p c. ap (λ (t : List Edge). among t p c) (once_tree n [] [] [] cs);
      same_dominance = once_dominance n [] [] [] cs (λ u v. refl);
    }

module _ (f : Form) where
  pub first_command : (b n : ℕ) (rest : List ℕ) (s : Content) → all_commands f (b ∷ n ∷ rest) ≡ accepted s → (b ≡ 1) × (1 ≤ n) × (n ≤ 128) × (commands n [] [] (unlabelled f) rest ≡ accepted s)
  unfolding all_commands
  first_command b n rest s e =
      by_bool (eqb b 1)
      (λ (z : eqb b 1 ≡ true).
      by_bool (leb 1 n && leb n 128)
      (λ (w : (leb 1 n && leb n 128) ≡ true).
      let a = and_both (leb 1 n) (leb n 128) w in
      (eqb-true b 1 z, leb-true 1 n a.0, leb-true n 128 a.1, rw (z, w) at e))
      (λ (w : (leb 1 n && leb n 128) ≡ false). absurd (not_refused Range s (rw (z, w) at e))))
      (λ (z : eqb b 1 ≡ false). absurd (not_refused Command s (rw z at e)))

  commands_accepted : (bs : List ℕ) (s : Content) → all_commands f bs ≡ accepted s → (n : ℕ) × (rest : List ℕ) × (bs ≡ 1 ∷ n ∷ rest) × Spelt n [] [] (unlabelled f) rest s
  unfolding all_commands
  commands_accepted [] s e = absurd (not_refused Missing s e)
  commands_accepted (b ∷ []) s e = absurd (not_refused (cond (eqb b 1) Missing Command) s e)
  commands_accepted (b ∷ n ∷ rest) s e =
      let a = first_command b n rest s e in
      (n, rest, rw a.0, commands_spelt (suc (length rest)) n [] [] (unlabelled f) rest s (omega arith) (taken_none n a.1 a.2) (λ p x h. absurd (among_none p x h)) a.3)

once_well_written : (n : ℕ) (cs : List SheetCommand) → WellWritten (once n [] [] cs) → WellWritten (spells n cs)
unfolding spells
once_well_written n cs w = well_written_agree (once n [] [] cs) (written n [] [] cs) (once_agrees n cs) w (rw (← once_tree n [] [] [] cs) w.one_parent)

-- What accepted bytes are: a sheet's, whose commands write what was read. It is well-formed, and so is what was read, each dominance edge
-- once; what it says of labels fits.
pub record Accepts (f : Form) (bs : List ℕ) (s : Content) : Type 0 where
  pub commands : List SheetCommand
  pub bytes : bs ≡ sheet s.written.nodes commands
  pub in_form_lem : in_form f commands ≡ true
  pub agrees : Agree s.written (spells s.written.nodes commands)
  pub same_tree : s.written.tree ≡ (spells s.written.nodes commands).tree
  pub well_written : WellWritten s.written
  pub spelt_well_written : WellWritten (spells s.written.nodes commands)
  pub labels_said : s.labels ≡ labels_of (unlabelled f) commands
  pub named : Named s.written.nodes s.labels
  pub fits : fitted s.written s.labels ≡ accepted s
  pub means : s ≡ says s.written s.labels
  pub short : length bs ≤ longest

pub accepted_spells : (f : Form) (bs : List ℕ) (s : Content) → outcome_of f bs ≡ accepted s → Accepts f bs s
unfolding sheet spells
accepted_spells f bs s e =
    let a = accepted_short f bs s e in
    let c = commands_accepted f bs s a.1 in
    let n : ℕ = c.0 in
    let r : Spelt n [] [] (unlabelled f) c.1 s = c.3 in
    let cs : List SheetCommand = r.commands_spelt in
    let g : Graph = once n [] [] cs in
    let nodes : n ≡ g.nodes = sym (once_nodes n [] [] cs) in
    let spelt_so : bs ≡ sheet n cs = c.2 ∙ ap (λ (rest : List ℕ). 1 ∷ n ∷ rest) r.bytes in
    subst (Accepts f bs) (sym r.said)
    (record {
      commands = cs;
      bytes = spelt_so ∙ ap (λ (k : ℕ). sheet k cs) nodes;
      in_form_lem = r.in_form_lem;
      agrees = subst (λ (k : ℕ). Agree g (spells k cs)) nodes (once_agrees n cs);
      same_tree = once_tree n [] [] [] cs ∙ ap (λ (k : ℕ). (spells k cs).tree) nodes;
      well_written = r.well_written;
      spelt_well_written = subst (λ (k : ℕ). WellWritten (spells k cs)) nodes (once_well_written n cs r.well_written);
      labels_said = refl;
      named = subst (λ (k : ℕ). Named k (labels_of (unlabelled f) cs)) nodes r.named;
      fits = r.fits ∙ ap accepted r.said;
      means = refl;
      short = a.0;
    })

-- 02, Two: what a sheet means is what it writes, grown
pub meant_grown : (f : Form) (bs : List ℕ) (s : Content) → outcome_of f bs ≡ accepted s → s.graph ≡ grown s.written
meant_grown f bs s e = ap (λ (x : Content). x.graph) (accepted_spells f bs s e).means

pub meant_well_formed : (f : Form) (bs : List ℕ) (s : Content) → outcome_of f bs ≡ accepted s → WellFormed s.graph
meant_well_formed f bs s e =
    subst WellFormed (sym (meant_grown f bs s e)) (grown_well_formed s.written (accepted_spells f bs s e).well_written)

-- of a plain sheet

pub accepted_grown : (bs : List ℕ) (s : Content) → outcome bs ≡ accepted s → s.graph ≡ grown s.written
accepted_grown bs s e = meant_grown Plain bs s e

pub accepted_well_formed : (bs : List ℕ) (s : Content) → outcome bs ≡ accepted s → WellFormed s.graph
accepted_well_formed bs s e = meant_well_formed Plain bs s e

-- what held of the lists before the commands put edges on top of them

tree_kept : (n : ℕ) (t d : List Edge) (cs : List SheetCommand) (u v : ℕ) → among t u v ≡ true → among (once n t d cs).tree u v ≡ true
unfolding once
tree_kept n t d [] u v h = h
tree_kept n t d (tree_edge p c ∷ cs) u v h = tree_kept n ((p, c) ∷ t) d cs u v (among_rest (p, c) t u v h)
tree_kept n t d (dominance_edge l r ∷ cs) u v h = tree_kept n t (added d l r) cs u v h
tree_kept n t d (label p x ∷ cs) u v h = tree_kept n t d cs u v h
tree_kept n t d (differ ∷ cs) u v h = tree_kept n t d cs u v h

dominance_kept : (n : ℕ) (t d : List Edge) (cs : List SheetCommand) (u v : ℕ) → among d u v ≡ true → among (once n t d cs).dominance u v ≡ true
unfolding once
dominance_kept n t d [] u v h = h
dominance_kept n t d (tree_edge p c ∷ cs) u v h = dominance_kept n ((p, c) ∷ t) d cs u v h
dominance_kept n t d (dominance_edge l r ∷ cs) u v h = dominance_kept n t (added d l r) cs u v (added_among d l r u v ∙ among_rest (l, r) d u v h)
dominance_kept n t d (label p x ∷ cs) u v h = dominance_kept n t d cs u v h
dominance_kept n t d (differ ∷ cs) u v h = dominance_kept n t d cs u v h

single_before : (n : ℕ) (t d : List Edge) (cs : List SheetCommand) → single (once n t d cs).tree ≡ true → single t ≡ true
unfolding once
single_before n t d [] h = h
single_before n t d (tree_edge p c ∷ cs) h = (single_cons (p, c) t (single_before n ((p, c) ∷ t) d cs h)).1
single_before n t d (dominance_edge l r ∷ cs) h = single_before n t (added d l r) cs h
single_before n t d (label p x ∷ cs) h = single_before n t d cs h
single_before n t d (differ ∷ cs) h = single_before n t d cs h

different_added : (d : List Edge) (l r : ℕ) → different d ≤ different (added d l r)
unfolding different
different_added d l r =
    by_bool (among d l r)
    (λ (f : among d l r ≡ true). rw f (omega arith))
    (λ (f : among d l r ≡ false). rw (f, f) (omega arith))

different_before : (n : ℕ) (t d : List Edge) (cs : List SheetCommand) → different d ≤ different (once n t d cs).dominance
unfolding once
different_before n t d [] = omega arith
different_before n t d (tree_edge p c ∷ cs) = different_before n ((p, c) ∷ t) d cs
different_before n t d (dominance_edge l r ∷ cs) = omega (arith, different_added d l r, different_before n t (added d l r) cs)
different_before n t d (label p x ∷ cs) = different_before n t d cs
different_before n t d (differ ∷ cs) = different_before n t d cs

pub within_beyond : (n x y : ℕ) → x < n → y < n → beyond n x y ≡ false
unfolding beyond
within_beyond n x y a b = rw (lt-leb n x a, lt-leb n y b)

-- a new edge finds room
room : (n : ℕ) (t d : List Edge) (l r : ℕ) (cs : List SheetCommand) → WellWritten (once n t ((l, r) ∷ d) cs) → among d l r ≡ false → leb 255 (different d) ≡ false
unfolding different
room n t d l r cs w f =
    let more : different ((l, r) ∷ d) ≤ different (once n t ((l, r) ∷ d) cs).dominance = different_before n t ((l, r) ∷ d) cs in
    lt-leb 255 (different d) (omega (arith, (rw f at more), w.few_edges))

-- what is said of labels stays
labels_kept : (m : Labels) (cs : List SheetCommand) (u v : ℕ) → among m.symbols u v ≡ true → among (labels_of m cs).symbols u v ≡ true
unfolding labels_of
labels_kept m [] u v h = h
labels_kept m (tree_edge p c ∷ cs) u v h = labels_kept m cs u v h
labels_kept m (dominance_edge l r ∷ cs) u v h = labels_kept m cs u v h
labels_kept m (label p x ∷ cs) u v h = labels_kept (labelling m p x) cs u v (among_rest (p, x) m.symbols u v h)
labels_kept m (differ ∷ cs) u v h = labels_kept (differing m) cs u v h

-- a plain sheet says nothing of them
labels_plain : (m : Labels) (cs : List SheetCommand) → in_form Plain cs ≡ true → labels_of m cs ≡ m
unfolding labels_of in_form
labels_plain m [] h = refl
labels_plain m (tree_edge p c ∷ cs) h = labels_plain m cs h
labels_plain m (dominance_edge l r ∷ cs) h = labels_plain m cs h
labels_plain m (label p x ∷ cs) h = absurd (false≢true h)
labels_plain m (differ ∷ cs) h = absurd (false≢true h)

not_none : (f : Form) (b : ℕ) → eqb b 6 ≡ false → takes_none f b ≡ false
unfolding takes_none
not_none f b e = rw e (and_false (takes_labels f))

label_two : (f : Form) → takes_labels f ≡ true → takes_two f 5 ≡ true
unfolding takes_two
label_two f h = rw h

-- 0x06 is a command by itself, whatever follows it
commands_differ : (n : ℕ) (t d : List Edge) (m : Labels) (rest : List ℕ) → takes_labels m.form ≡ true → commands n t d m (6 ∷ rest) ≡ commands n t d (differing m) rest
unfolding commands takes_none
commands_differ n t d m [] h = rw h
commands_differ n t d m (x ∷ []) h = rw h
commands_differ n t d m (x ∷ y ∷ rest) h = rw h

spelt_fitted : (n : ℕ) (t d : List Edge) (m : Labels) (cs : List SheetCommand) → WellWritten (once n t d cs) → in_form m.form cs ≡ true → Named n (labels_of m cs)
    → commands n t d m (spelt cs) ≡ fitted (once n t d cs) (labels_of m cs)
unfolding commands spelt once labels_of in_form
spelt_fitted n t d m [] w f named = whole_of_well_written (record { nodes = n; tree = t; dominance = d }) m w
spelt_fitted n t d m (tree_edge p c ∷ cs) w f named =
    let g : Graph = once n ((p, c) ∷ t) d cs in
    let same : g.nodes ≡ n = once_nodes n ((p, c) ∷ t) d cs in
    let kept : TreeEdge g p c = tree_kept n ((p, c) ∷ t) d cs p c (among_first (p, c) t p c refl refl) in
    let b = w.tree_within p c kept in
    let inside : beyond n p c ≡ false = within_beyond n p c (omega arith) (omega arith) in
    let apart : eqb p c ≡ false = ne_eqb p c (λ q. w.no_tree_cycle p (one (subst (TreeEdge g p) (sym q) kept))) in
    let fresh : entered t c ≡ false = (single_cons (p, c) t (single_before n ((p, c) ∷ t) d cs w.one_parent)).0 in
    rw (not_none m.form 2 refl, inside, apart, fresh) (spelt_fitted n ((p, c) ∷ t) d m cs w f named)
spelt_fitted n t d m (dominance_edge l r ∷ cs) w f named =
    let g : Graph = once n t (added d l r) cs in
    let k : Labels = labels_of m cs in
    let same : g.nodes ≡ n = once_nodes n t (added d l r) cs in
    let b = w.dominance_within l r (dominance_kept n t (added d l r) cs l r (added_among d l r l r ∙ among_first (l, r) d l r refl refl)) in
    let inside : beyond n l r ≡ false = within_beyond n l r (omega arith) (omega arith) in
    let with_edges : (e : List Edge) → added d l r ≡ e → commands n t d m (3 ∷ l ∷ r ∷ spelt cs) ≡ fitted (once n t e cs) k
    → commands n t d m (3 ∷ l ∷ r ∷ spelt cs) ≡ fitted g k =
    λ e is. subst (λ (e : List Edge). commands n t d m (3 ∷ l ∷ r ∷ spelt cs) ≡ fitted (once n t e cs) k) (sym is) in
    by_bool (among d l r)
    (λ (a : among d l r ≡ true).
    let v : WellWritten (once n t d cs) = subst (λ (e : List Edge). WellWritten (once n t e cs)) (rw a) w in
    with_edges d (rw a) (rw (not_none m.form 3 refl, inside, a) (spelt_fitted n t d m cs v f named)))
    (λ (a : among d l r ≡ false).
    let v : WellWritten (once n t ((l, r) ∷ d) cs) = subst (λ (e : List Edge). WellWritten (once n t e cs)) (rw a) w in
    with_edges ((l, r) ∷ d) (rw a) (rw (not_none m.form 3 refl, inside, a, room n t d l r cs v a) (spelt_fitted n t ((l, r) ∷ d) m cs v f named)))
spelt_fitted n t d m (label p x ∷ cs) w f named =
    let a = and_both (takes_labels m.form) (in_form m.form cs) f in
    let two : takes_two m.form 5 ≡ true = label_two m.form a.0 in
    let inside : leb n p ≡ false = lt-leb n p (named p x (labels_kept (labelling m p x) cs p x (among_first (p, x) m.symbols p x refl refl))) in
    rw (not_none m.form 5 refl, two, inside) (spelt_fitted n t d (labelling m p x) cs w a.1 named)
spelt_fitted n t d m (differ ∷ cs) w f named =
    let a = and_both (takes_labels m.form) (in_form m.form cs) f in
    commands_differ n t d m (spelt cs) a.0 ∙ spelt_fitted n t d (differing m) cs w a.1 named

-- of either form: what the commands spell is accepted where its labels fit
pub spells_fitted : (f : Form) (n : ℕ) (cs : List SheetCommand) → in_form f cs ≡ true → Named n (labels_of (unlabelled f) cs) → WellWritten (spells n cs) → length (sheet n cs) ≤ longest
    → (g : Graph) × (outcome_of f (sheet n cs) ≡ fitted g (labels_of (unlabelled f) cs)) × Agree g (spells n cs) × (g.tree ≡ (spells n cs).tree)
unfolding all_commands sheet spells
spells_fitted f n cs form named w short =
    let g : Graph = once n [] [] cs in
    let k : Agree g (written n [] [] cs) = once_agrees n cs in
    let trees : g.tree ≡ (written n [] [] cs).tree = once_tree n [] [] [] cs in
    let v : WellWritten g = well_written_agree (written n [] [] cs) g (agree_sym g (written n [] [] cs) k) w (rw trees w.one_parent) in
    let same : g.nodes ≡ n = once_nodes n [] [] cs in
    let some : leb 1 n ≡ true = le-leb 1 n (omega (arith, v.some_nodes)) in
    let few : leb n 128 ≡ true = le-leb n 128 (omega (arith, few_written g v)) in
    (g, short_enough f (1 ∷ n ∷ spelt cs) short ∙ rw (some, few) (spelt_fitted n [] [] (unlabelled f) cs v form named), k, trees)

pub spells_accepted : (n : ℕ) (cs : List SheetCommand) → in_form Plain cs ≡ true → WellWritten (spells n cs) → length (sheet n cs) ≤ longest → (g : Graph) × (outcome (sheet n cs) ≡ accepted (content g)) × Agree g (spells n cs)
spells_accepted n cs form w short =
    let none : labels_of (unlabelled Plain) cs ≡ unlabelled Plain = labels_plain (unlabelled Plain) cs form in
    let r = spells_fitted Plain n cs form (subst (Named n) (sym none) (λ p x h. absurd (among_none p x h))) w short in
    (r.0, r.1 ∙ ap (fitted r.0) none ∙ fitted_plain r.0, r.2)

-- accepted exactly when well-formed
pub accepted_exactly : (bs : List ℕ) → ((s : Content) × (outcome bs ≡ accepted s)) ↔ WellFormedSheet bs
accepted_exactly bs = (
  λ (a : (s : Content) × (outcome bs ≡ accepted s)).
      let r = accepted_spells Plain bs a.0 a.1 in
      (a.0.written.nodes, r.commands, r.bytes, r.in_form_lem, r.spelt_well_written, r.short),
  λ (v : WellFormedSheet bs).
      let r = spells_accepted v.0 v.1 v.3 v.4 (subst (λ (l : List ℕ). length l ≤ longest) v.2 v.5) in
      (content r.0, ap outcome v.2 ∙ r.1),
)

-- a plain sheet says nothing of labels
pub accepted_plain : (bs : List ℕ) (s : Content) → outcome bs ≡ accepted s → s ≡ content s.written
accepted_plain bs s e =
    let r = accepted_spells Plain bs s e in
    r.means ∙ ap (says s.written) (r.labels_said ∙ labels_plain (unlabelled Plain) r.commands r.in_form_lem)
