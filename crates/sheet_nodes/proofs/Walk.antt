-- A walk over the commands of a sheet that is accepted, one more at each turn: the table holds what those passed say, and those still to
-- come make of it what the sheet says.
use Prim.Native.Nat.{ℕ, ◌+◌, ◌≤◌, ◌<◌}
use mathlib.Core.Path.{◌≡◌, sym, ◌∙◌, subst}
use mathlib.Core.List.{List, [], ◌∷◌}
use mathlib.Core.Bool.{Bool, true, false, cond, false≢true, true≢false, ◌||◌}
use native.Mathlib.Omega.{arith}
use lib.Dec.{eqb, leb}
use lib.ListN.{length, drop}
use lib.Seq.{drop-drop}
use borrow.Author.Tests.{leb-false, lt-ltb, ne_eqb}
use Rattle.base_finite.proofs.Laws.{by_bool}
use Rattle.base_nodeset.specs.Set.{Empty as EmptySet}
use Rattle.base_nodeset.specs.declared.NodeSet.{NodeSet}
use Rattle.graph.specs.Graph.{Edge, Graph, among, different, entered}
use Rattle.format.specs.Sheet.{Labels, Content, accepted, says, beyond, commands, all_commands, outcome_of}
use Rattle.format.specs.declared.Form.TheVariants.{Labelled}
use Rattle.format.specs.declared.Refusal.TheVariants.{Missing, Command as CommandRefusal, Range, Tree as TreeRefusal, TooMany}
use Rattle.theory_format.proofs.Whole.{not_refused, passed, fitted_same, whole_passed}
use Rattle.theory_format.proofs.Length.{accepted_short}
use Rattle.theory_format.proofs.Spelling.{not_beyond, first_command}
use Rattle.std.specs.Prelude.{Result, Ok, Err}
use Rattle.format.specs.declared.Refusal.{Refusal}
use Rattle.sheet_commands.specs.Step.{width, width_of, step_at}
use Rattle.sheet_commands.specs.Turn.{outcome_after}
use Rattle.sheet_commands.specs.declared.command.Command.{Command}
use Rattle.sheet_commands.specs.declared.command.Command.TheVariants.{Nodes, Tree, Dominance, Label, Differ, End}
use Rattle.sheet_commands.proofs.Steps.{commands_step}
use Rattle.sheet_nodes.specs.Table.{Empty, NodeTable}
use Rattle.sheet_nodes.specs.Hold.{Holding, goes_on, tree_with, symbols_with}
use Rattle.sheet_nodes.proofs.Holds.{holding_none}

-- one command of a sheet that is accepted

abbrev said : List Edge → Bool → Labels
said symbols differ = record { form = Labelled; symbols = symbols; differ = differ }

module _ (s : Content) (n : ℕ) (t d m : List Edge) (differ : Bool) (rest : List ℕ) where
  -- it is taken, and the commands after it go on with what it adds
  abbrev Onward : Command → Type 0
  Onward x = (d' : List Edge) × (differ' : Bool) × (commands n (tree_with t x) d' (said (symbols_with m x) differ') rest ≡ accepted s)

  step_on : (x : Command) → outcome_after n t d (said m differ) rest (Ok x) ≡ accepted s → goes_on x ≡ true → Onward x
  unfolding outcome_after
  step_on (Nodes k) e on = absurd (not_refused CommandRefusal s e)
  step_on (Tree p c) e on =
      let a = passed (beyond n p c) Range _ s e in
      (d, differ, (passed (eqb p c || entered t c) TreeRefusal _ s a.1).1)
  step_on (Dominance l r) e on =
      let a = passed (beyond n l r) Range _ s e in
      by_bool (among d l r)
      (λ (z : among d l r ≡ true). (d, differ, rw z at a.1))
      (λ (z : among d l r ≡ false). ((l, r) ∷ d, differ, (passed (leb 255 (different d)) TooMany _ s (rw z at a.1)).1))
  step_on (Label p x) e on = (d, differ, (passed (leb n p) Range _ s e).1)
  step_on Differ e on = (d, true, e)
  step_on End e on = absurd (false≢true on)

  -- it is the end: the table has room for every node of a sheet that is accepted
  step_end : n ≤ 128 → (x : Command) → outcome_after n t d (said m differ) rest (Ok x) ≡ accepted s → goes_on x ≡ false
      → s ≡ says (record { nodes = n; tree = t; dominance = d }) (said m differ)
  unfolding outcome_after
  step_end few (Nodes k) e stop = absurd (not_refused CommandRefusal s e)
  step_end few (Tree p c) e stop =
      let b = not_beyond n p c (passed (beyond n p c) Range _ s e).0 in
      absurd (true≢false (rw (lt-ltb p 128 (omega (arith, b.0)), lt-ltb c 128 (omega (arith, b.1))) at stop))
  step_end few (Dominance l r) e stop = absurd (true≢false stop)
  step_end few (Label p x) e stop =
      let b = leb-false n p (passed (leb n p) Range _ s e).0 in
      absurd (true≢false (rw (lt-ltb p 128 (omega arith)) at stop))
  step_end few Differ e stop = absurd (true≢false stop)
  step_end few End e stop =
      let g : Graph = record { nodes = n; tree = t; dominance = d } in
      fitted_same g (said m differ) s (whole_passed g (said m differ) s e).3

-- before the bytes bs: what the commands passed have read, and what those to come make of it
pub record Reading (s : Content) (bs table : List ℕ) (l : NodeSet) : Type 0 where
  pub nodes : ℕ
  pub tree : List Edge
  pub dominance : List Edge
  pub symbols : List Edge
  pub differ : Bool
  pub few : nodes ≤ 128
  pub comes_to : commands nodes tree dominance (said symbols differ) bs ≡ accepted s
  pub holding : Holding tree symbols table l

begin : (bs : List ℕ) (s : Content) → all_commands Labelled bs ≡ accepted s → (table : List ℕ) (l : NodeSet) → Holding [] [] table l → Reading s (drop 2 bs) table l
unfolding all_commands
begin [] s e table l holding = absurd (not_refused Missing s e)
begin (b ∷ []) s e table l holding = absurd (not_refused (cond (eqb b 1) Missing CommandRefusal) s e)
begin (b ∷ n ∷ rest) s e table l holding =
    let a = first_command Labelled b n rest s e in
    record {
      nodes = n;
      tree = [];
      dominance = [];
      symbols = [];
      differ = false;
      few = a.2;
      comes_to = a.3;
      holding = holding;
    }

-- at an offset past the first command
pub record Walked (sheet : List ℕ) (at : ℕ) (table : List ℕ) (l : NodeSet) : Type 0 where
  pub past : 0 < at
  pub long : length table ≡ 512
  pub reading : (s : Content) → outcome_of Labelled sheet ≡ accepted s → Reading s (drop at sheet) table l

module _ (sheet : List ℕ) where
  pub walked_none : (table : List ℕ) → Empty table → (l : NodeSet) → EmptySet l → Walked sheet 2 table l
  walked_none table blank l empty =
      record {
        past = omega arith;
        long = blank.long;
        reading = λ s e. begin sheet s (accepted_short Labelled sheet s e).1 table l (holding_none table blank l empty);
      }

  module _ {at : ℕ} {table : List ℕ} {l : NodeSet} (w : Walked sheet at table l) where
    -- what the command makes of it, with those after it
    step : (s : Content) (r : Reading s (drop at sheet) table l) (x : Result Command Refusal) → x ≡ step_at Labelled sheet at
        → outcome_after r.nodes r.tree r.dominance (said r.symbols r.differ) (drop (at + width_of x) sheet) x ≡ accepted s
    step s r x e =
        let later = ne_eqb at 0 (λ q. omega (arith, w.past)) in
        rw (e, ← drop-drop) (sym (commands_step r.nodes r.tree r.dominance (said r.symbols r.differ) (drop at sheet) ∙ rw later) ∙ r.comes_to)

    -- a sheet that is accepted has no command that is refused
    pub walked_refused : (why : Refusal) → Err why ≡ step_at Labelled sheet at → (s : Content) → outcome_of Labelled sheet ≡ accepted s → NodeTable s table l
    unfolding outcome_after
    walked_refused why e s out = absurd (not_refused why s (step s (w.reading s out) (Err why) e))

    module _ (x : Command) (e : Ok x ≡ step_at Labelled sheet at) where
      pub walked_over : goes_on x ≡ false → (s : Content) → outcome_of Labelled sheet ≡ accepted s → NodeTable s table l
      walked_over stop s out =
          let r = w.reading s out in
          let over : s ≡ says (record { nodes = r.nodes; tree = r.tree; dominance = r.dominance }) (said r.symbols r.differ) =
          step_end s r.nodes r.tree r.dominance r.symbols r.differ (drop (at + width x) sheet) r.few x (step s r (Ok x) e) stop in
          subst (λ (y : Content). NodeTable y table l) (sym over)
          (record {
            long = w.long;
            labelled_are = r.holding.labelled_are;
            symbol_is = r.holding.symbol_is;
            child_is = r.holding.child_is;
          })

      pub walked_on : goes_on x ≡ true → {table' : List ℕ} {l' : NodeSet} → length table' ≡ 512
          → ((t m : List Edge) → Holding t m table l → Holding (tree_with t x) (symbols_with m x) table' l') → Walked sheet (at + width x) table' l'
      walked_on on long with_it =
          record {
            past = omega (arith, w.past);
            long = long;
            reading = λ s out.
                let r = w.reading s out in
                let o = step_on s r.nodes r.tree r.dominance r.symbols r.differ (drop (at + width x) sheet) x (step s r (Ok x) e) on in
                record {
                  nodes = r.nodes;
                  tree = tree_with r.tree x;
                  dominance = o.0;
                  symbols = symbols_with r.symbols x;
                  differ = o.1;
                  few = r.few;
                  comes_to = o.2;
                  holding = with_it r.tree r.symbols r.holding;
                };
          }
