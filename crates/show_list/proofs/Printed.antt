-- The pages of a whole run, put together, are the printed list.
use Prim.Native.Nat.{ℕ, min}
use mathlib.Core.Path.{◌≡◌, sym, ap, subst, ◌∙◌}
use mathlib.Core.List.{List, ◌∷◌, ◌++◌, append-nil}
use native.Mathlib.Omega.{arith}
use lib.ListN.{length, take}
use Rattle.std.specs.Prelude.{Ok, Err}
use Rattle.base_finite.specs.Stores.{joined}
use Rattle.base_nodeset.specs.declared.NodeSet.{NodeSet}
use Rattle.graph.specs.Graph.{Graph}
use Rattle.graph.specs.Order.{limit, count_answer}
use Rattle.format.specs.Sheet.{Content, Outcome, refused, accepted, outcome}
use Rattle.format.specs.Text.{count_line, printed, judged, PrintedList, refusal as refused_line, no_reading as none_printed, readings}
use Rattle.theory_format.proofs.Length.{judged_tells}
use Rattle.theory_list.specs.Readings.{listed}
use Rattle.theory_list.proofs.Readings.{listing_exists}
use Rattle.show_input.specs.Input.{Ready, ComesTo}
use Rattle.show_input.specs.declared.Input.{Input}
use Rattle.show_input.proofs.Comes.{shown_is}
use Rattle.show_page.specs.Pages.{lines}
use Rattle.show_list.specs.Run.{Underway, Printed, Begins, State, shown_by, Pages, ended, further, Run, refusal as refusal_run, list as list_run}
use Rattle.show_list.specs.declared.Page.{Page}
use Rattle.show_list.specs.declared.Rest.{Rest}
use Rattle.show_list.proofs.Underway.{some_there}
use Rattle.show_page.proofs.Texts.{lines_none, lines_join, printed_is}
use Rattle.solve_levels.specs.Decisions.{Trail}

-- the pages from some number on are the lines from there on
rest_printed : (g : Graph) (k : ℕ) (s : State) (texts : List (List ℕ)) → Printed g k s.page s.states s.trail s.held → Pages s texts
    → joined texts ≡ lines g k (min (length (listed g)) limit)
unfolding joined
rest_printed g k s _ u (ended e) = sym (ap (lines g k) (sym (u.ended e)) ∙ lines_none g k)
rest_printed g k s _ u (further t {texts} rest e call p) =
    let here = u.on rest e in
    let n = call g here.1 in
    ap (λ (ls : List ℕ). ls ++ joined texts) (shown_is _ _ _ _ n.shown)
    ∙ ap (λ (ls : List ℕ). lines g rest.done n.to ++ ls) (rest_printed g n.to t texts n.printed p)
    ∙ lines_join g rest.done n.to (min (length (listed g)) limit) (omega (arith, n.further)) n.within (omega arith)
    ∙ ap (λ (i : ℕ). lines g i (min (length (listed g)) limit)) here.0

-- a refusal's line, of the sheet or of the sentence
refused_printed : (o : Outcome) {old new : List ℕ} (bytes : ℕ) → ComesTo old (Err bytes) new o → PrintedList o (take bytes new)
refused_printed (refused why) bytes (ComesTo.refusal f) =
    let same : bytes ≡ f.bytes = cc (f.is) in
    rw same (subst (PrintedList (refused why)) (sym (shown_is _ _ _ _ f.shown)) (refused_line why))
refused_printed (accepted s) bytes (ComesTo.no_reading none f) =
    let same : bytes ≡ f.bytes = cc (f.is) in
    rw same (subst (PrintedList (accepted s)) (sym (shown_is _ _ _ _ f.shown)) (none_printed none))
refused_printed (accepted s) bytes (ComesTo.ready is b same) = let z : ◌≡◌ {A = ℕ} 0 1 = cc in absurd (omega arith)

-- what the list goes on from
begun : {g : Graph} {out new : List ℕ} {states : List NodeSet} {trail : Trail} {held : List ℕ} {r : Page} → Begins g out r states trail held new → (p : Rest) × Underway g p states trail held
begun {r = r} b = let rest = some_there r.next b.more in (rest.0, (b.printed.on rest.0 rest.1).1)

-- line 1 and the lines
list_printed : (x : Content) {out : List ℕ} (s : State) (texts : List (List ℕ)) → Begins x.graph out s.page s.states s.trail s.held s.out → Pages s texts
    → PrintedList (accepted x) (joined (shown_by s ∷ texts))
unfolding joined
list_printed x s texts b p =
    let g : Graph = x.graph in
    let all : joined (printed g (listed g)) ≡ joined (shown_by s ∷ texts) =
    printed_is g
    ∙ sym (ap (λ (ls : List ℕ). ls ++ joined texts) (shown_is _ _ _ _ b.shown)
    ∙ ap (λ (ls : List ℕ). count_line (count_answer (length (listed g))) ++ ls)
    (rest_printed g 0 s texts b.printed p)) in
    subst (PrintedList (accepted x)) all (readings (listed g) (listing_exists g (begun b).1.at_hand.fits.shaped) b.some)

pages_printed : (o : Outcome) {old new : List ℕ} (i : Input) → ComesTo old (Ok i) new o
    → {out : List ℕ} (s : State) (texts : List (List ℕ)) → ((g : Graph) → Ready g i → Begins g out s.page s.states s.trail s.held s.out) → Pages s texts
    → PrintedList o (joined (shown_by s ∷ texts))
pages_printed (refused why) i (ComesTo.refusal f) s texts call p = let z : ◌≡◌ {A = ℕ} 0 1 = cc (f.is) in absurd (omega arith)
pages_printed (accepted x) i (ComesTo.no_reading none f) s texts call p = let z : ◌≡◌ {A = ℕ} 0 1 = cc (f.is) in absurd (omega arith)
pages_printed (accepted x) i (ComesTo.ready {i = j} is b same) s texts call p =
    let one : j ≡ i = cc in
    list_printed x s texts (call x.graph (subst (Ready x.graph) one b)) p

-- "The printed list", of any input: a refusal's line, or line 1 and a line for each reading with a number
pub run_printed : (input : List ℕ) (texts : List (List ℕ)) → Run input texts → PrintedList (outcome input) (joined texts)
unfolding joined
run_printed input texts run = subst (λ (o : Outcome). PrintedList o (joined texts)) (judged_tells input) (of_judged texts run)
  where
    of_judged : (ts : List (List ℕ)) → Run input ts → PrintedList (outcome (judged input)) (joined ts)
    of_judged _ (refusal_run {new = new} bytes f) =
        subst (PrintedList (outcome (judged input))) (sym (append-nil (take bytes new))) (refused_printed (outcome (judged input)) bytes f)
    of_judged _ (list_run i f s call p) = pages_printed (outcome (judged input)) i f s _ call p
