-- The pages of a whole run, one after the other, and what each of them promises.
use Rattle.std.specs.Prelude.{ℕ, ◌≤◌, ◌<◌, min, ◌≡◌, List, [], ◌∷◌, ◌++◌, ◌⊎◌, length, take, cond, ltb, Some, None, IsSome, Ok, Err}
use Rattle.base_nodeset.specs.declared.NodeSet.{NodeSet}
use Rattle.graph.specs.Graph.{Graph}
use Rattle.graph.specs.Order.{limit, count_answer}
use Rattle.format.specs.Sheet.{outcome}
use Rattle.format.specs.Text.{count_line, judged}
use Rattle.theory_list.specs.Readings.{listed}
use Rattle.base_tables.specs.Trees.{Owners, Fits}
use Rattle.solve_stretch.specs.Stretch.{placings, Goes}
use Rattle.show_page.specs.Pages.{lines}
use Rattle.show_input.specs.Input.{Shows, Ready, ComesTo}
use Rattle.show_input.specs.declared.Input.{Input}
use Rattle.show_list.specs.declared.Page.{Page}
use Rattle.show_list.specs.declared.Rest.{Rest}
use Rattle.solve_levels.specs.Decisions.{Trail}

-- the list of g is printed up to the number `done`; the placings after the first `passed` are at hand, and the walk stands at the
-- reading after them, if there is one
pub record AtHand (g : Graph) (p : Rest) (states : List NodeSet) (trail : Trail) (held : List ℕ) : Type 0 where
  pub table : Owners p.trees
  pub fits : Fits g p.trees
  pub from : p.passed ≤ p.done
  pub to : p.done ≤ p.stop.last
  pub within : p.stop.last ≤ min (length (listed g)) limit
  pub rest : List ℕ
  pub placed : held ≡ placings (listed g) p.passed p.stop.last ++ rest
  pub goes : Goes g trail states p.stop
  pub numbered : IsSome p.stop.next → p.stop.last < limit

-- so, and the list is longer
pub record Underway (g : Graph) (p : Rest) (states : List NodeSet) (trail : Trail) (held : List ℕ) : Type 0 where
  pub at_hand : AtHand g p states trail held
  pub on : IsSome p.stop.next ⊎ (p.done < p.stop.last)

-- after a page: the list of g is printed up to the number k, and is underway if another page follows, or else k is its last number
pub record Printed (g : Graph) (k : ℕ) (p : Page) (states : List NodeSet) (trail : Trail) (held : List ℕ) : Type 0 where
  pub on : (rest : Rest) → p.next ≡ Some rest → (rest.done ≡ k) × Underway g rest states trail held
  pub ended : p.next ≡ None → k ≡ min (length (listed g)) limit

-- line 1 of the list, and another page follows
pub record Begins (g : Graph) (old : List ℕ) (r : Page) (states : List NodeSet) (trail : Trail) (held new : List ℕ) : Type 0 where
  pub some : 0 < length (listed g)
  pub shown : Shows (count_line (count_answer (length (listed g)))) old r.bytes new
  pub more : IsSome r.next
  pub start : r.done ≡ 0
  pub printed : Printed g 0 r states trail held

-- a further page of the list of g: one or more of the lines after those that are printed. Where it ends is left open: document 01 does
-- not speak of pages.
pub record NextPage (g : Graph) (p : Rest) (old : List ℕ) (r : Page) (states : List NodeSet) (trail : Trail) (held new : List ℕ) : Type 0 where
  pub to : ℕ
  pub shown : Shows (lines g p.done to) old r.bytes new
  pub further : p.done < to
  pub within : to ≤ min (length (listed g)) limit
  pub printed : Printed g to r states trail held

-- after how many readings the placings begin that are at hand for the page after p: those of before or, where all of these are printed,
-- those that come next
abbrev pub first_at_hand : Rest → ℕ
first_at_hand p = cond (ltb p.done p.stop.last) p.passed p.done

-- what is at hand after the last page r, which went on from p
abbrev pub last_at_hand : Rest → Page → Rest
last_at_hand p r = record { done = r.done; passed = first_at_hand p; stop = record { last = r.done; next = None }; trees = p.trees }

-- what `next_page` promises: such a page, which tells where it ends; and where no other follows it, what is at hand then
pub record Continues (g : Graph) (p : Rest) (old : List ℕ) (r : Page) (states : List NodeSet) (trail : Trail) (held new : List ℕ) : Type 0 where
  pub page : NextPage g p old r states trail held new
  pub told : page.to ≡ r.done
  pub at_hand : r.next ≡ None → AtHand g (last_at_hand p r) states trail held

-- What a run has after a page, in the memory that it lends.
pub record State : Type 0 where
  pub page : Page
  pub states : List NodeSet
  pub trail : Trail
  pub held : List ℕ
  pub out : List ℕ

-- what is handed to the system
abbrev pub shown_by : State → List ℕ
shown_by s = take s.page.bytes s.out

-- the pages after the one that s has, until none follows: each a `NextPage`, as `next_page` promises them
pub data Pages : State → List (List ℕ) → Type 0 where
  ended : {s : State} → s.page.next ≡ None → Pages s []
  further : {s : State} (t : State) {texts : List (List ℕ)} (rest : Rest) → s.page.next ≡ Some rest
      → ((g : Graph) → Underway g rest s.states s.trail s.held → NextPage g rest s.out t.page t.states t.trail t.held t.out)
      → Pages t texts → Pages s (shown_by t ∷ texts)

-- the pages of a run on this input: the line of a refusal, as `read_input` promises it, or the first page, as `first_page` promises
-- it, and those after it
pub data Run (input : List ℕ) : List (List ℕ) → Type 0 where
  refusal : {old new : List ℕ} (bytes : ℕ) → ComesTo old (Err bytes) new (outcome (judged input)) → Run input (take bytes new ∷ [])
  list : {old new : List ℕ} (i : Input) → ComesTo old (Ok i) new (outcome (judged input))
      → {out : List ℕ} (s : State) {texts : List (List ℕ)} → ((g : Graph) → Ready g i → Begins g out s.page s.states s.trail s.held s.out)
      → Pages s texts → Run input (shown_by s ∷ texts)
