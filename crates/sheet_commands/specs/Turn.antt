-- One command taken: the answer, and the value that holds the edges read so far.
use Rattle.std.specs.Prelude.{ℕ, ◌+◌, ◌≤◌, ◌≡◌, List, [], ◌∷◌, cond, not, ◌||◌, ◌&&◌, eqb, leb, get_or, set, length, Result, Ok, Err, OnOk}
use Rattle.graph.specs.Graph.{Edge, among, different, entered, none}
use Rattle.base_tables.specs.Rows.{in_row}
use Rattle.base_tables.specs.Tables.{Holds}
use Rattle.base_tables.specs.declared.Graph.{Graph}
use Rattle.format.specs.Sheet.{Labels, Outcome, labelling, differing, refused, beyond, pick, whole, commands}
use Rattle.format.specs.declared.Refusal.{Refusal}
use Rattle.format.specs.declared.Refusal.TheVariants.{Command as CommandRefusal, Range, Tree as TreeRefusal, TooMany}
use Rattle.sheet_commands.specs.Labels.{gathered, gathered_after}
use Rattle.sheet_commands.specs.declared.command.Command.{Command}
use Rattle.sheet_commands.specs.declared.command.Command.TheVariants.{Nodes, Tree, Dominance, Label, Differ, End}

-- the first command: 3
abbrev pub begun : Command → Result ℕ Refusal
begun (Nodes n) = cond (leb 1 n && leb n 128) (Ok n) (Err Range)
begun (Tree p c) = Err CommandRefusal
begun (Dominance l r) = Err CommandRefusal
begun (Label p s) = Err CommandRefusal
begun Differ = Err CommandRefusal
begun End = Err CommandRefusal

-- the value holds no edge
abbrev pub Blank : Graph → Type 0
Blank g = (n : ℕ) → Holds n [] [] g.parent g.heads g.edges

-- a node's number: 3
abbrev pub node_answer : ℕ → ℕ → Result ℕ Refusal
node_answer n v = cond (leb n v) (Err Range) (Ok v)

-- the tree edge from p to c: 3, then 4
abbrev pub tree_answer : Graph → ℕ → ℕ → Result Unit Refusal
tree_answer g p c =
    cond (beyond g.n p c) (Err Range) (cond (eqb p c || not (eqb (get_or g.parent c 0) none)) (Err TreeRefusal) (Ok tt))

-- the dominance edge from l to r: 3, then 8 for one that is new
abbrev pub dominance_answer : Graph → ℕ → ℕ → Result Unit Refusal
dominance_answer g l r =
    cond (beyond g.n l r)
    (Err Range)
    (cond (in_row g.heads l r) (Ok tt) (cond (leb 255 g.edges) (Err TooMany) (Ok tt)))

-- where the tree edge was taken, the parent table has it
abbrev pub TreeAfter : ℕ → ℕ → Result Unit Refusal → Graph → Graph → Type 0
TreeAfter p c r g g' = OnOk r (g' ≡ record { n = g.n; parent = set g.parent c p; heads = g.heads; edges = g.edges })

-- where the dominance edge was taken, the sets of roots have it, also where they had it before
pub record HeadsTaken (l r : ℕ) (g g' : Graph) : Type 0 where
  pub nodes : g'.n ≡ g.n
  pub parents : g'.parent ≡ g.parent
  pub long : length g'.heads ≡ length g.heads
  pub heads : (a b : ℕ) → in_row g'.heads a b ≡ (eqb l a && eqb r b || in_row g.heads a b)
  pub edges : g'.edges ≡ cond (in_row g.heads l r) g.edges (g.edges + 1)

abbrev pub HeadsAfter : ℕ → ℕ → Result Unit Refusal → Graph → Graph → Type 0
HeadsAfter l r x g g' = OnOk x (HeadsTaken l r g g')

-- what `commands` makes of a command or a refusal, with the bytes after it
unfoldable pub outcome_after : ℕ → List Edge → List Edge → Labels → List ℕ → Result Command Refusal → Outcome
outcome_after n t d m rest (Ok (Nodes k)) = refused CommandRefusal
outcome_after n t d m rest (Ok (Tree p c)) =
    cond (beyond n p c) (refused Range) (cond (eqb p c || entered t c) (refused TreeRefusal) (commands n ((p, c) ∷ t) d m rest))
outcome_after n t d m rest (Ok (Dominance l r)) =
    cond (beyond n l r)
    (refused Range)
    (pick (among d l r) (λ _. commands n t d m rest) (λ _. cond (leb 255 (different d)) (refused TooMany) (commands n t ((l, r) ∷ d) m rest)))
outcome_after n t d m rest (Ok (Label p s)) = cond (leb n p) (refused Range) (commands n t d (labelling m p s) rest)
outcome_after n t d m rest (Ok Differ) = commands n t d (differing m) rest
outcome_after n t d m rest (Ok End) = whole (record { nodes = n; tree = t; dominance = d }) m
outcome_after n t d m rest (Err why) = refused why

-- the commands up to some offset: a value that holds what they write, which more commands follow or none, or the refusal
pub data Run : Type 0 where
  going : Graph → Run
  ended : Graph → Run
  stopped : Refusal → Run

-- What a run with the outcome o, and with the labels l in the end, has come to, before the bytes bs: a graph and labels so far, the
-- whole graph, or the refusal.
unfoldable pub Reached : Labels → Outcome → List ℕ → Run → Type 0
Reached l o bs (going g) =
    (t : List Edge) × (d : List Edge) × (m : Labels) × (g.n ≤ 128) × (o ≡ commands g.n t d m bs) × (l ≡ gathered m bs) × Holds g.n t d g.parent g.heads g.edges
Reached l o bs (ended g) =
    (t : List Edge) × (d : List Edge) × (g.n ≤ 128) × (o ≡ whole (record { nodes = g.n; tree = t; dominance = d }) l) × Holds g.n t d g.parent g.heads g.edges
Reached l o bs (stopped why) = o ≡ refused why

-- a command that was taken goes on or ends
abbrev pub taken : Command → Graph → Run
taken (Nodes k) g = going g
taken (Tree p c) g = going g
taken (Dominance l r) g = going g
taken (Label p s) g = going g
taken Differ g = going g
taken End g = ended g

abbrev pub run_of : Command → Result Unit Refusal → Graph → Run
run_of command (Ok x) g = taken command g
run_of command (Err why) g = stopped why

-- What a turn comes to, whatever edges the value holds, whatever was said of labels, and whatever bytes follow the command.
abbrev pub Turned : Command → Graph → Result Unit Refusal → Graph → Type 0
Turned command g r g' =
    (t d : List Edge) (m : Labels) (rest : List ℕ) → Holds g.n t d g.parent g.heads g.edges
    → Reached (gathered_after m rest (Ok command)) (outcome_after g.n t d m rest (Ok command)) rest (run_of command r g')
