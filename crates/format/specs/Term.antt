-- A reading of a labelled sheet as a term, built as in the proof of document 000, Lemma 3.6; its bytes, and how they are read back (02,
-- Five).
use Rattle.std.specs.Prelude.{ℕ, zero, suc, ◌+◌, ◌-◌, ◌*◌, List, [], ◌∷◌, ◌++◌, cond, ◌&&◌, eqb}
use Rattle.base_finite.specs.Below.{select}
use Rattle.graph.specs.Graph.{root, none}
use Rattle.graph.specs.Placing.{at, hangs}
use Rattle.graph.specs.Term.{Term, Terms, node, nil, cons, constant}
use Rattle.format.specs.Sheet.{Content, children, labelled, symbol}
use Rattle.format.specs.Text.{decimal}

-- "the two-place symbol 128", and "the constant 0"
abbrev pub both : Term → Term → Term
both t u = node 128 (cons t (cons u nil))

abbrev pub filler : Term
filler = constant 0

-- the terms of nodes, in order
unfoldable pub each : (ℕ → Term) → List ℕ → Terms
each f [] = nil
each f (v ∷ vs) = cons (f v) (each f vs)

-- "the lowest root comes first and the rest nest in the second place", of the root r and those after it
unfoldable pub nested : (ℕ → Term) → ℕ → List ℕ → Term
nested f r [] = f r
nested f r (s ∷ rs) = both (f r) (nested f s rs)

-- "a hole that carries fragments becomes a node of the two-place symbol 128, lower root first, filled out with the constant 0"; "A hole
-- carrying nothing becomes the constant 0."
unfoldable pub carrying : (ℕ → Term) → List ℕ → Term
carrying f [] = filler
carrying f (r ∷ []) = both (f r) filler
carrying f (r ∷ s ∷ rs) = nested f r (s ∷ rs)

-- "several top fragments go under one new hole"; one needs none
unfoldable pub topmost : (ℕ → Term) → List ℕ → Term
topmost f [] = filler
topmost f (r ∷ rs) = nested f r rs

-- The term of the node v, where nodes stand k deep at most. A labelled node has its symbol and its children, in the order of their
-- commands; another is a hole. "Added leaves are not written": they are children of no written node.
unfoldable pub term_at : ℕ → Content → List ℕ → ℕ → Term
term_at zero s p v = filler
term_at (suc k) s p v =
    cond (labelled s.labels.symbols v)
    (node (symbol s.labels.symbols v) (each (λ c. term_at k s p c) (children s.written.tree v)))
    (carrying (λ r. term_at k s p r) (select s.graph.nodes (hangs s.graph p v)))

-- The term of a placing. Fewer than `nodes` nodes stand above another in a forest.
unfoldable pub term : Content → List ℕ → Term
term s p = topmost (λ r. term_at s.graph.nodes s p r) (select s.graph.nodes (λ r. root s.graph r && eqb (at p r) none))

-- "Labels are written as numbers, children in order in round brackets with commas, constants bare"
unfoldable mutual
  pub text : Term → List ℕ
  text (node f ts) = decimal f ++ arguments ts

  pub arguments : Terms → List ℕ
  arguments nil = []
  arguments (cons t ts) = 40 ∷ text t ++ others ts

  -- what follows an argument
  pub others : Terms → List ℕ
  others nil = 41 ∷ []
  others (cons t ts) = 44 ∷ text t ++ others ts

-- Reading back. What has been read: the nodes whose bracket is open, the innermost first, each with its symbol and the terms below it so far;
-- and the term that is being read.
abbrev pub Read : Type 0
Read = List (ℕ × Terms) × Term

-- the terms, and one after them
unfoldable pub snoc : Terms → Term → Terms
snoc nil t = cons t nil
snoc (cons u us) t = cons u (snoc us t)

-- a comma: the term is one of the innermost open node's, and another begins
abbrev pub next : List (ℕ × Terms) → Term → Read
next [] t = ([], t)
next (o ∷ os) t = ((o.0, snoc o.1 t) ∷ os, constant 0)

-- a closing bracket: the term is the last of the innermost open node
abbrev pub closed : List (ℕ × Terms) → Term → Read
closed [] t = ([], t)
closed (o ∷ os) t = (os, node o.0 (snoc o.1 t))

-- an opening bracket, or a digit
abbrev pub opened : List (ℕ × Terms) → Term → Read
opened os (node f ts) = ((f, ts) ∷ os, constant 0)

abbrev pub digit : List (ℕ × Terms) → Term → ℕ → Read
digit os (node f ts) d = (os, node (10 * f + d) ts)

-- one byte more
unfoldable pub read_byte : Read → ℕ → Read
read_byte r b =
    cond (eqb b 40)
    (opened r.0 r.1)
    (cond (eqb b 44) (next r.0 r.1) (cond (eqb b 41) (closed r.0 r.1) (digit r.0 r.1 (b - 48))))

unfoldable pub read_bytes : Read → List ℕ → Read
read_bytes r [] = r
read_bytes r (b ∷ bs) = read_bytes (read_byte r b) bs

-- the term that the bytes spell
unfoldable pub read_back : List ℕ → Term
read_back bs = (read_bytes ([], constant 0) bs).1
