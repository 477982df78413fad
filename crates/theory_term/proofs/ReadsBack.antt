-- Reading the written bytes back gives the term (02, Five), where its symbols are below a thousand; those of a sheet's term are bytes. What is
-- read over joined bytes is read over the first, then over the second: so a number is read digit by digit, and then its arguments, one after the
-- other behind the open bracket.
use Prim.Native.Nat.{ℕ, zero, suc, ◌+◌, ◌-◌, ◌*◌, ◌/◌, ◌%◌, ◌^◌, ◌<◌}
use mathlib.Core.Path.{◌≡◌, refl, sym, ap, subst, ◌∙◌}
use mathlib.Core.List.{List, [], ◌∷◌, ◌++◌}
use mathlib.Core.Bool.{true, false, ◌&&◌}
use native.Mathlib.Nat.{pow-suc, div-lt_iff_lt-mul}
use native.Mathlib.Omega.{arith}
use lib.Dec.{eqb, ltb}
use lib.ListN.{length, get_or}
use borrow.Author.Tests.{ne_eqb, lt-ltb}
use Rattle.base_finite.specs.Below.{select}
use Rattle.base_finite.proofs.Laws.{by_bool}
use Rattle.graph.specs.Graph.{root, none}
use Rattle.graph.specs.Placing.{at, hangs}
use Rattle.graph.specs.Term.{Term, Terms, node, nil, cons, constant}
use Rattle.format.specs.Sheet.{Labels, unlabelled, labelling, differing, Content, accepted, outcome_of, children, labelled, symbol, SheetCommand, tree_edge, dominance_edge, label, differ, spelt, labels_of, sheet}
use Rattle.format.specs.Text.{digits, decimal}
use Rattle.format.specs.Term.{each, nested, carrying, topmost, term_at, term, text, arguments, others, Read, snoc, read_byte, read_bytes, read_back}
use Rattle.format.specs.declared.Form.TheVariants.{Labelled}
use Rattle.theory_format.proofs.Spelling.{accepted_spells}

-- every symbol of the term is below a thousand
unfoldable mutual
  pub Small : Term → Type 0
  Small (node f ts) = (f < 1000) × AllSmall ts

  pub AllSmall : Terms → Type 0
  AllSmall nil = Unit {0}
  AllSmall (cons t ts) = Small t × AllSmall ts

-- bytes

read_joined : (r : Read) (xs ys : List ℕ) → read_bytes r (xs ++ ys) ≡ read_bytes (read_bytes r xs) ys
unfolding read_bytes
read_joined r [] ys = refl
read_joined r (x ∷ xs) ys = read_joined (read_byte r x) xs ys

read_digit : (os : List (ℕ × Terms)) (k d m : ℕ) → 10 * k + d ≡ m → read_byte (os, constant k) (48 + d) ≡ (os, constant m)
unfolding read_byte
read_digit os k d m e =
    let value : 48 + d - 48 ≡ d = omega arith in
    rw (ne_eqb (48 + d) 40 (λ q. omega arith), ne_eqb (48 + d) 44 (λ q. omega arith), ne_eqb (48 + d) 41 (λ q. omega arith), value, e)

-- numbers

-- a digit less
pub tenth_less : (n k : ℕ) → k < 10 ^ suc (suc n) → k / 10 < 10 ^ suc n
tenth_less n k h = (div-lt_iff_lt-mul {k = 10} (omega arith)).1 (rw (← pow-suc 10 (suc n)) h)

read_digits : (os : List (ℕ × Terms)) (n k : ℕ) → k < 10 ^ suc n → read_bytes (os, constant 0) (digits (suc n) k) ≡ (os, constant k)
unfolding digits read_bytes
read_digits os zero k h = rw (lt-ltb k 10 h) (read_digit os 0 k k (omega arith))
read_digits os (suc n) k h =
    by_bool (ltb k 10)
    (λ (e : ltb k 10 ≡ true). rw e (read_digit os 0 k k (omega arith)))
    (λ (e : ltb k 10 ≡ false).
    rw e
    (read_joined (os, constant 0) (digits (suc n) (k / 10)) ((48 + k % 10) ∷ [])
    ∙ ap (λ (r : Read). read_byte r (48 + k % 10)) (read_digits os n (k / 10) (tenth_less n k h))
    ∙ read_digit os (k / 10) (k % 10) k (omega arith)))

read_number : (os : List (ℕ × Terms)) (k : ℕ) → k < 1000 → read_bytes (os, constant 0) (decimal k) ≡ (os, constant k)
unfolding decimal
read_number os k h = read_digits os 19 k (omega arith)

-- brackets and commas

joined : Terms → Terms → Terms
joined nil vs = vs
joined (cons u us) vs = cons u (joined us vs)

joined_none : (us : Terms) → joined us nil ≡ us
unfolding joined
joined_none nil = refl
joined_none (cons u us) = rw (joined_none us)

joined_snoc : (us : Terms) (t : Term) (vs : Terms) → joined (snoc us t) vs ≡ joined us (cons t vs)
unfolding joined snoc
joined_snoc nil t vs = refl
joined_snoc (cons u us) t vs = rw (joined_snoc us t vs)

mutual
  unfolding text Small read_bytes read_byte joined snoc

  read_text : (t : Term) (os : List (ℕ × Terms)) → Small t → read_bytes (os, constant 0) (text t) ≡ (os, t)
  read_text (node f ts) os h =
      read_joined (os, constant 0) (decimal f) (arguments ts)
      ∙ ap (λ (r : Read). read_bytes r (arguments ts)) (read_number os f h.0)
      ∙ read_arguments ts os f h.1

  read_arguments : (ts : Terms) (os : List (ℕ × Terms)) (f : ℕ) → AllSmall ts → read_bytes (os, constant f) (arguments ts) ≡ (os, node f ts)
  read_arguments nil os f h = refl
  read_arguments (cons t ts) os f h =
      read_joined ((f, nil) ∷ os, constant 0) (text t) (others ts)
      ∙ ap (λ (r : Read). read_bytes r (others ts)) (read_text t ((f, nil) ∷ os) h.0)
      ∙ read_others ts os f nil t h.1

  -- t is the last argument so far, and us are those before it
  read_others : (ts : Terms) (os : List (ℕ × Terms)) (f : ℕ) (us : Terms) (t : Term) → AllSmall ts → read_bytes ((f, us) ∷ os, t) (others ts) ≡ (os, node f (joined (snoc us t) ts))
  read_others nil os f us t h = rw (joined_none (snoc us t))
  read_others (cons u ts) os f us t h =
      read_joined ((f, snoc us t) ∷ os, constant 0) (text u) (others ts)
      ∙ ap (λ (r : Read). read_bytes r (others ts)) (read_text u ((f, snoc us t) ∷ os) h.0)
      ∙ read_others ts os f (snoc us t) u h.1
      ∙ rw (joined_snoc (snoc us t) u ts)

pub reads_back : (t : Term) → Small t → read_back (text t) ≡ t
unfolding read_back
reads_back t h = ap (λ (r : Read). r.1) (read_text t [] h)

-- small terms

module _ (f : ℕ → Term) (each_small : (v : ℕ) → Small (f v)) where
  all_small : (vs : List ℕ) → AllSmall (each f vs)
  unfolding each Small
  all_small [] = tt
  all_small (v ∷ vs) = (each_small v, all_small vs)

  nested_small : (r : ℕ) (rs : List ℕ) → Small (nested f r rs)
  unfolding nested Small
  nested_small r [] = each_small r
  nested_small r (s ∷ rs) = (omega arith, (each_small r, (nested_small s rs, tt)))

  carrying_small : (rs : List ℕ) → Small (carrying f rs)
  unfolding carrying Small
  carrying_small [] = (omega arith, tt)
  carrying_small (r ∷ []) = (omega arith, (each_small r, ((omega arith, tt), tt)))
  carrying_small (r ∷ s ∷ rs) = nested_small r (s ∷ rs)

  topmost_small : (rs : List ℕ) → Small (topmost f rs)
  unfolding topmost Small
  topmost_small [] = (omega arith, tt)
  topmost_small (r ∷ rs) = nested_small r rs

module _ (s : Content) (p : List ℕ) (few : (v : ℕ) → labelled s.labels.symbols v ≡ true → symbol s.labels.symbols v < 1000) where
  term_at_small : (k v : ℕ) → Small (term_at k s p v)
  unfolding term_at Small
  term_at_small zero v = (omega arith, tt)
  term_at_small (suc k) v =
      by_bool (labelled s.labels.symbols v)
      (λ (e : labelled s.labels.symbols v ≡ true). rw e (few v e, all_small (λ c. term_at k s p c) (term_at_small k) (children s.written.tree v)))
      (λ (e : labelled s.labels.symbols v ≡ false). rw e (carrying_small (λ r. term_at k s p r) (term_at_small k) (select s.graph.nodes (hangs s.graph p v))))

  term_small : Small (term s p)
  unfolding term
  term_small =
      topmost_small (λ r. term_at s.graph.nodes s p r) (term_at_small s.graph.nodes) (select s.graph.nodes (λ r. root s.graph r && eqb (at p r) none))

-- symbols are bytes

abbrev AllBytes : List ℕ → Type 0
AllBytes bs = (i : ℕ) → i < length bs → get_or bs i 0 < 256

three_less : (a b c : ℕ) (bs : List ℕ) → AllBytes (a ∷ b ∷ c ∷ bs) → AllBytes bs
three_less a b c bs h i l = h (suc (suc (suc i))) (omega arith)

abbrev SmallSymbols : Labels → Type 0
SmallSymbols m = (v : ℕ) → symbol m.symbols v < 256

one_label_more : (m : Labels) (p x : ℕ) → x < 256 → SmallSymbols m → SmallSymbols (labelling m p x)
unfolding symbol
one_label_more m p x h before v = by_bool (eqb p v) (λ (e : eqb p v ≡ true). rw e h) (λ (e : eqb p v ≡ false). rw e (before v))

labels_small : (m : Labels) (cs : List SheetCommand) → AllBytes (spelt cs) → SmallSymbols m → SmallSymbols (labels_of m cs)
unfolding spelt labels_of
labels_small m [] h before = before
labels_small m (tree_edge p c ∷ cs) h before = labels_small m cs (three_less 2 p c (spelt cs) h) before
labels_small m (dominance_edge l r ∷ cs) h before = labels_small m cs (three_less 3 l r (spelt cs) h) before
labels_small m (label p x ∷ cs) h before = labels_small (labelling m p x) cs (three_less 5 p x (spelt cs) h) (one_label_more m p x (h 2 (omega arith)) before)
labels_small m (differ ∷ cs) h before = labels_small (differing m) cs (λ i l. h (suc i) (omega arith)) before

pub symbol_small : (bs : List ℕ) (s : Content) → outcome_of Labelled bs ≡ accepted s → ((i : ℕ) → i < length bs → get_or bs i 0 < 256) → (v : ℕ) → symbol s.labels.symbols v < 256
unfolding sheet symbol
symbol_small bs s e h =
    let a = accepted_spells Labelled bs s e in
    let read : AllBytes (1 ∷ s.written.nodes ∷ spelt a.commands) = subst AllBytes a.bytes h in
    subst SmallSymbols (sym a.labels_said) (labels_small (unlabelled Labelled) a.commands (λ i l. read (suc (suc i)) (omega arith)) (λ v. omega arith))

-- the bytes of a placing's term, read back, are the term
pub term_reads_back : (bs : List ℕ) (s : Content) → outcome_of Labelled bs ≡ accepted s → ((i : ℕ) → i < length bs → get_or bs i 0 < 256) → (p : List ℕ)
    → read_back (text (term s p)) ≡ term s p
term_reads_back bs s e h p = reads_back (term s p) (term_small s p (λ v _. omega (arith, symbol_small bs s e h v)))
