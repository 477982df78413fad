-- From what the parts say to what the calls answer, on the tables of a well-formed sheet.
use Prim.Native.Nat.{ℕ, ◌+◌, ◌-◌, ◌*◌, ◌≤◌, ◌<◌}
use mathlib.Core.Path.{◌≡◌, refl, sym, ap, subst, ◌∙◌}
use mathlib.Core.List.{List, ◌++◌, append_assoc}
use mathlib.Core.Bool.{Bool, true, false}
use mathlib.Core.Logic.{◌⊎◌, inl, inr, ⊎_elim}
use native.Mathlib.Omega.{arith, by_contra}
use lib.ListN.{length, take, drop, take-append-drop}
use lib.Seq.{take_at, drop_at, drop-append-le, length-take-le}
use Rattle.std.specs.Prelude.{Result, Ok, Err}
use Rattle.graph.specs.Graph.{Graph}
use Rattle.graph.specs.Placing.{SolvedForm, Solvable, Unsolvable}
use Rattle.graph.specs.Order.{Listing, entry, limit, count_answer}
use Rattle.graph.specs.Cycle.{hypernormal_cycle}
use Rattle.graph.specs.Rule1.{Rule1}
use Rattle.format.specs.Drawing.{drawing}
use Rattle.graph.specs.declared.Count.{Count}
use Rattle.format.specs.declared.Refusal.{Refusal}
use Rattle.format.specs.declared.Refusal.TheVariants.{NoReading as NoReadingRefusal, SmallBuffer, NoSuchReading}
use Rattle.theory_forest.specs.Shape.{Shaped}
use Rattle.theory_forest.proofs.Shape.{well_formed_shaped}
use Rattle.theory_forest.proofs.Forests.{placing_length}
use Rattle.theory_list.specs.Readings.{listed}
use Rattle.theory_list.proofs.Readings.{listing_exists, listing_unique, one_below}
use Rattle.base_nodeset.specs.declared.NodeSet.{NodeSet}
use Rattle.base_tables.specs.declared.Graph.{Graph as Value}
use Rattle.base_tables.specs.Tables.{Tables, SheetTables}
use Rattle.base_tables.specs.declared.trees.Trees.{Trees}
use Rattle.solve_walk.specs.States.{Walkable}
use Rattle.solve_cycle.specs.Thinning.{Unsolved}
use Rattle.solve_rule1.specs.Solved.{Solved}
use Rattle.solve_rule1.specs.Step.{Configured}
use Rattle.show_drawing.specs.Drawn.{Drawable}
use Rattle.show_drawing.specs.Drawn as text
use Rattle.check_placing.specs.Answered.{Answered}
use Rattle.check_placing.specs.declared.Answers.{Answers}
use Rattle.solve_numbered.specs.Numbered.{Finds}
use Rattle.solve_stretch.specs.Stretch as stretches
use Rattle.solve_stretch.specs.Stretch.{placings}
use Rattle.solve_stretch.proofs.Placings.{placings_one, placings_grow}
use Rattle.solve_start.specs.Started.{WalkableOf}
use Rattle.solve_answer.specs.Calls.{reach, Counts, ReadingCall, StretchCall, ConfigurationCall, Seeks, DrawingCall, PlacingCall}
use Rattle.solve_answer.specs.Calls as calls
use Rattle.solve_answer.specs.declared.Unplaced.{Unplaced}
use Rattle.solve_answer.specs.declared.Unplaced.TheVariants.{NoReading, Refused}
use Rattle.solve_answer.proofs.Texts.{sought_solved, text_drawn, drawing_from_text}

-- a graph with a solved form has a reading
pub some_listed : (g : Graph) → Shaped g → Solvable g → 0 < length (listed g)
some_listed g s f = let o = one_below g s f.0 f.1 in omega (arith, o.1)

-- where a reading is listed there is a solved form
pub has_none : {g : Graph} {ps : List (List ℕ)} → Unsolvable g → Listing g ps → 0 < length ps → ⊥
has_none {g} {ps} u l h = u (entry ps 0, (l.only_readings 0 h).solved)

-- there is one list, so that one number of readings can be handed out
pub reaches : {g : Graph} → Shaped g → {ps qs : List (List ℕ)} → Listing g ps → Listing g qs → reach ps ≡ reach qs
reaches {g} s l k = ap (λ (z : List (List ℕ)). reach z) (listing_unique g s l k)

-- a reading has a byte for each node
pub reading_long : {g : Graph} {ps : List (List ℕ)} → Listing g ps → (i : ℕ) → i < length ps → length (entry ps i) ≡ g.nodes
reading_long {g} {ps} l i h = placing_length g (entry ps i) (l.only_readings i h).solved.is_placing

-- a call that ends at k had room for no more, so that none of the same list ends later
pub no_later : {g : Graph} {ps : List (List ℕ)} → Listing g ps → {place : ℕ} (room k last : ℕ) → place < k → last ≤ reach ps → length (placings ps place last) ≤ room
    → (k ≡ reach ps) ⊎ (room < length (placings ps place k) + g.nodes) → last ≤ k
no_later l room k last from within fits (inl e) = omega (arith, within, e)
no_later {g} {ps} l {place} room k last from within fits (inr full) =
    by_contra last k (λ (t : k < last). omega (arith, full, fits, placings_grow ps g.nodes (reading_long l) place k (omega (arith, from)) last t (omega (arith, within))))

-- n bytes have room for one reading
one_reading : {g : Graph} → 0 < g.nodes → {place last : ℕ} {old new : List ℕ} {r : Result (Unit {0}) Unplaced} → StretchCall g g.nodes place old r last new → ReadingCall g place old r last new
one_reading h (calls.StretchCall.small f) = calls.ReadingCall.small f
one_reading h (calls.StretchCall.none {c} f u w) = calls.ReadingCall.none {c = c} f u w
one_reading h (calls.StretchCall.beyond ps f l some over) = calls.ReadingCall.beyond ps f l some over
one_reading {g} h {place} {last} {old} (calls.StretchCall.read ps f l from within fits full) =
    let first : place < length ps = omega (arith, from, within) in
    let alone : placings ps place (place + 1) ≡ entry ps place = placings_one ps place first in
    let long : length (entry ps place) ≡ g.nodes = reading_long l place first in
    let one : place + 1 ≡ last = omega (arith, from, no_later l g.nodes (place + 1) last (omega arith) within fits (inr (omega (arith, ap length alone, long, h)))) in
    subst (λ (k : ℕ). ReadingCall g place old (Ok tt) k (placings ps place k ++ drop (length (placings ps place k)) old)) one
    (rw (alone, long) (calls.ReadingCall.read ps f l (omega (arith, from, within))))

-- what is written into the first bytes alone is written into all
put_first : (l : List ℕ) (room : ℕ) (old : List ℕ) → length l ≤ length (take room old) → (l ++ drop (length l) (take room old)) ++ drop room old ≡ l ++ drop (length l) old
put_first l room old h =
    append_assoc l (drop (length l) (take room old)) (drop room old)
    ∙ ap (λ (m : List ℕ). l ++ m) (sym (drop-append-le (length l) (take room old) (drop room old) h) ∙ ap (drop (length l)) (take-append-drop room old))

-- what a call for reading 1 left that was not refused
record FirstRead (g : Graph) (old new : List ℕ) : Type 0 where
  pub readings : List (List ℕ)
  pub listing : Listing g readings
  pub some : 0 < length readings
  pub lent : 2 * g.nodes ≤ length old
  pub wrote : new ≡ entry readings 0 ++ drop g.nodes old

module _ {value : Value} (s : SheetTables value) where
  nodes : value.n ≡ s.graph.nodes
  nodes = s.tables.nodes

  shaped : Shaped s.graph
  shaped = well_formed_shaped s.tables.well_formed

  pub unsolved_tables : Unsolvable s.graph → Unsolved value
  unsolved_tables u = record { graph = s.graph; edges = s.edges; tables = s.tables; unsolvable = u }

  -- where no solved form is

  pub no_count : Unsolvable s.graph → Counts s.graph (Err NoReadingRefusal)
  no_count u = calls.Counts.none u

  pub small_call : (room place : ℕ) (old : List ℕ) → length old < 2 * value.n → StretchCall s.graph room place old (Err (Refused SmallBuffer)) place old
  small_call room place old h = calls.StretchCall.small (omega (arith, nodes, h))

  pub no_reading : (room place : ℕ) (old new : List ℕ) (c : ℕ) → 2 * value.n ≤ length old → Unsolvable s.graph → 2 * c ≤ 2 * value.n → length new ≡ length old
      → ((u : Unsolved value) → hypernormal_cycle u.graph (take (2 * c) new) ≡ true) → drop (2 * c) new ≡ drop (2 * c) old
      → StretchCall s.graph room place old (Err (NoReading c)) place new
  unfolding unsolved_tables
  no_reading room place old new c h u within long spelt rest =
      calls.StretchCall.none {c = c} (omega (arith, nodes, h)) u (record { fits = omega (arith, h, within); long = long; cycle = spelt (unsolved_tables u); rest = rest })

  pub none_to_seek : (k : ℕ) (placing : List ℕ) → Unsolvable s.graph → Seeks s.graph k placing (Err NoReadingRefusal)
  none_to_seek k placing u = calls.Seeks.none u

  -- where there is one

  module _ {t : Trees} {rows : List NodeSet} (x : WalkableOf s.graph t rows) where
    some : 0 < length (listed s.graph)
    some = some_listed s.graph shaped (subst Solvable x.is x.sheet.solvable)

    lists : Listing s.graph (listed s.graph)
    lists = listing_exists s.graph shaped

    pub a_count : (k : Count) → ((y : Walkable t rows) → k ≡ count_answer (length (listed y.walked.graph))) → Counts s.graph (Ok k)
    a_count k e =
        let here : k ≡ count_answer (length (listed s.graph)) = subst (λ (g : Graph). k ≡ count_answer (length (listed g))) x.is (e x.sheet) in
        subst (λ (m : Count). Counts s.graph (Ok m)) (sym here) (calls.Counts.counted (listed s.graph) lists some)

    -- of the first `room` bytes lent a stretch made `part`

    module _ {room place last : ℕ} (old : List ℕ) {part : List ℕ} (h : 2 * value.n ≤ length old) (below : room ≤ length old) (f : (y : Walkable t rows) → stretches.StretchOf y.walked.graph place (take room old) last part) where
      stretched : stretches.StretchOf s.graph place (take room old) last part
      stretched = subst (λ (g : Graph). stretches.StretchOf g place (take room old) last part) x.is (f x.sheet)

      enough : 2 * s.graph.nodes ≤ length old
      enough = omega (arith, nodes, h)

      lent : length (take room old) ≡ room
      lent = length-take-le room old below

      pub none_after : last ≡ place → StretchCall s.graph room place old (Err (Refused NoSuchReading)) place (part ++ drop room old)
      none_after e =
          ⊎_elim
          (λ (y : (reach (listed s.graph) ≤ place) × (last ≡ place) × (part ≡ take room old)).
          subst (StretchCall s.graph room place old (Err (Refused NoSuchReading)) place) (sym (ap (λ (l : List ℕ). l ++ drop room old) y.2 ∙ take-append-drop room old))
          (calls.StretchCall.beyond (listed s.graph) enough lists some y.0))
          (λ (y : stretches.Filled s.graph place (take room old) last part). absurd (omega (arith, y.some, e)))
          stretched

      pub read_after : (last ≡ place → ⊥) → StretchCall s.graph room place old (Ok tt) last (part ++ drop room old)
      read_after e =
          ⊎_elim
          (λ (y : (reach (listed s.graph) ≤ place) × (last ≡ place) × (part ≡ take room old)). absurd (e y.1))
          (λ (y : stretches.Filled s.graph place (take room old) last part).
          let ps : List (List ℕ) = listed s.graph in
          subst (StretchCall s.graph room place old (Ok tt) last) (sym (ap (λ (l : List ℕ). l ++ drop room old) y.bytes ∙ put_first (placings ps place last) room old y.fits))
          (calls.StretchCall.read ps enough lists y.some y.within (omega (arith, y.fits, lent))
          (subst (λ (k : ℕ). (last ≡ reach ps) ⊎ (k < length (placings ps place last) + s.graph.nodes)) lent y.full)))
          stretched

    pub no_such : (k : ℕ) (placing : List ℕ) → (k ≡ 0) ⊎ (limit < k) → Seeks s.graph k placing (Err NoSuchReading)
    no_such k placing (inl e) = calls.Seeks.beyond (listed s.graph) lists some (inl e)
    no_such k placing (inr e) = calls.Seeks.beyond (listed s.graph) lists some (inr (omega (arith, e)))

    -- the reading with the number k, in a table of its own

    module _ {k : ℕ} {blank placing : List ℕ} {b : Bool} (f : (y : Walkable t rows) → Finds y.walked.graph k blank b placing) where
      here : Finds s.graph k blank b placing
      here = subst (λ (g : Graph). Finds g k blank b placing) x.is (f x.sheet)

      pub not_found : b ≡ false → Seeks s.graph k placing (Err NoSuchReading)
      not_found e = calls.Seeks.beyond (listed s.graph) lists some (inr (let y = here.fewer e in omega (arith, y.0)))

      pub found_so : 1 ≤ k → k ≤ limit → b ≡ true → Seeks s.graph k placing (Ok tt)
      found_so one most e =
          let y = here.found e in
          let below : k - 1 < length (listed s.graph) = omega (arith, y.0) in
          let placed : take s.graph.nodes placing ≡ entry (listed s.graph) (k - 1) =
          ap (take s.graph.nodes) y.1 ∙ take_at (entry (listed s.graph) (k - 1)) (drop s.graph.nodes blank) s.graph.nodes (reading_long lists (k - 1) below) in
          calls.Seeks.found (listed s.graph) lists (omega (arith, one)) (omega (arith, most, y.0)) placed

  -- a reading that was found can be drawn

  pub drawable : {k : ℕ} {placing : List ℕ} {q : Result (Unit {0}) Refusal} → Seeks s.graph k placing q → q ≡ Ok tt → Drawable value.n value.parent placing
  drawable {k} {placing} y e =
      record {
        graph = s.graph;
        heads = value.heads;
        edges = s.edges;
        tables = s.tables;
        solved = subst (λ (m : ℕ). SolvedForm s.graph (take m placing)) (sym nodes) (sought_solved y e);
      }

  pub drawing_drawn : {k : ℕ} {placing : List ℕ} {q : Result (Unit {0}) Refusal} {old new : List ℕ} {m : ℕ} → 1024 ≤ length old → Seeks s.graph k placing q → q ≡ Ok tt
      → ((d : Drawable value.n value.parent placing) → text.Drawn (drawing d.graph (take value.n placing)) m old new) → DrawingCall s.graph k old (Ok m) new
  unfolding drawable
  drawing_drawn {k} {placing} {q} {old} {new} {m} h y e d =
      let t : text.Drawn (drawing s.graph (take s.graph.nodes placing)) m old new =
      subst (λ (j : ℕ). text.Drawn (drawing s.graph (take j placing)) m old new) nodes (d (drawable y e)) in
      drawing_from_text (text_drawn h y e t.long t.bytes)

  pub next_reading : {place last : ℕ} {old new : List ℕ} {r : Result (Unit {0}) Unplaced} → StretchCall s.graph value.n place old r last new → ReadingCall s.graph place old r last new
  next_reading {place} {last} {old} {new} {r} x =
      one_reading (omega (arith, s.tables.well_formed.some_nodes)) (subst (λ (k : ℕ). StretchCall s.graph k place old r last new) nodes x)

  -- the configuration, from the call for reading 1

  module _ {old new : List ℕ} {m : Result (Unit {0}) Unplaced} {place : ℕ} (x : ReadingCall s.graph 0 old m place new) where
    refused_too : (q : Result (Unit {0}) Unplaced) (i : ℕ) (left : List ℕ) {why : Unplaced} → q ≡ Err why → ReadingCall s.graph 0 old q i left → ConfigurationCall s.graph old q left
    refused_too q i left e (calls.ReadingCall.small h) = calls.ConfigurationCall.small h
    refused_too q i left e (calls.ReadingCall.none {c} h u w) = calls.ConfigurationCall.none {c = c} h u w
    refused_too q i left e (calls.ReadingCall.beyond ps h l some over) = absurd (omega (arith, some, over))
    refused_too q i left e (calls.ReadingCall.read ps h l some) = absurd (let z : ◌≡◌ {A = ℕ} 0 1 = cc in omega arith)

    pub passed_on : {why : Unplaced} → m ≡ Err why → ConfigurationCall s.graph old m new
    passed_on e = refused_too m place new e x

    first_read : (q : Result (Unit {0}) Unplaced) (i : ℕ) (left : List ℕ) → q ≡ Ok tt → ReadingCall s.graph 0 old q i left
        → FirstRead s.graph old left
    first_read q i left e (calls.ReadingCall.small h) = absurd (let z : ◌≡◌ {A = ℕ} 0 1 = cc in omega arith)
    first_read q i left e (calls.ReadingCall.none {c} h u w) = absurd (let z : ◌≡◌ {A = ℕ} 0 1 = cc in omega arith)
    first_read q i left e (calls.ReadingCall.beyond ps h l some over) = absurd (omega (arith, some, over))
    first_read q i left e (calls.ReadingCall.read ps h l some) =
        record { readings = ps; listing = l; some = omega (arith, some); lent = h; wrote = refl }

    module _ (e : m ≡ Ok tt) where
      first : FirstRead s.graph old new
      first = first_read m place new e x

      reading_1 : SolvedForm s.graph (entry first.readings 0)
      reading_1 = (first.listing.only_readings 0 first.some).solved

      long : length (entry first.readings 0) ≡ value.n
      long = reading_long first.listing 0 first.some ∙ sym nodes

      opening : take value.n new ≡ entry first.readings 0
      opening = ap (take value.n) first.wrote ∙ take_at (entry first.readings 0) (drop s.graph.nodes old) value.n long

      closing : drop value.n new ≡ drop s.graph.nodes old
      closing = ap (drop value.n) first.wrote ∙ drop_at (entry first.readings 0) (drop s.graph.nodes old) value.n long

      pub solved_first : Solved value.n value.parent (take value.n new)
      solved_first =
          record {
            sheet = record { graph = s.graph; heads = value.heads; edges = s.edges; tables = s.tables };
            solved = subst (SolvedForm s.graph) (sym opening) reading_1;
          }

      pub configured_so : (last : List ℕ) → Configured value.n value.parent new last → ConfigurationCall s.graph old m last
      unfolding solved_first
      configured_so last k =
          let rule = subst (λ (p : List ℕ). Rule1 s.graph p (take value.n last)) opening (k.reached solved_first) in
          let whole : take value.n last ++ drop s.graph.nodes old ≡ last = ap (λ (d : List ℕ). take value.n last ++ d) (sym (k.others ∙ closing)) ∙ take-append-drop value.n last in
          subst (λ (q : Result (Unit {0}) Unplaced). ConfigurationCall s.graph old q last) (sym e)
          (subst (λ (q : List ℕ). ConfigurationCall s.graph old (Ok tt) q) whole
          (calls.ConfigurationCall.configured (take value.n last) first.lent (entry first.readings 0, reading_1) (record { readings = first.readings; listing = first.listing; reached = rule })))

  -- the check of a placing

  pub small_placing : (bytes : List ℕ) → length bytes < value.n → PlacingCall s.graph bytes (Err SmallBuffer)
  small_placing bytes h = calls.PlacingCall.small (omega (arith, nodes, h))

  pub placing_answered : (bytes : List ℕ) (a : Answers) → value.n ≤ length bytes
      → ((g : Graph) (edges : ℕ) → Tables g value.n value.parent value.heads edges → Answered g (take value.n bytes) a) → PlacingCall s.graph bytes (Ok a)
  placing_answered bytes a h f =
      calls.PlacingCall.answered a (omega (arith, nodes, h))
      (subst (λ (k : ℕ). Answered s.graph (take k bytes) a) nodes (f s.graph s.edges s.tables))
