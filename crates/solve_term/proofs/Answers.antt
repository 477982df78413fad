-- From the search and the tables to the call's answer.
use Prim.Native.Nat.{ℕ, ◌≤◌}
use mathlib.Core.Path.{◌≡◌, sym, subst, ◌∙◌}
use mathlib.Core.List.{List}
use native.Mathlib.Omega.{arith}
use Rattle.std.specs.Prelude.{Result, Ok}
use lib.ListN.{length, take, replicate, length-replicate, get_or-replicate}
use Rattle.base_nodeset.specs.declared.NodeSet.{NodeSet}
use Rattle.graph.specs.Placing.{SolvedForm}
use Rattle.base_tables.specs.Tables.{SheetTables}
use Rattle.format.specs.Sheet.{Content, outcome_of, accepted}
use Rattle.format.specs.Term.{term, text}
use Rattle.format.specs.declared.Refusal.{Refusal}
use Rattle.format.specs.declared.Form.TheVariants.{Labelled}
use Rattle.sheet_decode.specs.Read.{Value}
use Rattle.sheet_decode.proofs.Answers.{meant_accepted}
use Rattle.base_tables.specs.declared.Graph.{Graph}
use Rattle.sheet_nodes.specs.Table.{Empty, NodeTable}
use Rattle.show_drawing.specs.Drawn.{Drawn as DrawnText}
use Rattle.show_term.specs.Written.{Writable}
use Rattle.solve_answer.specs.Calls.{Seeks, TermCall}
use Rattle.solve_answer.proofs.Texts.{sought_solved, text_drawn}
use Rattle.solve_term.specs.Meant.{Meant}

-- a table in which no place is filled
pub empty_table : (k : ℕ) → k ≡ 512 → Empty (replicate k 255)
empty_table k e = record { long = length-replicate k 255 ∙ e; nothing = λ i h. get_or-replicate k i 255 0 (omega arith) }

-- what a labelled sheet means, as it is read
pub meant_read : (bs : List ℕ) (v : Graph) → (s : Content) × (outcome_of Labelled bs ≡ accepted s) × Value s.graph v → Meant bs v
meant_read bs v a =
    let t = meant_accepted Labelled bs v a in
    record { content = t.0; is = t.1; tables = t.2 }

module _ {sheet : List ℕ} {v : Graph} (m : Meant sheet v) where
  abbrev pub sheet_tables : SheetTables v
  sheet_tables = record { graph = m.content.graph; edges = v.edges; tables = m.tables }

  module _ {k : ℕ} {placing : List ℕ} {q : Result (Unit {0}) Refusal} (y : Seeks m.content.graph k placing q) (e : q ≡ Ok tt) where
    pub writable : {table : List ℕ} {labelled : NodeSet} → NodeTable m.content table labelled → Writable v.n v.parent placing table labelled
    writable t =
        record {
          content = m.content;
          sheet = sheet;
          is_accepted = m.is;
          heads = v.heads;
          edges = v.edges;
          tables = m.tables;
          solved = subst (λ (n : ℕ). SolvedForm m.content.graph (take n placing)) (sym m.tables.nodes) (sought_solved y e);
          nodes = t;
        }

    pub term_drawn : {table : List ℕ} {labelled : NodeSet} {old new : List ℕ} {r : ℕ} → 2048 ≤ length old → NodeTable m.content table labelled
        → ((w : Writable v.n v.parent placing table labelled) → DrawnText (text (term w.content (take v.n placing))) r old new)
        → TermCall m.content k old (Ok r) new
    unfolding writable
    term_drawn {old = old} {new = new} {r = r} enough t d =
        let whole : DrawnText (text (term m.content (take m.content.graph.nodes placing))) r old new =
        subst (λ (n : ℕ). DrawnText (text (term m.content (take n placing))) r old new) m.tables.nodes (d (writable t)) in
        text_drawn enough y e whole.long whole.bytes
