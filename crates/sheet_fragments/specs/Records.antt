-- The answer of the fragment table into a lent slice of records, and every record of the slice afterwards.
use Rattle.std.specs.Prelude.{ℕ, ◌≤◌, ◌≡◌, List, [], ◌++◌, cond, ltb, length, take, drop, Result, Ok, Err, MatchResult}
use Rattle.format.specs.Sheet.{Content, Outcome, refused, accepted}
use Rattle.format.specs.declared.Refusal.{Refusal}
use Rattle.format.specs.declared.Refusal.TheVariants.{SmallBuffer}
use Rattle.graph.specs.Graph.{Graph}
use Rattle.graph.specs.Table.{fragments}
use Rattle.graph.specs.declared.Fragment.{Fragment}
use Rattle.base_nodeset.specs.declared.NodeSet.{NodeSet}
use Rattle.base_tables.specs.Tables.{Tables}
use Rattle.sheet_fragments.specs.declared.records.Records.{Records}

-- the sheet's own refusals, then 10: "one record per fragment"
abbrev pub answer_of : Outcome → ℕ → Result ℕ Refusal
answer_of (refused why) room = Err why
answer_of (accepted s) room = cond (ltb room (length (fragments s.graph))) (Err SmallBuffer) (Ok (length (fragments s.graph)))

-- "later records stay unwritten", and a refusal writes nothing
abbrev pub records_of : Outcome → List Fragment → List Fragment
records_of (refused why) table = table
records_of (accepted s) table = cond (ltb (length table) (length (fragments s.graph))) table (fragments s.graph ++ drop (length (fragments s.graph)) table)

-- The answer r to a sheet with the outcome o, and the lent records before and after.
pub record Recorded (o : Outcome) (r : Result ℕ Refusal) (old new : List Fragment) : Type 0 where
  pub answer : r ≡ answer_of o (length old)
  pub records : new ≡ records_of o old

-- what is worked out before the first store

-- the records of the graph
pub record FragmentsOf (g : Graph) (r : Records) : Type 0 where
  pub are : take r.count r.fragments ≡ fragments g
  pub counted : r.count ≡ length (fragments g)
  pub few : r.count ≤ 128

-- what a table of parents says of each graph that it holds
abbrev pub FragmentsIn : ℕ → List ℕ → Records → Type 0
FragmentsIn n parents r = (g : Graph) (heads : List NodeSet) (edges : ℕ) → Tables g n parents heads edges → FragmentsOf g r

-- the sheet's refusal, or the records of its graph
abbrev pub ReadsRecords : Outcome → Result Records Refusal → Type 0
ReadsRecords o r = MatchResult r (λ p. (s : Content) × (o ≡ accepted s) × FragmentsOf s.graph p) (λ why. o ≡ refused why)

-- the records that are stored in a table with room for so many
abbrev pub stored : Outcome → ℕ → List Fragment
stored (refused why) room = []
stored (accepted s) room = cond (ltb room (length (fragments s.graph))) [] (fragments s.graph)

pub record Prepared (o : Outcome) (room : ℕ) (r : Records) : Type 0 where
  pub answer : answer_of o room ≡ Ok r.count
  pub holds : take r.count r.fragments ≡ stored o room
  pub few : r.count ≤ 128

abbrev pub Prepares : Outcome → ℕ → Result Records Refusal → Type 0
Prepares o room r = MatchResult r (λ p. Prepared o room p) (λ why. answer_of o room ≡ Err why)
