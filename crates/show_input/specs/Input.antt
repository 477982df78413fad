-- What the bytes of an input come to: the line of a refusal, or what the list begins from.
use Rattle.std.specs.Prelude.{ℕ, ◌≤◌, ◌≡◌, List, length, Result, Ok, Err}
use Rattle.graph.specs.Graph.{Graph}
use Rattle.graph.specs.Placing.{Unsolvable}
use Rattle.format.specs.Sheet.{Content, Outcome, refused, accepted}
use Rattle.format.specs.declared.Refusal.{Refusal}
use Rattle.format.specs.declared.Refusal.TheVariants.{NoReading}
use Rattle.format.specs.Text.{refused_line}
use Rattle.base_finite.specs.Stores.{Written}
use Rattle.solve_start.specs.Started.{WalkableOf}
use Rattle.show_input.specs.declared.Input.{Input}

-- the first `bytes` lent bytes are the text, and past it they are as before
pub record Shows (text old : List ℕ) (bytes : ℕ) (new : List ℕ) : Type 0 where
  pub written : Written old 0 text new bytes
  pub fits : bytes ≤ length old

-- a refusal's line
pub record Refuses (why : Refusal) (old : List ℕ) (r : Result Input ℕ) (new : List ℕ) : Type 0 where
  pub bytes : ℕ
  pub is : r ≡ Err bytes
  pub shown : Shows (refused_line why) old bytes new

-- the tables that a walk through the readings of g starts from
pub record Ready (g : Graph) (i : Input) : Type 0 where
  pub walkable : WalkableOf g i.trees i.rows

-- why a sheet's list begins nowhere, or what it begins from
pub data Prepared (r : Result Input Refusal) : Outcome → Type 0 where
  refusal : {why : Refusal} → r ≡ Err why → Prepared r (refused why)
  no_reading : {s : Content} → Unsolvable s.graph → r ≡ Err NoReading → Prepared r (accepted s)
  ready : {s : Content} {i : Input} → r ≡ Ok i → Ready s.graph i → Prepared r (accepted s)

-- by what the bytes that count come to
pub data ComesTo (old : List ℕ) (r : Result Input ℕ) (new : List ℕ) : Outcome → Type 0 where
  refusal : {why : Refusal} → Refuses why old r new → ComesTo old r new (refused why)
  no_reading : {s : Content} → Unsolvable s.graph → Refuses NoReading old r new → ComesTo old r new (accepted s)
  ready : {s : Content} {i : Input} → r ≡ Ok i → Ready s.graph i → new ≡ old → ComesTo old r new (accepted s)
