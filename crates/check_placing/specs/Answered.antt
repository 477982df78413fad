-- What the answers say.
use Rattle.std.specs.Prelude.{◌≡◌, List, true, false, ◌↔◌, ℕ}
use Rattle.graph.specs.Graph.{Graph}
use Rattle.graph.specs.Placing.{SolvedForm, Configuration, Reading}
use Rattle.check_placing.specs.declared.Answers.{Answers}

pub record Answered (g : Graph) (p : List ℕ) (r : Answers) : Type 0 where
  pub solved : (r.solved ≡ true) ↔ SolvedForm g p
  pub configuration : (r.configuration ≡ true) ↔ Configuration g p
  pub reading : (r.reading ≡ true) ↔ Reading g p

pub record Noes (r : Answers) : Type 0 where
  pub solved : r.solved ≡ false
  pub configuration : r.configuration ≡ false
  pub reading : r.reading ≡ false
