-- Statement. The degrees of freedom.
use Rattle.std.specs.Prelude.{◌≡◌, ℕ, Bool, List}
use Rattle.pb_graph.specs.declared.records.Stream.{Stream}
use Rattle.pb_forest.specs.Forest.{IsForest, degrees_of_freedom}

-- the degrees of freedom are the number of measured streams in the spanning forest
pub record HasFreedom (streams : List Stream) (dof : ℕ) : Type 0 where
  pub held : List Bool
  pub forest : IsForest streams held
  pub count : dof ≡ degrees_of_freedom streams held
