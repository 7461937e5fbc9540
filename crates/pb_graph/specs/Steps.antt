-- Inside. How a stream can appear twice on a closed walk on which no node does.
use Rattle.std.specs.Prelude.{Bool, false, ◌==◌, List, [], ◌∷◌}
use Rattle.pb_graph.specs.declared.records.Step.{Step}

-- whether the steps are two steps along the same stream
abbrev pub is_there_and_back : List Step → Bool
is_there_and_back [] = false
is_there_and_back (there ∷ []) = false
is_there_and_back (there ∷ back ∷ []) = there.stream == back.stream
is_there_and_back (there ∷ back ∷ more ∷ rest) = false
