-- Statement. The names of a window's nodes and streams: a letter, the number of a period, a dot and a place.
use Rattle.std.specs.Prelude.{◌≡◌, ℕ, List, ◌∷◌, ◌++◌, map, codes, true, false}
use Rattle.std.specs.List.{AllPairs, list_all}
use Rattle.pb_rows.specs.declared.name.Names.{Names}
use Rattle.pb_rows.specs.Bytes.{dot}
use Rattle.pb_rows.specs.Name.{is_name, same_name}
use Rattle.pb_rows.specs.Number.{decimal_text}
use Rattle.pb_plan.specs.declared.window.Source.{Source}
use Rattle.pb_plan.specs.declared.window.Source.TheVariants.{Content, Flow}
use Rattle.pb_plan.specs.declared.window.Window.{Window}
use Rattle.pb_plan.specs.declared.window.WindowNode.{WindowNode}
use Rattle.pb_plan.specs.declared.window.WindowStream.{WindowStream}

-- a name of this form
abbrev pub code_text : ℕ → ℕ → ℕ → List ℕ
code_text letter period place = letter ∷ (decimal_text period ++ dot ∷ decimal_text place)

-- the letters of flows and contents: `s` and `c`
abbrev pub source_letter : Source → ℕ
source_letter Flow = 115
source_letter (Content day) = 99

-- the name of a node, which has the letter `n`
abbrev pub node_code : WindowNode → List ℕ
node_code node = code_text 110 node.period node.place

abbrev pub stream_code : WindowStream → List ℕ
stream_code stream = code_text (source_letter stream.source) stream.period stream.place

-- The names of the nodes and streams of a window's graph.
abbrev pub window_names : Window → Names
window_names window = record {
  nodes = codes "env" ∷ map node_code window.nodes;
  streams = map stream_code window.streams;
}

-- names that have the form of a name, no two of which are the same
pub record AreDistinctNames (names : List (List ℕ)) : Type 0 where
  pub forms : list_all is_name names ≡ true
  pub differ : AllPairs (λ one other. same_name one other ≡ false) names

-- the names of a window's nodes, including the environment, are like that, and so are those of its streams
pub record AreWindowNames (window : Window) : Type 0 where
  pub nodes : AreDistinctNames (window_names window).nodes
  pub streams : AreDistinctNames (window_names window).streams
