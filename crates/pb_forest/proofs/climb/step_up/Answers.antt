use Rattle.std.proofs.Common.{◌≡◌, ◌∙◌, List, Some, length, get_or, ap, sym, arith, refl}
use Rattle.pb_graph.specs.declared.records.Stream.{Stream}
use Rattle.pb_graph.specs.ProcessGraph.{IsStream, other_end, some_stream}
use Rattle.pb_fixed.proofs.Lists.{all_each}
use Rattle.pb_forest.specs.Trees.{up_of, end_from}
use Rattle.pb_forest.proofs.ClimbLemmas.{rises, later_hangs}
use Rattle.pb_forest.proofs.climb.step_up.Goals as goal

-- a node found later than another of its tree has a parent
pub unwrap-j-requires : goal.unwrap-j-requires
unwrap-j-requires c =
    let nodes = c.args.graph.now.nodes in
    let ss = c.args.graph.now.streams in
    let (m, within, level, less) = c.requires.later in
    let (k, up) = later_hangs nodes ss c.args.held.now c.args.trees.now c.args.node m c.requires.trees (all_each (IsStream nodes) ss c.streams-streams.ensures.limits.joins) c.requires.node within level less in
    rw (c.up.ensures ∙ up) refl

-- the stream to the parent is one of the graph
pub bounds-streams-j : goal.bounds-streams-j
bounds-streams-j c =
    let nodes = c.args.graph.now.nodes in
    let ss = c.args.graph.now.streams in
    let up : up_of c.args.trees.now c.args.node ≡ Some c.unwrap-j.result = sym c.up.ensures ∙ c.unwrap-j.ensures in
    let there = (rises nodes ss c.args.held.now c.args.trees.now c.args.node c.unwrap-j.result c.requires.trees (all_each (IsStream nodes) ss c.streams-streams.ensures.limits.joins) c.requires.node up).0 in
    omega (arith, there, ap (λ (l : List Stream). length l) c.streams-streams.ensures.value)

pub returns : goal.returns
returns c =
    let nodes = c.args.graph.now.nodes in
    let ss = c.args.graph.now.streams in
    let n = c.args.node in
    let j = c.unwrap-j.result in
    let up : up_of c.args.trees.now n ≡ Some j = sym c.up.ensures ∙ c.unwrap-j.ensures in
    let rise = (rises nodes ss c.args.held.now c.args.trees.now n j c.requires.trees (all_each (IsStream nodes) ss c.streams-streams.ensures.limits.joins) c.requires.node up).1 in
    let other_is : c.end_from.result ≡ end_from ss n j = c.end_from.ensures ∙ ap (λ (l : List Stream). other_end n (get_or l j some_stream)) c.streams-streams.ensures.value in
    rw (other_is, c.streams-streams.ensures.value) rise
