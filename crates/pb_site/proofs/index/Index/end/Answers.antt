use Rattle.pb_site.proofs.LookUpLemmas.{some_node}
use Rattle.pb_site.proofs.index.Index.end.Goals as goal

pub unwrap-requires : goal.unwrap-requires
unwrap-requires c = some_node c.args.self.now c.args.name.now c.node_of.result c.node_of.ensures c.requires.known
