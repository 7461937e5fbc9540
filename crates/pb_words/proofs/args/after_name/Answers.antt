use Rattle.std.proofs.Common.{◌≡◌, length, refl}
use Rattle.std.proofs.lemmas.Iterator.{items_from_collect}
use Rattle.std.proofs.lemmas.Iterator.Consumers.{YieldsList-at}
use Rattle.std.proofs.lemmas.Iterator.Adapters.{YieldsList-from_skip, YieldsList-from_vec}
use Rattle.std.specs.Vec.Iter.{into_iter_items, into_iter_len}
use Rattle.pb_words.proofs.args.after_name.Goals as goal

-- the chain gives the arguments except the first
pub returns : goal.returns
returns c =
    let all = into_iter_items c.args.args in
    let count : into_iter_len c.args.args ≡ length all = c.args.args.rest.ok.0 in
    items_from_collect _ c.collect.ensures.ran (YieldsList-from_skip 1 (YieldsList-at c.skip.ensures.source (YieldsList-from_vec all refl count)) c.skip.ensures.count)
