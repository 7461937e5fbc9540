use Rattle.std.specs.Prelude.{not}
use Rattle.std.proofs.Common.{◌∙◌, sym, arith}
use Rattle.std.proofs.lemmas.List.Sums.{prefix_len-le-length}
use Rattle.pb_rows.specs.Name.{same_name}
use Rattle.pb_blocks.proofs.ItemLemmas.{place_found, place_of_none}
use Rattle.pb_blocks.proofs.known.Known.place.Goals as goal

pub returns-in-None-clause-value : goal.returns-in-None-clause-value
returns-in-None-clause-value c =
    c.len-len.ensures.value ∙ sym (place_of_none (same_name c.args.text.now) c.args.self.now (sym c.find.ensures ∙ c.in-None.is))

pub returns-in-Some-clause-within : goal.returns-in-Some-clause-within
returns-in-Some-clause-within c =
    let found = place_found (same_name c.args.text.now) c.args.self.now c.in-Some.place (sym c.find.ensures ∙ c.in-Some.is) in
    let most = prefix_len-le-length (λ name. not (same_name c.args.text.now name)) c.args.self.now in
    let few = c.len-len.ensures.known.few in
    omega (arith, found, most, few)
