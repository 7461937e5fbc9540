use Rattle.std.proofs.Common.{◌∙◌, ap, sym}
use Rattle.std.specs.Prelude.{is_some}
use Rattle.std.proofs.lemmas.Map.Made.{is_some-lookup}
use Rattle.pb_rows.specs.Name.{same_name}
use Rattle.pb_facts.proofs.shelf.put_new.Goals as goal

pub returns-in-Occupied-clause-new : goal.returns-in-Occupied-clause-new
returns-in-Occupied-clause-new c =
    let found = rw (c.unwrap.ensures, c.in-Occupied.is) at c.entry-found.ensures.found in
    sym (is_some-lookup (same_name c.args.id) c.args.entries.now.entries) ∙ found.0

pub returns-in-Vacant-clause-new : goal.returns-in-Vacant-clause-new
returns-in-Vacant-clause-new c =
    let found = rw (c.unwrap.ensures, c.in-Vacant.is) at c.entry-found.ensures.found in
    sym (is_some-lookup (same_name c.args.id) c.args.entries.now.entries) ∙ ap is_some found
