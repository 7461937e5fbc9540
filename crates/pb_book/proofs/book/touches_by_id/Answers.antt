use Rattle.std.specs.Option.{option_map_or}
use Rattle.std.proofs.Common.{◌∙◌, ap, sym, Option, false}
use Rattle.pb_facts.specs.declared.facts.KeptFact.{KeptFact}
use Rattle.pb_facts.specs.Facts.{has_id}
use Rattle.pb_site.specs.Site.{version_of}
use Rattle.pb_periods.specs.Touching.{touches_in}
use Rattle.pb_periods.proofs.PeriodLemmas.{find_at_first, find_nothing}
use Rattle.pb_book.proofs.book.touches_by_id.Goals as goal

pub returns-in-Some : goal.returns-in-Some
returns-in-Some c =
    let found = find_at_first (has_id c.args.id.now) c.args.facts.now c.in-Some.place c.kept.result c.in-Some.ensures c.kept.ensures.value in
    c.touches_in.ensures ∙ sym (ap (λ (o : Option KeptFact). option_map_or (λ (k : KeptFact). touches_in (version_of c.args.site.now) c.args.site.now k.fact c.args.period.now) o false) found)

pub returns-in-None : goal.returns-in-None
returns-in-None c =
    let none = find_nothing (has_id c.args.id.now) c.args.facts.now c.in-None.ensures in
    sym (ap (λ (o : Option KeptFact). option_map_or (λ (k : KeptFact). touches_in (version_of c.args.site.now) c.args.site.now k.fact c.args.period.now) o false) none)
