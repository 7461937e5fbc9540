use Rattle.std.proofs.Common.{◌∙◌, ap, sym, FitsSigned, rules}
use mir.Syntax.{w32}
use Rattle.std.specs.Prelude.{is_some}
use Rattle.std.proofs.lemmas.Int.{to_z-of_z}
use Rattle.pb_facts.specs.Facts.{is_live_dip_on, is_live_reading_on}
use Rattle.pb_facts.proofs.PlaceLemmas.{none_live}
use Rattle.pb_facts.proofs.PositionLemmas.{is_some-position}
use Rattle.pb_facts.proofs.facts.Facts.has_day_of.Goals as goal

pub returns-in-Reading : goal.returns-in-Reading
returns-in-Reading c =
    let fits : FitsSigned w32 c.in-Reading.day = search rules in
    let found = simp to_z-of_z at c.reading_on.ensures.value in
    rw c.in-Reading.is (c.is_some.ensures ∙ ap is_some found ∙ is_some-position (is_live_reading_on c.in-Reading.stream c.in-Reading.day) c.args.self.now)

pub returns-in-Dip : goal.returns-in-Dip
returns-in-Dip c =
    let fits : FitsSigned w32 c.in-Dip.day = search rules in
    let found = simp to_z-of_z at c.dip_on.ensures.value in
    rw c.in-Dip.is (c.is_some-in-Dip.ensures ∙ ap is_some found ∙ is_some-position (is_live_dip_on c.in-Dip.tank c.in-Dip.day) c.args.self.now)

pub returns-in-Transfer : goal.returns-in-Transfer
returns-in-Transfer c = rw c.in-Transfer.is (sym (none_live c.args.self.now))
