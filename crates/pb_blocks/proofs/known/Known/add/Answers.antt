use Rattle.std.proofs.Common.{◌∙◌, ap}
use Rattle.pb_rows.specs.Name.{is_name}
use Rattle.pb_blocks.specs.Lists.{is_among}
use Rattle.pb_blocks.proofs.NameLemmas.{known_grown}
use Rattle.pb_blocks.proofs.known.Known.add.Goals as goal

pub invariant_of-self : goal.invariant_of-self
invariant_of-self c =
    let same = c.in-Some.ensures.1 in
    known_grown c.self.inside.names.keys c.insert.new.names.keys c.in-Some.name c.in_ok-insert.ensures.ok c.self.invariant (rw (← c.self.view_is) at c.requires.room)
    (ap is_name same ∙ c.requires.form) (ap (is_among c.self.inside.names.keys) same ∙ (rw (← c.self.view_is) at c.requires.new))
