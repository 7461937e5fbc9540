use Rattle.pb_site.proofs.FaultLemmas.{fine, new_row}
use Rattle.pb_site.proofs.KeptLemmas.{kept_more, kept_same}
use Rattle.pb_site.proofs.site.Site.add.Goals as goal

pub invariant_of-self-in_err-reserve-2 : goal.invariant_of-self-in_err-reserve-2
invariant_of-self-in_err-reserve-2 c =
    rw c.in_ok-reserve.ensures.items (kept_same c.self.inside.declared.items c.self.inside.index c.reserve-2.new.self c.self.invariant c.in_err-reserve-2.ensures.same)

pub note-requires-clause-new : goal.note-requires-clause-new
note-requires-clause-new c =
    let kept = kept_same c.self.inside.declared.items c.self.inside.index c.reserve-2.new.self c.self.invariant c.in_ok-reserve-2.ensures.same in
    let good = fine c.self.inside.declared.items c.args.row (rw (← c.self.view_is) at c.requires.no_fault) in
    new_row c.self.inside.declared.items c.reserve-2.new.self c.args.row kept good c.requires.in_range

pub invariant_of-self-in_err-note : goal.invariant_of-self-in_err-note
invariant_of-self-in_err-note c =
    let kept = kept_same c.self.inside.declared.items c.self.inside.index c.reserve-2.new.self c.self.invariant c.in_ok-reserve-2.ensures.same in
    rw c.in_ok-reserve.ensures.items (kept_same c.self.inside.declared.items c.reserve-2.new.self c.note.new.self kept c.in_err-note.ensures.err)

pub invariant_of-self-2 : goal.invariant_of-self-2
invariant_of-self-2 c =
    let kept = kept_same c.self.inside.declared.items c.self.inside.index c.reserve-2.new.self c.self.invariant c.in_ok-reserve-2.ensures.same in
    let good = fine c.self.inside.declared.items c.args.row (rw (← c.self.view_is) at c.requires.no_fault) in
    rw (c.push_reserved.ensures.items, c.in_ok-reserve.ensures.items)
    (kept_more c.self.inside.declared.items c.reserve-2.new.self c.note.new.self c.args.row kept c.in_ok-note.ensures.ok good c.requires.in_range)
