use Rattle.std.proofs.Common.{◌≡◌, ◌<◌, ◌∙◌, true, length, sym, arith, inl, inr}
use Rattle.std.proofs.lemmas.List.{length-map}
use Rattle.std.proofs.lemmas.Bool.{cases_Bool}
use Rattle.pb_limits.specs.Limits.{most_facts}
use Rattle.pb_facts.specs.Fact.{id_of}
use Rattle.pb_facts.specs.Shelf.{kept_of, stream_or_tank}
use Rattle.pb_facts.proofs.NumberLemmas.{known_name}
use Rattle.pb_facts.proofs.ShelfLemmas.{Tells, any_under, entry_behind, facts_more, shelf_more}
use Rattle.pb_facts.proofs.shelf.Shelf.push_new.Goals as goal

pub returns-clause-new : goal.returns-clause-new
returns-clause-new c =
    rw (← c.self.view_is) (sym (any_under (id_of c.args.fact.now) c.self.inside.names.keys c.self.inside.entries.entries) ∙ rw (c.id.ensures, c.in_ok-reserve.ensures.entries) at c.put_new.ensures.new)

pub returns-clause-pushed : goal.returns-clause-pushed
returns-clause-pushed c = λ is.
    let names = c.self.inside.names.keys in
    let entries = c.self.inside.entries.entries in
    let fact = c.args.fact.now in
    let new : c.put_new.result ≡ true = cc is in
    let known = known_name names (stream_or_tank fact) c.args.number (rw (← c.self.view_is) at c.requires.number) in
    let tells : Tells fact c.of.result c.args.number = record { told = c.of.ensures.told; name = c.of.ensures.name; live = c.of.ensures.live } in
    let none = rw (c.id.ensures, c.in_ok-reserve.ensures.entries, new) at c.put_new.ensures.new in
    let all = facts_more names entries fact c.of.result c.args.number c.self.invariant tells (rw known.0 known.1) in
    rw (← c.self.view_is, c.put_new.ensures.put new, c.in_ok-reserve.ensures.entries, c.id.ensures, entry_behind entries (id_of fact) c.of.result none) (rw known.0 at all)

pub invariant_of-self-2 : goal.invariant_of-self-2
invariant_of-self-2 c =
    let names = c.self.inside.names.keys in
    let entries = c.self.inside.entries.entries in
    let fact = c.args.fact.now in
    elim (cases_Bool c.put_new.result) [
      | inl new ↦
          let known = known_name names (stream_or_tank fact) c.args.number (rw (← c.self.view_is) at c.requires.number) in
          let tells : Tells fact c.of.result c.args.number = record { told = c.of.ensures.told; name = c.of.ensures.name; live = c.of.ensures.live } in
          let none = rw (c.id.ensures, c.in_ok-reserve.ensures.entries, new) at c.put_new.ensures.new in
          let room : length entries < most_facts = let long = length-map entries (kept_of names) in let view = rw (← c.self.view_is) at c.requires.room in omega (arith, long, view) in
          let all = shelf_more names entries fact c.of.result c.args.number c.self.invariant tells (rw known.0 known.1) room in
          rw (c.put_new.ensures.put new, c.in_ok-reserve.ensures.entries, c.id.ensures, entry_behind entries (id_of fact) c.of.result none) (rw known.0 at all)
      | inr used ↦ rw (c.put_new.ensures.unchanged used, c.in_ok-reserve.ensures.entries) c.self.invariant
    ]
