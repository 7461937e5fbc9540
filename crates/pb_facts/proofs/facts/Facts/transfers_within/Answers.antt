use Rattle.std.proofs.Common.{rules, ◌≡◌, ◌∙◌, ◌<◌, ℕ, ℤ, List, [], FitsSigned, ap, arith, length, get_or, subst, sym}
use mir.Syntax.{w32}
use Rattle.std.proofs.lemmas.Int.{to_z-of_z}
use Rattle.pb_facts.specs.Facts.{HoldsTransfers}
use Rattle.pb_facts.specs.Places.{block_of, is_about, places_from}
use Rattle.pb_facts.specs.declared.facts.KeptFact.{KeptFact}
use Rattle.pb_facts.proofs.TransferLemmas.{holds_transfers, places_from-below, places_from-few, places_in}
use Rattle.pb_facts.proofs.facts.Facts.transfers_within.Goals as goal

-- the places of the transfers about a block
abbrev about_of : List KeptFact → List ℕ → ℤ → List ℕ
about_of kept stream to = places_from (λ (k : KeptFact). is_about (stream, block_of to) k.fact) 0 kept

-- what the map has at the block of a day
listed : (kept : List KeptFact) (stream : List ℕ) (to block : ℤ) (ns : List ℕ) → ns ≡ places_from (λ (k : KeptFact). is_about (stream, block) k.fact) 0 kept → block ≡ block_of to
    → ns ≡ about_of kept stream to
listed kept stream to block ns is at = is ∙ ap (λ (b : ℤ). places_from (λ (k : KeptFact). is_about (stream, b) k.fact) 0 kept) at

pub returns-in-Some-clause-transfers : goal.returns-in-Some-clause-transfers
returns-in-Some-clause-transfers c =
    let kept = c.self.inside.shelf.facts in
    let fits : FitsSigned w32 c.args.last = c.ranges.last in
    let fits_block : FitsSigned w32 c.block_of.result = search rules in
    let block = simp to_z-of_z at c.block_of.ensures.value in
    let found = simp to_z-of_z at c.in-Some.ensures.value in
    let places = listed kept c.args.stream.now c.args.last c.block_of.result c.deref.result.now
    (c.deref.ensures.value ∙ ap places_in found ∙ c.self.invariant.transfers (c.args.stream.now, c.block_of.result)) block in
    let holds = holds_transfers kept c.args.stream.now c.args.first c.args.last c.requires c.self.invariant.short in
    rw (← c.self.view_is) (subst (λ (ns : List ℕ). HoldsTransfers kept c.args.stream.now c.args.first c.args.last ns) (sym places) holds)

pub returns-in-Some-clause-places : goal.returns-in-Some-clause-places
returns-in-Some-clause-places c k d lt =
    let kept = c.self.inside.shelf.facts in
    let fits_block : FitsSigned w32 c.block_of.result = search rules in
    let found = simp to_z-of_z at c.in-Some.ensures.value in
    let places = c.deref.ensures.value ∙ ap places_in found ∙ c.self.invariant.transfers (c.args.stream.now, c.block_of.result) in
    let within = places_from-below (λ (kept : KeptFact). is_about (c.args.stream.now, c.block_of.result) kept.fact) 0 kept k d (rw places at lt) in
    let below : get_or c.deref.result.now k d < length kept = rw places (omega (arith, within)) in
    rw (← c.self.view_is) below

pub returns-in-Some-clause-within : goal.returns-in-Some-clause-within
returns-in-Some-clause-within c =
    let fits_block : FitsSigned w32 c.block_of.result = search rules in
    let found = simp to_z-of_z at c.in-Some.ensures.value in
    let places = c.deref.ensures.value ∙ ap places_in found ∙ c.self.invariant.transfers (c.args.stream.now, c.block_of.result) in
    let few = places_from-few (λ (kept : KeptFact). is_about (c.args.stream.now, c.block_of.result) kept.fact) 0 c.self.inside.shelf.facts in
    rw places (omega (arith, few, c.self.invariant.few))

pub returns-in-None-clause-transfers : goal.returns-in-None-clause-transfers
returns-in-None-clause-transfers c =
    let kept = c.self.inside.shelf.facts in
    let fits : FitsSigned w32 c.args.last = c.ranges.last in
    let fits_block : FitsSigned w32 c.block_of.result = search rules in
    let block = simp to_z-of_z at c.block_of.ensures.value in
    let found = simp to_z-of_z at c.in-None.ensures.value in
    let none = listed kept c.args.stream.now c.args.last c.block_of.result [] (ap places_in found ∙ c.self.invariant.transfers (c.args.stream.now, c.block_of.result)) block in
    let holds = holds_transfers kept c.args.stream.now c.args.first c.args.last c.requires c.self.invariant.short in
    rw (← c.self.view_is) (subst (λ (ns : List ℕ). HoldsTransfers kept c.args.stream.now c.args.first c.args.last ns) (sym none) holds)
