use Rattle.std.proofs.Common.{◌≡◌, pos, ◌-ℤ◌, unsigned_abs, FitsSigned, refl, arith}
use mir.Syntax.{w128}
use Rattle.std.proofs.lemmas.Int.{ints}
use Rattle.std.proofs.Math.Facts.{to_z-of_z}
use Rattle.pb_graph.specs.ProcessGraph.{IsMeasurement}
use Rattle.pb_check.specs.declared.faults.Fault.{Fault}
use Rattle.pb_check.specs.declared.faults.Place.{Place}
use Rattle.pb_check.proofs.GroupLemmas.{price_small}
use Rattle.pb_check.proofs.BoxLemmas.{IsSeen, measured_of, seen_by, inside, outside}
use Rattle.pb_check.proofs.boxes.out_of_box.Goals as goal

pub room-found-requires : goal.room-found-requires
room-found-requires c = measured_of c.args.stage.now.graph c.args.place c.stream-stream.result c.in-Some.meas c.requires.limits c.stream-stream.ensures c.in-Some.is

pub returns-then-stated-found : goal.returns-then-stated-found
returns-then-stated-found c =
    let stage = c.args.stage.now in
    let j = c.args.place in
    let s = c.stream-stream.result in
    let m = c.in-Some.meas in
    let a = c.at.result.now in
    let b = c.at-2.result.now in
    let small_a = price_small stage s.from a c.requires.formed c.at.ensures in
    let small_b = price_small stage s.to b c.requires.formed c.at-2.ensures in
    let fits_a : FitsSigned w128 a = omega (arith, ints, small_a) in
    let fits_b : FitsSigned w128 b = omega (arith, ints, small_b) in
    let limits : IsMeasurement m = measured_of stage.graph j s m c.requires.limits c.stream-stream.ensures c.in-Some.is in
    let stated : c.difference-stated.result ≡ pos (unsigned_abs (b -ℤ a)) = simp to_z-of_z at c.difference-stated.ensures in
    let seen : IsSeen stage j s m c.difference-stated.result =
    seen_by stage j s m c.difference-stated.result a b c.stream-stream.ensures c.in-Some.is limits.least c.at.ensures c.at-2.ensures stated in
    let fits_stated : FitsSigned w128 c.difference-stated.result = record { sfits = c.difference-stated.type_inv } in
    let fits_found : FitsSigned w128 c.room-found.result = record { sfits = c.room-found.type_inv } in
    let near = simp to_z-of_z at c.if-stated-found.true in
    inside stage j s m c.difference-stated.result seen (omega (arith, ints, near, c.room-found.ensures))

pub returns : goal.returns
returns c =
    let stage = c.args.stage.now in
    let j = c.args.place in
    let s = c.stream-stream.result in
    let m = c.in-Some.meas in
    let a = c.at.result.now in
    let b = c.at-2.result.now in
    let small_a = price_small stage s.from a c.requires.formed c.at.ensures in
    let small_b = price_small stage s.to b c.requires.formed c.at-2.ensures in
    let fits_a : FitsSigned w128 a = omega (arith, ints, small_a) in
    let fits_b : FitsSigned w128 b = omega (arith, ints, small_b) in
    let limits : IsMeasurement m = measured_of stage.graph j s m c.requires.limits c.stream-stream.ensures c.in-Some.is in
    let stated : c.difference-stated.result ≡ pos (unsigned_abs (b -ℤ a)) = simp to_z-of_z at c.difference-stated.ensures in
    let seen : IsSeen stage j s m c.difference-stated.result =
    seen_by stage j s m c.difference-stated.result a b c.stream-stream.ensures c.in-Some.is limits.least c.at.ensures c.at-2.ensures stated in
    let fits_stated : FitsSigned w128 c.difference-stated.result = record { sfits = c.difference-stated.type_inv } in
    let fits_found : FitsSigned w128 c.room-found.result = record { sfits = c.room-found.type_inv } in
    let far = simp to_z-of_z at c.if-stated-found.false in
    let fault : Fault = record { place = Place.Stream j; stated = c.difference-stated.result; found = c.room-found.result } in
    simp to_z-of_z (outside stage j s m c.difference-stated.result c.room-found.result fault seen c.room-found.ensures (λ near. omega (arith, ints, near, far)) refl)
