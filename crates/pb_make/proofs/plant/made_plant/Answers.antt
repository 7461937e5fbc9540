use Rattle.std.proofs.Common.{◌≡◌, ◌∙◌, ◌*◌, ◌++◌, ◌-◌, ◌+◌, ℕ, Vec, Global, All, Result, Ok, Err, length, ap, refl}
use Rattle.std.specs.Prelude.{IfOk, OnOk}
use Rattle.pb_limits.specs.Limits.{most_made_streams}
use Rattle.pb_make.specs.declared.plant.MadeStream.{MadeStream}
use Rattle.pb_make.specs.Bounds.{IsMade}
use Rattle.pb_make.specs.Draws.{state_after_draws}
use Rattle.pb_make.specs.Plant.{made_streams, sides_of}
use Rattle.pb_make.proofs.Abbreviations.{line_streams}
use Rattle.pb_make.proofs.PlantLemmas.{AreSides, plant_sides, plant_whole}
use Rattle.pb_make.proofs.plant.made_plant.Goals as goal

weaker : {T E : Type 0} (r : Result T E) (P Q : T → Type 0) → ((x : T) → P x → Q x) → IfOk r P → IfOk r Q
weaker (Ok x) P Q more holds = more x holds
weaker (Err e) P Q more holds = tt

on_ok : {T E : Type 0} (r : Result T E) (P : Type 0) → P → OnOk r P
on_ok (Ok x) P holds = holds
on_ok (Err e) P holds = tt

pub made_streams-requires-clause-few : goal.made_streams-requires-clause-few
made_streams-requires-clause-few c =
    (plant_sides c.args.draws.now.state c.args.streams c.units_of-units.result _ c.deref.result.now c.requires.least c.requires.most c.units_of-units.ensures.value refl
    (c.deref.ensures.value ∙ c.in_ok-sides.ensures.value)).few

pub made_streams-requires-clause-each : goal.made_streams-requires-clause-each
made_streams-requires-clause-each c =
    (plant_sides c.args.draws.now.state c.args.streams c.units_of-units.result _ c.deref.result.now c.requires.least c.requires.most c.units_of-units.ensures.value refl
    (c.deref.ensures.value ∙ c.in_ok-sides.ensures.value)).each

pub returns : goal.returns
returns c =
    let number = c.args.draws.now.state in
    let streams = c.args.streams in
    let units = c.units_of-units.result in
    let sides = c.deref.result.now in
    let are : AreSides number streams sides =
    plant_sides number streams units _ sides c.requires.least c.requires.most c.units_of-units.ensures.value refl (c.deref.ensures.value ∙ c.in_ok-sides.ensures.value) in
    let plant = λ (v : Vec MadeStream Global) (is : v.items ≡ line_streams units sides ++ sides).
    plant_whole number streams units sides v.items c.requires.least c.requires.most c.units_of-units.ensures.value are is in
    let count_is : streams - (units + 1) ≡ sides_of streams = ap (λ (n : ℕ). streams - (n + 1)) c.units_of-units.ensures.value in
    let made = λ (v : Vec MadeStream Global). v.items ≡ line_streams units sides ++ sides in
    record {
      value = weaker c.made_streams.result made (λ v. v.items ≡ made_streams number streams) (λ v is. (plant v is).value) c.made_streams.ensures;
      state = on_ok c.made_streams.result _ (c.in_ok-sides.ensures.state ∙ ap (λ (n : ℕ). state_after_draws number (3 * n)) count_is);
      count = weaker c.made_streams.result made (λ v. length v.items ≡ streams) (λ v is. (plant v is).count) c.made_streams.ensures;
      made = weaker c.made_streams.result made (λ v. All (IsMade most_made_streams) v.items) (λ v is. (plant v is).made) c.made_streams.ensures;
    }
