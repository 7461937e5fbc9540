use Rattle.pb_plan.proofs.PlaceLemmas.{places_are}
use Rattle.pb_plan.proofs.laws.window_places_law.Goals as goal

pub returns : goal.returns
returns c = places_are
