use Rattle.pb_period.proofs.PlantLemmas.{ready}
use Rattle.pb_period.proofs.WindowLemmas.{window_right}
use Rattle.pb_period.proofs.laws.window_graphs_law.Goals as goal

pub returns : goal.returns
returns c rows periods window accepted form =
    let right = ready c.plant_law.ensures c.accepted_law.ensures rows accepted in window_right rows periods window right.plant right.ranges form
