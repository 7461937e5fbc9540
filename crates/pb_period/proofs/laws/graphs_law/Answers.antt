use Rattle.std.proofs.Common.{get_or}
use Rattle.pb_site.specs.Site.{version_of}
use Rattle.pb_book.specs.Rows.{declared_of, periods_of}
use Rattle.pb_period.specs.Days.{days_of}
use Rattle.pb_period.proofs.PlantLemmas.{ready}
use Rattle.pb_period.proofs.VarianceLemmas.{design_right, graph_right, names_right}
use Rattle.pb_period.proofs.laws.graphs_law.Goals as goal

pub returns : goal.returns
returns c rows accepted =
    let right = ready c.plant_law.ensures c.accepted_law.ensures rows accepted in
    let declared = declared_of rows in
    let version = version_of declared in
    record {
      names = right.plant.distinct;
      named = λ days. names_right version rows days (c.days_law.ensures version declared days.first days.last right.plant);
      design = design_right rows right.plant;
      periods = λ k d lt.
          let days = days_of (get_or (periods_of rows) k d) in graph_right version rows days right.plant (c.days_law.ensures version declared days.first days.last right.plant) right.ranges;
    }
