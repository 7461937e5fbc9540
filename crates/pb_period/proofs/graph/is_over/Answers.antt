use Rattle.std.proofs.Common.{◌∙◌, inl, inr, sym}
use Rattle.std.proofs.lemmas.Bool.{cases_Bool}
use Rattle.pb_graph.specs.ProcessGraph.{Fits}
use Rattle.pb_period.specs.PeriodGraph.{is_over}
use Rattle.pb_period.proofs.GraphLemmas.{not_over, within}
use Rattle.pb_period.proofs.graph.is_over.Goals as goal

pub returns-clause-value : goal.returns-clause-value
returns-clause-value c =
    let stream = c.args.stream.now in
    elim (cases_Bool c.fits.result) [
      | inl fits ↦ rw fits (sym (not_over stream (c.fits.ensures.0 fits).limits))
      | inr refused ↦ elim (cases_Bool (is_over stream)) [
        | inl over ↦ rw refused (sym over)
        | inr within_limits ↦
            let fits : Fits c.args.graph.now stream = record { room = c.requires.room; joins = c.requires.joins; limits = within stream within_limits c.requires.least } in
            cc (sym refused ∙ c.fits.ensures.1 fits)
      ]
    ]

pub returns-clause-fits : goal.returns-clause-fits
returns-clause-fits c = λ not_over. elim (cases_Bool c.fits.result) [
  | inl fits ↦ c.fits.ensures.0 fits
  | inr refused ↦ cc (rw refused at not_over)
]
