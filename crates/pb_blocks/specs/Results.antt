-- Statement. A stream's result, once the streams in its certificate are looked up by their names.
use Rattle.std.specs.Prelude.{ℕ, Bool, not, List, map}
use Rattle.std.specs.List.{list_any}
use Rattle.pb_graph.specs.declared.records.Witness.{Witness}
use Rattle.pb_graph.specs.declared.records.Witness.TheVariants as witness
use Rattle.pb_study.specs.declared.results.StreamResult.{StreamResult}
use Rattle.pb_choices.specs.declared.places.Shape.{Shape}
use Rattle.pb_choices.specs.declared.places.Shape.TheVariants.{Cut, Cycle}
use Rattle.pb_blocks.specs.declared.rows.StreamRow.{StreamRow}
use Rattle.pb_blocks.specs.Lists.{is_among, items, member_of, part_name, step_of}

-- a certificate: the members of a cut with its side, or the steps of a cycle
abbrev pub witness_by : Shape → List (List ℕ) → StreamRow → Witness
witness_by Cut streams row = witness.Cut row.side (map (member_of streams) (items row.parts))
witness_by Cycle streams row = witness.Cycle (map (step_of streams) (items row.parts))

-- a stream's result, with the streams of its certificate looked up by their names
abbrev pub result_of : List (List ℕ) → StreamRow → StreamResult
result_of streams row = record {
  classified = record { class = row.class; witness = witness_by row.shape streams row };
  flow = row.flow;
  bounds = row.bounds;
  least = row.least;
}

-- a stream with a part that names none of these streams
abbrev pub has_unknown_part : List (List ℕ) → StreamRow → Bool
has_unknown_part streams row = list_any (λ part. not (is_among streams (part_name part))) (items row.parts)
