use Rattle.std.proofs.Common.{refl, arith}
use Rattle.std.proofs.lemmas.Option.{slice_get_within}
use Rattle.pb_form.specs.SessionRows.{session_kinds, session_schema}
use Rattle.pb_form.proofs.TableLemmas.{few_seen, seen_at, within_seen}
use Rattle.pb_form.proofs.session.session_schema.Goals as goal

pub offset_bounds-schemas-place_of : goal.offset_bounds-schemas-place_of
offset_bounds-schemas-place_of c = let within = slice_get_within session_kinds c.place_of.result c.args.kind c.place_of.ensures in omega (arith, within)

pub bounds-schemas-place_of : goal.bounds-schemas-place_of
bounds-schemas-place_of c = within_seen session_schema _ session_kinds _ _ c.session_schemas-schemas.ensures c.place_of.ensures

pub returns-clause-value : goal.returns-clause-value
returns-clause-value c = seen_at session_schema _ session_kinds _ _ _ c.session_schemas-schemas.ensures c.place_of.ensures

pub returns-clause-few : goal.returns-clause-few
returns-clause-few c = few_seen session_schema _ session_kinds _ _ _ c.session_schemas-schemas.ensures c.place_of.ensures refl
