use Rattle.std.proofs.Common.{◌*◌, length, length-drop, ap, rules, arith}
use Rattle.std.proofs.lemmas.Int.{ints}
use Rattle.pb_kinds.proofs.CostLemmas.{cost_is, cost_read, pair_there, two_columns, within_pairs}
use Rattle.pb_kinds.proofs.costs.NamedCosts.at.Goals as goal

pub overflow_mul-place : goal.overflow_mul-place
overflow_mul-place c =
    let it = (within_pairs c.self.inside.pairs c.self.inside.len c.args.self.now c.args.place c.self.invariant c.self.view_is c.requires).1.1 in
    omega (arith, it.room, c.self.invariant.few)

pub skip-requires : goal.skip-requires
skip-requires c =
    let it = (within_pairs c.self.inside.pairs c.self.inside.len c.args.self.now c.args.place c.self.invariant c.self.view_is c.requires).1.1 in
    omega (arith, it.room)

pub read_columns-requires : goal.read_columns-requires
read_columns-requires c =
    let it = (within_pairs c.self.inside.pairs c.self.inside.len c.args.self.now c.args.place c.self.invariant c.self.view_is c.requires).1.1 in
    omega (arith, two_columns c.session_schema.result.now c.session_schema.ensures.value, it.room, ap length c.skip.ensures, length-drop (2 * c.args.place) c.self.inside.pairs)

pub unwrap-pair-requires : goal.unwrap-pair-requires
unwrap-pair-requires c =
    let it = cost_read c.session_schema.result.now c.self.inside.pairs c.skip.result c.self.inside.len c.args.self.now c.args.place c.read_columns.result c.session_schema.ensures.value c.self.invariant c.self.view_is c.requires c.skip.ensures c.read_columns.ensures.value in
    rw it.reads (search rules)

pub name_there-requires : goal.name_there-requires
name_there-requires c = (pair_there c.session_schema.result.now c.unwrap-pair.result c.session_schema.ensures.value (rw c.unwrap-pair.ensures at c.read_columns.ensures.fit)).0

pub long_there-requires : goal.long_there-requires
long_there-requires c =
    let it = (pair_there c.session_schema.result.now c.unwrap-pair.result c.session_schema.ensures.value (rw c.unwrap-pair.ensures at c.read_columns.ensures.fit)).1 in
    record { number = it.number; is = it.is; least = omega (arith, ints, it.least); most = omega (arith, ints, it.most) }

pub returns-clause-value : goal.returns-clause-value
returns-clause-value c =
    let it = cost_read c.session_schema.result.now c.self.inside.pairs c.skip.result c.self.inside.len c.args.self.now c.args.place c.read_columns.result c.session_schema.ensures.value c.self.invariant c.self.view_is c.requires c.skip.ensures c.read_columns.ensures.value in
    let range = (pair_there c.session_schema.result.now c.unwrap-pair.result c.session_schema.ensures.value (rw c.unwrap-pair.ensures at c.read_columns.ensures.fit)).1 in
    cost_is c.args.self.now c.args.place c.read_columns.result c.unwrap-pair.result c.name_there.result c.long_there.result it c.unwrap-pair.ensures range c.name_there.ensures c.long_there.ensures
