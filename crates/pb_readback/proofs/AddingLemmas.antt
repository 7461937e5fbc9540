-- A row without a fault: there is room for what it names, and its stream is one of the graph.
use Rattle.std.proofs.Common.{◌≡◌, ℕ, ◌<◌, List, length, false, true, Ok, None, codes, refl, sym, arith}
use Rattle.pb_limits.specs.Limits.{most_streams}
use Rattle.pb_graph.specs.ProcessGraph.{IsStream}
use Rattle.pb_rows.specs.Name.{is_name}
use Rattle.pb_form.specs.OutputRows.{output_schema}
use Rattle.pb_form.specs.Reading.{row_read}
use Rattle.pb_form.specs.Value.{Value}
use Rattle.pb_form.specs.declared.output.OutputKind.{OutputKind}
use Rattle.pb_form.specs.declared.output.OutputKind.TheVariants.{Node, Stream, StreamBefore}
use Rattle.pb_blocks.specs.Counts.{IsStreamKind}
use Rattle.pb_blocks.specs.Lists.{is_among}
use Rattle.pb_blocks.specs.Texts.{name_field}
use Rattle.pb_blocks.specs.Values.{said_arc, values_in}
use Rattle.pb_blocks.proofs.RowLaws.{name_read}
use Rattle.pb_readback.specs.declared.draft.Draft.{Draft}
use Rattle.pb_readback.specs.Faults.{fault_beside}
use Rattle.pb_readback.specs.Reading.{AwaitsNodes, AwaitsStreams, IsUnderWay, MayCome}
use Rattle.pb_readback.proofs.FormedLemmas.{beside_fine, read_values}
use Rattle.pb_readback.proofs.ReadingLemmas.{node_room, stream_room}
use Rattle.pb_readback.proofs.StreamLemmas.{arc_joins}

-- ---- nodes

pub node_name : (row : List (List ℕ)) (values : List Value) → row_read (output_schema Node) row ≡ Ok values → is_name (name_field row) ≡ true
node_name row values read = name_read Node row values 1 (codes "name") read refl

pub few_nodes : (draft : Draft) → IsUnderWay draft → AwaitsNodes draft → length draft.nodes < most_streams
few_nodes draft way may =
    let room = node_room draft may in
    let few = way.heading.few_nodes in
    omega (arith, room, few)

pub new_node : (draft : Draft) (row : List (List ℕ)) → fault_beside Node draft row ≡ None → is_among draft.nodes (name_field row) ≡ false
new_node draft row none = (beside_fine Node draft row none).1

-- ---- streams

pub stream_name : (kind : OutputKind) (row : List (List ℕ)) (values : List Value) → IsStreamKind kind → row_read (output_schema kind) row ≡ Ok values → is_name (name_field row) ≡ true
stream_name Stream row values is read = name_read Stream row values 1 (codes "name") read refl
stream_name StreamBefore row values is read = name_read StreamBefore row values 1 (codes "name") read refl
stream_name kind row values is read = absurd is

pub awaits : (draft : Draft) (kind : OutputKind) → IsStreamKind kind → MayCome draft kind → AwaitsStreams draft
awaits draft Stream is may = may
awaits draft StreamBefore is may = may
awaits draft kind is may = absurd is

pub few_streams : (draft : Draft) (kind : OutputKind) → IsUnderWay draft → IsStreamKind kind → MayCome draft kind → length draft.streams < most_streams
few_streams draft kind way is may =
    let room = stream_room draft (awaits draft kind is may) in
    let few = way.heading.few_streams in
    omega (arith, room, few)

pub few_arcs : (draft : Draft) (kind : OutputKind) → IsUnderWay draft → IsStreamKind kind → MayCome draft kind → length draft.graph.streams < most_streams
few_arcs draft kind way is may =
    let few = few_streams draft kind way is may in
    let each = way.each_stream in
    omega (arith, few, each)

pub new_stream : (draft : Draft) (kind : OutputKind) (row : List (List ℕ)) → IsStreamKind kind → fault_beside kind draft row ≡ None → is_among draft.streams (name_field row) ≡ false
new_stream draft Stream row is none = (beside_fine Stream draft row none).1
new_stream draft StreamBefore row is none = (beside_fine StreamBefore draft row none).1
new_stream draft kind row is none = absurd is

pub joins : (draft : Draft) (kind : OutputKind) (row : List (List ℕ)) (values : List Value) → IsUnderWay draft → IsStreamKind kind → fault_beside kind draft row ≡ None
    → IsStream draft.graph.nodes (said_arc draft.nodes row values)
joins draft Stream row values way is none =
    let fine = beside_fine Stream draft row none in
    rw (way.graph) (arc_joins draft.nodes Stream row values draft.heading.nodes way.nodes fine.0 fine.2)
joins draft StreamBefore row values way is none =
    let fine = beside_fine StreamBefore draft row none in
    rw (way.graph) (arc_joins draft.nodes StreamBefore row values draft.heading.nodes way.nodes fine.0 fine.2)
joins draft kind row values way is none = absurd is

-- the values of a row that was read
pub values_are : (kind : OutputKind) (row : List (List ℕ)) (values : List Value) → row_read (output_schema kind) row ≡ Ok values → values ≡ values_in kind row
values_are kind row values read = sym (read_values kind row values read)
