-- Inside. The measured streams at the border of a group, as seen from the group.
use Rattle.std.specs.Prelude.{◌≡◌, ◌≢◌, ◌==◌, ◌<◌, ◌≤◌, ℕ, suc, ℤ, pos, neg_ℤ, ◌+ℤ◌, ◌-ℤ◌, ◌*ℤ◌, ◌≤ℤ◌, unsigned_abs, Bool, not, List, All, map, [], ◌∷◌, ◌++◌, length, get_or, Option, Some, None, if◌then◌else◌}
use Rattle.std.specs.Int.{int_max, int_min}
use Rattle.std.specs.List.{AllByRecursion}
use Rattle.std.specs.Option.{option_to_list}
use Rattle.pb_limits.specs.Limits.{most_price, most_streams, most_value, most_variance}
use Rattle.pb_fixed.specs.Sums.{item, sum_over}
use Rattle.pb_graph.specs.declared.records.Meas.{Meas}
use Rattle.pb_graph.specs.declared.records.Stream.{Stream}
use Rattle.pb_graph.specs.ProcessGraph.{IsProcessGraph}
use Rattle.pb_graph.specs.Groups.{AreGroups, group_at, group_count}
use Rattle.pb_graph.specs.Prices.{PricesFit, most_adjustment}
use Rattle.pb_dual.specs.declared.border.BorderStream.{BorderStream}
use Rattle.pb_dual.specs.DualValue.{scale, dual_flows_of}
use Rattle.pb_dual.specs.Candidates.{room_of}
use Rattle.pb_dual.specs.Priced.{Priced, price_of}

-- measured stream j with exactly one end in a group, as seen from the group; the groups of its ends have the numbers from and to
abbrev pub seen_of : ℕ → Option Meas → Bool → Bool → ℕ → ℕ → Option BorderStream
seen_of j None from_in to_in from to = None
seen_of j (Some m) from_in to_in from to =
    if (if to_in then not from_in else from_in)
    then Some (record { stream = j; other = if to_in then from else to; enters = to_in; value = m.value; variance = m.variance; room = room_of m.variance })
    else None

abbrev pub seen_at : List ℕ → ℕ → ℕ → Stream → Option BorderStream
seen_at group k j s = seen_of j s.meas (group_at group s.from == k) (group_at group s.to == k) (group_at group s.from) (group_at group s.to)

-- the measured streams with exactly one end in group k, in order; the first stream of the list is stream j
abbrev pub border_from : List ℕ → ℕ → ℕ → List Stream → List BorderStream
border_from group k j [] = []
border_from group k j (s ∷ ss) = option_to_list (seen_at group k j s) ++ border_from group k (suc j) ss

abbrev pub border_of : List ℕ → ℕ → List Stream → List BorderStream
border_of group k ss = border_from group k 0 ss

-- how much the price rises along a stream at the border of group k
abbrev pub border_rise : List ℤ → ℕ → BorderStream → ℤ
border_rise prices k a =
    if a.enters then get_or prices k (pos 0) -ℤ get_or prices a.other (pos 0) else (get_or prices a.other (pos 0) -ℤ get_or prices k (pos 0))

-- the dual flow of a stream at the border of group k
abbrev pub border_stream_flow : List ℤ → ℕ → BorderStream → ℤ
border_stream_flow prices k a = (scale *ℤ a.value) +ℤ (a.variance *ℤ border_rise prices k a)

-- what a stream at its border brings to a group, given the dual flows of all streams
abbrev pub inflow_of : List ℤ → BorderStream → ℤ
inflow_of flows a = if a.enters then item flows a.stream else neg_ℤ (item flows a.stream)

abbrev pub border_flow : List ℤ → List BorderStream → ℤ
border_flow flows border = sum_over (inflow_of flows) border

-- each stream at the border has its dual flow
abbrev pub HaveFlows : List ℤ → ℕ → List BorderStream → List ℤ → Type 0
HaveFlows prices k border flows = AllByRecursion (λ a. item flows a.stream ≡ border_stream_flow prices k a) border

-- two lists of dual flows are the same except for streams at the border
abbrev pub AreSameElsewhere : List BorderStream → List ℤ → List ℤ → Type 0
AreSameElsewhere border flows others = (j : ℕ) → AllByRecursion (λ a. a.stream ≢ j) border → item flows j ≡ item others j

abbrev pub border_variance : List BorderStream → ℤ
border_variance border = sum_over (λ a. a.variance) border

-- the least room at the border, or the bound before it
abbrev pub border_room : ℤ → List BorderStream → ℤ
border_room room [] = room
border_room room (a ∷ border) = border_room (int_min room a.room) border

-- the least and the greatest price that the border allows
abbrev pub border_low : List ℤ → ℤ → List BorderStream → ℤ
border_low prices lo [] = lo
border_low prices lo (a ∷ border) = border_low prices (int_max lo (get_or prices a.other (pos 0) -ℤ a.room)) border

abbrev pub border_high : List ℤ → ℤ → List BorderStream → ℤ
border_high prices hi [] = hi
border_high prices hi (a ∷ border) = border_high prices (int_min hi (get_or prices a.other (pos 0) +ℤ a.room)) border

-- a variance within its limits
pub record HasLimits (a : BorderStream) : Type 0 where
  pub least : pos 1 ≤ℤ a.variance
  pub greatest : a.variance ≤ℤ pos most_variance

-- a stream at the border of group k within its limits
pub record IsBorderStream (prices : List ℤ) (k : ℕ) (a : BorderStream) : Type 0 where
  pub group : a.other < length prices
  pub size : unsigned_abs a.value ≤ most_value
  pub least : pos 1 ≤ℤ a.variance
  pub greatest : a.variance ≤ℤ pos most_variance
  pub space : unsigned_abs a.room ≤ most_adjustment
  pub box : unsigned_abs (a.variance *ℤ border_rise prices k a) ≤ most_adjustment

-- the border of group k, with no more streams than a graph may have
pub record AreBorder (prices : List ℤ) (k : ℕ) (border : List BorderStream) : Type 0 where
  pub few : length border ≤ most_streams
  pub each : All (IsBorderStream prices k) border

-- the groups are those of the graph, each has a price, and the prices fit
pub record IsPriced (d : Priced) : Type 0 where
  pub limits : IsProcessGraph d.graph
  pub groups : AreGroups d.graph d.group
  pub each : length d.prices ≡ group_count d.group
  pub fit : PricesFit d.graph (price_of d)

-- each group has its border, with the sum of the variances at it and the least room
pub record AreBorders (group : List ℕ) (streams : List Stream) (borders : List (List BorderStream)) (variances rooms : List ℤ) : Type 0 where
  pub each : length borders ≡ group_count group
  pub are : (k : ℕ) → k < length borders → get_or borders k [] ≡ border_of group k streams
  pub variance : variances ≡ map border_variance borders
  pub room : rooms ≡ map (border_room (pos most_adjustment)) borders

-- a number that no price exceeds, either way
pub record IsGreatest (greatest : ℤ) (prices : List ℤ) : Type 0 where
  pub from : pos 0 ≤ℤ greatest
  pub to : greatest ≤ℤ pos most_price
  pub above : All (λ p. pos (unsigned_abs p) ≤ℤ greatest) prices

-- what is kept with prices: each stream's dual flow at them, the borders of the groups, and a number that no price exceeds
pub record IsDual (d : Priced) (flows : List ℤ) (borders : List (List BorderStream)) (variances rooms : List ℤ) (greatest : ℤ) : Type 0 where
  pub priced : IsPriced d
  pub kept : flows ≡ dual_flows_of (price_of d) d.graph.streams
  pub around : AreBorders d.group d.graph.streams borders variances rooms
  pub most : IsGreatest greatest d.prices
