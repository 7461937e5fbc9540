use Rattle.std.specs.Prelude.{filter, map}
use Rattle.std.proofs.Common.{◌≡◌, ◌∙◌, ◌+◌, ◌≤◌, ℕ, ℤ, false, true, List, [], ◌∷◌, ◌++◌, length, drop, FitsSigned, refl, sym, ap, subst, arith, append_assoc, Bool, length-append}
use mir.Syntax.{w32}
use Rattle.std.proofs.lemmas.Int.{ints, to_z-of_z}
use Rattle.std.proofs.lemmas.List.{append-nil}
use Rattle.std.proofs.lemmas.List.Elements.{All-nil, All-push}
use Rattle.std.proofs.Math.ListN.{drop_of_length-le}
use Rattle.pb_graph.specs.declared.records.Stream.{Stream}
use Rattle.pb_graph.specs.ProcessGraph.{IsStream}
use Rattle.pb_site.specs.declared.declared.Arc.{Arc}
use Rattle.pb_site.specs.declared.declared.Declared.{Declared}
use Rattle.pb_site.specs.declared.declared.Version.{Version}
use Rattle.pb_site.specs.declared.declared.Version.TheVariants.{Two}
use Rattle.pb_site.specs.Laws.{IsPartOnDays, JoinsPlaces}
use Rattle.pb_site.specs.OnDays.{is_arc_in_service, nodes_on}
use Rattle.pb_site.specs.Site.{arcs_of, version_of}
use Rattle.pb_facts.specs.Facts.{live_facts}
use Rattle.pb_book.specs.Rows.{declared_of, facts_of}
use Rattle.pb_period.specs.PeriodGraph.{graph_in, is_over, stream_among, measured_in}
use Rattle.pb_period.proofs.GraphLemmas.{finished, kept_has, kept_next, left_next, over_at}
use Rattle.pb_period.proofs.graph.served_graph.Goals.{then-is_in_service_within+else-is_over+in_ok-push, else-is_in_service_within}
use Rattle.pb_period.proofs.graph.served_graph.Goals as goal

-- the nodes in service on some days of a plant of version 2
nodes_at : (site declared : List Declared) (first last : ℤ) (part : List ℕ) → site ≡ declared → version_of declared ≡ Two → part ≡ nodes_on (version_of site) site first last
    → part ≡ nodes_on Two declared first last
nodes_at site declared first last part site_is version_is is =
    is ∙ ap (λ (ds : List Declared). nodes_on (version_of ds) ds first last) site_is ∙ ap (λ (v : Version). nodes_on v declared first last) version_is

part_at : (site declared : List Declared) (first last : ℤ) → site ≡ declared → version_of declared ≡ Two → IsPartOnDays (version_of site) site first last → IsPartOnDays Two declared first last
part_at site declared first last site_is version_is part =
    subst (λ (v : Version). IsPartOnDays v declared first last) version_is (subst (λ (ds : List Declared). IsPartOnDays (version_of ds) ds first last) site_is part)

-- nothing is left after the last arc
none_left : (p : Arc → Bool) (f : Arc → Stream) (whole made : List Stream) (arcs : List Arc) (j : ℕ) → length arcs ≤ j → whole ≡ made ++ map f (filter p (drop j arcs)) → whole ≡ made
none_left p f whole made arcs j past so_far =
    so_far ∙ ap (λ (left : List Arc). made ++ map f (filter p left)) (drop_of_length-le arcs past) ∙ append-nil made

pub loop-j-init : goal.loop-j-init
loop-j-init c =
    let days = c.args.days in
    let first : FitsSigned w32 days.first = omega (arith, ints, c.requires.days.begins.0, c.requires.days.begins.1) in
    let last : FitsSigned w32 days.last = omega (arith, ints, c.requires.days.ends.0, c.requires.days.ends.1) in
    let is = simp to_z-of_z at c.in_ok-part.ensures.value in
    let part_is = nodes_at c.site-site.result.now (declared_of c.args.book.now) days.first days.last c.in_ok-part.part c.site-site.ensures.value c.requires.version is in
    rw c.new-graph.ensures (record {
      nodes = ap (λ (ns : List ℕ). length ns) (c.nodes.ensures.value ∙ part_is);
      counted = omega arith;
      so_far = refl;
      within = All-nil (λ (s : Stream). is_over s ≡ false);
    })

pub served_stream-stream-requires-clause-joins : goal.served_stream-stream-requires-clause-joins
served_stream-stream-requires-clause-joins c =
    let days = c.args.days in
    let declared = declared_of c.args.book.now in
    let first : FitsSigned w32 days.first = omega (arith, ints, c.requires.days.begins.0, c.requires.days.begins.1) in
    let last : FitsSigned w32 days.last = omega (arith, ints, c.requires.days.ends.0, c.requires.days.ends.1) in
    let is = simp to_z-of_z at c.in_ok-part.ensures.value in
    let own = simp to_z-of_z at c.in_ok-part.ensures.part in
    let serves_is = simp to_z-of_z at c.is_in_service_within.ensures in
    let part_is = nodes_at c.site-site.result.now declared days.first days.last c.in_ok-part.part c.site-site.ensures.value c.requires.version is in
    let part = part_at c.site-site.result.now declared days.first days.last c.site-site.ensures.value c.requires.version own in
    let at = rw c.site-site.ensures.value at c.arc-arc.ensures.value in
    let serves : is_arc_in_service days.first days.last c.arc-arc.result ≡ true = sym serves_is ∙ c.if-is_in_service_within.true in
    subst (λ (ns : List ℕ). JoinsPlaces ns c.arc-arc.result) (sym part_is)
    (kept_has (JoinsPlaces (nodes_on Two declared days.first days.last)) (is_arc_in_service days.first days.last) (arcs_of declared) c.loop-j.j c.arc-arc.result at serves part.joined)

pub is_over-requires-clause-room : goal.is_over-requires-clause-room
is_over-requires-clause-room c = omega (arith, c.loop-j.invariant.counted, c.loop-j-test.true, c.arcs-j-end.ensures.within)

pub is_over-requires-clause-joins : goal.is_over-requires-clause-joins
is_over-requires-clause-joins c =
    let days = c.args.days in
    let first : FitsSigned w32 days.first = omega (arith, ints, c.requires.days.begins.0, c.requires.days.begins.1) in
    let last : FitsSigned w32 days.last = omega (arith, ints, c.requires.days.ends.0, c.requires.days.ends.1) in
    let is = simp to_z-of_z at c.in_ok-part.ensures.value in
    let part_is = nodes_at c.site-site.result.now (declared_of c.args.book.now) days.first days.last c.in_ok-part.part c.site-site.ensures.value c.requires.version is in
    let nodes : length c.in_ok-part.part ≡ c.loop-j.graph.nodes = ap (λ (ns : List ℕ). length ns) part_is ∙ sym c.loop-j.invariant.nodes in
    subst (λ (n : ℕ). IsStream n c.served_stream-stream.result) nodes c.served_stream-stream.ensures.joins

pub returns-then-is_over-clause-answer : goal.returns-then-is_over-clause-answer
returns-then-is_over-clause-answer c = λ _.
    let rows = c.args.book.now in
    let days = c.args.days in
    let declared = declared_of rows in
    let first : FitsSigned w32 days.first = omega (arith, ints, c.requires.days.begins.0, c.requires.days.begins.1) in
    let last : FitsSigned w32 days.last = omega (arith, ints, c.requires.days.ends.0, c.requires.days.ends.1) in
    let is = simp to_z-of_z at c.in_ok-part.ensures.value in
    let serves_is = simp to_z-of_z at c.is_in_service_within.ensures in
    let part_is = nodes_at c.site-site.result.now declared days.first days.last c.in_ok-part.part c.site-site.ensures.value c.requires.version is in
    let at = rw c.site-site.ensures.value at c.arc-arc.ensures.value in
    let test = is_arc_in_service days.first days.last in
    let serves : test c.arc-arc.result ≡ true = sym serves_is ∙ c.if-is_in_service_within.true in
    let measure = measured_in Two declared (live_facts (facts_of rows)) days in
    let f = stream_among (nodes_on Two declared days.first days.last) measure in
    let made = c.loop-j.graph.streams in
    let stream : Stream = c.served_stream-stream.result in
    let stream_is : stream ≡ f c.arc-arc.result = c.served_stream-stream.ensures.value ∙ ap (λ (ns : List ℕ). stream_among ns measure c.arc-arc.result) part_is in
    let rest = map f (filter test (drop (c.loop-j.j + 1) (arcs_of declared))) in
    let split : (graph_in Two rows days).streams ≡ made ++ stream ∷ rest =
    c.loop-j.invariant.so_far ∙ ap (λ (left : List Arc). made ++ map f left) (kept_next test (arcs_of declared) c.loop-j.j c.arc-arc.result at serves)
    ∙ ap (λ (s : Stream). made ++ s ∷ rest) (sym stream_is) in
    over_at (graph_in Two rows days) made rest stream (length c.streams.result.now) split c.loop-j.invariant.within (sym c.is_over.ensures.value ∙ c.if-is_over.true)
    (sym (ap (λ (ss : List Stream). length ss) c.streams.ensures.value))

pub returns-then-is_over-clause-over : goal.returns-then-is_over-clause-over
returns-then-is_over-clause-over c =
    let rows = c.args.book.now in
    let days = c.args.days in
    let declared = declared_of rows in
    let first : FitsSigned w32 days.first = omega (arith, ints, c.requires.days.begins.0, c.requires.days.begins.1) in
    let last : FitsSigned w32 days.last = omega (arith, ints, c.requires.days.ends.0, c.requires.days.ends.1) in
    let serves_is = simp to_z-of_z at c.is_in_service_within.ensures in
    let at = rw c.site-site.ensures.value at c.arc-arc.ensures.value in
    let test = is_arc_in_service days.first days.last in
    let serves : test c.arc-arc.result ≡ true = sym serves_is ∙ c.if-is_in_service_within.true in
    let f = stream_among (nodes_on Two declared days.first days.last) (measured_in Two declared (live_facts (facts_of rows)) days) in
    let made = c.loop-j.graph.streams in
    let rest = map f (filter test (drop (c.loop-j.j + 1) (arcs_of declared))) in
    let split : (graph_in Two rows days).streams ≡ made ++ f c.arc-arc.result ∷ rest =
    c.loop-j.invariant.so_far ∙ ap (λ (left : List Arc). made ++ map f left) (kept_next test (arcs_of declared) c.loop-j.j c.arc-arc.result at serves) in
    let long = ap (λ (ss : List Stream). length ss) split ∙ length-append made (f c.arc-arc.result ∷ rest) in
    let here = ap (λ (ss : List Stream). length ss) c.streams.ensures.value in
    omega (arith, long, here)

pub returns-clause-answer : goal.returns-clause-answer
returns-clause-answer c = λ _.
    let rows = c.args.book.now in
    let days = c.args.days in
    let declared = declared_of rows in
    let arcs = arcs_of declared in
    let f = stream_among (nodes_on Two declared days.first days.last) (measured_in Two declared (live_facts (facts_of rows)) days) in
    let past : length arcs ≤ c.loop-j.j = rw (← c.site-site.ensures.value) (omega (arith, c.loop-j-test.false, c.arcs-j-end.ensures.value)) in
    let all = none_left (is_arc_in_service days.first days.last) f (graph_in Two rows days).streams c.loop-j.graph.streams arcs c.loop-j.j past c.loop-j.invariant.so_far in
    finished (graph_in Two rows days) c.loop-j.graph c.loop-j.invariant.nodes all c.loop-j.invariant.within

pub loop-j-preserved : goal.loop-j-preserved
loop-j-preserved c =
    let rows = c.args.book.now in
    let days = c.args.days in
    let declared = declared_of rows in
    let first : FitsSigned w32 days.first = omega (arith, ints, c.requires.days.begins.0, c.requires.days.begins.1) in
    let last : FitsSigned w32 days.last = omega (arith, ints, c.requires.days.ends.0, c.requires.days.ends.1) in
    let is = simp to_z-of_z at c.in_ok-part.ensures.value in
    let serves_is = simp to_z-of_z at c.is_in_service_within.ensures in
    let part_is = nodes_at c.site-site.result.now declared days.first days.last c.in_ok-part.part c.site-site.ensures.value c.requires.version is in
    let at = rw c.site-site.ensures.value at c.arc-arc.ensures.value in
    let test = is_arc_in_service days.first days.last in
    let measure = measured_in Two declared (live_facts (facts_of rows)) days in
    let f = stream_among (nodes_on Two declared days.first days.last) measure in
    let made = c.loop-j.graph.streams in
    elim c.if-is_in_service_within.branch [
      | then-is_in_service_within+else-is_over+in_ok-push w ↦
          let stream : Stream = w.served_stream-stream.result in
          let stream_is : stream ≡ f c.arc-arc.result = w.served_stream-stream.ensures.value ∙ ap (λ (ns : List ℕ). stream_among ns measure c.arc-arc.result) part_is in
          let serves : test c.arc-arc.result ≡ true = sym serves_is ∙ w.if-is_in_service_within.true in
          let rest = map f (filter test (drop (c.loop-j.j + 1) (arcs_of declared))) in
          let split = c.loop-j.invariant.so_far ∙ ap (λ (left : List Arc). made ++ map f left) (kept_next test (arcs_of declared) c.loop-j.j c.arc-arc.result at serves)
          ∙ ap (λ (s : Stream). made ++ s ∷ rest) (sym stream_is) in
          let long = length-append made (stream ∷ []) in
          rw (w.graph-is ∙ w.in_ok-push.ensures.ok) (record {
            nodes = c.loop-j.invariant.nodes;
            counted = omega (arith, long, c.loop-j.invariant.counted);
            so_far = split ∙ sym (append_assoc made (stream ∷ []) rest);
            within = All-push (λ (s : Stream). is_over s ≡ false) made stream c.loop-j.invariant.within (sym w.is_over.ensures.value ∙ w.if-is_over.false);
          })
      | else-is_in_service_within w ↦
          let fails : test c.arc-arc.result ≡ false = sym serves_is ∙ w.if-is_in_service_within.false in
          rw w.graph-is (record {
            nodes = c.loop-j.invariant.nodes;
            counted = omega (arith, c.loop-j.invariant.counted);
            so_far = c.loop-j.invariant.so_far ∙ ap (λ (left : List Arc). made ++ map f left) (left_next test (arcs_of declared) c.loop-j.j c.arc-arc.result at fails);
            within = c.loop-j.invariant.within;
          })
    ]
