use Rattle.std.proofs.Common.{◌≡◌, ◌∙◌, ℕ, List, [], ◌∷◌, ◌++◌, length, get_or, take, Some, None, ap, sym, subst, arith}
use Rattle.std.proofs.lemmas.List.{take_all, length-set}
use Rattle.std.proofs.lemmas.Option.{slice_get-get_or}
use Rattle.pb_graph.specs.declared.records.Stream.{Stream}
use Rattle.pb_graph.specs.ProcessGraph.{IsStream}
use Rattle.pb_graph.specs.Neighbours.{touching_from}
use Rattle.pb_graph.proofs.NeighbourLemmas.{added, noted, touching_more, noted_twice}
use Rattle.pb_graph.proofs.neighbours.note_all.Goals as goal

abbrev some_stream : Stream
some_stream = record { from = 0; to = 0; meas = None }

-- one more stream is added at both its ends
pub loop-j-preserved : goal.loop-j-preserved
loop-j-preserved c =
    let lists = c.loop-j.lists in
    let j = c.loop-j.j in
    let ss = c.args.streams.now in
    let s = get_or ss j some_stream in
    let size : length lists ≡ length c.args.lists.now = c.loop-j.invariant.each in
    let ends : IsStream (length lists) s = subst (λ (n : ℕ). IsStream n s) (sym size) (c.requires.ends j some_stream c.loop-j-test.true) in
    let once = noted lists s.from j in
    let is : c.note-in-loop-j.new.lists ≡ noted once s.to j = c.in_ok-note-2.ensures ∙ ap (λ (l : List (List ℕ)). noted l s.to j) (c.in_ok-note.ensures) in
    record {
      each = ap length is ∙ length-set once s.to (get_or once s.to [] ++ j ∷ []) ∙ length-set lists s.from (get_or lists s.from [] ++ j ∷ []) ∙ size;
      so_far = λ n lt.
          ap (λ (l : List (List ℕ)). get_or l n []) is ∙ noted_twice lists n j s ends (omega (arith, lt, size))
          ∙ ap (λ (l : List ℕ). l ++ added n j s) (c.loop-j.invariant.so_far n lt) ∙ sym (touching_more n j ss some_stream c.loop-j-test.true);
    }

pub returns : goal.returns
returns c = λ n lt.
    let le = c.loop-j-test.false in
    let whole : take c.loop-j.j c.args.streams.now ≡ c.args.streams.now = take_all c.loop-j.j c.args.streams.now (omega (arith, le)) in
    slice_get-get_or c.loop-j.lists n [] (omega (arith, lt, c.loop-j.invariant.each))
    ∙ ap (λ (l : List ℕ). Some l) (c.loop-j.invariant.so_far n lt ∙ ap (touching_from n 0) whole)
