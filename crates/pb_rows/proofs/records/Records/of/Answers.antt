use Rattle.std.proofs.Common.{◌≡◌, ◌∙◌, arith, refl}
use Rattle.csv.specs.Reading.{reader_state, strip_bom}
use Rattle.pb_rows.specs.InHand.{records_in, unread_by}
use Rattle.pb_rows.specs.Records.{records_of}
use Rattle.pb_rows.proofs.ReadLemmas.{few_records_of}
use Rattle.pb_rows.proofs.records.Records.of.Goals as goal

pub invariant_of-result : goal.invariant_of-result
invariant_of-result c =
    let fr = c.from_reader-reader.ensures in
    let even = c.flexible.ensures in
    let few = few_records_of c.args.bytes.now in
    let size = c.count_fits.ensures in
    let all : records_in (reader_state c.from_reader-reader.result) (unread_by c.from_reader-reader.result) ≡ records_of c.args.bytes.now = rw (fr.state, fr.source) refl in
    record {
      stands = λ _. record {
        config = rw even at fr.config ∙ c.new.ensures.config;
        trim = rw even at fr.trim ∙ c.new.ensures.trim;
        flexible = rw even at fr.flexible;
        between = rw fr.state refl;
        bytes = strip_bom c.args.bytes.now;
        unread = fr.source;
      };
      ready = λ _. rw even at fr.has_headers ∙ c.new.ensures.has_headers;
      few = rw all (omega (arith, few, size));
    }

pub returns-clause-at_most_bytes : goal.returns-clause-at_most_bytes
returns-clause-at_most_bytes c =
    let fr = c.from_reader-reader.ensures in
    rw (fr.state, fr.source) (few_records_of c.args.bytes.now)
