use Rattle.csv.specs.Records.{fields_of}
use Rattle.pb_rows.proofs.ReadLemmas.{reads_first}
use Rattle.pb_rows.proofs.row.Row.read.Goals as goal

pub returns-clause-reads : goal.returns-clause-reads
returns-clause-reads c =
    let done = c.read_byte_record.ensures in
    reads_first c.args.reader.now c.read_byte_record.new.self (fields_of c.read_byte_record.new.row) c.read_byte_record.result c.requires.stands c.requires.ready done.reads (done.ready c.requires.stands.trim) done.flexible
