use Rattle.std.proofs.Common.{rules}
use Rattle.pb_words.specs.Args.{words_given}
use Rattle.pb_cli.proofs.ProgramLemmas.{not_run, ran}
use Rattle.pb_cli.proofs.program.run_args.Goals as goal

-- `run` gives each field
pub returns-in-Ok : goal.returns-in-Ok
returns-in-Ok g c =
    let said = c.run.ensures in
    ran g.R.Source.seen g.W.Sink.seen (words_given c.args.args) c.in-Ok.words c.args.source.now c.run.new.source c.args.sink.now c.run.new.sink c.run.result c.in-Ok.ensures.ok
    record {
      done = said.done;
      done_refused = said.done_refused;
      usage = said.usage;
      unaccepted = said.unaccepted;
      unread = said.unread;
      unwritten = said.unwritten;
      read_fault = said.read_fault;
      no_read_fault = said.no_read_fault;
      read_fault_unwritten = said.read_fault_unwritten;
      write_fault = said.write_fault;
      no_write_fault = said.no_write_fault;
      write_fault_cut = said.write_fault_cut;
      too_large = said.too_large;
      too_large_unwritten = said.too_large_unwritten;
      not_too_large = said.not_too_large;
      no_memory = said.no_memory;
      complete = said.complete;
      make_unread = said.make_unread;
      idle = said.idle;
      source_faults_stay = said.source_faults_stay;
      sink_faults_stay = said.sink_faults_stay;
      stops = said.stops;
    }

-- there are no words
pub returns-in-Err : goal.returns-in-Err
returns-in-Err g c =
    not_run g.R.Source.seen g.W.Sink.seen (words_given c.args.args) c.words_of.result c.in-Err.refused c.args.source.now c.args.sink.now c.from.result c.in-Err.is c.words_of.ensures.refused
    c.words_of.ensures.memory (search rules)
