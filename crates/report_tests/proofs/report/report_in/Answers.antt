use Rattle.std.proofs.Common.{rules}
use Rattle.report_tests.proofs.report.report_in.Goals as goal

pub write_study-requires : goal.write_study-requires
write_study-requires c = record { named = record { graph = c.at.result.now.graph; named = search rules; formed = search rules } }
