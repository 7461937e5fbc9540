use Rattle.std.proofs.Common.{arith}
use Rattle.pb_check.specs.declared.faults.Test.TheVariants.{Class, Witness}
use Rattle.pb_check.proofs.numbers.first_of_numbers.Goals as goal

pub bounds_fault-requires-clause-classes : goal.bounds_fault-requires-clause-classes
bounds_fault-requires-clause-classes c = c.requires.earlier Class (omega arith)

pub bounds_fault-requires-clause-shown : goal.bounds_fault-requires-clause-shown
bounds_fault-requires-clause-shown c = c.requires.earlier Witness (omega arith)
