-- Statement. The count of faults of an end that never fails doesn't rise, so nothing that is read or written over such an end fails.
use Rattle.pb_io.specs.Counts.{Rose}
use Rattle.pb_io.specs.SureSource.{SourceWithoutFault, seen_without_fault}
use Rattle.pb_io.specs.SureSink.{SinkWithoutFault, counted_without_fault}

-- between any two looks at a source that never fails
abbrev pub SureSourceLaw : Type 0
SureSourceLaw = (old new : SourceWithoutFault) → Rose (seen_without_fault old).faults (seen_without_fault new).faults → ⊥

-- between any two looks at a sink that never fails
abbrev pub SureSinkLaw : Type 0
SureSinkLaw = (old new : SinkWithoutFault) → Rose (counted_without_fault old).faults (counted_without_fault new).faults → ⊥
