-- Inside. What a handle owns: while it is live, the same as a `Box<OpenStudy>`; else nothing.
use base.Fml.{Fml, ftrue}
use base.Stored.{Coded}
use denote.RawPtr.{Ptr}
use Rattle.std.specs.Prelude.{Bool, true, false}
use Rattle.std.specs.Box.Ownership.{box_owns}
use Rattle.std.specs.Global.{Global}
use Rattle.std_heap.specs.contracts.GlobalAllocator.TheImpl.{ghosts}
use Rattle.plantbal_study_c.specs.contracts.opened.OpenStudy.{the_row}

abbrev pub study_handle_owns : Bool → Global → Ptr → the_row.Denot → Fml
study_handle_owns true alloc p x = box_owns (ghosts.dealloc_token alloc) the_row p x
study_handle_owns false alloc p x = ftrue

abbrev pub study_coded : Coded the_row.Denot
study_coded = the_row.coded
