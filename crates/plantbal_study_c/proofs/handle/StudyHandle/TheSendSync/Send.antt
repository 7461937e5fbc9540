use mathlib.Core.Bool.{Bool, true, false}
use mir.Raw.{raw}
use base.Shift.{Keyless}
use denote.RawPtr.{Ptr}
use Rattle.std.specs.Global.{Global}
use Rattle.plantbal_study_c.specs.Owned.{study_handle_owns}
use denote.Memory.{lone}
use denote.Struct.Struct.{exits_of}
use denote.Struct.Owning.{shape, fields, to}
use denote.Param.Send.{IsSend, AllSend, owning_send, struct_send, sendable}
use Rattle.std.proofs.Crossing as heap
use Rattle.std_alloc.proofs.SendSync.{quiet, lies}
use Rattle.std_heap.proofs.Global.TheSendSync as handle
use Rattle.plantbal_study_c.specs.contracts.opened.OpenStudy as OpenStudy
use Rattle.plantbal_study_c.proofs.opened.OpenStudy.TheSendSync.{the_send as desk}
use Rattle.plantbal_study_c.specs.contracts.handle.StudyHandle.{the_row, the_type}

-- what a `Handle` owns beside its fields may be freed by any thread
owned : (y : Bool) (a : Global) (p : Ptr) (x : OpenStudy.the_row.Denot) → Keyless (study_handle_owns y a p x)
owned true a p x = (lies OpenStudy.the_row desk p x, heap.frees.frees a (raw (lone OpenStudy.the_row.mir)) p)
owned false a p x = tt

pub send : IsSend the_row
send =
    let all : AllSend (fields the_type) = (search sendable, (search sendable, (handle.the_field_send, tt))) in
    owning_send the_type all (λ d. owned d.live d.alloc d.at d.value)
    (λ k. quiet (to the_type) (exits_of k (fields the_type)) ((struct_send (shape the_type) all).leaving k))
