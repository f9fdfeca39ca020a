-- How an ask ends, by what was written and what was received.
use Rattle.std.proofs.Common.{◌≡◌, ℕ, List, Bool, true, false, Result, Ok, Err, inl, subst}
use Rattle.std.specs.Io.KnownBytes.{Appends}
use Rattle.session_proto.specs.declared.fault.Fault.{Fault}
use Rattle.operator_asking.specs.Asked.{Known, IsFlushed, WroteFront, Receives, Ends}
use Rattle.operator_asking.specs.declared.fault.AskFault.{AskFault}
use Rattle.operator_asking.specs.declared.fault.AskFault.TheVariants.{Socket, Frame, OutOfMemory}

pub written : (w0 w1 : Known) (bytes frame : List ℕ) (all : Bool) → bytes ≡ frame → IsFlushed w0 w1 bytes all → all ≡ true → Appends w0 w1 frame
written w0 w1 bytes frame true same wrote is = subst (Appends w0 w1) same wrote
written w0 w1 bytes frame false same wrote is = absurd cc

pub unwritten : (w0 w1 : Known) (bytes frame : List ℕ) (all : Bool) → bytes ≡ frame → IsFlushed w0 w1 bytes all → all ≡ false → WroteFront w0 w1 frame
unwritten w0 w1 bytes frame true same wrote is = absurd cc
unwritten w0 w1 bytes frame false same wrote is = subst (WroteFront w0 w1) same wrote

-- the frame was written, and this was received
pub received : {T : Type 0} (body : T → List ℕ) (fits : T → Type 0) (body_at : List ℕ → Result T Fault) (most : ℕ) (r0 r1 w0 w1 : Known) (frame : List ℕ) (result : Result T AskFault)
    → Appends w0 w1 frame → Receives body fits body_at most r0 r1 result → Ends body fits body_at most r0 r1 w0 w1 frame result
received body fits body_at most r0 r1 w0 w1 frame (Ok reply) wrote read = (wrote, read)
received body fits body_at most r0 r1 w0 w1 frame (Err Frame) wrote read = (wrote, read)
received body fits body_at most r0 r1 w0 w1 frame (Err Socket) wrote read = inl (wrote, read)
received body fits body_at most r0 r1 w0 w1 frame (Err OutOfMemory) wrote read = inl (wrote, read)
