-- A call asked of the host, and its answer printed.
use Rattle.std.specs.Prelude.{◌≡◌, ℕ, List, [], ◌∷◌, ◌++◌, Result, Ok, Err, ◌⊎◌}
use Rattle.std.specs.Io.KnownBytes.{Appends}
use Rattle.session_proto.specs.Frame.{framed}
use Rattle.host_calls.specs.declared.operator.OperatorCall.{OperatorCall}
use Rattle.host_calls.specs.declared.ring.RingReply.{RingReply}
use Rattle.host_calls.specs.Texts.{ring_text}
use Rattle.operator_asking.specs.Asked.{Known, Ends, WroteFront}
use Rattle.operator_asking.specs.declared.fault.AskFault.{AskFault}
use Rattle.operator_asking.specs.declared.fault.AskFault.TheVariants as fault
use Rattle.session_proto.specs.Operator.{operator_body}
use Rattle.session_proto.specs.Host.{host_body, HostFits, host_at}
use Rattle.session_proto.specs.declared.host.Host.{Host}
use Rattle.operator_asking.specs.Ending.{end_of}
use Rattle.operator_asking.specs.declared.ending.CallEnd.{CallEnd}
use Rattle.operator_asking.specs.declared.ending.CallEnd.TheVariants.{Done, Refused, Socket, Frame, WriteFault, OutOfMemory}

-- a reply as the host's side of the protocol has it
abbrev pub of_host : Result RingReply AskFault → Result Host AskFault
of_host (Ok reply) = Ok (record { 0 = reply })
of_host (Err f) = Err f

-- the call is asked in the operator's frames and answered in the host's, whose bodies have at most 32,787 bytes (our format)
abbrev pub Asks : Known → Known → Known → Known → OperatorCall → Result RingReply AskFault → Type 0
Asks r0 r1 w0 w1 call outcome =
    Ends (λ (h : Host). host_body h.0) (λ (h : Host). HostFits h.0) host_at 32787 r0 r1 w0 w1
    (framed (operator_body call)) (of_host outcome)

-- the line that is printed for a reply (our format)
abbrev pub line_of : RingReply → List ℕ
line_of reply = ring_text reply ++ 10 ∷ []

-- a reply came, its line was printed whole, and the run ended as it says (our profile)
abbrev pub IsAnswered : Known → Known → Known → Known → Known → Known → OperatorCall → CallEnd → Type 0
IsAnswered r0 r1 w0 w1 o0 o1 call end =
    (reply : RingReply) × Asks r0 r1 w0 w1 call (Ok reply) × Appends o0 o1 (line_of reply) × (end ≡ end_of call reply)

-- A run from a reader that had r0 to read and has r1 left, to a writer that held w0 and holds w1, with an output that held o0
-- and holds o1: the call was asked, and a line was printed only for a reply (our profile).
abbrev pub IsRun : Known → Known → Known → Known → Known → Known → OperatorCall → CallEnd → Type 0
IsRun r0 r1 w0 w1 o0 o1 call Done = IsAnswered r0 r1 w0 w1 o0 o1 call Done
IsRun r0 r1 w0 w1 o0 o1 call Refused = IsAnswered r0 r1 w0 w1 o0 o1 call Refused
IsRun r0 r1 w0 w1 o0 o1 call Socket = Asks r0 r1 w0 w1 call (Err fault.Socket) × (o1 ≡ o0)
IsRun r0 r1 w0 w1 o0 o1 call Frame = Asks r0 r1 w0 w1 call (Err fault.Frame) × (o1 ≡ o0)
-- a reply came, and only a front of its line was printed
IsRun r0 r1 w0 w1 o0 o1 call WriteFault =
    (reply : RingReply) × Asks r0 r1 w0 w1 call (Ok reply) × WroteFront o0 o1 (line_of reply)
-- there was no memory to ask, or a reply came and there was none for its line: nothing was printed
IsRun r0 r1 w0 w1 o0 o1 call OutOfMemory =
    (o1 ≡ o0) × (Asks r0 r1 w0 w1 call (Err fault.OutOfMemory) ⊎ ((reply : RingReply) × Asks r0 r1 w0 w1 call (Ok reply)))
