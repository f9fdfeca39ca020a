-- What an outcome says of a call, and the exit status.
use Rattle.std.specs.Prelude.{ℕ}
use Rattle.plain.specs.declared.answer.Answer.TheVariants.{Accepted, Refused as refused, NotYet}
use Rattle.host_calls.specs.declared.operator.OperatorCall.{OperatorCall}
use Rattle.host_calls.specs.declared.operator.OperatorCall.TheVariants.{GroupMake, GroupDrop, SetWeight, Freeze, Thaw, Switch, Tick, Hold, Release, Undo, Redo, Stop}
use Rattle.host_calls.specs.declared.ring.RingReply.{RingReply}
use Rattle.host_calls.specs.declared.ring.RingReply.TheVariants as ring
use Rattle.operator_asking.specs.declared.fault.AskFault.{AskFault}
use Rattle.operator_asking.specs.declared.fault.AskFault.TheVariants as fault
use Rattle.operator_asking.specs.declared.ending.CallEnd.{CallEnd}
use Rattle.operator_asking.specs.declared.ending.CallEnd.TheVariants.{Done, Refused, Socket, Frame, WriteFault, OutOfMemory}

-- a host that has ended did what Stop asks, and nothing that another call asks (our profile)
abbrev pub closed_end : OperatorCall → CallEnd
closed_end (GroupMake parent weight) = Refused
closed_end (GroupDrop group) = Refused
closed_end (SetWeight group weight) = Refused
closed_end Freeze = Refused
closed_end Thaw = Refused
closed_end (Switch scheduler) = Refused
closed_end Tick = Refused
closed_end Hold = Refused
closed_end Release = Refused
closed_end (Undo k) = Refused
closed_end (Redo k) = Refused
closed_end Stop = Done

-- how the run of a call ends that got this reply: an accepted call is done, a refused one and one that waits are not (our profile)
abbrev pub end_of : OperatorCall → RingReply → CallEnd
end_of call (ring.Answer (Accepted reply)) = Done
end_of call (ring.Answer (refused code)) = Refused
end_of call (ring.Answer (NotYet cause)) = Refused
end_of call ring.Closed = closed_end call

-- how the run of a call ends that got none (our profile)
abbrev pub fault_end : AskFault → CallEnd
fault_end fault.Socket = Socket
fault_end fault.Frame = Frame
fault_end fault.OutOfMemory = OutOfMemory

-- the exit status of each end; 2 is that of bad words (our profile)
abbrev pub status_of : CallEnd → ℕ
status_of Done = 0
status_of Refused = 1
status_of Socket = 3
status_of Frame = 3
status_of WriteFault = 4
status_of OutOfMemory = 5
