-- Which replies a client can get, and which the operator (our profile).
use Rattle.plain.specs.declared.answer.Reply.{Reply}
use Rattle.plain.specs.declared.answer.Reply.TheVariants.{Attached, Queued, Completed, Left, Issued, Finished, Requeued, Group, Done, Moved, Taken}

-- a client can get this reply
abbrev pub IsForClient : Reply → Type 0
IsForClient (Attached session) = Unit {0}
IsForClient (Queued bio) = Unit {0}
IsForClient (Completed bio result) = Unit {0}
IsForClient Left = Unit {0}
IsForClient (Issued tag issue op range) = ⊥
IsForClient (Finished bios) = ⊥
IsForClient Requeued = ⊥
IsForClient (Group number) = ⊥
IsForClient Done = ⊥
IsForClient (Moved cursor steps) = ⊥
IsForClient (Taken work) = ⊥

-- the operator can get this reply
abbrev pub IsForOperator : Reply → Type 0
IsForOperator (Attached session) = ⊥
IsForOperator (Queued bio) = ⊥
IsForOperator (Completed bio result) = ⊥
IsForOperator Left = ⊥
IsForOperator (Issued tag issue op range) = ⊥
IsForOperator (Finished bios) = ⊥
IsForOperator Requeued = ⊥
IsForOperator (Group number) = Unit {0}
IsForOperator Done = Unit {0}
IsForOperator (Moved cursor steps) = Unit {0}
IsForOperator (Taken work) = ⊥
