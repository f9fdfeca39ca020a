-- The texts of the faults.
use Rattle.std.specs.Prelude.{ℕ, List, codes}
use Rattle.operator_asking.specs.declared.fault.AskFault.{AskFault}
use Rattle.operator_asking.specs.declared.fault.AskFault.TheVariants.{Socket, Frame, OutOfMemory}

-- each fault in words
abbrev pub text_of : AskFault → List ℕ
text_of Socket = codes "the connection failed"
text_of Frame = codes "no frame of a reply came"
text_of OutOfMemory = codes "out of memory"
