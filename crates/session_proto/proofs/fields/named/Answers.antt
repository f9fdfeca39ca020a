use Rattle.std.proofs.Common.{Option, Some, None, refl}
use Rattle.std.specs.Option.{ok_or}
use Rattle.session_proto.specs.Reading.{Gives}
use Rattle.session_proto.specs.declared.fault.Fault.TheVariants.{BadBody}
use Rattle.session_proto.specs.declared.fault.ReadError.TheVariants.{Fault}
use Rattle.session_proto.specs.Fields.{named}
use Rattle.session_proto.proofs.fields.named.Goals as goal

-- the value, or the fault that a field names none
gives_named : {T : Type 0} (value : Option T) → Gives (ok_or value (Fault BadBody)) (named value)
gives_named None = refl
gives_named (Some v) = refl

pub returns : goal.returns
returns g c = rw c.ok_or.ensures.value (gives_named c.args.value)
