-- Each answer of a seat has a frame.
use Rattle.std.specs.Prelude.{Ok}
use Rattle.plain.specs.declared.answer.Answer.{Answer}
use Rattle.host_calls.specs.Frames.{AnswerHasFrame}
use Rattle.host_calls.specs.declared.client.ClientCall.{ClientCall}
use Rattle.host_paths.specs.Asking.{Caller, AsksSeat}

pub seat_frames : (old new : Caller) (call : ClientCall) (answer : Answer) → AsksSeat old call (Ok answer) new → AnswerHasFrame answer
seat_frames old new call answer asked = asked.4
