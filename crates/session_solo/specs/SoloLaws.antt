-- Each answer of a keeper on one thread has a frame.
use Rattle.std.specs.Prelude.{Ok}
use Rattle.plain.specs.declared.answer.Answer.{Answer}
use Rattle.host_calls.specs.Frames.{AnswerHasFrame}
use Rattle.host_calls.specs.declared.client.ClientCall.{ClientCall}
use Rattle.session_solo.specs.Solo.{AsksKeeper}
use Rattle.session_solo.specs.declared.solo.Solo.{Solo}

pub solo_frames : (old new : Solo) (call : ClientCall) (answer : Answer) → AsksKeeper old.0.state call (Ok answer) new.0.state → AnswerHasFrame answer
solo_frames old new call answer asked = asked.1
