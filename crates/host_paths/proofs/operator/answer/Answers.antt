use Rattle.host_calls.specs.declared.ring.RingReply.TheVariants.{Answer as Answered, Closed as Closing}
use Rattle.host_paths.proofs.Asked.{asked-between}
use Rattle.std.proofs.Common.{[], refl, ◌∙◌}
use Rattle.session_proto.specs.Frame.{framed}
use Rattle.session_proto.specs.Host.{host_body}
use Rattle.host_core.specs.Seats.{is_closed}
use Rattle.host_paths.proofs.Operated.{Appends-none, asked_cut, asked_written, found_ended}
use Rattle.host_paths.proofs.operator.answer.Goals as goal

pub ask-requires : goal.ask-requires
ask-requires g c = c.requires

pub returns-in_default-clause-asked : goal.returns-in_default-clause-asked
returns-in_default-clause-asked g c = λ is_open. let made = c.in_default.ensures.closing is_open in (Closing, made.0, made.1)

pub returns-in_default-encode-clause-between : goal.returns-in_default-encode-clause-between
returns-in_default-encode-clause-between g c = asked-between c.args.seat.now c.ask.new.self c.args.call (Answered c.in-Ok.answer) c.requires c.in-Ok.ensures.«open»
    c.in-Ok.ensures.ok.0 c.in-Ok.ensures.ok.1

pub returns-in_default-encode-clause-asked : goal.returns-in_default-encode-clause-asked
returns-in_default-encode-clause-asked g c = λ is_open. (Answered c.in-Ok.answer, c.in-Ok.ensures.ok.0, c.in-Ok.ensures.ok.1)

pub returns-clause-between : goal.returns-clause-between
returns-clause-between g c = asked-between c.args.seat.now c.ask.new.self c.args.call (Answered c.in-Ok.answer) c.requires c.in-Ok.ensures.«open»
    c.in-Ok.ensures.ok.0 c.in-Ok.ensures.ok.1

pub returns-clause-asked : goal.returns-clause-asked
returns-clause-asked g c = λ is_open. (Answered c.in-Ok.answer, c.in-Ok.ensures.ok.0, c.in-Ok.ensures.ok.1)

pub returns-in_default-clause-one : goal.returns-in_default-clause-one
returns-in_default-clause-one g c =
    found_ended c.args.seat.now c.ask.new.self (g.W.Write.contents c.args.writer.now) c.args.call (is_closed c.args.seat.now) c.in_default.ensures.before c.in_default.ensures.closing

pub returns-in_default-encode-clause-one : goal.returns-in_default-encode-clause-one
returns-in_default-encode-clause-one g c =
    asked_cut c.args.seat.now c.ask.new.self (g.W.Write.contents c.args.writer.now) (g.W.Write.contents c.args.writer.now) c.args.call (Answered c.in-Ok.answer)
    [] (framed (host_body (Answered c.in-Ok.answer))) c.in-Ok.ensures.ok.0 c.in-Ok.ensures.ok.1 refl (Appends-none _)

pub returns-clause-one : goal.returns-clause-one
returns-clause-one g c =
    asked_written c.args.seat.now c.ask.new.self (g.W.Write.contents c.args.writer.now) (g.W.Write.contents c.write_whole.new.writer) c.args.call (Answered c.in-Ok.answer)
    c.as_slice.result.now c.write_whole.result c.in-Ok.ensures.ok.0 c.in-Ok.ensures.ok.1 (c.as_slice.ensures.value ∙ c.in-Ok-encode.ensures.1) c.write_whole.ensures
