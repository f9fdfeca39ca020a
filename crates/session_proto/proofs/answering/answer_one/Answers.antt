use Rattle.std.proofs.Common.{◌≡◌, ◌<◌, ◌≤◌, ◌∙◌, length, arith}
use Rattle.session_proto.specs.Asked.{frame_of}
use Rattle.session_proto.proofs.Steps.{goes_on, finds_closed, finds_no_memory, write_fails}
use Rattle.session_proto.proofs.answering.answer_one.Goals as goal

pub returns-in_default-clause-served : goal.returns-in_default-clause-served
returns-in_default-clause-served g c = λ start input limit held waiting past.
    finds_closed g.A.Asks.asks limit start input _ _ _ held c.args.call waiting _ _ c.in_default.field-0 past c.in_default.ensures

pub returns-in_default-answer_frame-clause-served : goal.returns-in_default-answer_frame-clause-served
returns-in_default-answer_frame-clause-served g c = λ start input limit held waiting past.
    finds_no_memory g.A.Asks.asks limit start input _ _ _ held c.args.call waiting _ _ c.in-Ok.answer past c.in-Ok.ensures

pub returns-then-written-len-clause-served : goal.returns-then-written-len-clause-served
returns-then-written-len-clause-served g c = λ start input limit held waiting past.
    let is : c.as_slice.result.now ≡ frame_of c.in-Ok.answer = c.as_slice.ensures.value ∙ c.in-Ok-answer_frame.ensures.frame in
    let few : c.write_front-written.result < length c.as_slice.result.now = omega (arith, c.if-written-len.true, c.len.ensures, c.as_slice.ensures.len) in
    write_fails g.A.Asks.asks limit start input _ _ _ _ held c.args.call waiting _ _ c.in-Ok.answer c.as_slice.result.now c.write_front-written.result
    past c.in-Ok.ensures is c.write_front-written.ensures.wrote few

pub returns-clause-served : goal.returns-clause-served
returns-clause-served g c = λ start input limit held waiting past.
    let is : c.as_slice.result.now ≡ frame_of c.in-Ok.answer = c.as_slice.ensures.value ∙ c.in-Ok-answer_frame.ensures.frame in
    let all : length c.as_slice.result.now ≤ c.write_front-written.result = omega (arith, c.if-written-len.false, c.len.ensures, c.as_slice.ensures.len) in
    goes_on g.A.Asks.asks limit start input _ _ _ _ held c.args.call waiting _ _ c.in-Ok.answer c.as_slice.result.now c.write_front-written.result
    past c.in-Ok.ensures is c.write_front-written.ensures.wrote c.write_front-written.ensures.few all
