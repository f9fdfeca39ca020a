use Rattle.std.proofs.Common.{◌≡◌, ◌++◌, None, sym, ap, ◌∙◌}
use Rattle.session_proto.specs.Opened.{HeldCalls, IsSplit}
use Rattle.session_proto.proofs.Streams.{none_of}
use Rattle.session_proto.proofs.ClientStreams.{calls_unheld, calls_come, split_piece}
use Rattle.session_proto.proofs.client_feeder.ClientFeeder.feed.Goals as goal

pub returns-in-Some-clause-came : goal.returns-in-Some-clause-came
returns-in-Some-clause-came c = λ stream calls came. rw c.new.ensures.items
    (calls_unheld c.args.self.now stream c.args.piece.now calls c.in-Some.fault (rw (← c.self.view_is) c.in-Some.is) came)

pub returns-in-Ok-clause-came : goal.returns-in-Ok-clause-came
returns-in-Ok-clause-came c = λ stream calls came.
    let found = c.in-Ok.found in
    let next : HeldCalls = record { bytes = c.let_go.new.held.items; fault = found.fault; version = found.version } in
    let sound : c.args.self.now.fault ≡ None =
    sym (ap (λ (h : HeldCalls). h.fault) c.self.view_is) ∙ none_of c.self.inside.fault c.in_default.not-Some in
    let split : IsSplit c.args.self.now.version (c.args.self.now.bytes ++ c.args.piece.now) found.calls.items next.bytes next.fault next.version =
    rw (← c.self.view_is) (split_piece c.self.inside.version c.extend_from_slice.new.self.items c.deref.result.now c.let_go.new.held.items found.calls.items found.fault found.version
    c.self.inside.held.items c.args.piece.now found.size c.in_ok-extend_from_slice.ensures.items c.deref.ensures.value c.let_go.ensures c.in-Ok.ensures.read) in
    calls_come c.args.self.now next stream c.args.piece.now calls found.calls.items sound split came
