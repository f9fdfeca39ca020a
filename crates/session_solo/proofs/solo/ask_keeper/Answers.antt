use Rattle.session_solo.proofs.Answered.{has_frame}
use Rattle.session_solo.proofs.solo.ask_keeper.Goals as goal

pub returns : goal.returns
returns c =
    let k = c.args.keeper.now.state in
    has_frame k c.args.call _ _ _ c.journal_len.ensures.replay (c.clients_are_answered.ensures k.limits k.most k.journal) c.of_seat.ensures
    c.call.ensures.may
