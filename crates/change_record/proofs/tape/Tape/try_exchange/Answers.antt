use Rattle.change_record.proofs.Trails.{KeepsTrail-push}
use Rattle.change_record.proofs.tape.Tape.try_exchange.Goals as goal

pub returns-in-Ok-clause-trail : goal.returns-in-Ok-clause-trail
returns-in-Ok-clause-trail c =
    KeepsTrail-push c.args.self.now.current c.push.new.self.current c.args.parts.now.tables c.turn.new.self.tables c.args.change c.turn.new.change
    c.requires.puts c.in-Ok.ensures.left c.in-Ok.ensures.tables c.push.ensures.current
