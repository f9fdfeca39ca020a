use Rattle.change_record.proofs.Trails.{KeepsTrail-push}
use Rattle.change_record.proofs.tape.Tape.exchange.Goals as goal

pub returns-clause-trail : goal.returns-clause-trail
returns-clause-trail c =
    KeepsTrail-push c.args.self.now.current c.push.new.self.current c.args.parts.now.tables c.turn_fitting.new.parts.tables c.args.change c.turn_fitting.new.change
    c.requires.puts c.turn_fitting.ensures.left c.turn_fitting.ensures.tables c.push.ensures.current
