use Rattle.std.proofs.Common.{◌≡◌, [], ◌∷◌, ◌++◌, ◌∙◌, rules}
use Rattle.std.specs.Prelude.{Some}
use Rattle.host_looks.specs.Looking.{asked, heard}
use Rattle.host_looks.proofs.seat.LookSeat.ask.Goals as goal

pub returns-in-Some-clause-asked : goal.returns-in-Some-clause-asked
returns-in-Some-clause-asked g c =
    let same : c.in-Some.told.line ≡ c.args.line = search rules in
    let sent : asked c.hear.new.self ≡ asked c.args.self.now ++ c.args.line ∷ [] = search rules in
    (same, sent, c.in-Some.ensures.heard)
