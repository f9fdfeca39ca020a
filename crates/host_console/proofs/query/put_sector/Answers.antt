use Rattle.std.proofs.Common.{◌≡◌, List, ℕ, ◌++◌, OnOk, subst}
use Rattle.host_console.proofs.Sectors.{content_shown}
use Rattle.host_console.proofs.query.put_sector.Goals as goal

pub returns : goal.returns
returns g c =
    let P : List ℕ → Type 0 = λ text. OnOk c.put_content.result (c.put_content.new.out.items ≡ c.args.out.now.items ++ text) in
    subst P (content_shown (g.K.Shows.state c.args.keeper.now) c.args.number c.sector.result c.sector.ensures) c.put_content.ensures
