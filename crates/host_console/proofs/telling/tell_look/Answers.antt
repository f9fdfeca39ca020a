use Rattle.std.proofs.Common.{rules, ◌≡◌, ℕ, List, ◌++◌, append_assoc, arith}
use Rattle.std.proofs.lemmas.Grind.{common_steps}
use Rattle.host_console.specs.Looks.{Looked}
use Rattle.host_console.specs.Printed.{ended}
use Rattle.host_console.proofs.telling.tell_look.Goals as goal

pub returns : goal.returns
returns g c =
    let put : (x : List ℕ) × Looked (g.K.Shows.state c.args.keeper.now) c.args.look x × (c.put_look.new.out.items ≡ c.args.out.now.items ++ x) = search rules in
    let line : c.push.new.self.items ≡ c.args.out.now.items ++ ended put.0 = grind (arith, common_steps, append_assoc, put.2) in
    (put.0, put.1, line)
