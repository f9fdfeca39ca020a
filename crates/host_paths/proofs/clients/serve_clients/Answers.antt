use Rattle.std.proofs.Common.{length, ap, sym, ◌∙◌}
use Rattle.host_paths.proofs.clients.serve_clients.Goals as goal

pub new-asker-requires : goal.new-asker-requires
new-asker-requires g c = λ is_open. ap length c.requires.0 ∙ sym (ap length c.requires.1)
