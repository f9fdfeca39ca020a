use Rattle.std.proofs.Common.{◌≡◌, length, rules, sym, ap, ◌∙◌}
use Rattle.change_record.proofs.Pieces.{length-pieces}
use Rattle.change_record.proofs.tape.Tape.len.Goals as goal

pub returns : goal.returns
returns c =
    let counted : c.len.result ≡ length c.self.inside.ends.items = search rules in
    counted ∙ sym (length-pieces 0 c.self.inside.ends.items c.self.inside.changes.items) ∙ ap (λ r. length r.steps) c.self.view_is
