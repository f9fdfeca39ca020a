use Rattle.std.proofs.Common.{refl, sym, ◌∙◌}
use Rattle.overlay.proofs.Seen.{in_page}
use Rattle.overlay.proofs.Overlay.get.Goals as goal

pub returns-in-Some : goal.returns-in-Some
returns-in-Some c = c.get-in-Some.ensures ∙ sym (in_page _ _ _ _ c.self.view_is c.in-Some.ensures.value c.args.sector refl)

pub returns-in-None : goal.returns-in-None
returns-in-None c = sym (in_page _ _ _ _ c.self.view_is c.in-None.ensures.value c.args.sector refl)
