-- The rules that begin at the queue in service.
use Rattle.std.proofs.Common.{◌≡◌, ℕ, ◌≤◌, List, Option, Some, Bool, sym, ap, ◌∙◌, subst}
use Rattle.std.specs.Option.{option_and_then}
use Rattle.plain.specs.Groups.{path}
use Rattle.plain.specs.declared.seat.InService.{InService}
use Rattle.plain.specs.Machine.{Bfq}
use Rattle.plain.specs.declared.seat.Expiry.{Expiry}
use Rattle.plain.specs.Rules.{along, charge, charge_one, served_more, expire, expire_one, out_of_service}

-- a bound of the service in the one slot
pub one_slot : (slot served : InService) → Some slot ≡ Some served → slot.service ≤ 65536 → served.service ≤ 65536
one_slot slot served e h = let same : slot ≡ served = cc in subst (λ (s : InService). s.service ≤ 65536) same h

pub charge_all : (sectors : ℕ) (b c : Bfq) (slot : InService) (p : List ℕ) (o : Option Bfq) → b.in_service ≡ Some slot → p ≡ path b.parent slot.seat
    → c ≡ served_more sectors slot b → along (charge_one sectors) p c ≡ o → charge sectors b ≡ o
charge_all sectors b c slot p o there way more made =
    ap (option_and_then (λ (s : InService). along (charge_one sectors) (path b.parent s.seat) (served_more sectors s b))) there
    ∙ ap (λ l. along (charge_one sectors) l (served_more sectors slot b)) (sym way)
    ∙ ap (along (charge_one sectors) p) (sym more)
    ∙ made

pub expire_all : (cause : Expiry) (most : ℕ) (queued : Bool) (b c : Bfq) (slot : InService) (p : List ℕ) (o : Option Bfq) → b.in_service ≡ Some slot → p ≡ path b.parent slot.seat
    → c ≡ out_of_service cause most slot b → along (expire_one slot.service queued) p c ≡ o → expire cause most queued b ≡ o
expire_all cause most queued b c slot p o there way out made =
    ap (option_and_then (λ (s : InService). along (expire_one s.service queued) (path b.parent s.seat) (out_of_service cause most s b))) there
    ∙ ap (λ l. along (expire_one slot.service queued) l (out_of_service cause most slot b)) (sym way)
    ∙ ap (along (expire_one slot.service queued) p) (sym out)
    ∙ made
