-- In how many places a bio stands.
use Rattle.std.specs.Prelude.{◌≡◌, ℕ, ◌+◌, ◌≤◌, ◌==◌, List, [], None}
use Rattle.std.specs.List.{sum_by, count_by}
use Rattle.plain.specs.Lists.{seats}
use Rattle.sector_core.specs.declared.bio.BioFields.{BioFields as Bio}
use Rattle.plain.specs.Machine.{WholeRequest, Plain}
use Rattle.plain.specs.declared.call.Call.{Call}
use Rattle.plain.specs.Opening.{Limits}
use Rattle.plain.specs.Requests.{flying}
use Rattle.plain.specs.Keeper.{machine_of}
use Rattle.plain.specs.Headline.{replay}

-- how many of these bios have this serial
abbrev pub bios_named : ℕ → List Bio → ℕ
bios_named serial bios = count_by (λ bio. bio.serial == serial) bios

-- and of the bios of these requests
abbrev pub named_in : ℕ → List WholeRequest → ℕ
named_in serial requests = sum_by (λ request. bios_named serial request.bios) requests

-- in how many places the bio of this serial stands: in the sixteen queues, in the dispatch list, in flight and in the sixteen outboxes
abbrev pub places : Limits → Plain → ℕ → ℕ
places l m serial =
    sum_by (λ seat. named_in serial (m.queue seat)) seats
    + named_in serial m.requeued
    + named_in serial (flying l m)
    + sum_by (λ seat. bios_named serial (m.outbox seat)) seats

-- nothing stands at a seat or under a tag that there is not, so that all places are counted
abbrev pub NothingElse : Limits → Plain → Type 0
NothingElse l m =
    ((seat : ℕ) → 16 ≤ seat → m.queue seat ≡ [])
    × ((seat : ℕ) → 16 ≤ seat → m.outbox seat ≡ [])
    × ((tag : ℕ) → l.tags ≤ tag → m.flight tag ≡ None)

-- a bio that stands somewhere stands there alone (our profile); one that was reaped or dropped stands nowhere
abbrev pub HasOnePlace : Limits → Plain → Type 0
HasOnePlace l m = NothingElse l m × ((serial : ℕ) → places l m serial ≤ 1)

-- so it is on the machine of every keeper that a journal makes
abbrev pub EachBioHasOnePlace : Limits → ℕ → List Call → Type 0
EachBioHasOnePlace l most journal = HasOnePlace l (machine_of (replay l most journal))
