-- Who is in service.
use Rattle.std.specs.Prelude.{◌≡◌, ℕ, ◌↔◌, List, Contains, Some}
use Rattle.plain.specs.declared.member.State.TheVariants.{Serving}
use Rattle.plain.specs.Groups.{path}
use Rattle.plain.specs.Rules.{member_of}
use Rattle.plain.specs.declared.seat.InService.{InService}
use Rattle.plain.specs.Machine.{Bfq}
use Rattle.plain.specs.declared.call.Call.{Call}
use Rattle.plain.specs.Opening.{Limits}
use Rattle.plain.specs.Keeper.{machine_of}
use Rattle.plain.specs.Headline.{replay}

-- an entity is in service exactly where it is on the path of the queue in service: the session's own, or that of a group above it
-- (bfq: service goes down from the root to one queue)
abbrev pub PathIsServed : Bfq → Type 0
PathIsServed b = (entity : ℕ) → ((member_of b entity).state ≡ Serving) ↔ ((slot : InService) × (b.in_service ≡ Some slot) × Contains (path b.parent slot.seat) entity)

-- so it is on the machine of every keeper that a journal makes
abbrev pub ThePathIsServed : Limits → ℕ → List Call → Type 0
ThePathIsServed l most journal = PathIsServed (machine_of (replay l most journal)).bfq
