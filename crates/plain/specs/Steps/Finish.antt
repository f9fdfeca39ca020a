-- Finish: every bio of the request gets its result and goes to its session's outbox (blk-mq for the tag; the results and the outbox are our profile).
use Rattle.std.specs.Prelude.{ℕ, zero, suc, ◌+◌, ◌*◌, ◌==◌, nat_le, Bool, true, false, not, List, [], ◌∷◌, ◌++◌, length, take, drop, replicate, Option, None, Some, unwrap_or, if◌then◌else◌}
use Rattle.std.specs.List.{find}
use Rattle.std.specs.Option.{option_map_or}
use Rattle.std.specs.FinMap as blocks
use Rattle.plain.specs.Lists.{seats}
use Rattle.sector_core.specs.declared.bio.Op.{Op}
use Rattle.sector_core.specs.declared.bio.Op.TheVariants.{Fetch, Store, Discard}
use Rattle.sector_core.specs.declared.bio.BioFields.{BioFields as Bio}
use Rattle.sector_core.specs.declared.bio.BioResult.{BioResult}
use Rattle.sector_core.specs.declared.bio.BioResult.TheVariants.{Read, Written, Discarded, IoError}
use Rattle.sector_core.specs.declared.bio.Outcome.{Outcome}
use Rattle.sector_core.specs.declared.bio.Outcome.TheVariants.{Fetched, Stored, Failed}
use Rattle.sector_core.specs.declared.bio.Effect.{Effect}
use Rattle.sector_core.specs.declared.bio.Effect.TheVariants.{Reads, Writes, Clears, Fails}
use Rattle.plain.specs.Machine.{Blocks, WholeRequest, Flight, Plain, put}
use Rattle.plain.specs.Opening.{Limits}
use Rattle.plain.specs.declared.answer.Code.TheVariants.{BadTag, NotInFlight, BadOutcome}
use Rattle.plain.specs.declared.answer.Reply.TheVariants.{Finished}
use Rattle.plain.specs.declared.answer.Answer.TheVariants.{Refused}
use Rattle.plain.specs.Tests.{StepResult, unless, accepted}
use Rattle.plain.specs.Sessions.{is_session, is_leaving}
use Rattle.plain.specs.Requests.{size_of}
use Rattle.plain.specs.Entities.{without_gone, owed_fewer}

-- the outcome is one of the request's operation and length; a store or a discard never fails, as it is made in memory (our profile)
abbrev pub fits : Op → ℕ → Outcome → Bool
fits Fetch size (Fetched bytes) = length bytes == 512 * size
fits Fetch size Stored = false
fits Fetch size (Failed kind) = true
fits Store size (Fetched bytes) = false
fits Store size Stored = true
fits Store size (Failed kind) = false
fits Discard size (Fetched bytes) = false
fits Discard size Stored = true
fits Discard size (Failed kind) = false

-- what an outcome that fits does to a request of this operation: its bytes are read, its sectors are written or cleared, or it fails (our profile)
abbrev pub effect_of : Outcome → Op → Effect
effect_of (Fetched bytes) op = Reads bytes
effect_of Stored Fetch = Writes
effect_of Stored Store = Writes
effect_of Stored Discard = Clears
effect_of (Failed kind) op = Fails kind

-- the overlay with `count` blocks from a sector on, cut from these bytes (our profile)
abbrev pub with_blocks : Blocks → ℕ → ℕ → List ℕ → Blocks
with_blocks overlay sector zero bytes = overlay
with_blocks overlay sector (suc count) bytes = with_blocks (blocks.insert overlay sector (take 512 bytes)) (sector + 1) count (drop 512 bytes)

-- the overlay with the payloads of these bios, a later one over an earlier one (our profile)
abbrev pub with_stored : Blocks → List Bio → Blocks
with_stored overlay [] = overlay
with_stored overlay (bio ∷ bios) = with_stored (with_blocks overlay bio.range.start bio.range.count bio.payload) bios

-- the overlay with `count` blocks of zeros from a sector on (our profile)
abbrev pub with_zeros : Blocks → ℕ → ℕ → Blocks
with_zeros overlay sector zero = overlay
with_zeros overlay sector (suc count) = with_zeros (blocks.insert overlay sector (replicate 512 0)) (sector + 1) count

-- the overlay with zeros at each sector of these bios (our profile: a discarded sector has zeros; Linux promises them for write zeroes alone)
abbrev pub with_cleared : Blocks → List Bio → Blocks
with_cleared overlay [] = overlay
with_cleared overlay (bio ∷ bios) = with_cleared (with_zeros overlay bio.range.start bio.range.count) bios

-- what becomes of the overlay: what was written or cleared is in it, and else it stays (our profile)
abbrev pub after_effect : Effect → Blocks → List Bio → Blocks
after_effect (Reads bytes) overlay bios = overlay
after_effect Writes overlay bios = with_stored overlay bios
after_effect Clears overlay bios = with_cleared overlay bios
after_effect (Fails kind) overlay bios = overlay

-- the content of `count` sectors: of each the overlay's block if it has one, else the bytes of the base (our profile)
abbrev pub content : Blocks → ℕ → ℕ → List ℕ → List ℕ
content overlay sector zero base = []
content overlay sector (suc count) base = unwrap_or (blocks.get overlay sector) (take 512 base) ++ content overlay (sector + 1) count (drop 512 base)

-- a bio's result, by an effect whose bytes begin with those of the bio's own sectors (our profile)
abbrev pub result_of : Effect → Blocks → Bio → BioResult
result_of (Reads bytes) overlay bio = Read (content overlay bio.range.start bio.range.count bytes)
result_of Writes overlay bio = Written
result_of Clears overlay bio = Discarded
result_of (Fails kind) overlay bio = IoError kind

-- the effect without the bytes of the first `count` sectors (our profile)
abbrev pub rest_of_effect : ℕ → Effect → Effect
rest_of_effect count (Reads bytes) = Reads (drop (512 * count) bytes)
rest_of_effect count Writes = Writes
rest_of_effect count Clears = Clears
rest_of_effect count (Fails kind) = Fails kind

-- bios in the order of their sectors, each with its result from its own part of the effect (our profile)
abbrev pub completed : Effect → Blocks → List Bio → List Bio
completed effect overlay [] = []
completed effect overlay (bio ∷ bios) =
    record bio { result = Some (result_of effect overlay bio) } ∷ completed (rest_of_effect bio.range.count effect) overlay bios

-- the seat of a session, if it sits at one (our profile)
abbrev pub seat_of : Plain → ℕ → Option ℕ
seat_of m session = find (λ seat. is_session session (m.seat seat)) seats

-- bios go to the end of a seat's outbox; those of a session that leaves are dropped, and the seat is free with the last of its requests (our profile)
abbrev pub delivered : Limits → List Bio → Plain → ℕ → Plain
delivered l bios m seat =
    if is_leaving (m.seat seat) then without_gone l seat (owed_fewer seat (length bios) m) else record m { outbox = put m.outbox seat (m.outbox seat ++ bios) }

-- a finished request: what it did to the overlay stays, its tag is free (blk-mq), and its bios go to its session's seat (our profile)
abbrev pub after_finish : Limits → Plain → ℕ → Effect → WholeRequest → Plain
after_finish l m tag effect request =
    let next = record m { overlay = after_effect effect m.overlay request.bios; flight = put m.flight tag None } in
    option_map_or (delivered l (completed effect m.overlay request.bios) next) (seat_of m request.session) next

-- the request has ended, and the answer says how many bios it had (our profile)
abbrev pub finished : Limits → Plain → Bool → ℕ → Effect → WholeRequest → StepResult
finished l m room tag effect request = accepted room m (after_finish l m tag effect request) (Finished (length request.bios))

-- what a tag bears has ended if it has this issue and the outcome fits it (our profile)
abbrev pub finish_of : Limits → Plain → Bool → ℕ → ℕ → Outcome → Option Flight → StepResult
finish_of l m room tag issue outcome None = (m, Refused NotInFlight)
finish_of l m room tag issue outcome (Some flight) = unless (
    (not (flight.issue == issue), Refused NotInFlight)
    ∷ (not (fits flight.request.op (size_of flight.request.bios) outcome), Refused BadOutcome)
    ∷ []) m
    (finished l m room tag (effect_of outcome flight.request.op) flight.request)

-- a Finish names a tag that there is, and what that bears has ended (blk-mq: a completion goes by its tag; the refusal is our profile)
abbrev pub finish : Limits → Plain → Bool → ℕ → ℕ → Outcome → StepResult
finish l m room tag issue outcome = unless ((nat_le l.tags tag, Refused BadTag) ∷ []) m (finish_of l m room tag issue outcome (m.flight tag))
