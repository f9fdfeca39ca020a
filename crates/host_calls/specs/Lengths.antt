-- How many bytes blocks, payloads and results have: 512 for each of their sectors.
use Rattle.std.specs.Prelude.{◌≡◌, ℕ, ◌*◌, List, length, All, Option, None, Some}
use Rattle.std.specs.FinMap as blocks
use Rattle.sector_core.specs.declared.bio.BioFields.{BioFields as Bio}
use Rattle.sector_core.specs.declared.bio.Op.{Op}
use Rattle.sector_core.specs.declared.bio.BioResult.{BioResult}
use Rattle.sector_core.specs.declared.bio.BioResult.TheVariants.{Read, Written, Discarded, IoError}
use Rattle.plain.specs.Machine.{Blocks, WholeRequest, Plain}
use Rattle.plain.specs.declared.call.Call.{Call}
use Rattle.plain.specs.Opening.{Limits}
use Rattle.plain.specs.Steps.Submit.{payload_length}
use Rattle.plain_laws.specs.Whole.{HasSectors}
use Rattle.plain.specs.Keeper.{machine_of}
use Rattle.plain.specs.Headline.{replay}
use Rattle.plain_laws.specs.Requests.{EachRequest}

-- each stored block has the 512 bytes of a sector (our profile)
abbrev pub BlocksAreFull : Blocks → Type 0
BlocksAreFull overlay = (sector : ℕ) (block : List ℕ) → blocks.get overlay sector ≡ Some block → length block ≡ 512

-- a bio of 1 to 64 sectors; its payload has 512 bytes for each where it is a store, and else none (our profile)
abbrev pub HasPayload : Op → Bio → Type 0
HasPayload op bio = HasSectors bio × (length bio.payload ≡ payload_length op bio.range.count)

-- so is each bio of a request, by the request's operation
abbrev pub HasPayloads : WholeRequest → Type 0
HasPayloads request = All (HasPayload request.op) request.bios

-- a result is there, and where it is of a read, it has the bytes of so many sectors (our profile)
abbrev pub FitsSectors : ℕ → Option BioResult → Type 0
FitsSectors count None = ⊥
FitsSectors count (Some (Read bytes)) = length bytes ≡ 512 * count
FitsSectors count (Some Written) = Unit {0}
FitsSectors count (Some Discarded) = Unit {0}
FitsSectors count (Some (IoError kind)) = Unit {0}

-- a completed bio of 1 to 64 sectors, with a result for as many
abbrev pub HasFittingResult : Bio → Type 0
HasFittingResult bio = HasSectors bio × FitsSectors bio.range.count bio.result

abbrev pub ResultsFit : Plain → Type 0
ResultsFit m = (seat : ℕ) → All HasFittingResult (m.outbox seat)

-- On the machine of every keeper that a journal makes: each block that has been stored;
abbrev pub EachBlockIsFull : Limits → ℕ → List Call → Type 0
EachBlockIsFull l most journal = BlocksAreFull (machine_of (replay l most journal)).overlay

-- each bio that is queued, in the dispatch list or in flight;
abbrev pub EachPayloadFits : Limits → ℕ → List Call → Type 0
EachPayloadFits l most journal = EachRequest HasPayloads (machine_of (replay l most journal))

-- and each bio in an outbox.
abbrev pub EachResultFits : Limits → ℕ → List Call → Type 0
EachResultFits l most journal = ResultsFit (machine_of (replay l most journal))
