-- Merging: a bio joins an adjacent queued request of its queue, before any scheduler is asked (blk-mq).
use Rattle.std.specs.Prelude.{ℕ, ◌+◌, ◌==◌, nat_le, nat_lt, Bool, true, false, ◌&&◌, List, length, map, sum, find, Option, if◌then◌else◌}
use Rattle.std.specs.Option.{option_map, option_map_or, option_or}
use Rattle.sector_core.specs.declared.range.Range.{Range}
use Rattle.sector_core.specs.declared.bio.Op.{Op}
use Rattle.sector_core.specs.declared.bio.Op.TheVariants.{Fetch, Store, Discard}
use Rattle.sector_core.specs.declared.bio.BioFields.{BioFields as Bio}
use Rattle.plain.specs.declared.shape.Shape.{Shape}
use Rattle.plain.specs.Lists.{first_in}

-- what a merge asks of these bios of a session: they start where the first one does and have the sectors of all of them (blk-mq)
abbrev pub shape_of : ℕ → Op → List Bio → Shape
shape_of session op bios = record {
  session = session;
  op = op;
  start = option_map_or (λ bio. bio.range.start) (first_in bios) 0;
  size = sum (map (λ bio. bio.range.count) bios);
  bios = length bios;
}

-- whether two bios do the same: fetch, store or discard (our profile, as the kernel's code: reads, writes and discards are never one request)
abbrev pub same_op : Op → Op → Bool
same_op Fetch Fetch = true
same_op Fetch Store = false
same_op Fetch Discard = false
same_op Store Fetch = false
same_op Store Store = true
same_op Store Discard = false
same_op Discard Fetch = false
same_op Discard Store = false
same_op Discard Discard = true

-- a request has at most 256 sectors and 32 bios, the joining one among them (our profile)
abbrev pub has_room : Range → Shape → Bool
has_room range shape = nat_le (shape.size + range.count) 256 && nat_lt shape.bios 32

-- a bio may join a request of its own session and operation that has room for it (our profile)
abbrev pub may_join : ℕ → Op → Range → Shape → Bool
may_join session op range shape = (shape.session == session) && same_op shape.op op && has_room range shape

-- the request ends where the bio starts: a back merge (blk-mq)
abbrev pub ends_at : Range → Shape → Bool
ends_at range shape = shape.start + shape.size == range.start

-- the request starts where the bio ends: a front merge (blk-mq)
abbrev pub starts_at : Range → Shape → Bool
starts_at range shape = range.start + range.count == shape.start

-- whether a bio joins a request at its front, or at its end (blk-mq)
abbrev pub joins : Bool → ℕ → Op → Range → Shape → Bool
joins front session op range shape = may_join session op range shape && (if front then starts_at range shape else ends_at range shape)

-- the same of what may have no request, which no bio joins (our profile)
abbrev pub joins_at : {A : Type 0} → (A → Option Shape) → Bool → ℕ → Op → Range → A → Bool
joins_at shape front session op range a = option_map_or (joins front session op range) (shape a) false

-- the first of a queue that a bio joins at its front, or at its end (blk-mq merges; the first in order of insertion is our profile)
abbrev pub first_merge : {A : Type 0} → (A → Option Shape) → List A → Bool → ℕ → Op → Range → Option (A × Bool)
first_merge shape queue front session op range = option_map (λ a. (a, front)) (find (joins_at shape front session op range) queue)

-- what a bio joins: the first back merge, else the first front merge; and whether it goes to the front (our profile, as the kernel's elevator)
abbrev pub merge_of : {A : Type 0} → (A → Option Shape) → List A → ℕ → Op → Range → Option (A × Bool)
merge_of shape queue session op range = option_or (first_merge shape queue false session op range) (first_merge shape queue true session op range)
