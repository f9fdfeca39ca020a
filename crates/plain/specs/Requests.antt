-- The requests of a machine, wherever they are: queued, in the dispatch list or in flight.
use Rattle.std.specs.Prelude.{ℕ, ◌+◌, ◌==◌, Bool, false, ◌&&◌, List, [], ◌∷◌, ◌++◌, length, map, sum, Option, Some, is_some}
use Rattle.std.specs.List.{count_by, filter, filter_map}
use Rattle.std.specs.Option.{option_map, option_map_or}
use Rattle.plain.specs.Lists.{numbers, seats, is_empty}
use Rattle.sector_core.specs.declared.range.Range.{Range}
use Rattle.sector_core.specs.declared.bio.BioFields.{BioFields as Bio}
use Rattle.plain.specs.Machine.{WholeRequest, Plain}
use Rattle.plain.specs.declared.shape.Shape.{Shape}
use Rattle.plain.specs.Merge.{shape_of}
use Rattle.plain.specs.Opening.{Limits}

-- the same of a request, which is there always (blk-mq)
abbrev pub shape : WholeRequest → Option Shape
shape request = Some (shape_of request.session request.op request.bios)

-- how many sectors the bios of a request have together (blk-mq)
abbrev pub size_of : List Bio → ℕ
size_of bios = sum (map (λ bio. bio.range.count) bios)

-- the sectors of a request, from its first bio on, as many as its bios have (blk-mq: adjacent sectors become one request)
abbrev pub range_of : List Bio → Range
range_of [] = record { start = 0; count = 0 }
range_of (bio ∷ bios) = record { start = bio.range.start; count = size_of (bio ∷ bios) }

-- how many requests are queued, at all seats together (blk-mq)
abbrev pub queued : Plain → ℕ
queued m = sum (map (λ seat. length (m.queue seat)) seats)

-- how many requests are in flight, as many as tags are taken (blk-mq)
abbrev pub in_flight : Limits → Plain → ℕ
in_flight l m = count_by (λ tag. is_some (m.flight tag)) (numbers 0 l.tags)

-- how many requests there are: queued, in flight, or in the dispatch list (blk-mq; that they are counted together is our profile)
abbrev pub requests_of : Limits → Plain → ℕ
requests_of l m = queued m + in_flight l m + length m.requeued

-- the request that a tag bears, if it bears one (blk-mq)
abbrev pub request_at : Plain → ℕ → Option WholeRequest
request_at m tag = option_map (λ flight. flight.request) (m.flight tag)

-- blk-mq: the requests in flight, in the order of their tags (the order is our profile)
abbrev pub flying : Limits → Plain → List WholeRequest
flying l m = filter_map (request_at m) (numbers 0 l.tags)

-- a request is of this session (our profile)
abbrev pub is_of : ℕ → WholeRequest → Bool
is_of session request = request.session == session

-- the requests of the session at a seat that are queued, in the dispatch list or in flight (our profile)
abbrev pub left_of : Limits → Plain → ℕ → ℕ → List WholeRequest
left_of l m seat session = filter (is_of session) (m.queue seat ++ m.requeued ++ flying l m)

-- a session leaves, and no request of it is left (our profile)
abbrev pub is_gone : Limits → Plain → ℕ → Bool
is_gone l m seat = option_map_or (λ s. s.leaving && is_empty (left_of l m seat s.session)) (m.seat seat) false
