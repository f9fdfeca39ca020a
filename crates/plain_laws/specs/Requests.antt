-- What holds of each request of a machine, wherever it is.
use Rattle.std.specs.Prelude.{◌≡◌, ℕ, All, Some}
use Rattle.plain.specs.Machine.{WholeRequest, Flight, Plain}

-- this holds of each request that is queued, in the dispatch list or in flight (blk-mq: a request is in one of these)
abbrev pub EachRequest : (WholeRequest → Type 0) → Plain → Type 0
EachRequest P m =
    ((seat : ℕ) → All P (m.queue seat))
    × All P m.requeued
    × ((tag : ℕ) (flight : Flight) → m.flight tag ≡ Some flight → P flight.request)
