-- The request of a queue to be served next, in the order of sectors from the queue's head on (bfq; one direction is our profile).
use Rattle.std.specs.Prelude.{ℕ, ◌==◌, nat_le, min, Bool, false, List, [], ◌∷◌, Option, Some, None}
use Rattle.std.specs.List.{filter, filter_map, find}
use Rattle.std.specs.Option.{option_and_then, option_map, option_map_or, option_or}
use Rattle.plain.specs.declared.shape.Shape.{Shape}

-- the first sector of a request, if there is one (bfq: a request's place is its first sector)
abbrev pub start_of : {A : Type 0} → (A → Option Shape) → A → Option ℕ
start_of shape a = option_map (λ s. s.start) (shape a)

-- the first sectors of the requests of a queue (bfq: requests are served by their places)
abbrev pub starts : {A : Type 0} → (A → Option Shape) → List A → List ℕ
starts shape queue = filter_map (start_of shape) queue

-- the least of some numbers, if there is one (our profile)
abbrev pub minimum : List ℕ → Option ℕ
minimum [] = None
minimum (n ∷ ns) = Some (option_map_or (min n) (minimum ns) n)

-- the start to be served next: the least at or after the head, else the least (bfq: from the head on; one direction is our profile)
abbrev pub wanted : ℕ → List ℕ → Option ℕ
wanted head starts = option_or (minimum (filter (nat_le head) starts)) (minimum starts)

-- whether a request starts at a sector (our profile)
abbrev pub has_start : {A : Type 0} → (A → Option Shape) → ℕ → A → Bool
has_start shape sector a = option_map_or (λ start. start == sector) (start_of shape a) false

-- the request to be served next: the first of the queue that has this start (bfq; the first in order of insertion is our profile)
abbrev pub next_of : {A : Type 0} → (A → Option Shape) → List A → ℕ → Option A
next_of shape queue head = option_and_then (λ sector. find (has_start shape sector) queue) (wanted head (starts shape queue))
