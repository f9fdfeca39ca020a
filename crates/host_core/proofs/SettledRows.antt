-- A seat that is settled with its desk, in a row and among all rows.
use Rattle.std.proofs.Common.{◌≡◌, ℕ, zero, suc, ◌+◌, List, [], ◌∷◌, ◌++◌, length, map, set, get_or, refl, sym, ap, ◌∙◌, Some}
use Rattle.std.specs.List.{slice_get}
use Rattle.std.specs.Option.{option_map}
use Rattle.std.proofs.lemmas.Option.{slice_get_within, slice_get-map, same_Some}
use Rattle.host_calls.specs.declared.ring.RingReply.{RingReply}
use Rattle.host_calls.specs.declared.seat.SeatName.{SeatName}
use Rattle.host_core.specs.Rows.{Row}
use Rattle.host_core.specs.declared.asked.Asked.{Asked}
use Rattle.host_core.specs.RowSettling.{IsSettled}
use Rattle.host_core.proofs.Rows.{get-left, get-right, or-at}

-- an item that looks the same after it was set
pub map-set : {X Y : Type 0} (f : X → Y) (xs : List X) (i : ℕ) (d e : X) → d ≡ get_or xs i d → f e ≡ f d → map f (set xs i e) ≡ map f xs
map-set f [] i d e s k = refl
map-set f (y ∷ xs) zero d e s k = ap (λ z. z ∷ map f xs) (k ∙ ap f s)
map-set f (y ∷ xs) (suc i) d e s k = ap (λ zs. f y ∷ zs) (map-set f xs i d e s k)

-- what stands at a place is what an index gives
pub or-stands : {X : Type 0} (xs : List X) (i : ℕ) (d e : X) → slice_get xs i ≡ Some d → e ≡ get_or xs i e → d ≡ e
or-stands xs i d e at s = same_Some d e (sym at ∙ or-at xs i e (slice_get_within xs i d at) ∙ ap Some (sym s))

-- and its row among the rows
pub row-stands : {X Y : Type 0} (f : X → Y) (xs : List X) (i : ℕ) (d e : X) → slice_get xs i ≡ Some d → d ≡ e → slice_get (map f xs) i ≡ Some (f e)
row-stands f xs i d e at same = slice_get-map f xs i ∙ ap (λ o. option_map f o) (at ∙ ap Some same)

-- it is settled also where other rows stand behind, and before
pub settled-left : (xs zs : List Row) (name : SeatName) (calls : List Asked) (replies : List RingReply) (left uncollected : ℕ)
    → IsSettled xs name calls replies left uncollected → IsSettled (xs ++ zs) name calls replies left uncollected
settled-left xs zs name calls replies left uncollected h = record {
  row = h.row;
  place = h.place;
  stands = get-left xs zs h.place (slice_get_within xs h.place h.row h.stands) ∙ h.stands;
  named = h.named;
  settled = h.settled;
}

pub settled-right : (xs zs : List Row) (name : SeatName) (calls : List Asked) (replies : List RingReply) (left uncollected : ℕ)
    → IsSettled zs name calls replies left uncollected → IsSettled (xs ++ zs) name calls replies left uncollected
settled-right xs zs name calls replies left uncollected h = record {
  row = h.row;
  place = length xs + h.place;
  stands = get-right xs zs h.place (length xs + h.place) refl ∙ h.stands;
  named = h.named;
  settled = h.settled;
}
