-- What came of a round, as a turn tells it.
use Rattle.std.proofs.Common.{◌≡◌, ℕ, ◌<◌, List, length, ◌∙◌, refl, sym, subst, Bool, false, Option, None, Some}
use Rattle.std.proofs.lemmas.Option.{slice_get_within}
use Rattle.host_calls.specs.declared.seat.SeatName.{SeatName}
use Rattle.host_calls.specs.declared.seat.SeatName.TheVariants.{Operator}
use Rattle.host_core.specs.Journal.{Pages}
use Rattle.host_core.specs.Rows.{Row, Took}
use Rattle.host_core.specs.Closing.{AllOpen, AllClose}
use Rattle.host_core.specs.Visits.{AllReady}
use Rattle.host_core.specs.declared.visit.Came.{Came}
use Rattle.host_core.specs.declared.visit.Came.TheVariants.{Answered, Stopped}
use Rattle.host_core.specs.Rounds.{Comes, Passes, RoundOver}
use Rattle.host_core.specs.Turns.{is_starved, RoundBy, Dispatches, IsTurn, Ends, IsLastTurn}
use Rattle.host_core.proofs.Took.{all-one, all-twice, changes-so, ready-changes}

-- somebody was answered
round-answers : (lasts : List (Option ℕ)) (place : ℕ) (name : SeatName) (p q : Pages) (xs ys : List Row) → Comes lasts place (Answered name) p xs q ys
    → RoundBy lasts p xs q ys (Some name)
round-answers lasts place name p q xs ys c = let v = c.visits in (
  place,
  record {
    between = c.between;
    took = c.took;
    changes = record { before = v.before; after = v.after; long = v.long; stood = v.stood; stands = v.stands; related = v.related.0.1; others = v.others };
  },
  v.related.0.0,
)

pub turn-answers : (ls lasts : List (Option ℕ)) (place : ℕ) (came : Came) (name : SeatName) (p q : Pages) (xs ys : List Row) → ls ≡ lasts → came ≡ Answered name
    → Comes ls place came p xs q ys → RoundBy lasts p xs q ys (Some name)
turn-answers ls lasts place came name p q xs ys l e c =
    round-answers lasts place name p q xs ys (subst (λ v. Comes lasts place v p xs q ys) e (subst (λ k. Comes k place came p xs q ys) l c))

ready-answered : (lasts : List (Option ℕ)) (place : ℕ) (name : SeatName) (p q : Pages) (xs ys : List Row) → Comes lasts place (Answered name) p xs q ys → AllReady ys
ready-answered lasts place name p q xs ys c = ready-changes _ place c.between ys c.visits c.visits.related.1 c.ready

pub ready-answers : (lasts : List (Option ℕ)) (place : ℕ) (came : Came) (name : SeatName) (p q : Pages) (xs ys : List Row) → came ≡ Answered name
    → Comes lasts place came p xs q ys → AllReady ys
ready-answers lasts place came name p q xs ys e c = ready-answered lasts place name p q xs ys (subst (λ v. Comes lasts place v p xs q ys) e c)

-- the operator asks for the end
pub round-ends : (lasts : List (Option ℕ)) (place : ℕ) (p q : Pages) (xs ys : List Row) → Comes lasts place Stopped p xs q ys → Ends place p xs q ys
round-ends lasts place p q xs ys c = record { between = c.between; took = c.took; changes = changes-so _ _ place c.between ys c.visits c.visits.related.0 }

-- no seat has heard the end then
pub open-ends : (place : ℕ) (p q : Pages) (xs ys : List Row) → Ends place p xs q ys → AllReady xs → AllOpen ys
open-ends place p q xs ys e h = λ i s at.
    let all = all-twice xs e.between ys e.took (all-one place e.between ys (changes-so _ Took place e.between ys e.changes e.changes.related.took)) in
    let x = all.took i s at in
    x.2.closed ∙ (h i x.0 x.1).0

pub open-stopped : (lasts : List (Option ℕ)) (place : ℕ) (came : Came) (p q : Pages) (xs ys : List Row) → came ≡ Stopped → Comes lasts place came p xs q ys → AllReady xs
    → AllOpen ys
open-stopped lasts place came p q xs ys e c = open-ends place p q xs ys (round-ends lasts place p q xs ys (subst (λ v. Comes lasts place v p xs q ys) e c))

-- what came has a place among the seats
pub place-within : (lasts : List (Option ℕ)) (place : ℕ) (came : Came) (p q : Pages) (xs ys : List Row) → Comes lasts place came p xs q ys → place < length ys
place-within lasts place came p q xs ys c = slice_get_within ys place c.visits.after c.visits.stands

-- nobody was answered
pub round-none : (ls lasts : List (Option ℕ)) (came : Option (ℕ × Came)) (p q : Pages) (xs ys : List Row) → ls ≡ lasts → came ≡ None
    → RoundOver ls 0 (length xs) p xs q ys came → RoundBy lasts p xs q ys None
round-none ls lasts came p q xs ys l e r = subst (λ k. RoundOver k 0 (length xs) p xs q ys None) l (subst (λ v. RoundOver ls 0 (length xs) p xs q ys v) e r)

passes-none : (ls : List (Option ℕ)) (came : Option (ℕ × Came)) (n : ℕ) (p q : Pages) (xs ys : List Row) → came ≡ None → RoundOver ls 0 n p xs q ys came
    → Passes ls 0 n p xs q ys
passes-none ls came n p q xs ys e r = subst (λ v. RoundOver ls 0 n p xs q ys v) e r

pub ready-none : (ls : List (Option ℕ)) (came : Option (ℕ × Came)) (n : ℕ) (p q : Pages) (xs ys : List Row) → came ≡ None → RoundOver ls 0 n p xs q ys came → AllReady ys
ready-none ls came n p q xs ys e r = (passes-none ls came n p q xs ys e r).ready

pub long-none : (ls : List (Option ℕ)) (came : Option (ℕ × Came)) (n : ℕ) (p q : Pages) (xs ys : List Row) → came ≡ None → RoundOver ls 0 n p xs q ys came
    → length ys ≡ length xs
long-none ls came n p q xs ys e r = (passes-none ls came n p q xs ys e r).took.long

-- a turn is a round and a Dispatch
pub turn-of : (lasts : List (Option ℕ)) (answered told : Option SeatName) (p between q : Pages) (xs ys : List Row) (dispatched starved : Bool) → told ≡ answered
    → RoundBy lasts p xs between ys answered → (d : Dispatches between q dispatched) × (starved ≡ is_starved d.answer)
    → (t : IsTurn lasts p xs q ys told dispatched) × (starved ≡ is_starved t.dispatch.answer)
turn-of lasts answered told p between q xs ys dispatched starved e round d =
    (record { between = between; round = subst (RoundBy lasts p xs between ys) (sym e) round; dispatch = d.0 }, d.1)

-- the turn in which the operator asked for the end
pub last-turn : (lasts : List (Option ℕ)) (place : ℕ) (came : Came) (p q : Pages) (xs between ys : List Row) → came ≡ Stopped → Comes lasts place came p xs q between
    → AllClose between ys → IsLastTurn p xs q ys (Some Operator) false
last-turn lasts place came p q xs between ys e c h = record {
  between = between;
  place = place;
  ends = round-ends lasts place p q xs between (subst (λ v. Comes lasts place v p xs q between) e c);
  closes = h;
  answered_is = refl;
  dispatched_is = refl;
}
