-- What a visit of a seat does, on rows.
use Rattle.std.specs.Prelude.{◌≡◌, ◌≢◌, ℕ, false, List, [], ◌∷◌, ◌++◌, length, Option, Some, slice_get}
use Rattle.plain.specs.declared.answer.Answer.{Answer}
use Rattle.plain.specs.declared.answer.Answer.TheVariants.{NotYet}
use Rattle.plain.specs.declared.answer.Cause.{Cause}
use Rattle.plain.specs.Opening.{Limits}
use Rattle.host_calls.specs.declared.ring.RingReply.{RingReply}
use Rattle.host_calls.specs.declared.ring.RingReply.TheVariants.{Answer as Answered}
use Rattle.host_calls.specs.declared.seat.SeatName.{SeatName}
use Rattle.host_calls.specs.declared.seat.SeatName.TheVariants.{Operator}
use Rattle.host_core.specs.Journal.{Pages, Entry}
use Rattle.host_core.specs.Kinds.{IsOfKind, AreOfKind}
use Rattle.host_core.specs.Rows.{Row, Took}
use Rattle.host_core.specs.declared.asked.Asked.{Asked}
use Rattle.host_core.specs.declared.asked.Asked.TheVariants.{Stop}
use Rattle.host_core.specs.Judging.{JudgedBy, entered_at, keeps_calls, is_kept, MayGet}

-- the same journal
pub record SamePages (p q : Pages) : Type 0 where
  pub entries : q.entries ≡ p.entries
  pub limits : q.limits ≡ p.limits
  pub most : q.most ≡ p.most

-- between visits a seat has not heard the end, what waits there is of its kind, and nothing of the operator's waits
abbrev pub IsReady : Row → Type 0
IsReady r = (r.closed ≡ false) × AreOfKind r.name r.waiting × (keeps_calls r.name ≡ false → length r.waiting ≡ 0)

abbrev pub AllReady : List Row → Type 0
AllReady rows = (i : ℕ) (r : Row) → slice_get rows i ≡ Some r → IsReady r

-- whatever the core may answer to a call of the kind of a seat, and does not keep waiting, the rule of its replies allows, and its owner
-- may be told
abbrev pub MayTell : SeatName → (List RingReply → RingReply → Type 0) → Type 0
MayTell name allows =
    (before : List RingReply) (l : Limits) (most : ℕ) (lasts : List (Option ℕ)) (entries : List Entry) (call : Asked) (answer : Answer)
    → IsOfKind name call → JudgedBy l most name lasts entries call answer → is_kept name answer ≡ false → allows before (Answered answer) × MayGet name answer

-- one call was answered, as the core may answer after the entries
pub record Serves (lasts : List (Option ℕ)) (p : Pages) (r : Row) (q : Pages) (s : Row) : Type 0 where
  pub call : Asked
  pub answer : Answer
  pub name : s.name ≡ r.name
  pub was_open : r.closed ≡ false
  pub closed : s.closed ≡ false
  pub taken_is : (done : List Asked) → r.taken ≡ done ++ r.waiting → s.taken ≡ done ++ call ∷ []
  pub waiting : s.waiting ≡ []
  pub judged : JudgedBy p.limits p.most r.name lasts p.entries call answer
  pub told : MayGet r.name answer
  pub replied : s.replied ≡ r.replied ++ Answered answer ∷ []
  pub entries : q.entries ≡ entered_at p.entries r.name call answer
  pub limits : q.limits ≡ p.limits
  pub most : q.most ≡ p.most

-- what waits is not yet right to answer
abbrev pub MustWait : List (Option ℕ) → Pages → SeatName → List Asked → Type 0
MustWait lasts p name [] = Unit {0}
MustWait lasts p name (call ∷ calls) = (cause : Cause) × JudgedBy p.limits p.most name lasts p.entries call (NotYet cause)

-- nothing was answered: nothing waits, or what waits must
pub record Idles (lasts : List (Option ℕ)) (p : Pages) (r : Row) (q : Pages) (s : Row) : Type 0 where
  pub pages : SamePages p q
  pub took : Took r s
  pub waits : MustWait lasts p r.name s.waiting

-- the operator asks for the end
pub record Stops (p : Pages) (r : Row) (q : Pages) (s : Row) : Type 0 where
  pub pages : SamePages p q
  pub took : Took r s
  pub waits : s.waiting ≡ Stop ∷ []
  pub operator : r.name ≡ Operator

-- one place has changed so, and no other
pub record Changes (place : ℕ) (R : Row → Row → Type 0) (xs ys : List Row) : Type 0 where
  pub before : Row
  pub after : Row
  pub long : length ys ≡ length xs
  pub stood : slice_get xs place ≡ Some before
  pub stands : slice_get ys place ≡ Some after
  pub related : R before after
  pub others : (i : ℕ) → i ≢ place → slice_get ys i ≡ slice_get xs i
