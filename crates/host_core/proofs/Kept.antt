-- What keeps the account of a seat.
use Rattle.std.proofs.Common.{true, false, Bool, ◌≡◌, ℕ, ◌==◌, ◌≤◌, length, List, [], ◌∷◌, ◌++◌, refl, sym, subst, arith, Option, if◌then◌else◌}
use Rattle.std.specs.List.{filter}
use Rattle.std.proofs.lemmas.List.{append-nil}
use Rattle.plain.specs.declared.answer.Answer.{Answer}
use Rattle.plain.specs.declared.answer.Answer.TheVariants.{Accepted, Refused, NotYet}
use Rattle.host_calls.specs.declared.ring.RingReply.TheVariants.{Answer as Answered, Closed as Ended}
use Rattle.host_calls.specs.declared.seat.SeatName.{SeatName}
use Rattle.host_calls.specs.declared.seat.SeatName.TheVariants.{Client, Device, Operator, Core}
use Rattle.host_core.specs.Journal.{Pages, Entry}
use Rattle.host_core.specs.Rows.{Row, Took}
use Rattle.host_core.specs.declared.asked.Asked.{Asked}
use Rattle.host_core.specs.declared.asked.Asked.TheVariants.{Ask, Take, Stop}
use Rattle.host_core.specs.Account.{IsAccount}
use Rattle.host_core.proofs.SeatAccounts.{account-takes, account-answers, account-closes}
use Rattle.host_core.specs.Judging.{entered_at}
use Rattle.host_core.specs.Visits.{Serves}
use Rattle.host_core.specs.Closing.{Closes}
use Rattle.host_core.specs.Names.{same_name}
use Rattle.host_core.specs.Keeping.{judges, is_entry, entry_under, is_own, closing, IsKept}

same-number : (n : ℕ) → (n == n) ≡ true
same-number n = grind arith

-- an entry is its own seat's
pub own-name : (name : SeatName) → same_name name name ≡ true
own-name (Client n) = same-number n
own-name (Device n) = same-number n
own-name Operator = refl
own-name Core = refl

-- what an answer adds
abbrev pub added : SeatName → Asked → Answer → List Entry
added name call answer = if is_entry call answer then entry_under name call ∷ [] else []

pub entered-added : (entries : List Entry) (name : SeatName) (call : Asked) (answer : Answer) → entered_at entries name call answer ≡ entries ++ added name call answer
entered-added entries name (Ask call) (Accepted reply) = refl
entered-added entries name (Ask call) (Refused code) = sym (append-nil entries)
entered-added entries name (Ask call) (NotYet cause) = sym (append-nil entries)
entered-added entries name (Take worker) answer = sym (append-nil entries)
entered-added entries name Stop answer = sym (append-nil entries)

-- another seat has no part in it
pub added-others : (name other : SeatName) (call : Asked) (b : Bool) → same_name other name ≡ false
    → filter (is_own other) (if b then entry_under name call ∷ [] else []) ≡ []
added-others name other call true apart = rw apart refl
added-others name other call false apart = refl

-- an account of a seat that did not hear the end
open-account : (devices : ℕ) (p : Pages) (r : Row) → r.closed ≡ false → IsKept devices p r
    → IsAccount (judges devices p.limits p.most r.name) is_entry (entry_under r.name) (is_own r.name) Answered p.entries r.taken r.waiting r.replied []
open-account devices p r was h = subst (λ b. IsAccount (judges devices p.limits p.most r.name) is_entry (entry_under r.name) (is_own r.name) Answered p.entries r.taken r.waiting r.replied (closing b)) was h

-- a seat at which a call may have been taken, while others made entries
pub kept-took : (devices : ℕ) (p q : Pages) (more : List Entry) (r s : Row) → Took r s → q.entries ≡ p.entries ++ more → q.limits ≡ p.limits → q.most ≡ p.most
    → filter (is_own r.name) more ≡ [] → IsKept devices p r → IsKept devices q s
kept-took devices p q more r s t e l m others h =
    rw (e, l, m, t.name, t.replied, t.closed) (account-takes (judges devices p.limits p.most r.name) is_entry (entry_under r.name) (is_own r.name) Answered
    p.entries more r.taken r.waiting s.taken s.waiting r.replied (closing r.closed) others t.taken_is h)

-- the seat that was answered
pub kept-serves : (lasts : List (Option ℕ)) (devices : ℕ) (p q : Pages) (r s : Row) → length lasts ≡ devices → Serves lasts p r q s → IsKept devices p r → IsKept devices q s
kept-serves lasts devices p q r s few v h =
    rw (v.entries, entered-added p.entries r.name v.call v.answer, v.limits, v.most, v.name, v.replied, v.closed, v.waiting)
    (account-answers (judges devices p.limits p.most r.name) is_entry (entry_under r.name) (is_own r.name) Answered p.entries r.taken r.waiting s.taken r.replied v.call v.answer
    (λ c. own-name r.name) v.taken_is (lasts, few, v.judged) (open-account devices p r v.was_open h))

-- the seat that hears the end
pub kept-closes : (devices : ℕ) (p : Pages) (r s : Row) → Closes r s → IsKept devices p r → IsKept devices p s
kept-closes devices p r s c h = subst (IsKept devices p) (sym c.1)
    (account-closes (judges devices p.limits p.most r.name) is_entry (entry_under r.name) (is_own r.name) Answered p.entries r.taken r.waiting r.replied Ended (open-account devices p r c.0 h))
