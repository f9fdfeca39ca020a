-- What a call does to a journal with names.
use Rattle.std.proofs.Common.{true, false, Bool, not, ◌≡◌, ℕ, zero, suc, Some, None, get_or, ◌+◌, ◌-◌, ◌==◌, nat_lt, if◌then◌else◌, ◌<◌, ◌≤◌, List, [], ◌∷◌, ◌++◌, length, refl, sym, ap, ◌∙◌, subst, arith, inl, inr}
use Rattle.plain.specs.declared.step.Step.{Step}
use Rattle.plain.specs.declared.call.Call.{Call}
use Rattle.plain.specs.declared.call.Call.TheVariants.{Do, Hold, Release, Undo, Redo}
use Rattle.plain.specs.declared.answer.Answer.{Answer}
use Rattle.plain.specs.declared.answer.Answer.TheVariants.{Accepted, Refused, NotYet}
use Rattle.plain.specs.declared.answer.Reply.{Reply}
use Rattle.plain.specs.declared.answer.Code.{Code}
use Rattle.plain.specs.declared.answer.Code.TheVariants.{NotHeld, AlreadyHeld, ZeroCount, NothingToUndo, NothingToRedo, HistoryFull}
use Rattle.plain.specs.declared.answer.Reply.TheVariants.{Moved, Done}
use Rattle.plain.specs.declared.answer.Cause.{Cause}
use Rattle.plain.specs.declared.answer.Cause.TheVariants.{Held}
use Rattle.plain.specs.Opening.{Limits}
use Rattle.plain.specs.Step.{step}
use Rattle.plain.specs.Keeper.{State, machine_of, has_room, entered, did, called, opened}
use Rattle.plain.specs.Headline.{MayCall, replay}
use Rattle.host_calls.specs.declared.seat.SeatName.{SeatName}
use Rattle.host_core.specs.Journal.{calls_of, entered_by, Allows, Pages}
use Rattle.host_rings.specs.Names.{entries, IsBook}
use Rattle.std.specs.List.{slice_get}
use Rattle.std.proofs.lemmas.List.{length-append}
use Rattle.std.proofs.lemmas.Option.{same_Some}

-- an accepted call is the next entry
abbrev pub with_call : List Call → Call → Answer → List Call
with_call journal call (Accepted reply) = journal ++ call ∷ []
with_call journal call (Refused code) = journal
with_call journal call (NotYet cause) = journal

-- what no call changes, and what it does to the journal
pub record Enters (k next : State) (call : Call) (answer : Answer) : Type 0 where
  pub limits : next.limits ≡ k.limits
  pub most : next.most ≡ k.most
  pub journal : next.journal ≡ with_call k.journal call answer

did-enters : (k : State) (s : Step) (a : Answer) → Enters k (did k s a).0 (Do s) (did k s a).1
did-enters k s (Accepted reply) = record { limits = refl; most = refl; journal = refl }
did-enters k s (Refused code) = record { limits = refl; most = refl; journal = refl }
did-enters k s (NotYet cause) = record { limits = refl; most = refl; journal = refl }

-- two tests
two-enters : (k next : State) (call : Call) (reply : Reply) (b c : Bool) (x y : Code) → next.limits ≡ k.limits → next.most ≡ k.most
    → let o = entered k ((b, Refused x) ∷ (c, Refused y) ∷ []) next call reply in Enters k o.0 call o.1
two-enters k next call reply true c x y l m = record { limits = refl; most = refl; journal = refl }
two-enters k next call reply false true x y l m = record { limits = refl; most = refl; journal = refl }
two-enters k next call reply false false x y l m = record { limits = l; most = m; journal = refl }

-- four tests
four-enters : (k next : State) (call : Call) (reply : Reply) (b c d e : Bool) (x y z w : Code) → next.limits ≡ k.limits → next.most ≡ k.most
    → let o = entered k ((b, Refused x) ∷ (c, Refused y) ∷ (d, Refused z) ∷ (e, Refused w) ∷ []) next call reply in Enters k o.0 call o.1
four-enters k next call reply true c d e x y z w l m = record { limits = refl; most = refl; journal = refl }
four-enters k next call reply false true d e x y z w l m = record { limits = refl; most = refl; journal = refl }
four-enters k next call reply false false true e x y z w l m = record { limits = refl; most = refl; journal = refl }
four-enters k next call reply false false false true x y z w l m = record { limits = refl; most = refl; journal = refl }
four-enters k next call reply false false false false x y z w l m = record { limits = l; most = m; journal = refl }

do-enters : (k : State) (s : Step) (b : Bool)
    → let o = if b then (k, NotYet Held) else did k s (step k.limits (machine_of k) (k.last + 1) (has_room k) s).1 in Enters k o.0 (Do s) o.1
do-enters k s true = record { limits = refl; most = refl; journal = refl }
do-enters k s false = did-enters k s (step k.limits (machine_of k) (k.last + 1) (has_room k) s).1

called-enters : (k : State) (call : Call) → Enters k (called k call).0 call (called k call).1
called-enters k (Do s) = do-enters k s k.held
called-enters k Hold = two-enters k (record k { held = true }) Hold (Moved k.cursor (length k.line)) k.held (not (has_room k)) AlreadyHeld HistoryFull refl refl
called-enters k Release = two-enters k (record k { held = false }) Release Done (not k.held) (not (has_room k)) NotHeld HistoryFull refl refl
called-enters k (Undo n) = four-enters k (record k { cursor = k.cursor - n }) (Undo n) (Moved (k.cursor - n) (length k.line))
    (not k.held) (n == 0) (nat_lt k.cursor n) (not (has_room k)) NotHeld ZeroCount NothingToUndo HistoryFull refl refl
called-enters k (Redo n) = four-enters k (record k { cursor = k.cursor + n }) (Redo n) (Moved (k.cursor + n) (length k.line))
    (not k.held) (n == 0) (nat_lt (length k.line) (k.cursor + n)) (not (has_room k)) NotHeld ZeroCount NothingToRedo HistoryFull refl refl

-- a call leaves the limits, and adds at most one entry
pub may-enters : (k : State) (call : Call) (answer : Answer) (next : State) → MayCall k call answer next → Enters k next call answer
may-enters k call answer next (inl e) = subst (λ o. Enters k o.0 call o.1) (sym e) (called-enters k call)
may-enters k call answer next (inr x) = record {
  limits = ap (λ s. s.limits) x.3;
  most = ap (λ s. s.most) x.3;
  journal = ap (λ s. s.journal) x.3 ∙ ap (with_call k.journal call) (sym x.2);
}

-- the entries of one name and one call more
pub entries-push : (names : List SeatName) (calls : List Call) (name : SeatName) (call : Call) → length names ≡ length calls
    → entries (names ++ name ∷ []) (calls ++ call ∷ []) ≡ entries names calls ++ record { name = name; call = call } ∷ []
entries-push [] [] name call e = refl
entries-push [] (c ∷ calls) name call e = absurd (omega (arith, e))
entries-push (n ∷ names) [] name call e = absurd (omega (arith, e))
entries-push (n ∷ names) (c ∷ calls) name call e = ap (λ es. record { name = n; call = c } ∷ es) (entries-push names calls name call (omega (arith, e)))

-- the calls of the entries are the journal
pub calls_of-entries : (names : List SeatName) (calls : List Call) → length names ≡ length calls → calls_of (entries names calls) ≡ calls
calls_of-entries [] [] e = refl
calls_of-entries [] (c ∷ calls) e = absurd (omega (arith, e))
calls_of-entries (n ∷ names) [] e = absurd (omega (arith, e))
calls_of-entries (n ∷ names) (c ∷ calls) e = ap (λ cs. c ∷ cs) (calls_of-entries names calls (omega (arith, e)))

-- what the keeper of the journal was asked may be answered so
pub allows-of : (k next : State) (names : List SeatName) (call : Call) (answer : Answer) → length names ≡ length k.journal → k ≡ replay k.limits k.most k.journal
    → MayCall k call answer next → Allows k.limits k.most (calls_of (entries names k.journal)) call answer
allows-of k next names call answer even replays may =
    (next, subst (λ s. MayCall s call answer next) (replays ∙ ap (replay k.limits k.most) (sym (calls_of-entries names k.journal even))) may)

-- an accepted call added an entry
with-accepted : (journal : List Call) (call : Call) (answer : Answer) (reply : Reply) → answer ≡ Accepted reply → with_call journal call answer ≡ journal ++ call ∷ []
with-accepted journal call answer reply e = ap (with_call journal call) e

-- so there was room for its name
pub room-for-name : (k next : State) (names : List SeatName) (len capacity n : ℕ) (call : Call) (answer : Answer) (reply : Reply)
    → IsBook k names len capacity → MayCall k call answer next → answer ≡ Accepted reply → n ≡ length next.journal → n ≤ next.most → len < capacity
room-for-name k next names len capacity n call answer reply h may e count few =
    let en = may-enters k call answer next may in
    let longer : length next.journal ≡ length k.journal + 1 = ap length (en.journal ∙ with-accepted k.journal call answer reply e) ∙ length-append k.journal (call ∷ []) in
    let most : next.most ≡ k.most = en.most in
    let counted : len ≡ length names = h.counted in
    let even : length names ≡ length k.journal = h.even in
    let room : k.most ≤ capacity = h.room in
    omega (arith, longer, most, counted, even, room, count, few)

-- a book after a call that was accepted, and after one that was not
pub book-more : (k next : State) (names now : List SeatName) (len len' capacity capacity' n : ℕ) (name : SeatName) (call : Call) (answer : Answer) (reply : Reply)
    → IsBook k names len capacity → MayCall k call answer next → answer ≡ Accepted reply → n ≡ length next.journal → n ≤ next.most
    → next ≡ replay next.limits next.most next.journal
    → now ≡ names ++ name ∷ [] → len' ≡ len + 1 → capacity ≤ capacity' → IsBook next now len' capacity'
book-more k next names now len len' capacity capacity' n name call answer reply h may e count few replays push l c =
    let en = may-enters k call answer next may in
    let longer : length next.journal ≡ length k.journal + 1 = ap length (en.journal ∙ with-accepted k.journal call answer reply e) ∙ length-append k.journal (call ∷ []) in
    let names-longer : length now ≡ length names + 1 = ap length push ∙ length-append names (name ∷ []) in
    let most : next.most ≡ k.most = en.most in
    let counted : len ≡ length names = h.counted in
    let even : length names ≡ length k.journal = h.even in
    let room : k.most ≤ capacity = h.room in
    record {
      counted = omega (arith, names-longer, counted, l);
      even = omega (arith, names-longer, even, longer);
      room = omega (arith, most, room, c);
      few = omega (arith, count, few);
      replays = replays;
    }

pub book-refused : (k next : State) (names : List SeatName) (len capacity n : ℕ) (call : Call) (answer : Answer) (code : Code)
    → IsBook k names len capacity → MayCall k call answer next → answer ≡ Refused code → n ≡ length next.journal → n ≤ next.most
    → next ≡ replay next.limits next.most next.journal → IsBook next names len capacity
book-refused k next names len capacity n call answer code h may e count few replays =
    let en = may-enters k call answer next may in
    let same : length next.journal ≡ length k.journal = ap length (en.journal ∙ ap (with_call k.journal call) e) in
    let most : next.most ≡ k.most = en.most in
    let even : length names ≡ length k.journal = h.even in
    let room : k.most ≤ capacity = h.room in
    record { counted = h.counted; even = omega (arith, even, same); room = omega (arith, most, room); few = omega (arith, count, few); replays = replays }

pub book-waits : (k next : State) (names : List SeatName) (len capacity n : ℕ) (call : Call) (answer : Answer) (cause : Cause)
    → IsBook k names len capacity → MayCall k call answer next → answer ≡ NotYet cause → n ≡ length next.journal → n ≤ next.most
    → next ≡ replay next.limits next.most next.journal → IsBook next names len capacity
book-waits k next names len capacity n call answer cause h may e count few replays =
    let en = may-enters k call answer next may in
    let same : length next.journal ≡ length k.journal = ap length (en.journal ∙ ap (with_call k.journal call) e) in
    let most : next.most ≡ k.most = en.most in
    let even : length names ≡ length k.journal = h.even in
    let room : k.most ≤ capacity = h.room in
    record { counted = h.counted; even = omega (arith, even, same); room = omega (arith, most, room); few = omega (arith, count, few); replays = replays }

-- a book of a keeper before its first call
pub book-new : (k : State) (limits : Limits) (most : ℕ) (names : List SeatName) (len capacity : ℕ) → k ≡ opened limits most → names ≡ [] → len ≡ 0 → most ≤ capacity
    → k ≡ replay k.limits k.most k.journal → IsBook k names len capacity
book-new k limits most names len capacity e none counted room replays =
    let journal : length k.journal ≡ 0 = ap (λ s. length s.journal) e in
    let most' : k.most ≡ most = ap (λ s. s.most) e in
    let unnamed : length names ≡ 0 = ap length none in
    record {
      counted = omega (arith, counted, unnamed);
      even = omega (arith, unnamed, journal);
      room = omega (arith, most', room);
      few = omega (arith, journal);
      replays = replays;
    }

-- what a caller sees
pub seen-allows : (k next : State) (p : Pages) (names : List SeatName) (len capacity : ℕ) (call : Call) (answer : Answer)
    → p ≡ record { limits = k.limits; most = k.most; entries = entries names k.journal } → IsBook k names len capacity → MayCall k call answer next
    → Allows p.limits p.most (calls_of p.entries) call answer
seen-allows k next p names len capacity call answer v h may =
    subst (λ q. Allows q.limits q.most (calls_of q.entries) call answer) (sym v) (allows-of k next names call answer h.even h.replays may)

pub seen-more : (k next : State) (p : Pages) (names now : List SeatName) (len capacity : ℕ) (name : SeatName) (call : Call) (answer : Answer) (reply : Reply)
    → p ≡ record { limits = k.limits; most = k.most; entries = entries names k.journal } → IsBook k names len capacity → MayCall k call answer next → answer ≡ Accepted reply
    → now ≡ names ++ name ∷ [] → entries now next.journal ≡ entered_by p.entries name call answer
seen-more k next p names now len capacity name call answer reply v h may e push =
    let en = may-enters k call answer next may in
    ap (λ ns. entries ns next.journal) push ∙ ap (entries (names ++ name ∷ [])) (en.journal ∙ with-accepted k.journal call answer reply e)
    ∙ entries-push names k.journal name call h.even ∙ ap (λ es. es ++ record { name = name; call = call } ∷ []) (ap (λ q. q.entries) (sym v))
    ∙ ap (entered_by p.entries name call) (sym e)

pub seen-refused : (k next : State) (p : Pages) (names : List SeatName) (name : SeatName) (call : Call) (answer : Answer) (code : Code)
    → p ≡ record { limits = k.limits; most = k.most; entries = entries names k.journal } → MayCall k call answer next → answer ≡ Refused code
    → entries names next.journal ≡ entered_by p.entries name call answer
seen-refused k next p names name call answer code v may e =
    let en = may-enters k call answer next may in
    ap (entries names) (en.journal ∙ ap (with_call k.journal call) e) ∙ ap (λ q. q.entries) (sym v) ∙ ap (entered_by p.entries name call) (sym e)

pub seen-waits : (k next : State) (p : Pages) (names : List SeatName) (name : SeatName) (call : Call) (answer : Answer) (cause : Cause)
    → p ≡ record { limits = k.limits; most = k.most; entries = entries names k.journal } → MayCall k call answer next → answer ≡ NotYet cause
    → entries names next.journal ≡ entered_by p.entries name call answer
seen-waits k next p names name call answer cause v may e =
    let en = may-enters k call answer next may in
    ap (entries names) (en.journal ∙ ap (with_call k.journal call) e) ∙ ap (λ q. q.entries) (sym v) ∙ ap (entered_by p.entries name call) (sym e)

-- what is seen of the keeper
pub seen-replay : (k : State) (p : Pages) (names : List SeatName) (len capacity : ℕ)
    → p ≡ record { limits = k.limits; most = k.most; entries = entries names k.journal } → IsBook k names len capacity → k ≡ replay p.limits p.most (calls_of p.entries)
seen-replay k p names len capacity v h = h.replays ∙ ap (replay k.limits k.most) (sym (calls_of-entries names k.journal h.even))
    ∙ ap (λ q. replay q.limits q.most (calls_of q.entries)) (sym v)

pub seen-journal : (k : State) (p : Pages) (names : List SeatName) (len capacity : ℕ)
    → p ≡ record { limits = k.limits; most = k.most; entries = entries names k.journal } → IsBook k names len capacity → k.journal ≡ calls_of p.entries
seen-journal k p names len capacity v h = sym (calls_of-entries names k.journal h.even) ∙ ap (λ q. calls_of q.entries) (sym v)

pub name-at : (names : List SeatName) (at : ℕ) (name : SeatName) → at < length names → name ≡ get_or names at name → slice_get names at ≡ Some name
name-at [] at name within is = absurd (omega (arith, within))
name-at (m ∷ names) zero name within is = ap Some (sym is)
name-at (m ∷ names) (suc at) name within is = name-at names at name (omega (arith, within)) is

-- the entry of a number: as many names as calls
pub entry-at : (names : List SeatName) (calls : List Call) (at : ℕ) (name : SeatName) (call : Call) → length names ≡ length calls
    → slice_get names at ≡ Some name → slice_get calls at ≡ Some call → slice_get (entries names calls) at ≡ Some (record { name = name; call = call })
entry-at [] [] zero name call even n c = grind (arith, n)
entry-at [] [] (suc at) name call even n c = grind (arith, n)
entry-at [] (d ∷ calls) at name call even n c = absurd (omega (arith, even))
entry-at (m ∷ names) [] at name call even n c = absurd (omega (arith, even))
entry-at (m ∷ names) (d ∷ calls) zero name call even n c = rw (sym (same_Some m name n), sym (same_Some d call c)) refl
entry-at (m ∷ names) (d ∷ calls) (suc at) name call even n c = entry-at names calls at name call (omega (arith, even)) n c

pub entry-none : (names : List SeatName) (calls : List Call) (at : ℕ) → slice_get calls at ≡ None → slice_get (entries names calls) at ≡ None
entry-none [] calls zero c = refl
entry-none [] calls (suc at) c = refl
entry-none (m ∷ names) [] zero c = refl
entry-none (m ∷ names) [] (suc at) c = refl
entry-none (m ∷ names) (d ∷ calls) zero c = absurd (grind (arith, c))
entry-none (m ∷ names) (d ∷ calls) (suc at) c = entry-none names calls at c
