-- What the plain step says where the code has made its tests.
use Rattle.std.proofs.Common.{◌≡◌, ◌≢◌, ◌⊎◌, inl, inr, is_some, ◌==◌, ℕ, ◌+◌, ◌-◌, ◌<◌, ◌≤◌, List, [], ◌∷◌, length, Option, Some, None, Bool, true, false, cond, not, ◌||◌, ◌&&◌, nat_le, nat_lt, nat_eq, drop, unwrap_or, Result, Ok, Err, IsErr, refl, sym, ap, ◌∙◌, subst, arith, rules}
use Rattle.std.specs.Option.{option_map, is_none}
use Rattle.std.specs.Prelude.{slice_get}
use Rattle.std.proofs.lemmas.Bool.Decides.{nat_tests}
use Rattle.dispatch_core.proofs.Words.{Range, Op, Bio, Outcome, Seat, Tables, WholeRequest, Flight, Bfq, Plain, put, meaning, is_empty, merge_of, activate, stands, Limits, has_session, unreaped, with_unreaped, shape, requests_of, size_of, range_of, woken, payload_length, submitted, submit, merge_in, needs_request, effect_of, fits, after_finish, finished, finish}
use Rattle.sector_core.specs.declared.bio.BioResult.TheVariants.{Written}
use Rattle.sector_core.specs.declared.memory.OutOfMemory.{OutOfMemory as WantOfMemory}
use Rattle.dispatch_core.specs.Relation.{Answers}
use Rattle.plain.specs.Groups.{has_entity}
use Rattle.std.proofs.lemmas.Bool.{cases_lt}
use Rattle.sector_core.specs.declared.config.Scheduler.{Scheduler}
use Rattle.sector_core.specs.declared.class.Class.{Class}
use Rattle.plain.specs.declared.answer.Reply.{Reply}
use Rattle.plain.specs.declared.answer.Code.TheVariants.{NoSession, StaleSession, BadCount, BadLength, OutOfRange, TooManyBios, BadSeat, SeatTaken, NoGroup, BadPrio, VtimeFull, NothingQueued, NoTag, BadTag, NotInFlight, BadOutcome, HistoryFull}
use Rattle.plain.specs.declared.answer.Cause.TheVariants.{Frozen, RequestsFull, NotCompleted}
use Rattle.plain.specs.declared.answer.Reply.TheVariants.{Attached, Queued, Completed, Issued, Finished}
use Rattle.plain.specs.declared.answer.Answer.{Answer}
use Rattle.plain.specs.declared.answer.Answer.TheVariants.{Accepted, Refused, NotYet}
use Rattle.plain.specs.Tests.{StepResult, unless, accepted, accepted_if}
use Rattle.plain.specs.Steps.Attach.{attach, attached}
use Rattle.plain.specs.Entities.{is_bfq}
use Rattle.plain.specs.Steps.Dispatch.{sent_by, next_queue, lowest_free, sent, dispatch_to, dispatch, dispatch_of}
use Rattle.plain.specs.Steps.Reap.{reap}
use Rattle.plain.specs.Step.{MayGiveWay}

lt_16 : (seat : ℕ) → seat < 16 → nat_le 16 seat ≡ false
lt_16 seat h = grind (arith, nat_tests)

not_lt : (a b : ℕ) → a ≤ b → nat_lt b a ≡ false
not_lt a b h = grind (arith, nat_tests)

not_le : (a b : ℕ) → a < b → nat_le b a ≡ false
not_le a b h = grind (arith, nat_tests)

is_le : (a b : ℕ) → a ≤ b → nat_le a b ≡ true
is_le a b h = grind (arith, nat_tests)

same_number : (a b : ℕ) → a ≡ b → not (nat_eq a b) ≡ false
same_number a b e = grind (arith, nat_tests)

other_number : (a b : ℕ) → a ≢ b → not (nat_eq a b) ≡ true
other_number a b e = grind (arith, nat_tests)

not_zero : (a : ℕ) → 1 ≤ a → nat_eq a 0 ≡ false
not_zero a h = grind (arith, nat_tests)

is_lt : (a b : ℕ) → a < b → nat_lt a b ≡ true
is_lt a b h = grind (arith, nat_tests)

bad_count : (k : ℕ) → (k ≡ 0) ⊎ (64 < k) → (nat_eq k 0 || nat_lt 64 k) ≡ true
bad_count k (inl e) = let f : nat_eq k 0 ≡ true = grind (arith, nat_tests) in ap (λ b. b || nat_lt 64 k) f
bad_count k (inr h) = let f : nat_lt 64 k ≡ true = is_lt 64 k h in either (nat_eq k 0) f where
  either : (b : Bool) → nat_lt 64 k ≡ true → (b || nat_lt 64 k) ≡ true
  either true f = refl
  either false f = f

neither : (a b : Bool) → a ≡ false → b ≡ false → (a || b) ≡ false
neither a b e f = ap (λ x. x || b) e ∙ f

-- one of two tests fails
pub not_both : (a b : Bool) → b ≡ false → (a && b) ≡ false
not_both true b e = e
not_both false b e = refl

-- a bio that joins no request needs one
pub needs_full : (m : Plain) (seat session : ℕ) (op : Op) (range : Range) (full : Bool) → merge_in m seat session op range ≡ None → full ≡ true
    → (needs_request m seat session op range && full) ≡ true
needs_full m seat session op range full alone e = ap (λ o. is_none o && full) alone ∙ e

-- a group that stands has a number below 32
pub stands_below : (b : Bfq) (group : ℕ) → stands b group ≡ true → group < 32
stands_below b group h = elim (cases_lt group 32) [
  | inl below ↦ below
  | inr past ↦
      let e1 : (group == 0) ≡ false = grind (arith, nat_tests) in
      let e2 : has_entity group ≡ false = grind (arith, nat_tests) in
      let none : stands b group ≡ false = rw (e1, e2) refl in
      absurd cc
]

-- Attach where its tests have passed
pub attach_does : (l : Limits) (m : Plain) (n : ℕ) (room : Bool) (seat group prio : ℕ) (class : Class) → seat < 16 → m.seat seat ≡ None → stands m.bfq group ≡ true → prio ≤ 7 → room ≡ true
    → attach l m n room seat group prio class ≡ (attached l m n seat group prio class, Accepted (Attached n))
attach_does l m n room seat group prio class h free there low e =
    let e1 = lt_16 seat h in
    let e2 : is_some (m.seat seat) ≡ false = ap is_some free in
    let e3 : not (stands m.bfq group) ≡ false = ap not there in
    let e4 = not_lt prio 7 low in
    tested (nat_le 16 seat) (is_some (m.seat seat)) (not (stands m.bfq group)) (nat_lt 7 prio) e1 e2 e3 e4
    ∙ ap (λ b. accepted b m (attached l m n seat group prio class) (Attached n)) e
  where
    tested : (a b c d : Bool) → a ≡ false → b ≡ false → c ≡ false → d ≡ false
        → unless ((a, Refused BadSeat) ∷ (b, Refused SeatTaken) ∷ (c, Refused NoGroup) ∷ (d, Refused BadPrio) ∷ []) m (accepted room m (attached l m n seat group prio class) (Attached n))
        ≡ accepted room m (attached l m n seat group prio class) (Attached n)
    tested a b c d p q r s = rw (p, q, r, s) refl

-- a queue with a request that a bio joins is not empty
joined_queue : (queue : List WholeRequest) (session : ℕ) (op : Op) (range : Range) (found : WholeRequest × Bool) → merge_of shape queue session op range ≡ Some found → is_empty queue ≡ false
joined_queue [] session op range found e = absurd cc
joined_queue (r ∷ rs) session op range found e = refl

-- where the queue is not empty nobody is woken
pub not_woken : (m : Plain) (seat : ℕ) (next : Plain) → is_empty (m.queue seat) ≡ false → woken m seat next ≡ Some next
not_woken m seat next e = ap (λ b. cond b (option_map (λ b. let p : Plain = record next { bfq = b } in p) (activate seat m.bfq)) (Some next)) (not_both (is_bfq m.scheduler) (is_empty (m.queue seat)) e)

-- what the activation makes, where it is asked for
pub woken_by : (m : Plain) (seat : ℕ) (next : Plain) (wakes : Bool) (o : Option Bfq) → wakes ≡ (is_bfq m.scheduler && is_empty (m.queue seat)) → next.bfq ≡ m.bfq
    → cond wakes (activate seat m.bfq) (Some m.bfq) ≡ o → woken m seat next ≡ option_map (λ b. let p : Plain = record next { bfq = b } in p) o
woken_by m seat next wakes o e same made =
    ap (λ b. cond b (option_map (λ b. let p : Plain = record next { bfq = b } in p) (activate seat m.bfq)) (Some next)) (sym e)
    ∙ either wakes ∙ ap (option_map (λ b. let p : Plain = record next { bfq = b } in p)) made where
      either : (b : Bool) → cond b (option_map (λ b. let p : Plain = record next { bfq = b } in p) (activate seat m.bfq)) (Some next)
          ≡ option_map (λ b. let p : Plain = record next { bfq = b } in p) (cond b (activate seat m.bfq) (Some m.bfq))
      either true = refl
      either false = ap (λ b. Some (let p : Plain = record next { bfq = b } in p)) same

-- Submit where one of its tests holds and those before it fail.
module _ (l : Limits) (m : Plain) (n : ℕ) (room : Bool) (seat session : ℕ) (op : Op) (range : Range) (payload : List ℕ) where
  pub submit_seat : 16 ≤ seat → submit l m n room seat session op range payload ≡ (m, Refused BadSeat)
  submit_seat h = let e = is_le 16 seat h in rw e refl

  pub submit_nobody : seat < 16 → m.seat seat ≡ None → submit l m n room seat session op range payload ≡ (m, Refused NoSession)
  submit_nobody h none = let e = lt_16 seat h in rw (e, none) refl

  pub submit_leaver : (s : Seat) → seat < 16 → m.seat seat ≡ Some s → s.leaving ≡ true → submit l m n room seat session op range payload ≡ (m, Refused NoSession)
  submit_leaver s h sits leaves =
      let e1 = lt_16 seat h in
      let e2 : has_session (m.seat seat) ≡ false = ap has_session sits ∙ ap not leaves in
      rw (e1, e2) refl

  module _ (s : Seat) (h : seat < 16) (sits : m.seat seat ≡ Some s) (stays : s.leaving ≡ false) where
    pub submit_stale : s.session ≢ session → submit l m n room seat session op range payload ≡ (m, Refused StaleSession)
    submit_stale other = let e1 = lt_16 seat h in let e2 = other_number s.session session other in rw (e1, sits, stays, e2) refl

    module _ (same : s.session ≡ session) where
      pub submit_count : ((range.count ≡ 0) ⊎ (64 < range.count)) → submit l m n room seat session op range payload ≡ (m, Refused BadCount)
      submit_count bad =
          let e1 = lt_16 seat h in
          let e2 = same_number s.session session same in
          let e3 : (nat_eq range.count 0 || nat_lt 64 range.count) ≡ true = bad_count range.count bad in
          rw (e1, sits, stays, e2, e3) refl

      module _ (some_sectors : 1 ≤ range.count) (few_sectors : range.count ≤ 64) where
        pub submit_length : length payload ≢ payload_length op range.count → submit l m n room seat session op range payload ≡ (m, Refused BadLength)
        submit_length other =
            let e1 = lt_16 seat h in
            let e2 = same_number s.session session same in
            let e3 = neither (nat_eq range.count 0) (nat_lt 64 range.count) (not_zero range.count some_sectors) (not_lt range.count 64 few_sectors) in
            let e4 = other_number (length payload) (payload_length op range.count) other in
            rw (e1, sits, stays, e2, e3, e4) refl

        module _ (fits_payload : length payload ≡ payload_length op range.count) where
          pub submit_range : l.sectors < range.start + range.count → submit l m n room seat session op range payload ≡ (m, Refused OutOfRange)
          submit_range past =
              let e1 = lt_16 seat h in
              let e2 = same_number s.session session same in
              let e3 = neither (nat_eq range.count 0) (nat_lt 64 range.count) (not_zero range.count some_sectors) (not_lt range.count 64 few_sectors) in
              let e4 = same_number (length payload) (payload_length op range.count) fits_payload in
              let e5 = is_lt l.sectors (range.start + range.count) past in
              rw (e1, sits, stays, e2, e3, e4, e5) refl

          pub submit_frozen : range.start + range.count ≤ l.sectors → m.frozen ≡ true → submit l m n room seat session op range payload ≡ (m, NotYet Frozen)
          submit_frozen in_image frozen =
              let e1 = lt_16 seat h in
              let e2 = same_number s.session session same in
              let e3 = neither (nat_eq range.count 0) (nat_lt 64 range.count) (not_zero range.count some_sectors) (not_lt range.count 64 few_sectors) in
              let e4 = same_number (length payload) (payload_length op range.count) fits_payload in
              let e5 = not_lt (range.start + range.count) l.sectors in_image in
              rw (e1, sits, stays, e2, e3, e4, e5, frozen) refl

          pub submit_many : range.start + range.count ≤ l.sectors → m.frozen ≡ false → 32 ≤ s.unreaped → submit l m n room seat session op range payload ≡ (m, Refused TooManyBios)
          submit_many in_image thawed many =
              let e1 = lt_16 seat h in
              let e2 = same_number s.session session same in
              let e3 = neither (nat_eq range.count 0) (nat_lt 64 range.count) (not_zero range.count some_sectors) (not_lt range.count 64 few_sectors) in
              let e4 = same_number (length payload) (payload_length op range.count) fits_payload in
              let e5 = not_lt (range.start + range.count) l.sectors in_image in
              let e6 = is_le 32 s.unreaped many in
              rw (e1, sits, stays, e2, e3, e4, e5, thawed, e6) refl

module _ (l : Limits) (m : Plain) (n : ℕ) (room : Bool) (seat session : ℕ) (op : Op) (range : Range) (payload : List ℕ) (s : Seat)
    (h : seat < 16) (sits : m.seat seat ≡ Some s) (stays : s.leaving ≡ false) (same : s.session ≡ session) (some_sectors : 1 ≤ range.count) (few_sectors : range.count ≤ 64)
    (fits_payload : length payload ≡ payload_length op range.count) (in_image : range.start + range.count ≤ l.sectors) (thawed : m.frozen ≡ false) (few : s.unreaped < 32) where
  pub submit_full : (needs_request m seat session op range && nat_le l.requests (requests_of l m)) ≡ true
      → submit l m n room seat session op range payload ≡ (m, NotYet RequestsFull)
  submit_full full =
      let e1 = lt_16 seat h in
      let e3 = same_number s.session session same in
      let e4 = neither (nat_eq range.count 0) (nat_lt 64 range.count) (not_zero range.count some_sectors) (not_lt range.count 64 few_sectors) in
      let e5 = same_number (length payload) (payload_length op range.count) fits_payload in
      let e6 = not_lt (range.start + range.count) l.sectors in_image in
      let e7 = not_le s.unreaped 32 few in
      rw (e1, sits, stays, e3, e4, e5, e6, thawed, e7, full) refl

  pub submit_goes : (needs_request m seat session op range && nat_le l.requests (requests_of l m)) ≡ false
      → submit l m n room seat session op range payload ≡ accepted_if room m (option_map (λ next. (next, Queued n)) (woken m seat (submitted m n seat session op range payload)))
  submit_goes free =
      let e1 = lt_16 seat h in
      let e3 = same_number s.session session same in
      let e4 = neither (nat_eq range.count 0) (nat_lt 64 range.count) (not_zero range.count some_sectors) (not_lt range.count 64 few_sectors) in
      let e5 = same_number (length payload) (payload_length op range.count) fits_payload in
      let e6 = not_lt (range.start + range.count) l.sectors in_image in
      let e7 = not_le s.unreaped 32 few in
      rw (e1, sits, stays, e3, e4, e5, e6, thawed, e7, free) refl

  -- a bio that joins a request goes into a queue that is not empty, and wakes nobody
  pub submit_joins : (found : WholeRequest × Bool) → merge_in m seat session op range ≡ Some found → submit l m n room seat session op range payload
      ≡ accepted room m (submitted m n seat session op range payload) (Queued n)
  submit_joins found some =
      submit_goes (ap (λ o. is_none o && nat_le l.requests (requests_of l m)) some)
      ∙ ap (λ o. accepted_if room m (option_map (λ next. (next, Queued n)) o))
      (not_woken m seat (submitted m n seat session op range payload) (joined_queue (m.queue seat) session op range found some))

-- memory was wanting where the plain step accepts
pub Answers-err : (plain : Plain → StepResult) (t u : Tables) (r : Result Answer WantOfMemory) → IsErr r → MayGiveWay (plain (meaning t)).1 → Answers plain t r u
Answers-err plain t u (Ok a) e h = absurd (search rules)
Answers-err plain t u (Err w) e h = h

-- two plain steps that are one on this machine
pub Answers-by : (f g : Plain → StepResult) (t u : Tables) (r : Result Answer WantOfMemory) → f (meaning t) ≡ g (meaning t) → Answers g t r u → Answers f t r u
Answers-by f g t u (Ok a) e h = h ∙ sym e
Answers-by f g t u (Err w) e h = let P : Plain × Answer → Type 0 = λ o. MayGiveWay o.1 in subst P (sym e) h

module _ (m : Plain) (room : Bool) (seat session : ℕ) (s : Seat) (h : seat < 16) (sits : m.seat seat ≡ Some s) (stays : s.leaving ≡ false) (same : s.session ≡ session) (some_owed : s.unreaped ≢ 0) where
  owed : nat_eq s.unreaped 0 ≡ false
  owed = not_zero s.unreaped (omega arith)

  pub reap_waits : m.outbox seat ≡ [] → reap m room seat session ≡ (m, NotYet NotCompleted)
  reap_waits none =
      let e1 = lt_16 seat h in
      let e3 = same_number s.session session same in
      let e4 = owed in
      rw (none, e1, sits, stays, e3, e4) refl

  pub reap_goes : (bio : Bio) (bios : List Bio) → m.outbox seat ≡ bio ∷ bios → reap m room seat session
      ≡ accepted room m (record m { seat = put m.seat seat (option_map (with_unreaped (unreaped m seat - 1)) (m.seat seat)); outbox = put m.outbox seat bios }) (Completed bio.serial (unwrap_or bio.result Written))
  reap_goes bio bios first =
      let e1 = lt_16 seat h in
      let e3 = same_number s.session session same in
      let e4 = owed in
      rw (first, e1, sits, stays, e3, e4) refl

  pub reap_does : (bio : Bio) (bios : List Bio) → m.outbox seat ≡ bio ∷ bios → room ≡ true → reap m room seat session
      ≡ (record m { seat = put m.seat seat (option_map (with_unreaped (unreaped m seat - 1)) (m.seat seat)); outbox = put m.outbox seat bios }, Accepted (Completed bio.serial (unwrap_or bio.result Written)))
  reap_does bio bios first e = reap_goes bio bios first
      ∙ ap (λ b. accepted b m (record m { seat = put m.seat seat (option_map (with_unreaped (unreaped m seat - 1)) (m.seat seat)); outbox = put m.outbox seat bios }) (Completed bio.serial (unwrap_or bio.result Written))) e

  pub reap_late : (bio : Bio) (bios : List Bio) → m.outbox seat ≡ bio ∷ bios → room ≡ false → reap m room seat session ≡ (m, Refused HistoryFull)
  reap_late bio bios first e = reap_goes bio bios first
      ∙ ap (λ b. accepted b m (record m { seat = put m.seat seat (option_map (with_unreaped (unreaped m seat - 1)) (m.seat seat)); outbox = put m.outbox seat bios }) (Completed bio.serial (unwrap_or bio.result Written))) e

-- Dispatch where nothing is in the dispatch list
module _ (l : Limits) (m : Plain) (n : ℕ) (room : Bool) (none_again : m.requeued ≡ []) where
  pub dispatch_idle : next_queue m ≡ None → dispatch l m n room ≡ (m, Refused NothingQueued)
  dispatch_idle none = ap (dispatch_of l m n room) none_again ∙ ap (λ q. dispatch_to l m n room q (lowest_free l m)) none

  pub dispatch_full : (seat : ℕ) → next_queue m ≡ Some seat → lowest_free l m ≡ None → dispatch l m n room ≡ (m, Refused NoTag)
  dispatch_full seat next none = ap (dispatch_of l m n room) none_again ∙ ap (λ q. dispatch_to l m n room q (lowest_free l m)) next ∙ ap (dispatch_to l m n room (Some seat)) none

  -- a queue and a tag are there, and the scheduler decides
  pub dispatch_by : (seat tag : ℕ) (scheduler : Scheduler) → next_queue m ≡ Some seat → lowest_free l m ≡ Some tag → m.scheduler ≡ scheduler
      → dispatch l m n room ≡ sent_by l m n room seat tag scheduler
  dispatch_by seat tag scheduler next lowest is =
      ap (dispatch_of l m n room) none_again ∙ ap (λ q. dispatch_to l m n room q (lowest_free l m)) next ∙ ap (dispatch_to l m n room (Some seat)) lowest ∙ ap (sent_by l m n room seat tag) is

module _ (l : Limits) (m : Plain) (n : ℕ) (room : Bool) where
  module _ (seat tag : ℕ) (r : WholeRequest) (rs : List WholeRequest) (first : m.queue seat ≡ r ∷ rs) where
    sent_goes : sent m n room seat tag (m.queue seat)
        ≡ accepted room m (record m { queue = put m.queue seat rs; flight = put m.flight tag (Some (record { issue = n; request = r })); served = seat }) (Issued tag n r.op (range_of r.bios))
    sent_goes = ap (sent m n room seat tag) first

    sent_does : room ≡ true → sent m n room seat tag (m.queue seat)
        ≡ (record m { queue = put m.queue seat rs; flight = put m.flight tag (Some (record { issue = n; request = r })); served = seat }, Accepted (Issued tag n r.op (range_of r.bios)))
    sent_does e = sent_goes
        ∙ ap (λ b. accepted b m (record m { queue = put m.queue seat rs; flight = put m.flight tag (Some (record { issue = n; request = r })); served = seat }) (Issued tag n r.op (range_of r.bios))) e

    -- with the range as it was read
    pub sent_made : (then_is : Plain) (range : Range) → then_is ≡ (let p : Plain = record m { queue = put m.queue seat rs; flight = put m.flight tag (Some (record { issue = n; request = r })); served = seat } in p)
        → range ≡ range_of r.bios → room ≡ true → (then_is, Accepted (Issued tag n r.op range)) ≡ sent m n room seat tag (m.queue seat)
    sent_made then_is range same read e =
        ap (λ x. (x, Accepted (Issued tag n r.op range))) same
        ∙ ap (λ x. (let p : Plain = record m { queue = put m.queue seat rs; flight = put m.flight tag (Some (record { issue = n; request = r })); served = seat } in p, Accepted (Issued tag n r.op x))) read
        ∙ sym (sent_does e)

    pub sent_late : room ≡ false → sent m n room seat tag (m.queue seat) ≡ (m, Refused HistoryFull)
    sent_late e = sent_goes
        ∙ ap (λ b. accepted b m (record m { queue = put m.queue seat rs; flight = put m.flight tag (Some (record { issue = n; request = r })); served = seat }) (Issued tag n r.op (range_of r.bios))) e

    pub sent_accepts : room ≡ true → MayGiveWay (sent m n room seat tag (m.queue seat)).1
    sent_accepts e = let P : Plain × Answer → Type 0 = λ o. MayGiveWay o.1 in subst P (sym (sent_does e)) tt

-- with room a step with a rule that may be refused is accepted, or finds a time too great
pub gives_way : (room : Bool) (m : Plain) (o : Option (Plain × Reply)) → room ≡ true → MayGiveWay (accepted_if room m o).1
gives_way true m None e = refl
gives_way true m (Some next) e = tt
gives_way false m o e = absurd cc

-- without room it is late
pub if_late : (room : Bool) (m : Plain) (o : Option (Plain × Reply)) → room ≡ false → accepted_if room m o ≡ (m, Refused HistoryFull)
if_late false m None e = refl
if_late false m (Some next) e = refl
if_late true m o e = absurd cc

-- where the rule is refused a time is too great
pub if_full : (room : Bool) (m : Plain) (o : Option (Plain × Reply)) → room ≡ true → o ≡ None → accepted_if room m o ≡ (m, Refused VtimeFull)
if_full room m o e none = ap (accepted_if room m) none ∙ ap (λ b. (m, Refused (cond b VtimeFull HistoryFull))) e

-- and else it is accepted
pub if_made : (room : Bool) (m : Plain) (o : Option (Plain × Reply)) (next : Plain) (reply : Reply) → room ≡ true → o ≡ Some (next, reply)
    → accepted_if room m o ≡ (next, Accepted reply)
if_made room m o next reply e some = ap (accepted_if room m) some ∙ ap (λ b. accepted b m next reply) e

-- Finish with a tag that there is not
pub finish_past : (l : Limits) (m : Plain) (room : Bool) (tag issue : ℕ) (outcome : Outcome) → l.tags ≤ tag → finish l m room tag issue outcome ≡ (m, Refused BadTag)
finish_past l m room tag issue outcome past =
    let e1 = is_le l.tags tag past in
    rw e1 refl

module _ (l : Limits) (m : Plain) (room : Bool) (tag issue : ℕ) (outcome : Outcome) (within : tag < l.tags) where
  not_past : nat_le l.tags tag ≡ false
  not_past = not_le tag l.tags within

  pub finish_free : m.flight tag ≡ None → finish l m room tag issue outcome ≡ (m, Refused NotInFlight)
  finish_free none =
      let e1 = not_past in
      rw (e1, none) refl

  pub finish_stale : (f : Flight) → m.flight tag ≡ Some f → f.issue ≢ issue → finish l m room tag issue outcome ≡ (m, Refused NotInFlight)
  finish_stale f here other =
      let e1 = not_past in
      let e2 = other_number f.issue issue other in
      rw (e1, here, e2) refl

  pub finish_bad : (f : Flight) → m.flight tag ≡ Some f → f.issue ≡ issue → fits f.request.op (size_of f.request.bios) outcome ≡ false
      → finish l m room tag issue outcome ≡ (m, Refused BadOutcome)
  finish_bad f here same bad =
      let e1 = not_past in
      let e2 = same_number f.issue issue same in
      rw (e1, here, e2, bad) refl

  pub finish_goes : (f : Flight) → m.flight tag ≡ Some f → f.issue ≡ issue → fits f.request.op (size_of f.request.bios) outcome ≡ true
      → finish l m room tag issue outcome ≡ finished l m room tag (effect_of outcome f.request.op) f.request
  finish_goes f here same good =
      let e1 = not_past in
      let e2 = same_number f.issue issue same in
      rw (e1, here, e2, good) refl

  module _ (f : Flight) (here : m.flight tag ≡ Some f) (same : f.issue ≡ issue) (good : fits f.request.op (size_of f.request.bios) outcome ≡ true) where
    pub finish_does : room ≡ true → finish l m room tag issue outcome ≡ (after_finish l m tag (effect_of outcome f.request.op) f.request, Accepted (Finished (length f.request.bios)))
    finish_does e = finish_goes f here same good ∙ ap (λ b. accepted b m (after_finish l m tag (effect_of outcome f.request.op) f.request) (Finished (length f.request.bios))) e

    pub finish_late : room ≡ false → finish l m room tag issue outcome ≡ (m, Refused HistoryFull)
    finish_late e = finish_goes f here same good ∙ ap (λ b. accepted b m (after_finish l m tag (effect_of outcome f.request.op) f.request) (Finished (length f.request.bios))) e

    pub finish_accepts : room ≡ true → MayGiveWay (finish l m room tag issue outcome).1
    finish_accepts e = let P : Plain × Answer → Type 0 = λ o. MayGiveWay o.1 in subst P (sym (finish_does e)) tt

-- a list whose first element is known
pub first_of_list : {A : Type 0} (xs : List A) (x : A) → slice_get xs 0 ≡ Some x → xs ≡ x ∷ drop 1 xs
first_of_list [] x e = cc
first_of_list (y ∷ ys) x e = cc
