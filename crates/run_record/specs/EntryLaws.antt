-- The laws of a record's side.
use Rattle.std.proofs.Common.{◌≡◌, ℕ, zero, suc, ◌+◌, ◌-◌, ◌^◌, ◌<◌, ◌≤◌, Bool, true, false, List, [], ◌∷◌, ◌++◌, length, Option, Some, None, Result, Ok, Err, refl, sym, ap, subst, ◌∙◌, append_assoc, cond, leb, ltb, eqb, ◌⊎◌, inl, inr, arith}
use Rattle.std.specs.Prelude.{◌&&◌}
use Rattle.std.specs.Int.{w8, w64}
use Rattle.std.proofs.lemmas.Bool.{leb-true, le-leb, ltb-true, lt-ltb, eqb-true}
use Rattle.std.proofs.lemmas.List.{append-nil, length-append}
use Rattle.sector_core.specs.declared.bio.FailKind.{FailKind}
use Rattle.sector_core.specs.declared.bio.FailKind.TheVariants as fail
use Rattle.sector_core.specs.declared.bio.Outcome.{Outcome}
use Rattle.sector_core.specs.declared.bio.Outcome.TheVariants as outcome
use Rattle.sector_core.specs.declared.class.Class.TheVariants.{RealTime, BestEffort, Idle}
use Rattle.plain.specs.declared.step.Why.{Why}
use Rattle.plain.specs.declared.step.Why.TheVariants.{Ended, ReadFault, WriteFault, BadFrame, FrameLimit}
use Rattle.host_calls.specs.declared.client.ClientCall.{ClientCall}
use Rattle.host_calls.specs.declared.client.ClientCall.TheVariants as Asked
use Rattle.host_calls.specs.declared.operator.OperatorCall.{OperatorCall}
use Rattle.sector_core.specs.declared.bio.Op.TheVariants as op
use Rattle.session_proto.specs.Frame.{IsBytes}
use Rattle.session_proto.specs.declared.client.Client.{Client as Call}
use Rattle.session_proto.specs.declared.operator.Operator.{Operator as Command}
use Rattle.session_proto.specs.declared.fault.Fault.{Fault}
use Rattle.session_proto.specs.declared.fault.Fault.TheVariants.{BadKind, BadBody}
use Rattle.session_proto.specs.declared.version.Version.TheVariants.{Two}
use Rattle.session_proto.specs.Kinds.{read_by}
use Rattle.session_proto.specs.Fields.{◌>>=◌, big_endian, number_at, ended, named}
use Rattle.session_proto.specs.FieldLaws.{done, wide8, wide64, IsBytes-rest, bind_ok, test_ok, guard_ok, ok_value, number_is, number_again, last_again, ended_is, ended_again, named_is, named_of_two}
use Rattle.session_proto.specs.KindLaws.{Spells, ◌&◌, read_spells, none_spells, named_spells, named_again}
use Rattle.session_proto.specs.Client.{client_body, ClientFits, client_at}
use Rattle.session_proto.specs.ClientLaws.{client_is, client_again, client_in_limits}
use Rattle.session_proto.specs.Operator.{operator_body, OperatorFits, operator_at}
use Rattle.session_proto.specs.OperatorLaws.{operator_is, operator_again, operator_in_limits}
use Rattle.session_proto.specs.Host.{fail_number, fail_of_number}
use Rattle.run_record.specs.declared.entry.Entry.{Entry}
use Rattle.run_record.specs.declared.entry.Entry.TheVariants.{Client, Leave, Finish, Requeue, Operator, Dispatch}
use Rattle.run_record.specs.Entry.{why_number, why_of_number, who_number, flight_bytes, call_body, entry_body, is_stop, OutcomeFits, CallFits, WhoFits, EntryFits, leave_at, client_entry_at, seat_at, flight_at, stored_at, fetched_at, failed_at, requeue_at, device_kinds, operator_entry_at, core_kinds, entry_of_who, entry_at}

-- ---- numbers that name

found_or : {X : Type 0} (b : Bool) (x : X) (rest : Option X) (v : X) → cond b (Some x) rest ≡ Some v → ((b ≡ true) × (x ≡ v)) ⊎ (rest ≡ Some v)
found_or true x rest v e = inl (refl, cc)
found_or false x rest v e = inr e

number-why_of_number : (n : ℕ) (why : Why) → why_of_number n ≡ Some why → why_number why ≡ n
unfolding why_of_number
number-why_of_number n why e =
    elim (found_or (eqb n 2) ReadFault _ why e) [
      | inl h ↦ ap why_number (sym h.1) ∙ sym (eqb-true n 2 h.0)
      | inr f ↦
          elim (found_or (eqb n 3) WriteFault _ why f) [
            | inl h ↦ ap why_number (sym h.1) ∙ sym (eqb-true n 3 h.0)
            | inr g ↦ named_of_two why_number 4 5 BadFrame FrameLimit refl refl n why g
          ]
    ]

why_number-below : (why : Why) → why_number why < 2 ^ 8
why_number-below Ended = omega arith
why_number-below ReadFault = omega arith
why_number-below WriteFault = omega arith
why_number-below BadFrame = omega arith
why_number-below FrameLimit = omega arith

number-fail_of_number : (n : ℕ) (kind : FailKind) → fail_of_number n ≡ Some kind → fail_number kind ≡ n
unfolding fail_of_number
number-fail_of_number n kind e = named_of_two fail_number 1 2 fail.Short fail.Fault refl refl n kind e

fail_of_number-number : (kind : FailKind) → fail_of_number (fail_number kind) ≡ Some kind
unfolding fail_of_number
fail_of_number-number fail.Short = refl
fail_of_number-number fail.Fault = refl

fail_number-below : (kind : FailKind) → fail_number kind < 2 ^ 8
fail_number-below fail.Short = omega arith
fail_number-below fail.Fault = omega arith

-- ---- a tag and an issue

length-flight_bytes : (tag issue : ℕ) → length (flight_bytes tag issue) ≡ 9
unfolding flight_bytes
length-flight_bytes tag issue = omega (arith, length-append (big_endian w8 tag) (big_endian w64 issue), wide8.len tag, wide64.len issue)

flight_again : (tag issue : ℕ) (rest : List ℕ) → tag < 2 ^ 8 → issue < 2 ^ 64 → flight_at (flight_bytes tag issue ++ rest) ≡ Ok (tag, issue, rest)
unfolding flight_bytes flight_at
flight_again tag issue rest low lt =
    rw (
      append_assoc,
      number_again w8 (2 ^ 8) wide8 tag (big_endian w64 issue ++ rest) low,
      number_again w64 (2 ^ 64) wide64 issue rest lt,
    ) refl

-- what a tag and an issue were read from
record IsFlight (fields : List ℕ) (tag issue : ℕ) (rest : List ℕ) : Type 0 where
  pub low : tag < 2 ^ 8
  pub below : issue < 2 ^ 64
  pub parts : fields ≡ flight_bytes tag issue ++ rest
  pub are : IsBytes rest

flight_parts : (fields : List ℕ) (tag issue : ℕ) (a rest : List ℕ) → fields ≡ big_endian w8 tag ++ a → a ≡ big_endian w64 issue ++ rest
    → fields ≡ flight_bytes tag issue ++ rest
unfolding flight_bytes
flight_parts fields tag issue a rest first second =
    first ∙ ap (λ (y : List ℕ). big_endian w8 tag ++ y) second ∙ sym (append_assoc (big_endian w8 tag) (big_endian w64 issue) rest)

flight_is : (fields : List ℕ) (x : ℕ × ℕ × List ℕ) → IsBytes fields → flight_at fields ≡ Ok x → IsFlight fields x.0 x.1 x.2
unfolding flight_at
flight_is fields x are e =
    let a = bind_ok (number_at w8 fields) (λ t. number_at w64 t.1 >>= λ i. Ok (t.0, i.0, i.1)) x e in
    let t = number_is w8 (2 ^ 8) wide8 fields a.0 are a.1 in
    let b = bind_ok (number_at w64 a.0.1) (λ i. Ok (a.0.0, i.0, i.1)) x a.2 in
    let i = number_is w64 (2 ^ 64) wide64 a.0.1 b.0 t.are b.1 in
    let same = ok_value (a.0.0, b.0.0, b.0.1) x b.2 in
    subst (λ (y : ℕ × ℕ × List ℕ). IsFlight fields y.0 y.1 y.2) same
    (record { low = t.below; below = i.below; parts = flight_parts fields a.0.0 b.0.0 a.0.1 b.0.1 t.parts i.parts; are = i.are })

-- ---- kinds of a device

-- an entry has a frame, and it is theirs whom this number names
abbrev IsOf : ℕ → Entry → Type 0
IsOf who entry = EntryFits entry × (who_number entry ≡ who)

stored_spells : (worker : ℕ) → worker < 4 → Spells call_body (IsOf (0x40 + worker)) 0x21 (stored_at worker)
unfolding stored_at
stored_spells worker few fields v are e =
    let b = bind_ok (flight_at fields) (λ f. ended (Finish worker f.0 f.1 outcome.Stored) f.2) v e in
    let f = flight_is fields b.0 are b.1 in
    let end = ended_is (Finish worker b.0.0 b.0.1 outcome.Stored) v b.0.2 b.2 in
    let whole : fields ≡ flight_bytes b.0.0 b.0.1 = f.parts ∙ ap (λ (x : List ℕ). flight_bytes b.0.0 b.0.1 ++ x) end.1 ∙ append-nil (flight_bytes b.0.0 b.0.1) in
    subst (λ x. IsOf (0x40 + worker) x × (0x21 ∷ fields ≡ call_body x)) end.0 (((few, (f.low, f.below, tt)), refl), ap (λ (x : List ℕ). 0x21 ∷ x) whole)

fetched_spells : (worker : ℕ) → worker < 4 → Spells call_body (IsOf (0x40 + worker)) 0x22 (fetched_at worker)
unfolding fetched_at
fetched_spells worker few fields v are e =
    let b = bind_ok (flight_at fields) (λ f. cond (leb (length f.2) 131072) (Ok (Finish worker f.0 f.1 (outcome.Fetched f.2))) (Err BadBody)) v e in
    let f = flight_is fields b.0 are b.1 in
    let t = test_ok (leb (length b.0.2) 131072) BadBody (Finish worker b.0.0 b.0.1 (outcome.Fetched b.0.2)) v b.2 in
    subst (λ x. IsOf (0x40 + worker) x × (0x22 ∷ fields ≡ call_body x)) t.1
    (((few, (f.low, f.below, leb-true (length b.0.2) 131072 t.0)), refl), ap (λ (x : List ℕ). 0x22 ∷ x) f.parts)

failed_spells : (worker : ℕ) → worker < 4 → Spells call_body (IsOf (0x40 + worker)) 0x23 (failed_at worker)
unfolding failed_at
failed_spells worker few fields v are e =
    let b = bind_ok (flight_at fields) (λ f. number_at w8 f.2 >>= λ n. named (fail_of_number n.0) >>= λ kind. ended (Finish worker f.0 f.1 (outcome.Failed kind)) n.1) v e in
    let f = flight_is fields b.0 are b.1 in
    let c = bind_ok (number_at w8 b.0.2) (λ n. named (fail_of_number n.0) >>= λ kind. ended (Finish worker b.0.0 b.0.1 (outcome.Failed kind)) n.1) v b.2 in
    let n = number_is w8 (2 ^ 8) wide8 b.0.2 c.0 f.are c.1 in
    let d = bind_ok (named (fail_of_number c.0.0)) (λ kind. ended (Finish worker b.0.0 b.0.1 (outcome.Failed kind)) c.0.1) v c.2 in
    let told = number-fail_of_number c.0.0 d.0 (named_is (fail_of_number c.0.0) d.0 d.1) in
    let end = ended_is (Finish worker b.0.0 b.0.1 (outcome.Failed d.0)) v c.0.1 d.2 in
    let last : b.0.2 ≡ big_endian w8 (fail_number d.0) =
    n.parts ∙ ap (λ (x : List ℕ). big_endian w8 c.0.0 ++ x) end.1 ∙ append-nil (big_endian w8 c.0.0) ∙ ap (big_endian w8) (sym told) in
    let whole : fields ≡ flight_bytes b.0.0 b.0.1 ++ big_endian w8 (fail_number d.0) = f.parts ∙ ap (λ (x : List ℕ). flight_bytes b.0.0 b.0.1 ++ x) last in
    subst (λ x. IsOf (0x40 + worker) x × (0x23 ∷ fields ≡ call_body x)) end.0 (((few, (f.low, f.below, tt)), refl), ap (λ (x : List ℕ). 0x23 ∷ x) whole)

requeue_spells : (worker : ℕ) → worker < 4 → Spells call_body (IsOf (0x40 + worker)) 0x24 (requeue_at worker)
unfolding requeue_at
requeue_spells worker few fields v are e =
    let b = bind_ok (flight_at fields) (λ f. ended (Requeue worker f.0 f.1) f.2) v e in
    let f = flight_is fields b.0 are b.1 in
    let end = ended_is (Requeue worker b.0.0 b.0.1) v b.0.2 b.2 in
    let whole : fields ≡ flight_bytes b.0.0 b.0.1 = f.parts ∙ ap (λ (x : List ℕ). flight_bytes b.0.0 b.0.1 ++ x) end.1 ∙ append-nil (flight_bytes b.0.0 b.0.1) in
    subst (λ x. IsOf (0x40 + worker) x × (0x24 ∷ fields ≡ call_body x)) end.0 (((few, (f.low, f.below)), refl), ap (λ (x : List ℕ). 0x24 ∷ x) whole)

device_spells : (worker : ℕ) → worker < 4 → (body : List ℕ) (v : Entry) → IsBytes body → read_by (device_kinds worker) body ≡ Ok v
    → IsOf (0x40 + worker) v × (body ≡ call_body v)
device_spells worker few body v are e =
    read_spells call_body (IsOf (0x40 + worker)) (device_kinds worker)
    (stored_spells worker few & fetched_spells worker few & failed_spells worker few & requeue_spells worker few & tt) body v are e

-- ---- kinds of a client

leave_spells : (seat : ℕ) → seat < 16 → Spells call_body (IsOf seat) 0x09 (leave_at seat)
unfolding leave_at
leave_spells seat few fields v are e =
    let b = bind_ok (number_at w8 fields) (λ n. named (why_of_number n.0) >>= λ why. ended (Leave seat why) n.1) v e in
    let n = number_is w8 (2 ^ 8) wide8 fields b.0 are b.1 in
    let c = bind_ok (named (why_of_number b.0.0)) (λ why. ended (Leave seat why) b.0.1) v b.2 in
    let found = named_is (why_of_number b.0.0) c.0 c.1 in
    let told = number-why_of_number b.0.0 c.0 found in
    let end = ended_is (Leave seat c.0) v b.0.1 c.2 in
    let whole : fields ≡ big_endian w8 (why_number c.0) =
    n.parts ∙ ap (λ (x : List ℕ). big_endian w8 b.0.0 ++ x) end.1 ∙ append-nil (big_endian w8 b.0.0) ∙ ap (big_endian w8) (sym told) in
    subst (λ x. IsOf seat x × (0x09 ∷ fields ≡ call_body x)) end.0 (((few, ap why_of_number told ∙ found), refl), ap (λ (x : List ℕ). 0x09 ∷ x) whole)

client_entry_spells : (seat : ℕ) → seat < 16 → (body : List ℕ) (v : Entry) → IsBytes body → client_entry_at seat body ≡ Ok v
    → IsOf seat v × (body ≡ call_body v)
unfolding client_entry_at
client_entry_spells seat few body v are e =
    let b = bind_ok (client_at Two body) (λ call. Ok (Client seat call)) v e in
    let found = client_is Two body b.0 are b.1 in
    subst (λ x. IsOf seat x × (body ≡ call_body x)) (ok_value (Client seat b.0) v b.2) (((few, found.0), refl), found.1)

-- where nothing is read
not_ok : (v : Entry) (fault : Fault) → Err fault ≡ done v → ⊥
not_ok v fault e = cc

both : (a b : Bool) → (a && b) ≡ true → (a ≡ true) × (b ≡ true)
both true b e = (refl, e)
both false b e = absurd cc

one_or : {T : Type 0} (b : Bool) (r s : Result T Fault) (v : T) → cond b r s ≡ Ok v → ((b ≡ true) × (r ≡ Ok v)) ⊎ ((b ≡ false) × (s ≡ Ok v))
one_or true r s v e = inl (refl, e)
one_or false r s v e = inr (refl, e)

seat_spells : (seat : ℕ) → seat < 16 → (body : List ℕ) (v : Entry) → IsBytes body → seat_at seat body ≡ Ok v → IsOf seat v × (body ≡ call_body v)
seat_spells seat few [] v are e = absurd cc
seat_spells seat few (kind ∷ fields) v are e =
    elim (one_or (eqb kind 0x09) (leave_at seat fields) (client_entry_at seat (kind ∷ fields)) v e) [
      | inl k ↦
          let found = leave_spells seat few fields v (IsBytes-rest kind fields are) k.1 in
          (found.0, ap (λ (n : ℕ). n ∷ fields) (eqb-true kind 0x09 k.0) ∙ found.1)
      | inr k ↦ client_entry_spells seat few (kind ∷ fields) v are k.1
    ]

-- ---- the operator's, and the core's

operator_spells : (body : List ℕ) (v : Entry) → IsBytes body → operator_entry_at body ≡ Ok v → IsOf 0x80 v × (body ≡ call_body v)
unfolding operator_entry_at
operator_spells body v are e =
    let b = bind_ok (operator_at body) (λ call. cond (is_stop call.0) (Err BadKind) (Ok (Operator call))) v e in
    let found = operator_is body b.0 are b.1 in
    let g = guard_ok (is_stop b.0.0) BadKind (Operator b.0) v b.2 in
    subst (λ x. IsOf 0x80 x × (body ≡ call_body x)) g.1 (((tt, (found.0, g.0)), refl), found.1)

core_spells : (body : List ℕ) (v : Entry) → IsBytes body → read_by core_kinds body ≡ Ok v → IsOf 0xc0 v × (body ≡ call_body v)
core_spells body v are e =
    read_spells call_body (IsOf 0xc0) core_kinds
    (none_spells call_body (IsOf 0xc0) 0x31 Dispatch ((tt, tt), refl) refl & tt) body v are e

-- ---- read again

stored_again : (worker tag issue : ℕ) → tag < 2 ^ 8 → issue < 2 ^ 64 → stored_at worker (flight_bytes tag issue) ≡ Ok (Finish worker tag issue outcome.Stored)
unfolding stored_at
stored_again worker tag issue low lt =
    let same = ap flight_at (sym (append-nil (flight_bytes tag issue))) ∙ flight_again tag issue [] low lt in
    rw same (ended_again (Finish worker tag issue outcome.Stored))

fetched_again : (worker tag issue : ℕ) (bytes : List ℕ) → tag < 2 ^ 8 → issue < 2 ^ 64 → length bytes ≤ 131072
    → fetched_at worker (flight_bytes tag issue ++ bytes) ≡ Ok (Finish worker tag issue (outcome.Fetched bytes))
unfolding fetched_at
fetched_again worker tag issue bytes low lt few = rw (flight_again tag issue bytes low lt, le-leb (length bytes) 131072 few) refl

failed_again : (worker tag issue : ℕ) (kind : FailKind) → tag < 2 ^ 8 → issue < 2 ^ 64
    → failed_at worker (flight_bytes tag issue ++ big_endian w8 (fail_number kind)) ≡ Ok (Finish worker tag issue (outcome.Failed kind))
unfolding failed_at
failed_again worker tag issue kind low lt =
    let k = fail_number kind in
    rw (flight_again tag issue (big_endian w8 k) low lt, last_again w8 (2 ^ 8) wide8 k (fail_number-below kind), fail_of_number-number kind)
    (ended_again (Finish worker tag issue (outcome.Failed kind)))

requeue_again : (worker tag issue : ℕ) → tag < 2 ^ 8 → issue < 2 ^ 64 → requeue_at worker (flight_bytes tag issue) ≡ Ok (Requeue worker tag issue)
unfolding requeue_at
requeue_again worker tag issue low lt =
    let same = ap flight_at (sym (append-nil (flight_bytes tag issue))) ∙ flight_again tag issue [] low lt in
    rw same (ended_again (Requeue worker tag issue))

leave_again : (seat : ℕ) (why : Why) → why_of_number (why_number why) ≡ Some why → leave_at seat (big_endian w8 (why_number why)) ≡ Ok (Leave seat why)
unfolding leave_at
leave_again seat why named = rw (last_again w8 (2 ^ 8) wide8 (why_number why) (why_number-below why), named) (ended_again (Leave seat why))

-- no kind of a client's socket is the other one
own_kind : (seat : ℕ) (call : ClientCall) → seat_at seat (client_body call) ≡ client_entry_at seat (client_body call)
own_kind seat (Asked.Attach group prio RealTime) = refl
own_kind seat (Asked.Attach group prio BestEffort) = refl
own_kind seat (Asked.Attach group prio Idle) = refl
own_kind seat (Asked.Submit session op.Fetch range payload) = refl
own_kind seat (Asked.Submit session op.Store range payload) = refl
own_kind seat (Asked.Submit session op.Discard range payload) = refl
own_kind seat (Asked.Reap session) = refl
own_kind seat (Asked.Leave why) = refl

client_again_at : (seat : ℕ) (call : Call) → ClientFits Two call.0 → seat_at seat (client_body call.0) ≡ Ok (Client seat call)
unfolding client_entry_at
client_again_at seat call fits = own_kind seat call.0 ∙ rw (client_again Two call fits) refl

operator_again_at : (call : Command) → OperatorFits call.0 → is_stop call.0 ≡ false → operator_entry_at (operator_body call.0) ≡ Ok (Operator call)
unfolding operator_entry_at
operator_again_at call fits on = rw (operator_again call fits, on) refl

-- an entry of a device is read by the kinds of that device
device_who : (worker : ℕ) (body : List ℕ) → worker < 4 → entry_of_who (0x40 + worker) body ≡ read_by (device_kinds worker) body
device_who zero body lt = refl
device_who (suc zero) body lt = refl
device_who (suc (suc zero)) body lt = refl
device_who (suc (suc (suc zero))) body lt = refl
device_who (suc (suc (suc (suc n)))) body lt = absurd (omega (arith, lt))

seat_who : (seat : ℕ) (body : List ℕ) → seat < 16 → entry_of_who seat body ≡ seat_at seat body
seat_who seat body lt = rw (lt-ltb seat 16 lt) refl

pub entry_again : (v : Entry) → EntryFits v → entry_at (entry_body v) ≡ Ok v
entry_again (Client seat call) fits = seat_who seat (client_body call.0) fits.0 ∙ client_again_at seat call fits.1
entry_again (Leave seat why) fits = seat_who seat (call_body (Leave seat why)) fits.0 ∙ leave_again seat why fits.1
entry_again (Finish worker tag issue outcome.Stored) fits =
    device_who worker (call_body (Finish worker tag issue outcome.Stored)) fits.0 ∙ stored_again worker tag issue fits.1.0 fits.1.1
entry_again (Finish worker tag issue (outcome.Fetched bytes)) fits =
    device_who worker (call_body (Finish worker tag issue (outcome.Fetched bytes))) fits.0 ∙ fetched_again worker tag issue bytes fits.1.0 fits.1.1 fits.1.2
entry_again (Finish worker tag issue (outcome.Failed kind)) fits =
    device_who worker (call_body (Finish worker tag issue (outcome.Failed kind))) fits.0 ∙ failed_again worker tag issue kind fits.1.0 fits.1.1
entry_again (Requeue worker tag issue) fits =
    device_who worker (call_body (Requeue worker tag issue)) fits.0 ∙ requeue_again worker tag issue fits.1.0 fits.1.1
entry_again (Operator call) fits = operator_again_at call fits.1.0 fits.1.1
entry_again Dispatch fits = ended_again Dispatch

-- ---- nothing else is read

-- an entry that is theirs whom a number names, and the bytes behind the number
spelled_behind : (who : ℕ) (body : List ℕ) (v : Entry) → IsOf who v × (body ≡ call_body v) → EntryFits v × (who ∷ body ≡ entry_body v)
spelled_behind who body v h = (h.0.0, ap (λ (n : ℕ). n ∷ body) (sym h.0.1) ∙ ap (λ (x : List ℕ). who_number v ∷ x) h.1)

-- a number from 64 to 67 is that of a device
is_device : (who : ℕ) → leb 0x40 who && ltb who 0x44 ≡ true → (0x40 + (who - 0x40) ≡ who) × (who - 0x40 < 4)
is_device who e =
    let b = both (leb 0x40 who) (ltb who 0x44) e in
    (omega (arith, leb-true 0x40 who b.0), omega (arith, leb-true 0x40 who b.0, ltb-true who 0x44 b.1))

who_spelled : (who : ℕ) (body : List ℕ) (v : Entry) → IsBytes body → entry_of_who who body ≡ Ok v → EntryFits v × (who ∷ body ≡ entry_body v)
who_spelled who body v are e =
    elim (one_or (ltb who 16) (seat_at who body) _ v e) [
      | inl h ↦ spelled_behind who body v (seat_spells who (ltb-true who 16 h.0) body v are h.1)
      | inr h ↦
          elim (one_or (leb 0x40 who && ltb who 0x44) (read_by (device_kinds (who - 0x40)) body) _ v h.1) [
            | inl k ↦
                let is = is_device who k.0 in
                let found = device_spells (who - 0x40) is.1 body v are k.1 in
                spelled_behind who body v (subst (λ (n : ℕ). IsOf n v × (body ≡ call_body v)) is.0 found)
            | inr k ↦
                elim (one_or (eqb who 0x80) (operator_entry_at body) _ v k.1) [
                  | inl o ↦ spelled_behind who body v (subst (λ (n : ℕ). IsOf n v × (body ≡ call_body v)) (sym (eqb-true who 0x80 o.0)) (operator_spells body v are o.1))
                  | inr o ↦
                      elim (one_or (eqb who 0xc0) (read_by core_kinds body) (Err BadBody) v o.1) [
                        | inl c ↦ spelled_behind who body v (subst (λ (n : ℕ). IsOf n v × (body ≡ call_body v)) (sym (eqb-true who 0xc0 c.0)) (core_spells body v are c.1))
                        | inr c ↦ absurd (not_ok v BadBody c.1)
                      ]
                ]
          ]
    ]

pub entry_spelled : (bytes : List ℕ) (v : Entry) → IsBytes bytes → length bytes ≤ 131083 → entry_at bytes ≡ Ok v → EntryFits v × (bytes ≡ entry_body v)
entry_spelled [] v are few e = absurd cc
entry_spelled (who ∷ body) v are few e = who_spelled who body v (IsBytes-rest who body are) e

-- ---- lengths

pub entry_in_limits : (v : Entry) → EntryFits v → (0 < length (entry_body v)) × (length (entry_body v) ≤ 131083)
entry_in_limits (Client seat call) fits = (omega arith, omega (arith, (client_in_limits Two call fits.1).1))
entry_in_limits (Leave seat why) fits = (omega arith, omega (arith, wide8.len (why_number why)))
entry_in_limits (Finish worker tag issue outcome.Stored) fits = (omega arith, omega (arith, length-flight_bytes tag issue))
entry_in_limits (Finish worker tag issue (outcome.Fetched bytes)) fits =
    (omega arith, omega (arith, length-append (flight_bytes tag issue) bytes, length-flight_bytes tag issue, fits.1.2))
entry_in_limits (Finish worker tag issue (outcome.Failed kind)) fits =
    (omega arith, omega (arith, length-append (flight_bytes tag issue) (big_endian w8 (fail_number kind)), length-flight_bytes tag issue, wide8.len (fail_number kind)))
entry_in_limits (Requeue worker tag issue) fits = (omega arith, omega (arith, length-flight_bytes tag issue))
entry_in_limits (Operator call) fits = (omega arith, omega (arith, (operator_in_limits call fits.1.0).1))
entry_in_limits Dispatch fits = (omega arith, omega arith)
