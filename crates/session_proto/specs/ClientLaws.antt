-- The laws of a client's side.
use Rattle.std.proofs.Common.{◌≡◌, ℕ, ◌^◌, ◌<◌, ◌≤◌, List, [], ◌∷◌, ◌++◌, length, Ok, Err, Some, refl, sym, ap, subst, ◌∙◌, append_assoc, cond, leb, arith}
use Rattle.std.specs.Int.{w8, w16, w64}
use Rattle.std.proofs.lemmas.Bool.{leb-true, le-leb}
use Rattle.std.proofs.lemmas.List.{append-nil, length-append}
use Rattle.sector_core.specs.declared.bio.Op.{Op}
use Rattle.sector_core.specs.declared.bio.Op.TheVariants.{Fetch, Store, Discard}
use Rattle.sector_core.specs.declared.class.Class.{Class}
use Rattle.sector_core.specs.declared.class.Class.TheVariants.{RealTime, BestEffort, Idle}
use Rattle.sector_core.specs.declared.range.Range.{Range}
use Rattle.plain.specs.declared.step.Why.TheVariants.{Ended}
use Rattle.host_calls.specs.declared.client.ClientCall.{ClientCall}
use Rattle.host_calls.specs.declared.client.ClientCall.TheVariants.{Attach, Submit, Reap, Leave}
use Rattle.session_proto.specs.Frame.{IsBytes}
use Rattle.session_proto.specs.declared.fault.Fault.TheVariants.{BadBody}
use Rattle.session_proto.specs.declared.version.Version.{Version}
use Rattle.session_proto.specs.declared.version.Version.TheVariants.{One, Two}
use Rattle.session_proto.specs.declared.client.Client.{Client}
use Rattle.session_proto.specs.Kinds.{read_by}
use Rattle.session_proto.specs.Fields.{◌>>=◌, big_endian, number_at, ended, named}
use Rattle.session_proto.specs.FieldLaws.{wide8, wide16, wide64, bind_ok, test_ok, done, ok_value, number_is, number_again, last_again, ended_is, ended_again, named_is, named_of_two}
use Rattle.session_proto.specs.KindLaws.{Spells, ◌&◌, side_spells, none_spells, one_spells, one_again, two_spells, two_again}
use Rattle.session_proto.specs.Client.{class_number, class_of_number, class_bytes, client_body, SpanFits, ClassFits, ClientFits, client_at, client_kinds, span_bytes, span_at, attach_at, class_attach_at, fetch_at, store_at, discard_at, reap_at}

-- ---- a submit's session and sectors

length-span_bytes : (session : ℕ) (range : Range) → length (span_bytes session range) ≡ 18
unfolding span_bytes
length-span_bytes session range =
    let front = big_endian w64 session ++ big_endian w64 range.start in
    omega (arith, length-append front (big_endian w16 range.count), length-append (big_endian w64 session) (big_endian w64 range.start), wide64.len session, wide64.len range.start, wide16.len range.count)

span_again : (session : ℕ) (range : Range) (rest : List ℕ) → SpanFits session range → span_at (span_bytes session range ++ rest) ≡ Ok (session, range, rest)
unfolding span_bytes span_at
span_again session range rest fits =
    let start = range.start in
    let count = range.count in
    rw (
      append_assoc,
      append_assoc,
      number_again w64 (2 ^ 64) wide64 session (big_endian w64 start ++ (big_endian w16 count ++ rest)) fits.0,
      number_again w64 (2 ^ 64) wide64 start (big_endian w16 count ++ rest) fits.1,
      number_again w16 (2 ^ 16) wide16 count rest fits.2,
    ) refl

-- what a span was read from
record IsSpan (fields : List ℕ) (session : ℕ) (range : Range) (rest : List ℕ) : Type 0 where
  pub does_fit : SpanFits session range
  pub parts : fields ≡ span_bytes session range ++ rest

span_parts : (fields : List ℕ) (session start count : ℕ) (a b rest : List ℕ)
    → fields ≡ big_endian w64 session ++ a → a ≡ big_endian w64 start ++ b → b ≡ big_endian w16 count ++ rest
    → fields ≡ span_bytes session (record { start = start; count = count }) ++ rest
unfolding span_bytes
span_parts fields session start count a b rest first second third =
    let session_bytes = big_endian w64 session in
    let start_bytes = big_endian w64 start in
    let count_bytes = big_endian w16 count in
    first ∙ ap (λ (y : List ℕ). session_bytes ++ y) (second ∙ ap (λ (y : List ℕ). start_bytes ++ y) third)
    ∙ sym (append_assoc session_bytes start_bytes (count_bytes ++ rest)) ∙ sym (append_assoc (session_bytes ++ start_bytes) count_bytes rest)

span_is : (fields : List ℕ) (x : ℕ × Range × List ℕ) → IsBytes fields → span_at fields ≡ Ok x → IsSpan fields x.0 x.1 x.2
unfolding span_bytes span_at
span_is fields x are e =
    let a = bind_ok (number_at w64 fields) (λ s. number_at w64 s.1 >>= λ t. number_at w16 t.1 >>= λ c. Ok (s.0, record { start = t.0; count = c.0 }, c.1)) x e in
    let s = number_is w64 (2 ^ 64) wide64 fields a.0 are a.1 in
    let b = bind_ok (number_at w64 a.0.1) (λ t. number_at w16 t.1 >>= λ c. Ok (a.0.0, record { start = t.0; count = c.0 }, c.1)) x a.2 in
    let t = number_is w64 (2 ^ 64) wide64 a.0.1 b.0 s.are b.1 in
    let d = bind_ok (number_at w16 b.0.1) (λ c. Ok (a.0.0, record { start = b.0.0; count = c.0 }, c.1)) x b.2 in
    let c = number_is w16 (2 ^ 16) wide16 b.0.1 d.0 t.are d.1 in
    let parts = span_parts fields a.0.0 b.0.0 d.0.0 a.0.1 b.0.1 d.0.1 s.parts t.parts c.parts in
    let same = ok_value (a.0.0, record { start = b.0.0; count = d.0.0 }, d.0.1) x d.2 in
    subst (λ (y : ℕ × Range × List ℕ). IsSpan fields y.0 y.1 y.2) same (record { does_fit = (s.below, t.below, c.below); parts = parts })

-- ---- classes

number-class_of_number : (n : ℕ) (class : Class) → class_of_number n ≡ Some class → class_number class ≡ n
unfolding class_of_number
number-class_of_number n class e = named_of_two class_number 1 3 RealTime Idle refl refl n class e

-- the number of best effort names no class
best_unnamed : class_of_number (class_number BestEffort) ≡ Some BestEffort → ⊥
unfolding class_of_number
best_unnamed e = cc

-- an Attach of a class that a number names is spelled with it
class_spelled : (group prio n : ℕ) (class : Class) → class_of_number n ≡ Some class → 0x08 ∷ class_bytes group prio n ≡ client_body (Attach group prio class)
class_spelled group prio n RealTime e = ap (λ (k : ℕ). 0x08 ∷ class_bytes group prio k) (sym (number-class_of_number n RealTime e))
class_spelled group prio n BestEffort e =
    absurd (best_unnamed (subst (λ (k : ℕ). class_of_number k ≡ Some BestEffort) (sym (number-class_of_number n BestEffort e)) e))
class_spelled group prio n Idle e = ap (λ (k : ℕ). 0x08 ∷ class_bytes group prio k) (sym (number-class_of_number n Idle e))

best_fits : (n : Version) → ClassFits n BestEffort
best_fits One = tt
best_fits Two = tt

-- ---- kinds

attach_spells : (n : Version) → Spells client_body (ClientFits n) 0x01 attach_at
unfolding attach_at
attach_spells n =
    two_spells client_body (ClientFits n) 0x01 w8 (2 ^ 8) wide8 w8 (2 ^ 8) wide8 (λ group prio. Attach group prio BestEffort) (λ group prio low lt. (low, lt, best_fits n)) (λ group prio. refl)

fetch_spells : (n : Version) → Spells client_body (ClientFits n) 0x02 fetch_at
unfolding fetch_at
fetch_spells n fields v are e =
    let b = bind_ok (span_at fields) (λ s. ended (Submit s.0 Fetch s.1 []) s.2) v e in
    let s = span_is fields b.0 are b.1 in
    let end = ended_is (Submit b.0.0 Fetch b.0.1 []) v b.0.2 b.2 in
    let whole : fields ≡ span_bytes b.0.0 b.0.1 = s.parts ∙ ap (λ (x : List ℕ). span_bytes b.0.0 b.0.1 ++ x) end.1 ∙ append-nil (span_bytes b.0.0 b.0.1) in
    subst (λ x. ClientFits n x × (0x02 ∷ fields ≡ client_body x)) end.0 ((s.does_fit, refl), ap (λ (x : List ℕ). 0x02 ∷ x) whole)

store_spells : (n : Version) → Spells client_body (ClientFits n) 0x03 store_at
unfolding store_at
store_spells n fields v are e =
    let b = bind_ok (span_at fields) (λ s. cond (leb (length s.2) 32768) (Ok (Submit s.0 Store s.1 s.2)) (Err BadBody)) v e in
    let s = span_is fields b.0 are b.1 in
    let t = test_ok (leb (length b.0.2) 32768) BadBody (Submit b.0.0 Store b.0.1 b.0.2) v b.2 in
    subst (λ x. ClientFits n x × (0x03 ∷ fields ≡ client_body x)) t.1 ((s.does_fit, leb-true (length b.0.2) 32768 t.0), ap (λ (x : List ℕ). 0x03 ∷ x) s.parts)

reap_spells : (n : Version) → Spells client_body (ClientFits n) 0x04 reap_at
unfolding reap_at
reap_spells n = one_spells client_body (ClientFits n) 0x04 w64 (2 ^ 64) wide64 Reap (λ session lt. lt) (λ session. refl)

leave_spells : (n : Version) → Spells client_body (ClientFits n) 0x05 (ended (Leave Ended))
leave_spells n = none_spells client_body (ClientFits n) 0x05 (Leave Ended) refl refl

discard_spells : Spells client_body (ClientFits Two) 0x06 discard_at
unfolding discard_at
discard_spells fields v are e =
    let b = bind_ok (span_at fields) (λ s. ended (Submit s.0 Discard s.1 []) s.2) v e in
    let s = span_is fields b.0 are b.1 in
    let end = ended_is (Submit b.0.0 Discard b.0.1 []) v b.0.2 b.2 in
    let whole : fields ≡ span_bytes b.0.0 b.0.1 = s.parts ∙ ap (λ (x : List ℕ). span_bytes b.0.0 b.0.1 ++ x) end.1 ∙ append-nil (span_bytes b.0.0 b.0.1) in
    subst (λ x. ClientFits Two x × (0x06 ∷ fields ≡ client_body x)) end.0 ((s.does_fit, refl, tt), ap (λ (x : List ℕ). 0x06 ∷ x) whole)

class_attach_spells : Spells client_body (ClientFits Two) 0x08 class_attach_at
unfolding class_attach_at class_bytes
class_attach_spells fields v are e =
    let b = bind_ok (number_at w8 fields) (λ g. number_at w8 g.1 >>= λ p. number_at w8 p.1 >>= λ n. named (class_of_number n.0) >>= λ class. ended (Attach g.0 p.0 class) n.1) v e in
    let g = number_is w8 (2 ^ 8) wide8 fields b.0 are b.1 in
    let c = bind_ok (number_at w8 b.0.1) (λ p. number_at w8 p.1 >>= λ n. named (class_of_number n.0) >>= λ class. ended (Attach b.0.0 p.0 class) n.1) v b.2 in
    let p = number_is w8 (2 ^ 8) wide8 b.0.1 c.0 g.are c.1 in
    let d = bind_ok (number_at w8 c.0.1) (λ n. named (class_of_number n.0) >>= λ class. ended (Attach b.0.0 c.0.0 class) n.1) v c.2 in
    let n = number_is w8 (2 ^ 8) wide8 c.0.1 d.0 p.are d.1 in
    let k = bind_ok (named (class_of_number d.0.0)) (λ class. ended (Attach b.0.0 c.0.0 class) d.0.1) v d.2 in
    let found = named_is (class_of_number d.0.0) k.0 k.1 in
    let end = ended_is (Attach b.0.0 c.0.0 k.0) v d.0.1 k.2 in
    let last : c.0.1 ≡ big_endian w8 d.0.0 = n.parts ∙ ap (λ (x : List ℕ). big_endian w8 d.0.0 ++ x) end.1 ∙ append-nil (big_endian w8 d.0.0) in
    let whole : fields ≡ class_bytes b.0.0 c.0.0 d.0.0 =
    g.parts ∙ ap (λ (x : List ℕ). big_endian w8 b.0.0 ++ x) (p.parts ∙ ap (λ (x : List ℕ). big_endian w8 c.0.0 ++ x) last) in
    subst (λ x. ClientFits Two x × (0x08 ∷ fields ≡ client_body x)) end.0
    ((g.below, p.below, tt), ap (λ (x : List ℕ). 0x08 ∷ x) whole ∙ class_spelled b.0.0 c.0.0 d.0.0 k.0 found)

pub client_is : (n : Version) (bytes : List ℕ) (v : Client) → IsBytes bytes → client_at n bytes ≡ Ok v → ClientFits n v.0 × (bytes ≡ client_body v.0)
unfolding client_at
client_is One bytes v are e =
    side_spells client_body (ClientFits One) (client_kinds One)
    (attach_spells One & fetch_spells One & store_spells One & reap_spells One & leave_spells One & tt)
    (λ call. record { 0 = call }) (λ v. v.0) (λ call. refl) bytes v are e
client_is Two bytes v are e =
    side_spells client_body (ClientFits Two) (client_kinds Two)
    (attach_spells Two & fetch_spells Two & store_spells Two & reap_spells Two & leave_spells Two & discard_spells & class_attach_spells & tt)
    (λ call. record { 0 = call }) (λ v. v.0) (λ call. refl) bytes v are e

pub client_spelled : (n : Version) (bytes : List ℕ) (v : Client) → IsBytes bytes → length bytes ≤ 32787 → client_at n bytes ≡ Ok v → ClientFits n v.0 × (bytes ≡ client_body v.0)
client_spelled n bytes v are few e = client_is n bytes v are e

-- ---- read again

attach_again : (group prio : ℕ) → group < 2 ^ 8 → prio < 2 ^ 8 → attach_at (big_endian w8 group ++ big_endian w8 prio) ≡ Ok (Attach group prio BestEffort)
unfolding attach_at
attach_again group prio low lt = two_again w8 (2 ^ 8) wide8 w8 (2 ^ 8) wide8 (λ group prio. Attach group prio BestEffort) group prio low lt

class_attach_again : (group prio n : ℕ) (class : Class) → group < 2 ^ 8 → prio < 2 ^ 8 → n < 2 ^ 8 → class_of_number n ≡ Some class
    → class_attach_at (class_bytes group prio n) ≡ Ok (Attach group prio class)
unfolding class_attach_at class_bytes
class_attach_again group prio n class low lt few named =
    rw (
      number_again w8 (2 ^ 8) wide8 group (big_endian w8 prio ++ big_endian w8 n) low,
      number_again w8 (2 ^ 8) wide8 prio (big_endian w8 n) lt,
      last_again w8 (2 ^ 8) wide8 n few,
      named,
    ) (ended_again (Attach group prio class))

real_time_named : class_of_number 1 ≡ Some RealTime
unfolding class_of_number
real_time_named = refl

idle_named : class_of_number 3 ≡ Some Idle
unfolding class_of_number
idle_named = refl

fetch_again : (session : ℕ) (range : Range) → SpanFits session range → fetch_at (span_bytes session range) ≡ Ok (Submit session Fetch range [])
unfolding fetch_at
fetch_again session range fits =
    let same = ap span_at (sym (append-nil (span_bytes session range))) ∙ span_again session range [] fits in
    rw same (ended_again (Submit session Fetch range []))

discard_again : (session : ℕ) (range : Range) → SpanFits session range → discard_at (span_bytes session range) ≡ Ok (Submit session Discard range [])
unfolding discard_at
discard_again session range fits =
    let same = ap span_at (sym (append-nil (span_bytes session range))) ∙ span_again session range [] fits in
    rw same (ended_again (Submit session Discard range []))

store_again : (session : ℕ) (range : Range) (payload : List ℕ) → SpanFits session range → length payload ≤ 32768
    → store_at (span_bytes session range ++ payload) ≡ Ok (Submit session Store range payload)
unfolding store_at
store_again session range payload fits few = rw (span_again session range payload fits, le-leb (length payload) 32768 few) refl

reap_again : (session : ℕ) → session < 2 ^ 64 → reap_at (big_endian w64 session) ≡ Ok (Reap session)
unfolding reap_at
reap_again session lt = one_again w64 (2 ^ 64) wide64 Reap session lt

no_payload : (session : ℕ) (op : Op) (range : Range) (payload : List ℕ) → payload ≡ [] → done (Submit session op range []) ≡ Ok (Submit session op range payload)
no_payload session op range payload none = ap (λ (p : List ℕ). done (Submit session op range p)) (sym none)

call_again : (n : Version) (call : ClientCall) → ClientFits n call → read_by (client_kinds n) (client_body call) ≡ Ok call
call_again One (Attach group prio RealTime) fits = absurd fits.2
call_again One (Attach group prio BestEffort) fits = attach_again group prio fits.0 fits.1
call_again One (Attach group prio Idle) fits = absurd fits.2
call_again One (Submit session Fetch range payload) fits = fetch_again session range fits.0 ∙ no_payload session Fetch range payload fits.1
call_again One (Submit session Store range payload) fits = store_again session range payload fits.0 fits.1
call_again One (Submit session Discard range payload) fits = absurd fits.2
call_again One (Reap session) fits = reap_again session fits
call_again One (Leave why) fits = ended_again (Leave Ended) ∙ ap (λ w. done (Leave w)) (sym fits)
call_again Two (Attach group prio RealTime) fits = class_attach_again group prio 1 RealTime fits.0 fits.1 (omega arith) real_time_named
call_again Two (Attach group prio BestEffort) fits = attach_again group prio fits.0 fits.1
call_again Two (Attach group prio Idle) fits = class_attach_again group prio 3 Idle fits.0 fits.1 (omega arith) idle_named
call_again Two (Submit session Fetch range payload) fits = fetch_again session range fits.0 ∙ no_payload session Fetch range payload fits.1
call_again Two (Submit session Store range payload) fits = store_again session range payload fits.0 fits.1
call_again Two (Submit session Discard range payload) fits = discard_again session range fits.0 ∙ no_payload session Discard range payload fits.1
call_again Two (Reap session) fits = reap_again session fits
call_again Two (Leave why) fits = ended_again (Leave Ended) ∙ ap (λ w. done (Leave w)) (sym fits)

pub client_again : (n : Version) (v : Client) → ClientFits n v.0 → client_at n (client_body v.0) ≡ Ok v
unfolding client_at
client_again n v fits = rw (call_again n v.0 fits) refl

-- ---- lengths

length-class_bytes : (group prio number : ℕ) → length (class_bytes group prio number) ≡ 3
unfolding class_bytes
length-class_bytes group prio number =
    let inner = length-append (big_endian w8 prio) (big_endian w8 number) in
    let size = length-append (big_endian w8 group) (big_endian w8 prio ++ big_endian w8 number) in
    omega (arith, size, inner, wide8.len group, wide8.len prio, wide8.len number)

call_in_limits : (n : Version) (call : ClientCall) → ClientFits n call → (0 < length (client_body call)) × (length (client_body call) ≤ 32787)
call_in_limits n (Attach group prio RealTime) fits = (omega arith, omega (arith, length-class_bytes group prio 1))
call_in_limits n (Attach group prio BestEffort) fits =
    let size = length-append (big_endian w8 group) (big_endian w8 prio) in
    (omega arith, omega (arith, size, wide8.len group, wide8.len prio))
call_in_limits n (Attach group prio Idle) fits = (omega arith, omega (arith, length-class_bytes group prio 3))
call_in_limits n (Submit session Fetch range payload) fits = (omega arith, omega (arith, length-span_bytes session range))
call_in_limits n (Submit session Store range payload) fits =
    (omega arith, omega (arith, length-append (span_bytes session range) payload, length-span_bytes session range, fits.1))
call_in_limits n (Submit session Discard range payload) fits = (omega arith, omega (arith, length-span_bytes session range))
call_in_limits n (Reap session) fits = (omega arith, omega (arith, wide64.len session))
call_in_limits n (Leave why) fits = (omega arith, omega arith)

pub client_in_limits : (n : Version) (v : Client) → ClientFits n v.0 → (0 < length (client_body v.0)) × (length (client_body v.0) ≤ 32787)
client_in_limits n v fits = call_in_limits n v.0 fits
