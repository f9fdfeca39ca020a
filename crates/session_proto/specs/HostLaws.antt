-- The laws of the host's side.
use Rattle.std.proofs.Common.{◌≡◌, ℕ, ◌/◌, ◌%◌, ◌^◌, ◌<◌, ◌≤◌, Bool, true, false, List, [], ◌∷◌, ◌++◌, length, Some, Ok, Err, refl, sym, ap, subst, ◌∙◌, cond, eqb, ltb, leb, arith}
use Rattle.std.specs.Prelude.{◌&&◌}
use Rattle.std.specs.Int.{w8, w32, w64}
use Rattle.std.proofs.lemmas.Bool.{eqb-true, eq-eqb, ltb-true, lt-ltb, leb-true, le-leb}
use Rattle.std.proofs.lemmas.List.{append-nil, length-append}
use Rattle.sector_core.specs.declared.bio.BioResult.TheVariants.{Read, Written, Discarded, IoError}
use Rattle.sector_core.specs.declared.bio.FailKind.{FailKind}
use Rattle.sector_core.specs.declared.bio.FailKind.TheVariants.{Short, Fault as Faulty}
use Rattle.plain.specs.Numbers.{code_number, code_of_number, cause_number, cause_of_number}
use Rattle.plain.specs.NumberLaws.{number-code_of_number, code_of_number-number, number-cause_of_number, cause_of_number-number}
use Rattle.plain.specs.declared.answer.Code.{Code}
use Rattle.plain.specs.declared.answer.Code.TheVariants.{BadSeat}
use Rattle.plain.specs.declared.answer.Cause.{Cause}
use Rattle.plain.specs.declared.answer.Cause.TheVariants.{Held}
use Rattle.plain.specs.declared.answer.Reply.TheVariants.{Attached, Queued, Completed, Left, Issued, Finished, Requeued, Group, Done, Moved, Taken}
use Rattle.plain.specs.declared.answer.Answer.TheVariants.{Accepted, Refused, NotYet}
use Rattle.host_calls.specs.Frames.{ResultHasFrame}
use Rattle.host_calls.specs.declared.ring.RingReply.{RingReply}
use Rattle.host_calls.specs.declared.ring.RingReply.TheVariants.{Answer, Closed}
use Rattle.session_proto.specs.Frame.{IsBytes}
use Rattle.session_proto.specs.declared.fault.Fault.TheVariants.{BadBody}
use Rattle.session_proto.specs.declared.host.Host.{Host}
use Rattle.session_proto.specs.Kinds.{read_by}
use Rattle.session_proto.specs.Fields.{◌>>=◌, big_endian, number_at, ended, named}
use Rattle.session_proto.specs.FieldLaws.{wide8, wide32, wide64, bind_ok, test_ok, number_is, number_again, last_again, ended_is, ended_again, named_is, named_of_two}
use Rattle.session_proto.specs.KindLaws.{Spells, ◌&◌, side_spells, none_spells, one_spells, one_again, two_spells, two_again, named_spells, named_again}
use Rattle.session_proto.specs.Host.{host_body, HostFits, host_kinds, host_at, accepted, is_sectors, fail_number, fail_of_number, attached_at, queued_at, read_at, written_at, error_at, discarded_at, group_at, moved_at, refused_at, not_yet_at}

-- ---- numbers that name

number-fail_of_number : (n : ℕ) (kind : FailKind) → fail_of_number n ≡ Some kind → fail_number kind ≡ n
unfolding fail_of_number
number-fail_of_number n kind e = named_of_two fail_number 1 2 Short Faulty refl refl n kind e

fail_of_number-number : (kind : FailKind) → fail_of_number (fail_number kind) ≡ Some kind
unfolding fail_of_number
fail_of_number-number Short = refl
fail_of_number-number Faulty = refl

fail_number-below : (kind : FailKind) → fail_number kind < 2 ^ 8
fail_number-below Short = omega arith
fail_number-below Faulty = omega arith

code_number-below : (code : Code) → code_number code < 2 ^ 8
code_number-below BadSeat = omega arith
code_number-below _ = omega arith

cause_number-below : (cause : Cause) → cause_number cause < 2 ^ 8
cause_number-below Held = omega arith
cause_number-below _ = omega arith

-- ---- bytes of sectors

both_true : (a b : Bool) → (a && b) ≡ true → (a ≡ true) × (b ≡ true)
both_true true b e = (refl, e)
both_true false b e = absurd cc

sectors_is : (bytes : List ℕ) → is_sectors bytes ≡ true → ResultHasFrame (Read bytes)
unfolding is_sectors
sectors_is bytes e =
    let n = length bytes in
    let outer = both_true (ltb 0 n && leb n 32768) (eqb (n % 512) 0) e in
    let inner = both_true (ltb 0 n) (leb n 32768) outer.0 in
    let some : 0 < n = ltb-true 0 n inner.0 in
    let few : n ≤ 32768 = leb-true n 32768 inner.1 in
    let even : n % 512 ≡ 0 = eqb-true (n % 512) 0 outer.1 in
    (n / 512, omega (arith, some, even), omega (arith, few, even), omega (arith, even))

is_sectors-true : (bytes : List ℕ) → ResultHasFrame (Read bytes) → is_sectors bytes ≡ true
unfolding is_sectors
is_sectors-true bytes has =
    let n = length bytes in
    let some : 0 < n = omega (arith, has.1, has.3) in
    let few : n ≤ 32768 = omega (arith, has.2, has.3) in
    let even : n % 512 ≡ 0 = omega (arith, has.3) in
    rw (lt-ltb 0 n some, le-leb n 32768 few, eq-eqb (n % 512) 0 even) refl

-- ---- kinds

attached_spells : Spells host_body HostFits 0x81 attached_at
unfolding attached_at
attached_spells = one_spells host_body HostFits 0x81 w64 (2 ^ 64) wide64 (λ n. accepted (Attached n)) (λ n lt. (tt, lt)) (λ n. refl)

queued_spells : Spells host_body HostFits 0x82 queued_at
unfolding queued_at
queued_spells = one_spells host_body HostFits 0x82 w64 (2 ^ 64) wide64 (λ n. accepted (Queued n)) (λ n lt. (tt, lt)) (λ n. refl)

abbrev a_read : ℕ → List ℕ → RingReply
a_read bio bytes = accepted (Completed bio (Read bytes))

read_kind_spells : Spells host_body HostFits 0x83 read_at
unfolding read_at
read_kind_spells fields v are e =
    let b = bind_ok (number_at w64 fields) (λ n. cond (is_sectors n.1) (Ok (a_read n.0 n.1)) (Err BadBody)) v e in
    let bio = number_is w64 (2 ^ 64) wide64 fields b.0 are b.1 in
    let t = test_ok (is_sectors b.0.1) BadBody (a_read b.0.0 b.0.1) v b.2 in
    subst (λ x. HostFits x × (0x83 ∷ fields ≡ host_body x)) t.1 ((sectors_is b.0.1 t.0, bio.below), ap (λ (x : List ℕ). 0x83 ∷ x) bio.parts)

written_spells : Spells host_body HostFits 0x84 written_at
unfolding written_at
written_spells = one_spells host_body HostFits 0x84 w64 (2 ^ 64) wide64 (λ n. accepted (Completed n Written)) (λ n lt. (tt, lt)) (λ n. refl)

abbrev an_error : ℕ → FailKind → RingReply
an_error bio kind = accepted (Completed bio (IoError kind))

error_spells : Spells host_body HostFits 0x85 error_at
unfolding error_at
error_spells fields v are e =
    let b = bind_ok (number_at w64 fields) (λ n. number_at w8 n.1 >>= λ k. named (fail_of_number k.0) >>= λ kind. ended (an_error n.0 kind) k.1) v e in
    let bio = number_is w64 (2 ^ 64) wide64 fields b.0 are b.1 in
    let c = bind_ok (number_at w8 b.0.1) (λ k. named (fail_of_number k.0) >>= λ kind. ended (an_error b.0.0 kind) k.1) v b.2 in
    let k = number_is w8 (2 ^ 8) wide8 b.0.1 c.0 bio.are c.1 in
    let d = bind_ok (named (fail_of_number c.0.0)) (λ kind. ended (an_error b.0.0 kind) c.0.1) v c.2 in
    let told = number-fail_of_number c.0.0 d.0 (named_is (fail_of_number c.0.0) d.0 d.1) in
    let end = ended_is (an_error b.0.0 d.0) v c.0.1 d.2 in
    let last : b.0.1 ≡ big_endian w8 (fail_number d.0) =
    k.parts ∙ ap (λ (x : List ℕ). big_endian w8 c.0.0 ++ x) end.1 ∙ append-nil (big_endian w8 c.0.0) ∙ ap (big_endian w8) (sym told) in
    let whole : fields ≡ big_endian w64 b.0.0 ++ big_endian w8 (fail_number d.0) = bio.parts ∙ ap (λ (x : List ℕ). big_endian w64 b.0.0 ++ x) last in
    subst (λ x. HostFits x × (0x85 ∷ fields ≡ host_body x)) end.0 ((tt, bio.below), ap (λ (x : List ℕ). 0x85 ∷ x) whole)

discarded_spells : Spells host_body HostFits 0x87 discarded_at
unfolding discarded_at
discarded_spells = one_spells host_body HostFits 0x87 w64 (2 ^ 64) wide64 (λ n. accepted (Completed n Discarded)) (λ n lt. (tt, lt)) (λ n. refl)

group_spells : Spells host_body HostFits 0x91 group_at
unfolding group_at
group_spells = one_spells host_body HostFits 0x91 w8 (2 ^ 8) wide8 (λ n. accepted (Group n)) (λ n lt. (tt, lt)) (λ n. refl)

moved_spells : Spells host_body HostFits 0x93 moved_at
unfolding moved_at
moved_spells =
    two_spells host_body HostFits 0x93 w32 (2 ^ 32) wide32 w32 (2 ^ 32) wide32 (λ m n. accepted (Moved m n)) (λ m n low lt. (tt, (low, lt))) (λ m n. refl)

refused_spells : Spells host_body HostFits 0xe0 refused_at
unfolding refused_at
refused_spells =
    named_spells host_body HostFits 0xe0 code_number code_of_number number-code_of_number (λ code. Answer (Refused code)) (λ code. (tt, tt)) (λ code. refl)

not_yet_spells : Spells host_body HostFits 0xe1 not_yet_at
unfolding not_yet_at
not_yet_spells =
    named_spells host_body HostFits 0xe1 cause_number cause_of_number number-cause_of_number (λ cause. Answer (NotYet cause)) (λ cause. (tt, tt)) (λ cause. refl)

-- a kind of the host's with no field
bare : (kind : ℕ) (v : RingReply) → HostFits v → host_body v ≡ kind ∷ [] → Spells host_body HostFits kind (ended v)
bare kind v does is = none_spells host_body HostFits kind v does is

pub host_spelled : (bytes : List ℕ) (v : Host) → IsBytes bytes → length bytes ≤ 32787 → host_at bytes ≡ Ok v → HostFits v.0 × (bytes ≡ host_body v.0)
unfolding host_at
host_spelled bytes v are few e =
    side_spells host_body HostFits host_kinds
    (attached_spells & queued_spells & read_kind_spells & written_spells & error_spells & bare 0x86 (accepted Left) (tt, tt) refl
    & discarded_spells
    & group_spells & bare 0x92 (accepted Done) (tt, tt) refl & moved_spells & bare 0x9f Closed (tt, tt) refl & refused_spells & not_yet_spells & tt)
    (λ reply. record { 0 = reply }) (λ v. v.0) (λ reply. refl) bytes v are e

-- ---- read again

attached_again : (session : ℕ) → session < 2 ^ 64 → attached_at (big_endian w64 session) ≡ Ok (accepted (Attached session))
unfolding attached_at
attached_again session lt = one_again w64 (2 ^ 64) wide64 (λ n. accepted (Attached n)) session lt

queued_again : (bio : ℕ) → bio < 2 ^ 64 → queued_at (big_endian w64 bio) ≡ Ok (accepted (Queued bio))
unfolding queued_at
queued_again bio lt = one_again w64 (2 ^ 64) wide64 (λ n. accepted (Queued n)) bio lt

read_kind_again : (bio : ℕ) (bytes : List ℕ) → bio < 2 ^ 64 → ResultHasFrame (Read bytes) → read_at (big_endian w64 bio ++ bytes) ≡ Ok (a_read bio bytes)
unfolding read_at
read_kind_again bio bytes lt has = rw (number_again w64 (2 ^ 64) wide64 bio bytes lt, is_sectors-true bytes has) refl

written_again : (bio : ℕ) → bio < 2 ^ 64 → written_at (big_endian w64 bio) ≡ Ok (accepted (Completed bio Written))
unfolding written_at
written_again bio lt = one_again w64 (2 ^ 64) wide64 (λ n. accepted (Completed n Written)) bio lt

error_again : (bio : ℕ) (kind : FailKind) → bio < 2 ^ 64 → error_at (big_endian w64 bio ++ big_endian w8 (fail_number kind)) ≡ Ok (an_error bio kind)
unfolding error_at
error_again bio kind lt =
    let k = fail_number kind in
    rw (number_again w64 (2 ^ 64) wide64 bio (big_endian w8 k) lt, last_again w8 (2 ^ 8) wide8 k (fail_number-below kind), fail_of_number-number kind)
    (ended_again (an_error bio kind))

discarded_again : (bio : ℕ) → bio < 2 ^ 64 → discarded_at (big_endian w64 bio) ≡ Ok (accepted (Completed bio Discarded))
unfolding discarded_at
discarded_again bio lt = one_again w64 (2 ^ 64) wide64 (λ n. accepted (Completed n Discarded)) bio lt

group_again : (number : ℕ) → number < 2 ^ 8 → group_at (big_endian w8 number) ≡ Ok (accepted (Group number))
unfolding group_at
group_again number lt = one_again w8 (2 ^ 8) wide8 (λ n. accepted (Group n)) number lt

moved_again : (cursor steps : ℕ) → cursor < 2 ^ 32 → steps < 2 ^ 32 → moved_at (big_endian w32 cursor ++ big_endian w32 steps) ≡ Ok (accepted (Moved cursor steps))
unfolding moved_at
moved_again cursor steps low lt = two_again w32 (2 ^ 32) wide32 w32 (2 ^ 32) wide32 (λ m n. accepted (Moved m n)) cursor steps low lt

refused_again : (code : Code) → refused_at (big_endian w8 (code_number code)) ≡ Ok (Answer (Refused code))
unfolding refused_at
refused_again code = named_again code_number code_of_number code_of_number-number (λ c. Answer (Refused c)) code (code_number-below code)

not_yet_again : (cause : Cause) → not_yet_at (big_endian w8 (cause_number cause)) ≡ Ok (Answer (NotYet cause))
unfolding not_yet_at
not_yet_again cause = named_again cause_number cause_of_number cause_of_number-number (λ c. Answer (NotYet c)) cause (cause_number-below cause)

reply_again : (reply : RingReply) → HostFits reply → read_by host_kinds (host_body reply) ≡ Ok reply
reply_again (Answer (Accepted (Attached session))) fits = attached_again session fits.1
reply_again (Answer (Accepted (Queued bio))) fits = queued_again bio fits.1
reply_again (Answer (Accepted (Completed bio (Read bytes)))) fits = read_kind_again bio bytes fits.1 fits.0
reply_again (Answer (Accepted (Completed bio Written))) fits = written_again bio fits.1
reply_again (Answer (Accepted (Completed bio (IoError kind)))) fits = error_again bio kind fits.1
reply_again (Answer (Accepted (Completed bio Discarded))) fits = discarded_again bio fits.1
reply_again (Answer (Accepted Left)) fits = ended_again (accepted Left)
reply_again (Answer (Accepted (Issued tag issue op range))) fits = absurd fits.0
reply_again (Answer (Accepted (Finished bios))) fits = absurd fits.0
reply_again (Answer (Accepted Requeued)) fits = absurd fits.0
reply_again (Answer (Accepted (Group number))) fits = group_again number fits.1
reply_again (Answer (Accepted Done)) fits = ended_again (accepted Done)
reply_again (Answer (Accepted (Moved cursor steps))) fits = moved_again cursor steps fits.1.0 fits.1.1
reply_again (Answer (Accepted (Taken work))) fits = absurd fits.0
reply_again (Answer (Refused code)) fits = refused_again code
reply_again (Answer (NotYet cause)) fits = not_yet_again cause
reply_again Closed fits = ended_again Closed

pub host_again : (v : Host) → HostFits v.0 → host_at (host_body v.0) ≡ Ok v
unfolding host_at
host_again v fits = rw (reply_again v.0 fits) refl

-- ---- lengths

reply_in_limits : (reply : RingReply) → HostFits reply → (0 < length (host_body reply)) × (length (host_body reply) ≤ 32787)
reply_in_limits (Answer (Accepted (Attached session))) fits = (omega arith, omega (arith, wide64.len session))
reply_in_limits (Answer (Accepted (Queued bio))) fits = (omega arith, omega (arith, wide64.len bio))
reply_in_limits (Answer (Accepted (Completed bio (Read bytes)))) fits =
    (omega arith, omega (arith, wide64.len bio, length-append (big_endian w64 bio) bytes, fits.0.2, fits.0.3))
reply_in_limits (Answer (Accepted (Completed bio Written))) fits = (omega arith, omega (arith, wide64.len bio))
reply_in_limits (Answer (Accepted (Completed bio (IoError kind)))) fits =
    let k = fail_number kind in
    (omega arith, omega (arith, wide64.len bio, wide8.len k, length-append (big_endian w64 bio) (big_endian w8 k)))
reply_in_limits (Answer (Accepted (Completed bio Discarded))) fits = (omega arith, omega (arith, wide64.len bio))
reply_in_limits (Answer (Accepted Left)) fits = (omega arith, omega arith)
reply_in_limits (Answer (Accepted (Issued tag issue op range))) fits = absurd fits.0
reply_in_limits (Answer (Accepted (Finished bios))) fits = absurd fits.0
reply_in_limits (Answer (Accepted Requeued)) fits = absurd fits.0
reply_in_limits (Answer (Accepted (Group number))) fits = (omega arith, omega (arith, wide8.len number))
reply_in_limits (Answer (Accepted Done)) fits = (omega arith, omega arith)
reply_in_limits (Answer (Accepted (Moved cursor steps))) fits =
    (omega arith, omega (arith, wide32.len cursor, wide32.len steps, length-append (big_endian w32 cursor) (big_endian w32 steps)))
reply_in_limits (Answer (Accepted (Taken work))) fits = absurd fits.0
reply_in_limits (Answer (Refused code)) fits = (omega arith, omega (arith, wide8.len (code_number code)))
reply_in_limits (Answer (NotYet cause)) fits = (omega arith, omega (arith, wide8.len (cause_number cause)))
reply_in_limits Closed fits = (omega arith, omega arith)

pub host_in_limits : (v : Host) → HostFits v.0 → (0 < length (host_body v.0)) × (length (host_body v.0) ≤ 32787)
host_in_limits v fits = reply_in_limits v.0 fits
