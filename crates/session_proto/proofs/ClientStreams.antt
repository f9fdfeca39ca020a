-- A client's stream, which may say its version first: a piece more is taken apart where the bytes before it were.
use Rattle.std.proofs.Common.{◌≡◌, ℕ, ◌+◌, ◌<◌, ◌≤◌, ◌↔◌, List, [], ◌∷◌, ◌++◌, length, drop, Option, Some, None, Ok, inl, inr, refl, sym, ap, ◌∙◌, subst, append_assoc, append-nil, arith}
use Rattle.std.proofs.lemmas.Bool.{cases_eq, ne_eqb}
use Rattle.std.proofs.lemmas.List.{drop-append-le, length-drop, length-take-le}
use Rattle.session_proto.specs.Frame.{length_field}
use Rattle.session_proto.specs.Reading.{said, next_of}
use Rattle.session_proto.specs.Stream.{rest_of}
use Rattle.session_proto.specs.ClientLaws.{client_in_limits, client_again, client_spelled}
use Rattle.session_proto.specs.Client.{client_body, ClientFits, client_at}
use Rattle.session_proto.specs.declared.fault.Fault.{Fault}
use Rattle.session_proto.specs.declared.fault.Fault.TheVariants.{BadLengthField}
use Rattle.session_proto.specs.declared.next.Next.{Next}
use Rattle.session_proto.specs.declared.next.Next.TheVariants.{More, Bad, Whole}
use Rattle.session_proto.specs.declared.version.Version.{Version}
use Rattle.session_proto.specs.declared.version.Version.TheVariants.{One, Two}
use Rattle.session_proto.specs.declared.client.Client.{Client}
use Rattle.session_proto.specs.Opened.{first_at, opening_of, version_of, IsCallsIn, IsCallsBehind, IsCalls, HeldCalls, HaveCome, IsSplit, first_body, BeginsWithVersion}
use Rattle.session_proto.proofs.Nexts.{IsSide, is_short, is_bad, is_cut, is_whole, body_field, next_case, next_said, next_none, next_above, next_cut, bad_more, whole_more, whole_within, next_short}
use Rattle.session_proto.proofs.Streams.{one_cut, stream_more, bad_stays}

-- ---- of one version

-- a piece behind the rest of a stream
calls_more : (version : Version) (stream held piece : List ℕ) (before calls : List Client) (rest : List ℕ) (fault : Option Fault)
    → IsCallsIn version stream before held None → IsCallsIn version (held ++ piece) calls rest fault
    → IsCallsIn version (stream ++ piece) (before ++ calls) rest fault
calls_more version = stream_more (λ (c : Client). client_body c.0) (λ (c : Client). ClientFits version c.0) (client_at version) 32787

-- and behind a fault
calls_stay : (version : Version) (stream held piece : List ℕ) (calls : List Client) (f : Fault)
    → IsCallsIn version stream calls held (Some f) → IsCallsIn version (stream ++ piece) calls (held ++ piece) (Some f)
calls_stay version = bad_stays (λ (c : Client). client_body c.0) (λ (c : Client). ClientFits version c.0) (client_at version) 32787

-- ---- of a version that the stream says

-- what has come, as it was read, where no fault is there
sound_reads : (held : HeldCalls) (stream : List ℕ) (before : List Client) → held.fault ≡ None → (came : HaveCome held stream before) → IsCalls stream before held.bytes None
sound_reads held stream before sound came =
    let all : held.bytes ++ came.unheld ≡ held.bytes = ap (λ (x : List ℕ). held.bytes ++ x) (came.all_held sound) ∙ append-nil held.bytes in
    subst (λ (f : Option Fault). IsCalls stream before held.bytes f) sound (subst (λ (x : List ℕ). IsCalls stream before x held.fault) all came.reads)

-- what has come by these bytes, all of which are held
record Comes (stream : List ℕ) (calls : List Client) (rest : List ℕ) (fault : Option Fault) (version : Option Version) : Type 0 where
  pub reads : IsCalls stream calls rest fault
  pub versed : version ≡ version_of (opening_of stream)

none_some : {A : Type 0} (o : Option A) (a : A) → o ≡ None → o ≡ Some a → ⊥
none_some o a e f = cc

same_version : (o : Option Version) (v w : Version) → o ≡ Some v → o ≡ Some w → v ≡ w
same_version o v w e f = cc

comes_at : (version : Option Version) (stream held piece : List ℕ) (before calls : List Client) (rest : List ℕ) (fault : Option Fault) (now : Option Version) (o : Next Version)
    → opening_of stream ≡ o → version ≡ version_of o → IsCallsBehind o stream before held None → IsSplit version (held ++ piece) calls rest fault now
    → Comes (stream ++ piece) (before ++ calls) rest fault now
comes_at None stream held piece before calls rest fault now More e is reads split =
    let list : before ++ calls ≡ calls = ap (λ (cs : List Client). cs ++ calls) reads.0 in
    let bytes : held ++ piece ≡ stream ++ piece = ap (λ (x : List ℕ). x ++ piece) reads.1 in
    record {
      reads = subst (λ (cs : List Client). IsCalls (stream ++ piece) cs rest fault) (sym list) (subst (λ (x : List ℕ). IsCalls x calls rest fault) bytes split.0);
      versed = subst (λ (x : List ℕ). now ≡ version_of (opening_of x)) bytes split.1;
    }
comes_at (Some v) stream held piece before calls rest fault now More e is reads split = absurd cc
comes_at version stream held piece before calls rest fault now (Bad f) e is reads split = absurd (none_some None f refl reads.2)
comes_at None stream held piece before calls rest fault now (Whole One n) e is reads split = absurd cc
comes_at (Some One) stream held piece before calls rest fault now (Whole One n) e is reads split =
    let later : opening_of (stream ++ piece) ≡ Whole One n = whole_more first_at 32787 stream piece One n e in
    record {
      reads = subst (λ (p : Next Version). IsCallsBehind p (stream ++ piece) (before ++ calls) rest fault) (sym later)
          (calls_more One stream held piece before calls rest fault reads split.0);
      versed = split.1 ∙ sym (ap version_of later);
    }
comes_at (Some Two) stream held piece before calls rest fault now (Whole One n) e is reads split = absurd cc
comes_at None stream held piece before calls rest fault now (Whole Two n) e is reads split = absurd cc
comes_at (Some One) stream held piece before calls rest fault now (Whole Two n) e is reads split = absurd cc
comes_at (Some Two) stream held piece before calls rest fault now (Whole Two n) e is reads split =
    let later : opening_of (stream ++ piece) ≡ Whole Two n = whole_more first_at 32787 stream piece Two n e in
    let behind : drop n (stream ++ piece) ≡ drop n stream ++ piece = drop-append-le n stream piece (whole_within first_at 32787 stream Two n e) in
    record {
      reads = subst (λ (p : Next Version). IsCallsBehind p (stream ++ piece) (before ++ calls) rest fault) (sym later)
          (subst (λ (x : List ℕ). IsCallsIn Two x (before ++ calls) rest fault) (sym behind) (calls_more Two (drop n stream) held piece before calls rest fault reads split.0));
      versed = split.1 ∙ sym (ap version_of later);
    }

-- without a fault a piece comes behind what is held
pub calls_come : (held next : HeldCalls) (stream piece : List ℕ) (before calls : List Client)
    → held.fault ≡ None → IsSplit held.version (held.bytes ++ piece) calls next.bytes next.fault next.version
    → HaveCome held stream before → HaveCome next (stream ++ piece) (before ++ calls)
calls_come held next stream piece before calls sound split came =
    let comes = comes_at held.version stream held.bytes piece before calls next.bytes next.fault next.version (opening_of stream) refl came.versed (sound_reads held stream before sound came) split in
    record {
      unheld = [];
      reads = subst (λ (x : List ℕ). IsCalls (stream ++ piece) (before ++ calls) x next.fault) (sym (append-nil next.bytes)) comes.reads;
      all_held = λ _. refl;
      versed = comes.versed;
    }

stays_at : (version : Option Version) (stream rest piece : List ℕ) (calls : List Client) (f : Fault) (o : Next Version)
    → opening_of stream ≡ o → version ≡ version_of o → IsCallsBehind o stream calls rest (Some f) → Comes (stream ++ piece) calls (rest ++ piece) (Some f) version
stays_at version stream rest piece calls f More e is reads = absurd (none_some (Some f) f reads.2 refl)
stays_at version stream rest piece calls f (Bad g) e is reads =
    let later : opening_of (stream ++ piece) ≡ Bad g = bad_more first_at 32787 stream piece g e in
    record {
      reads = subst (λ (p : Next Version). IsCallsBehind p (stream ++ piece) calls (rest ++ piece) (Some f)) (sym later)
          (reads.0, ap (λ (x : List ℕ). x ++ piece) reads.1, reads.2);
      versed = is ∙ sym (ap version_of later);
    }
stays_at version stream rest piece calls f (Whole One n) e is reads =
    let later : opening_of (stream ++ piece) ≡ Whole One n = whole_more first_at 32787 stream piece One n e in
    record {
      reads = subst (λ (p : Next Version). IsCallsBehind p (stream ++ piece) calls (rest ++ piece) (Some f)) (sym later) (calls_stay One stream rest piece calls f reads);
      versed = is ∙ sym (ap version_of later);
    }
stays_at version stream rest piece calls f (Whole Two n) e is reads =
    let later : opening_of (stream ++ piece) ≡ Whole Two n = whole_more first_at 32787 stream piece Two n e in
    let behind : drop n (stream ++ piece) ≡ drop n stream ++ piece = drop-append-le n stream piece (whole_within first_at 32787 stream Two n e) in
    record {
      reads = subst (λ (p : Next Version). IsCallsBehind p (stream ++ piece) calls (rest ++ piece) (Some f)) (sym later)
          (subst (λ (x : List ℕ). IsCallsIn Two x calls (rest ++ piece) (Some f)) (sym behind) (calls_stay Two (drop n stream) rest piece calls f reads));
      versed = is ∙ sym (ap version_of later);
    }

-- behind a fault nothing comes
pub calls_unheld : (held : HeldCalls) (stream piece : List ℕ) (before : List Client) (f : Fault)
    → held.fault ≡ Some f → HaveCome held stream before → HaveCome held (stream ++ piece) (before ++ [])
calls_unheld held stream piece before f is came =
    let bad : IsCalls stream before (held.bytes ++ came.unheld) (Some f) = subst (λ (g : Option Fault). IsCalls stream before (held.bytes ++ came.unheld) g) is came.reads in
    let stays = stays_at held.version stream (held.bytes ++ came.unheld) piece before f (opening_of stream) refl came.versed bad in
    let list : before ≡ before ++ [] = sym (append-nil before) in
    record {
      unheld = came.unheld ++ piece;
      reads = subst (λ (g : Option Fault). IsCalls (stream ++ piece) (before ++ []) (held.bytes ++ (came.unheld ++ piece)) g) (sym is)
          (subst (λ (cs : List Client). IsCalls (stream ++ piece) cs (held.bytes ++ (came.unheld ++ piece)) (Some f)) list
          (subst (λ (x : List ℕ). IsCalls (stream ++ piece) before x (Some f)) (append_assoc held.bytes came.unheld piece) stays.reads));
      all_held = λ none. absurd (none_some held.fault f none is);
      versed = stays.versed;
    }

-- before the first byte nothing has come
pub no_call_came : (held : HeldCalls) → held.bytes ≡ [] → held.fault ≡ None → held.version ≡ None → HaveCome held [] []
no_call_came held none sound unknown =
    let waits : opening_of [] ≡ More = next_short first_at 32787 [] (omega arith) in
    record {
      unheld = [];
      reads = subst (λ (p : Next Version). IsCallsBehind p [] [] (held.bytes ++ []) held.fault) (sym waits) (refl, append-nil held.bytes ∙ none, sound);
      all_held = λ _. refl;
      versed = unknown ∙ sym (ap version_of waits);
    }

-- what is held with the piece behind it is taken apart
pub split_piece : (version : Option Version) (now bytes rest : List ℕ) (calls : List Client) (fault : Option Fault) (known : Option Version) (held piece : List ℕ) (size : ℕ)
    → now ≡ held ++ piece → bytes ≡ now → rest ≡ drop size now → IsSplit version bytes calls (drop size bytes) fault known
    → IsSplit version (held ++ piece) calls rest fault known
split_piece version now bytes rest calls fault known held piece size a b d split =
    let left : drop size bytes ≡ rest = ap (drop size) b ∙ sym d in
    subst (λ (x : List ℕ). IsSplit version (held ++ piece) calls x fault known) left
    (subst (λ (x : List ℕ). IsSplit version x calls (drop size bytes) fault known) (b ∙ a) split)

-- ---- the laws of the versions

client_side : (version : Version) → IsSide (λ (c : Client). client_body c.0) (λ (c : Client). ClientFits version c.0) (client_at version) 32787
client_side version = record { few = omega arith; in_limits = client_in_limits version; again = client_again version; spelled = client_spelled version }

-- without a call all is rest
no_call : (version : Version) (bytes : List ℕ) (calls : List Client) (rest : List ℕ) (fault stands : Option Fault) → next_of (client_at version) 32787 bytes ≡ rest_of stands
    → (calls ≡ []) × (rest ≡ bytes) × (fault ≡ stands) → IsCallsIn version bytes calls rest fault
no_call version bytes calls rest fault stands ends h =
    subst (λ (cs : List Client). IsCallsIn version bytes cs rest fault) (sym h.0)
    (subst (λ (x : List ℕ). IsCallsIn version bytes [] x fault) (sym h.1)
    (subst (λ (f : Option Fault). IsCallsIn version bytes [] bytes f) (sym h.2) (record { whole = refl; each = tt; ends = ends })))

only_rest : (version : Version) (bytes : List ℕ) (calls : List Client) (rest : List ℕ) (fault stands : Option Fault) → next_of (client_at version) 32787 bytes ≡ rest_of stands
    → IsCallsIn version bytes calls rest fault → (calls ≡ []) × (rest ≡ bytes) × (fault ≡ stands)
only_rest version bytes calls rest fault stands ends h =
    one_cut (λ (c : Client). client_body c.0) (λ (c : Client). ClientFits version c.0) (client_at version) 32787 (client_side version) bytes calls [] rest bytes fault stands
    h (record { whole = refl; each = tt; ends = ends })

-- a stream without a call, by what it begins with, is that of a version where it begins so too
as_rest : (version : Version) (bytes : List ℕ) (calls : List Client) (rest : List ℕ) (fault stands : Option Fault) → next_of (client_at version) 32787 bytes ≡ rest_of stands
    → (IsCalls bytes calls rest fault → (calls ≡ []) × (rest ≡ bytes) × (fault ≡ stands)) → ((calls ≡ []) × (rest ≡ bytes) × (fault ≡ stands) → IsCalls bytes calls rest fault)
    → IsCalls bytes calls rest fault ↔ IsCallsIn version bytes calls rest fault
as_rest version bytes calls rest fault stands ends to from =
    (λ h. no_call version bytes calls rest fault stands ends (to h), λ h. from (only_rest version bytes calls rest fault stands ends h))

as_more : (bytes : List ℕ) (calls : List Client) (rest : List ℕ) (fault : Option Fault) → opening_of bytes ≡ More → next_of (client_at One) 32787 bytes ≡ More
    → IsCalls bytes calls rest fault ↔ IsCallsIn One bytes calls rest fault
as_more bytes calls rest fault e ends =
    as_rest One bytes calls rest fault None ends (λ h. subst (λ (p : Next Version). IsCallsBehind p bytes calls rest fault) e h)
    (λ h. subst (λ (p : Next Version). IsCallsBehind p bytes calls rest fault) (sym e) h)

as_bad : (bytes : List ℕ) (calls : List Client) (rest : List ℕ) (fault : Option Fault) (f : Fault) → opening_of bytes ≡ Bad f → next_of (client_at One) 32787 bytes ≡ Bad f
    → IsCalls bytes calls rest fault ↔ IsCallsIn One bytes calls rest fault
as_bad bytes calls rest fault f e ends =
    as_rest One bytes calls rest fault (Some f) ends (λ h. subst (λ (p : Next Version). IsCallsBehind p bytes calls rest fault) e h)
    (λ h. subst (λ (p : Next Version). IsCallsBehind p bytes calls rest fault) (sym e) h)

as_whole : (bytes : List ℕ) (calls : List Client) (rest : List ℕ) (fault : Option Fault) (size : ℕ) → opening_of bytes ≡ Whole One size
    → IsCalls bytes calls rest fault ↔ IsCallsIn One bytes calls rest fault
as_whole bytes calls rest fault size e =
    (λ h. subst (λ (p : Next Version). IsCallsBehind p bytes calls rest fault) e h, λ h. subst (λ (p : Next Version). IsCallsBehind p bytes calls rest fault) (sym e) h)

-- a whole first frame of another kind is that of version 1
first_one : (body : List ℕ) → 0 < length body → ((fields : List ℕ) → body ≡ 0x07 ∷ fields → ⊥) → first_at body ≡ Ok One
first_one [] some other = absurd (omega (arith, some))
first_one (kind ∷ fields) some other =
    elim (cases_eq kind 0x07) [
      | inl same ↦ absurd (other fields (ap (λ (k : ℕ). k ∷ fields) same))
      | inr ne ↦ rw (ne_eqb kind 0x07 ne) refl
    ]

pub version_one : (bytes : List ℕ) (calls : List Client) (rest : List ℕ) (fault : Option Fault) → (BeginsWithVersion bytes → ⊥)
    → IsCalls bytes calls rest fault ↔ IsCallsIn One bytes calls rest fault
version_one bytes calls rest fault other =
    elim (next_case first_at 32787 bytes) [
      | is_short short e ↦ as_more bytes calls rest fault e (next_short (client_at One) 32787 bytes short)
      | is_bad four which e ↦ as_bad bytes calls rest fault BadLengthField e (elim which [
        | inl none ↦ next_none (client_at One) 32787 bytes four none
        | inr above ↦ next_above (client_at One) 32787 bytes four above
      ])
      | is_cut four low high cut e ↦ as_more bytes calls rest fault e (next_cut (client_at One) 32787 bytes four low high cut)
      | is_whole four low high whole e ↦
          let size = 4 + length_field bytes in
          let body = body_field bytes in
          let some : 0 < length body = omega (arith, low, whole, length-take-le (length_field bytes) (drop 4 bytes) (omega (arith, whole, length-drop 4 bytes))) in
          let seen : first_body bytes ≡ Whole body size = next_said Ok 32787 bytes four low high whole in
          let one : first_at body ≡ Ok One =
          first_one body some (λ fields is. other (fields, size, seen ∙ ap (λ (b : List ℕ). Whole b size) is)) in
          as_whole bytes calls rest fault size (e ∙ ap (said size) one)
    ]

field_two : (bytes : List ℕ) → length_field (0 ∷ 0 ∷ 0 ∷ 2 ∷ 0x07 ∷ 2 ∷ bytes) ≡ 2
unfolding length_field
field_two bytes = refl

opening_two : (bytes : List ℕ) → opening_of (0 ∷ 0 ∷ 0 ∷ 2 ∷ 0x07 ∷ 2 ∷ bytes) ≡ Whole Two 6
opening_two bytes =
    let stream = 0 ∷ 0 ∷ 0 ∷ 2 ∷ 0x07 ∷ 2 ∷ bytes in
    let field : length_field stream ≡ 2 = field_two bytes in
    next_said first_at 32787 stream (omega arith) (omega (arith, field)) (omega (arith, field)) (omega (arith, field)) ∙ rw field refl

pub version_two : (bytes : List ℕ) (calls : List Client) (rest : List ℕ) (fault : Option Fault)
    → IsCalls (0 ∷ 0 ∷ 0 ∷ 2 ∷ 0x07 ∷ 2 ∷ bytes) calls rest fault ↔ IsCallsIn Two bytes calls rest fault
version_two bytes calls rest fault =
    let stream = 0 ∷ 0 ∷ 0 ∷ 2 ∷ 0x07 ∷ 2 ∷ bytes in (
      λ h. subst (λ (p : Next Version). IsCallsBehind p stream calls rest fault) (opening_two bytes) h,
      λ h. subst (λ (p : Next Version). IsCallsBehind p stream calls rest fault) (sym (opening_two bytes)) h,
    )
