-- What is known while no whole frame has come, and what a piece more makes of it.
use Rattle.std.proofs.Common.{◌≡◌, ℕ, ◌+◌, ◌-◌, ◌<◌, ◌≤◌, List, [], ◌∷◌, ◌++◌, length, true, false, Result, Ok, Err, Option, Some, None, refl, sym, ap, subst, ◌∙◌, append_assoc, length-append, inl, arith}
use Rattle.std.specs.Prelude.{is_some, IsSome, IsErrAnd}
use Rattle.std.specs.List.{AllByRecursion}
use Rattle.std.specs.Io.KnownBytes.{Consumes, Keeps}
use Rattle.session_proto.specs.Frame.{framed}
use Rattle.session_proto.specs.Reading.{next_of}
use Rattle.session_proto.specs.Stream.{Held, IsStream, frames, rest_of}
use Rattle.session_proto.specs.declared.fault.Fault.{Fault}
use Rattle.session_proto.specs.declared.next.Next.TheVariants.{More}
use Rattle.operator_asking.specs.Asked.{Known, HasRead, HasNoFrame, Receives}
use Rattle.operator_asking.specs.declared.fault.AskFault.{AskFault}
use Rattle.operator_asking.specs.declared.fault.AskFault.TheVariants.{Socket, Frame, OutOfMemory}
use Rattle.operator_asking.proofs.Bytes.{Consumes-more}
use Rattle.std.proofs.KnownBytes.{Consumes-kept}

-- all that was read is held, and it is no whole frame
pub record Waits {T : Type 0} (body_at : List ℕ → Result T Fault) (most : ℕ) (r0 r1 : Known) (held : Held) : Type 0 where
  pub read : Consumes r0 r1 held.bytes
  pub none : held.fault ≡ None
  pub unfinished : next_of body_at most held.bytes ≡ More
  pub short : length held.bytes < 4 + most

-- one piece more was read
pub read_more : {T : Type 0} (body_at : List ℕ → Result T Fault) (most : ℕ) (r0 r1 r2 : Known) (held : Held) (piece : List ℕ)
    → Waits body_at most r0 r1 held → Consumes r1 r2 piece → length piece ≤ 4096 → HasRead body_at most r0 r2 (held.bytes ++ piece)
read_more body_at most r0 r1 r2 held piece waits read few =
    record {
      before = held.bytes;
      piece = piece;
      pieces = refl;
      unfinished = waits.unfinished;
      few = few;
      read = Consumes-more r0 r1 r2 held.bytes piece waits.read read;
    }

frames-cons : {T : Type 0} (body : T → List ℕ) (v : T) (vs : List T) (rest : List ℕ)
    → frames body (v ∷ vs) ++ rest ≡ framed (body v) ++ (frames body vs ++ rest)
frames-cons body v vs rest = append_assoc (framed (body v)) (frames body vs) rest

-- with a first value that is the reply
pub replies : {T : Type 0} (body : T → List ℕ) (fits : T → Type 0) (body_at : List ℕ → Result T Fault) (most : ℕ) (r0 r2 : Known)
    → (bytes : List ℕ) (values others : List T) (rest : List ℕ) (fault : Option Fault) (v : T)
    → HasRead body_at most r0 r2 bytes → IsStream body fits body_at most bytes values rest fault → values ≡ v ∷ others
    → fits v × ((beyond : List ℕ) × HasRead body_at most r0 r2 (framed (body v) ++ beyond))
replies {T} body fits body_at most r0 r2 bytes values others rest fault v read stream e =
    let whole : bytes ≡ framed (body v) ++ (frames body others ++ rest) =
    stream.whole ∙ ap (λ (vs : List T). frames body vs ++ rest) e ∙ frames-cons body v others rest in
    let each : AllByRecursion fits (v ∷ others) = subst (AllByRecursion fits) e stream.each in
    (each.0, (frames body others ++ rest, subst (HasRead body_at most r0 r2) whole read))

-- with no value: the bytes are the rest
no_value : {T : Type 0} (body : T → List ℕ) (fits : T → Type 0) (body_at : List ℕ → Result T Fault) (most : ℕ)
    → (bytes : List ℕ) (values : List T) (rest : List ℕ) (fault : Option Fault)
    → IsStream body fits body_at most bytes values rest fault → values ≡ [] → next_of body_at most bytes ≡ rest_of fault
no_value {T} body fits body_at most bytes values rest fault stream e =
    ap (next_of body_at most) (stream.whole ∙ ap (λ (vs : List T). frames body vs ++ rest) e) ∙ stream.ends

-- and a fault
pub no_reply : {T : Type 0} (body : T → List ℕ) (fits : T → Type 0) (body_at : List ℕ → Result T Fault) (most : ℕ) (r0 r2 : Known)
    → (bytes : List ℕ) (values : List T) (rest : List ℕ) (fault : Option Fault)
    → HasRead body_at most r0 r2 bytes → IsStream body fits body_at most bytes values rest fault → values ≡ [] → is_some fault ≡ true
    → (x : List ℕ) × HasRead body_at most r0 r2 x × HasNoFrame (next_of body_at most x) r2
no_reply body fits body_at most r0 r2 bytes values rest None read stream e is = absurd cc
no_reply body fits body_at most r0 r2 bytes values rest (Some f) read stream e is =
    (bytes, read, inl (f, no_value body fits body_at most bytes values rest (Some f) stream e))

-- and no fault
pub waits_on : {T : Type 0} (body : T → List ℕ) (fits : T → Type 0) (body_at : List ℕ → Result T Fault) (most : ℕ) (r0 r2 : Known)
    → (bytes : List ℕ) (values : List T) (fault : Option Fault) (held : Held)
    → HasRead body_at most r0 r2 bytes → IsStream body fits body_at most bytes values held.bytes fault
    → fault ≡ None → fault ≡ held.fault → held.bytes ≡ bytes → length held.bytes < 4 + most → Waits body_at most r0 r2 held
waits_on body fits body_at most r0 r2 bytes values fault held read stream none same grew short =
    record {
      read = subst (Consumes r0 r2) (sym grew) read.read;
      none = sym same ∙ none;
      unfinished = stream.ends ∙ ap rest_of none;
      short = short;
    }

pub none_of : {T : Type 0} (o : Option T) → is_some o ≡ false → o ≡ None
none_of None e = refl
none_of (Some x) e = absurd cc

-- and no memory for it
pub unfed : {T : Type 0} (body : T → List ℕ) (fits : T → Type 0) (body_at : List ℕ → Result T Fault) (most : ℕ) (r0 r2 : Known)
    → (bytes : List ℕ) (result : Result T AskFault) → HasRead body_at most r0 r2 bytes → 0 < length bytes
    → IsErrAnd result (λ fault. fault ≡ OutOfMemory) → Receives body fits body_at most r0 r2 result
unfed body fits body_at most r0 r2 bytes (Ok v) read some is = absurd is
unfed body fits body_at most r0 r2 bytes (Err Socket) read some is = absurd cc
unfed body fits body_at most r0 r2 bytes (Err Frame) read some is = absurd cc
unfed body fits body_at most r0 r2 bytes (Err OutOfMemory) read some is = (bytes, read, some)

-- there is no first value: there is none
pub no_values : {T : Type 0} (values : List T) (n : ℕ) (first : Option T) → n ≡ length values → (0 < n → IsSome first) → first ≡ None → values ≡ []
no_values [] n first e some none = refl
no_values (v ∷ vs) n first e some none = let k : false ≡ true = subst IsSome none (some (omega (arith, e))) in absurd cc

-- what is held grows towards its limit
pub closer : (most : ℕ) (held piece new : List ℕ) → new ≡ held ++ piece → 0 < length piece → length new < 4 + most → (4 + most) - length new < (4 + most) - length held
closer most held piece new grew some short = omega (arith, ap length grew, length-append held piece)

-- a read failed
pub unread : {T : Type 0} (body_at : List ℕ → Result T Fault) (most : ℕ) (r0 r1 r2 : Known) (held : Held) → Waits body_at most r0 r1 held → Keeps r1 r2
    → (x : List ℕ) × Consumes r0 r2 x × (next_of body_at most x ≡ More)
unread body_at most r0 r1 r2 held waits kept = (held.bytes, Consumes-kept r0 r1 r2 held.bytes waits.read kept, waits.unfinished)
