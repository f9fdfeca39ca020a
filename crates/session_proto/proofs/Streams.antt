-- A stream is cut in one way, and a piece more is cut where the bytes before it were.
use Rattle.std.proofs.Common.{◌≡◌, ℕ, ◌+◌, ◌<◌, ◌≤◌, List, [], ◌∷◌, ◌++◌, length, drop, Result, Ok, Err, Option, Some, None, refl, sym, ap, ◌∙◌, append_assoc, arith}
use Rattle.std.specs.List.{AllByRecursion}
use Rattle.std.specs.Result.{OnErr}
use Rattle.std.proofs.lemmas.List.{append-nil, append_cancel_left, take-append-drop, drop-drop, length-drop}
use Rattle.std.proofs.lemmas.List.Concat.{flat_map-append}
use Rattle.session_proto.specs.Frame.{IsBytes, IsFrame, framed}
use Rattle.session_proto.specs.Reading.{next_of}
use Rattle.session_proto.specs.Stream.{frames, rest_of, IsStream, Held, HasCome}
use Rattle.session_proto.specs.declared.fault.Fault.{Fault}
use Rattle.session_proto.specs.declared.next.Next.{Next}
use Rattle.session_proto.specs.declared.next.Next.TheVariants.{Bad, Whole}
use Rattle.session_proto.proofs.Frames.{IsBytes-drop}
use Rattle.session_proto.proofs.Nexts.{IsSide, next_framed, next_found, next_short, bad_more}

-- ---- one frame

same_whole : {T : Type 0} (v w : T) (m n : ℕ) (a b : Next T) → a ≡ Whole v m → b ≡ Whole w n → a ≡ b → v ≡ w
same_whole v w m n a b p q e = let s : Whole v m ≡ Whole w n = cc in cc

pub one_front : {T : Type 0} (body : T → List ℕ) (fits : T → Type 0) (body_at : List ℕ → Result T Fault) (most : ℕ) → IsSide body fits body_at most
    → (v w : T) (x y : List ℕ) → fits v → fits w → framed (body v) ++ x ≡ framed (body w) ++ y → (v ≡ w) × (x ≡ y)
one_front body fits body_at most side v w x y p q e =
    let same = same_whole v w (4 + length (body v)) (4 + length (body w)) (next_of body_at most (framed (body v) ++ x)) (next_of body_at most (framed (body w) ++ y))
    (next_framed body fits body_at most side v x p) (next_framed body fits body_at most side w y q) (ap (next_of body_at most) e) in
    (same, append_cancel_left (framed (body v)) x y (e ∙ ap (λ z. framed (body z) ++ y) (sym same)))

pub frames_apart : {T : Type 0} (body : T → List ℕ) (fits : T → Type 0) (body_at : List ℕ → Result T Fault) (most : ℕ) → IsSide body fits body_at most
    → (v w : T) (x : List ℕ) → IsFrame body fits v x → IsFrame body fits w x → v ≡ w
frames_apart body fits body_at most side v w x p q =
    (one_front body fits body_at most side v w [] [] p.0 q.0 (ap (λ (z : List ℕ). z ++ []) (sym p.1 ∙ q.1))).0

pub frames_no_prefix : {T : Type 0} (body : T → List ℕ) (fits : T → Type 0) (body_at : List ℕ → Result T Fault) (most : ℕ) → IsSide body fits body_at most
    → (v w : T) (x rest : List ℕ) → IsFrame body fits v x → IsFrame body fits w (x ++ rest) → rest ≡ []
frames_no_prefix body fits body_at most side v w x rest p q =
    (one_front body fits body_at most side v w rest [] p.0 q.0 (ap (λ (z : List ℕ). z ++ rest) (sym p.1) ∙ q.1 ∙ sym (append-nil (framed (body w))))).1

-- ---- one reading

frames-cons : {T : Type 0} (body : T → List ℕ) (v : T) (vs : List T) (rest : List ℕ) → frames body (v ∷ vs) ++ rest ≡ framed (body v) ++ (frames body vs ++ rest)
frames-cons body v vs rest = append_assoc (framed (body v)) (frames body vs) rest

no_whole : {T : Type 0} (fault : Option Fault) (v : T) (n : ℕ) (next : Next T) → next ≡ rest_of fault → next ≡ Whole v n → ⊥
no_whole None v n next p q = cc
no_whole (Some f) v n next p q = cc

same_rest : (f g : Option Fault) → (T : Type 0) → (next : Next T) → next ≡ rest_of f → next ≡ rest_of g → f ≡ g
same_rest None None T next p q = refl
same_rest None (Some g) T next p q = absurd cc
same_rest (Some f) None T next p q = absurd cc
same_rest (Some f) (Some g) T next p q = let e : Bad f ≡ Bad g = sym p ∙ q in cc

pub one_cut : {T : Type 0} (body : T → List ℕ) (fits : T → Type 0) (body_at : List ℕ → Result T Fault) (most : ℕ) → IsSide body fits body_at most
    → (stream : List ℕ) (vs ws : List T) (x y : List ℕ) (f g : Option Fault)
    → IsStream body fits body_at most stream vs x f → IsStream body fits body_at most stream ws y g → (vs ≡ ws) × (x ≡ y) × (f ≡ g)
one_cut {T} body fits body_at most side stream [] [] x y f g p q =
    let same : x ≡ y = sym p.whole ∙ q.whole in
    (refl, same, same_rest f g T (next_of body_at most x) p.ends (ap (next_of body_at most) same ∙ q.ends))
one_cut body fits body_at most side stream [] (w ∷ ws) x y f g p q =
    let start : x ≡ framed (body w) ++ (frames body ws ++ y) = sym p.whole ∙ q.whole ∙ frames-cons body w ws y in
    absurd (no_whole f w (4 + length (body w)) (next_of body_at most x) p.ends (ap (next_of body_at most) start ∙ next_framed body fits body_at most side w (frames body ws ++ y) q.each.0))
one_cut body fits body_at most side stream (v ∷ vs) [] x y f g p q =
    let start : y ≡ framed (body v) ++ (frames body vs ++ x) = sym q.whole ∙ p.whole ∙ frames-cons body v vs x in
    absurd (no_whole g v (4 + length (body v)) (next_of body_at most y) q.ends (ap (next_of body_at most) start ∙ next_framed body fits body_at most side v (frames body vs ++ x) p.each.0))
one_cut {T} body fits body_at most side stream (v ∷ vs) (w ∷ ws) x y f g p q =
    let first = one_front body fits body_at most side v w (frames body vs ++ x) (frames body ws ++ y) p.each.0 q.each.0
    (sym (frames-cons body v vs x) ∙ sym p.whole ∙ q.whole ∙ frames-cons body w ws y) in
    let others = one_cut body fits body_at most side (frames body vs ++ x) vs ws x y f g
    (record { whole = refl; each = p.each.1; ends = p.ends }) (record { whole = first.1; each = q.each.1; ends = q.ends }) in
    let head = first.0 in
    let tail = others.0 in
    let lists : v ∷ vs ≡ w ∷ ws = cc in
    (lists, others.1, others.2)

-- ---- a front that is cut

-- these values' frames are the front of this length
pub record IsCut {T : Type 0} (body : T → List ℕ) (fits : T → Type 0) (bytes : List ℕ) (values : List T) (size : ℕ) : Type 0 where
  pub within : size ≤ length bytes
  pub front : bytes ≡ frames body values ++ drop size bytes
  pub each : AllByRecursion fits values

frames_of_one : {T : Type 0} (body : T → List ℕ) (v : T) → frames body (v ∷ []) ≡ framed (body v)
frames_of_one body v = append-nil (framed (body v))

each-push : {T : Type 0} (fits : T → Type 0) (vs : List T) (v : T) → AllByRecursion fits vs → fits v → AllByRecursion fits (vs ++ v ∷ [])
each-push fits [] v p q = (q, tt)
each-push fits (w ∷ ws) v p q = (p.0, each-push fits ws v p.1 q)

each-append : {T : Type 0} (fits : T → Type 0) (vs ws : List T) → AllByRecursion fits vs → AllByRecursion fits ws → AllByRecursion fits (vs ++ ws)
each-append fits [] ws p q = q
each-append fits (v ∷ vs) ws p q = (p.0, each-append fits vs ws p.1 q)

pub cut_more : {T : Type 0} (body : T → List ℕ) (fits : T → Type 0) (body_at : List ℕ → Result T Fault) (most : ℕ) → IsSide body fits body_at most
    → (bytes : List ℕ) (values : List T) (size : ℕ) (v : T) (more : ℕ) → IsBytes bytes → IsCut body fits bytes values size
    → next_of body_at most (drop size bytes) ≡ Whole v more → IsCut body fits bytes (values ++ v ∷ []) (size + more) × (0 < more)
cut_more body fits body_at most side bytes values size v more are cut e =
    let found = next_found body fits body_at most side (drop size bytes) v more (IsBytes-drop size bytes are) e in
    let len = length-drop size bytes in
    let rest : drop size bytes ≡ framed (body v) ++ drop (size + more) bytes =
    sym (take-append-drop more (drop size bytes)) ∙ ap (λ (x : List ℕ). x ++ drop more (drop size bytes)) found.is_frame ∙ ap (λ (x : List ℕ). framed (body v) ++ x) (drop-drop more size bytes) in
    let joined : frames body (values ++ v ∷ []) ≡ frames body values ++ framed (body v) =
    flat_map-append (λ w. framed (body w)) values (v ∷ []) ∙ ap (λ (x : List ℕ). frames body values ++ x) (frames_of_one body v) in (
      record {
        within = omega (arith, found.within, cut.within, len);
        front = cut.front ∙ ap (λ (x : List ℕ). frames body values ++ x) rest ∙ sym (append_assoc (frames body values) (framed (body v)) (drop (size + more) bytes))
            ∙ ap (λ (x : List ℕ). x ++ drop (size + more) bytes) (sym joined);
        each = each-push fits values v cut.each found.does_fit;
      },
      omega (arith, found.low),
    )

pub cut_ends : {T : Type 0} (body : T → List ℕ) (fits : T → Type 0) (body_at : List ℕ → Result T Fault) (most : ℕ)
    → (bytes : List ℕ) (values : List T) (size : ℕ) (fault : Option Fault) → IsCut body fits bytes values size
    → next_of body_at most (drop size bytes) ≡ rest_of fault → IsStream body fits body_at most bytes values (drop size bytes) fault
cut_ends body fits body_at most bytes values size fault cut e = record { whole = cut.front; each = cut.each; ends = e }

-- ---- a piece more

-- a piece is cut where the rest before it was
pub stream_more : {T : Type 0} (body : T → List ℕ) (fits : T → Type 0) (body_at : List ℕ → Result T Fault) (most : ℕ)
    → (stream held piece : List ℕ) (before values : List T) (rest : List ℕ) (fault : Option Fault)
    → IsStream body fits body_at most stream before held None → IsStream body fits body_at most (held ++ piece) values rest fault
    → IsStream body fits body_at most (stream ++ piece) (before ++ values) rest fault
stream_more body fits body_at most stream held piece before values rest fault first second =
    record {
      whole = ap (λ (x : List ℕ). x ++ piece) first.whole ∙ append_assoc (frames body before) held piece
          ∙ ap (λ (x : List ℕ). frames body before ++ x) second.whole ∙ sym (append_assoc (frames body before) (frames body values) rest)
          ∙ ap (λ (x : List ℕ). x ++ rest) (sym (flat_map-append (λ v. framed (body v)) before values));
      each = each-append fits before values first.each second.each;
      ends = second.ends;
    }

-- and behind a fault all is rest
pub bad_stays : {T : Type 0} (body : T → List ℕ) (fits : T → Type 0) (body_at : List ℕ → Result T Fault) (most : ℕ)
    → (stream held piece : List ℕ) (values : List T) (f : Fault)
    → IsStream body fits body_at most stream values held (Some f) → IsStream body fits body_at most (stream ++ piece) values (held ++ piece) (Some f)
bad_stays body fits body_at most stream held piece values f bad =
    record {
      whole = ap (λ (x : List ℕ). x ++ piece) bad.whole ∙ append_assoc (frames body values) held piece;
      each = bad.each;
      ends = bad_more body_at most held piece f bad.ends;
    }

pub comes_unheld : {T : Type 0} (body : T → List ℕ) (fits : T → Type 0) (body_at : List ℕ → Result T Fault) (most : ℕ)
    → (held : Held) (stream piece : List ℕ) (before : List T) (f : Fault)
    → held.fault ≡ Some f → HasCome body fits body_at most held stream before
    → HasCome body fits body_at most held (stream ++ piece) (before ++ [])
comes_unheld {T} body fits body_at most held stream piece before f is came =
    let bad : next_of body_at most (held.bytes ++ came.unheld) ≡ Bad f = came.reads.ends ∙ ap rest_of is in
    let more : next_of body_at most ((held.bytes ++ came.unheld) ++ piece) ≡ Bad f = bad_more body_at most (held.bytes ++ came.unheld) piece f bad in
    let same : before ++ [] ≡ before = append-nil before in
    record {
      unheld = came.unheld ++ piece;
      reads = record {
        whole = ap (λ (x : List ℕ). x ++ piece) came.reads.whole ∙ append_assoc (frames body before) (held.bytes ++ came.unheld) piece
            ∙ ap (λ (x : List ℕ). frames body before ++ x) (append_assoc held.bytes came.unheld piece)
            ∙ ap (λ (vs : List T). frames body vs ++ (held.bytes ++ (came.unheld ++ piece))) (sym same);
        each = each-append fits before [] came.reads.each tt;
        ends = ap (next_of body_at most) (sym (append_assoc held.bytes came.unheld piece)) ∙ more ∙ sym (ap rest_of is);
      };
      all_held = λ none. let e : Some f ≡ None = sym is ∙ none in absurd cc;
    }

-- a piece is read behind what is held
pub reads_piece : {T : Type 0} {body : T → List ℕ} {fits : T → Type 0} {body_at : List ℕ → Result T Fault} {most : ℕ}
    → {now bytes rest : List ℕ} {values : List T} {fault : Option Fault} (held piece : List ℕ) (size : ℕ) → now ≡ held ++ piece → bytes ≡ now → rest ≡ drop size now
    → IsStream body fits body_at most bytes values (drop size bytes) fault → IsStream body fits body_at most (held ++ piece) values rest fault
reads_piece held piece size a b d reads = rw (d, ← a, ← b) reads

pub none_of : (fault : Option Fault) → ((f : Fault) → fault ≡ Some f → ⊥) → fault ≡ None
none_of None none = refl
none_of (Some f) none = absurd (none f refl)

-- without a fault a piece comes behind what is held
pub comes_piece : {T : Type 0} {body : T → List ℕ} {fits : T → Type 0} {body_at : List ℕ → Result T Fault} {most : ℕ}
    → {next : Held} {before values : List T} (held : Held) (stream piece : List ℕ)
    → ((f : Fault) → held.fault ≡ Some f → ⊥) → IsStream body fits body_at most (held.bytes ++ piece) values next.bytes next.fault
    → HasCome body fits body_at most held stream before → HasCome body fits body_at most next (stream ++ piece) (before ++ values)
comes_piece {body} {fits} {body_at} {most} {next} {before} {values} held stream piece none reads came =
    let all : held.bytes ++ came.unheld ≡ held.bytes = ap (λ (x : List ℕ). held.bytes ++ x) (came.all_held (none_of held.fault none)) ∙ append-nil held.bytes in
    let same : next.bytes ++ [] ≡ next.bytes = append-nil next.bytes in
    record {
      unheld = [];
      reads = record {
        whole = ap (λ (x : List ℕ). x ++ piece) (came.reads.whole ∙ ap (λ (x : List ℕ). frames body before ++ x) all)
            ∙ append_assoc (frames body before) held.bytes piece ∙ ap (λ (x : List ℕ). frames body before ++ x) reads.whole
            ∙ sym (append_assoc (frames body before) (frames body values) next.bytes)
            ∙ ap (λ (x : List ℕ). x ++ next.bytes) (sym (flat_map-append (λ v. framed (body v)) before values))
            ∙ ap (λ (x : List ℕ). frames body (before ++ values) ++ x) (sym same);
        each = each-append fits before values came.reads.each reads.each;
        ends = ap (next_of body_at most) same ∙ reads.ends;
      };
      all_held = λ _. refl;
    }

-- where no value comes no byte is let go
pub grows_by : {T : Type 0} {body : T → List ℕ} {fits : T → Type 0} {body_at : List ℕ → Result T Fault} {most : ℕ} {stream rest : List ℕ} {values : List T} {fault : Option Fault}
    → IsStream body fits body_at most stream values rest fault → values ≡ [] → rest ≡ stream
grows_by {body} {rest} reads none = sym (reads.whole ∙ ap (λ vs. frames body vs ++ rest) none)

-- what holds in any case holds where growth was refused
pub refused : {T E P : Type 0} (r : Result T E) → P → OnErr r P
refused (Ok v) p = tt
refused (Err e) p = p

-- no fault is not a fault
pub is_fault : (f : Fault) → ◌≡◌ {A = Option Fault} (Some f) None → ⊥
is_fault f e = cc

pub none_came : {T : Type 0} (body : T → List ℕ) (fits : T → Type 0) (body_at : List ℕ → Result T Fault) (most : ℕ) (held : Held)
    → held.bytes ≡ [] → held.fault ≡ None → HasCome body fits body_at most held [] []
none_came body fits body_at most held none no_fault =
    record {
      unheld = [];
      reads = record {
        whole = ap (λ (x : List ℕ). x ++ []) (sym none);
        each = tt;
        ends = ap (λ (x : List ℕ). next_of body_at most (x ++ [])) none ∙ next_short body_at most [] (omega arith) ∙ sym (ap rest_of no_fault);
      };
      all_held = λ _. refl;
    }
