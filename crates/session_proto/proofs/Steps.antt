-- What each step of a session makes of what is known so far.
use Rattle.std.proofs.Common.{◌≡◌, ℕ, Bool, true, false, cond, is_some, ◌+◌, ◌-◌, ◌*◌, ◌<◌, ◌≤◌, List, [], ◌∷◌, ◌++◌, length, take, drop, Result, Ok, Err, Option, Some, None, refl, sym, ap, ◌∙◌, subst, append_assoc, append-nil, take-append-drop, length-append, length-drop, length-take-le, take_all, arith, inl, inr}
use Rattle.std.specs.Io.KnownBytes.{Appends, Consumes, Keeps, IsAtEnd}
use Rattle.std.proofs.lemmas.Bool.{cases_eq}
use Rattle.std.proofs.lemmas.List.Concat.{flat_map-append}
use Rattle.plain.specs.declared.answer.Answer.{Answer}
use Rattle.host_calls.specs.declared.client.ClientCall.{ClientCall}
use Rattle.host_calls.specs.declared.ring.Closed.{Closed as HasClosed}
use Rattle.session_proto.specs.Frame.{framed}
use Rattle.session_proto.specs.declared.version.Version.{Version}
use Rattle.session_proto.specs.Opened.{IsCalls, HeldCalls, HaveCome, HasRoomLess}
use Rattle.session_proto.specs.declared.fault.Fault.{Fault}
use Rattle.session_proto.specs.declared.feeder.Fed.{Fed}
use Rattle.session_proto.specs.declared.client.Client.{Client}
use Rattle.session_proto.specs.Asked.{Known, AreAsked, answer_body, frame_of, frames_of}
use Rattle.session_proto.specs.Served.{ReadsUnder, HasRead, HasServed}
use Rattle.session_proto.specs.SoFar.{ReadSoFar, Reads, Standing, SoFar}
use Rattle.session_proto.specs.declared.end.EndCause.{EndCause}
use Rattle.session_proto.specs.declared.end.EndCause.TheVariants.{Ended, ReadFault, WriteFault, BadFrame, FrameLimit, Closed, OutOfMemory}
use Rattle.session_proto.proofs.Bytes.{Appends-none, Appends-more, Consumes-none, Consumes-kept, Consumes-more}

-- ---- reading

-- what has come, as a stream, where no fault has
sound_stream : (held : HeldCalls) (bytes : List ℕ) (calls : List Client) → held.fault ≡ None → HaveCome held bytes calls → IsCalls bytes calls held.bytes None
sound_stream held bytes calls sound come =
    let all : held.bytes ++ come.unheld ≡ held.bytes = ap (λ (x : List ℕ). held.bytes ++ x) (come.all_held sound) ∙ append-nil held.bytes in
    subst (λ (f : Option Fault). IsCalls bytes calls held.bytes f) sound
    (subst (λ (x : List ℕ). IsCalls bytes calls x held.fault) all come.reads)

-- a piece that is read now is read under the limit, and at no fault
piece_under : (limit : ℕ) (held : HeldCalls) (bytes piece : List ℕ) (calls : List Client) → held.fault ≡ None → HaveCome held bytes calls
    → length calls < limit → length piece ≤ 8192 → ReadsUnder limit (length calls) (bytes ++ piece)
piece_under limit held bytes piece calls sound come under few =
    inr (record {
      before = bytes;
      piece = piece;
      pieces = refl;
      few = few;
      earlier = calls;
      rest = held.bytes;
      stream = sound_stream held bytes calls sound come;
      under = under;
      none_waits = omega arith;
    })

-- with more calls asked
more_asked : (limit n m : ℕ) (bytes : List ℕ) → n ≤ m → ReadsUnder limit n bytes → ReadsUnder limit m bytes
more_asked limit n m bytes le (inl none) = inl none
more_asked limit n m bytes le (inr last) =
    inr (record {
      before = last.before;
      piece = last.piece;
      pieces = last.pieces;
      few = last.few;
      earlier = last.earlier;
      rest = last.rest;
      stream = last.stream;
      under = last.under;
      none_waits = omega (arith, le, last.none_waits);
    })

-- nothing more was read
nothing_more : (limit : ℕ) (r0 r1 r2 : Known) (held : HeldCalls) (calls : List Client) → held.fault ≡ None → Consumes r1 r2 []
    → ReadSoFar limit (length calls) r0 r1 held calls → HasRead limit (length calls) r0 r2 calls held.bytes None []
nothing_more limit r0 r1 r2 held calls sound read past =
    let same : past.bytes ++ [] ≡ past.bytes = append-nil past.bytes in
    record {
      bytes = past.bytes;
      stream = sound_stream held past.bytes calls sound past.come;
      read = Consumes-more r0 r1 r2 past.bytes [] past.read read;
      under = subst (ReadsUnder limit (length calls)) (sym same) past.under;
    }

-- a read failed
pub read_fails : (limit : ℕ) (r0 r1 r2 : Known) (held : HeldCalls) (calls : List Client) → held.fault ≡ None → Keeps r1 r2
    → ReadSoFar limit (length calls) r0 r1 held calls → Reads limit r0 r2 held calls (Err ReadFault)
read_fails limit r0 r1 r2 held calls sound kept past =
    (held.bytes, None, [], nothing_more limit r0 r1 r2 held calls sound (Consumes-kept r1 r1 r2 [] (Consumes-none r1) kept) past, (refl, refl))

-- or inside one
pub input_breaks : (limit : ℕ) (r0 r1 r2 : Known) (held : HeldCalls) (calls : List Client) → held.fault ≡ None → Consumes r1 r2 [] → IsAtEnd r2
    → 0 < length held.bytes → ReadSoFar limit (length calls) r0 r1 held calls → Reads limit r0 r2 held calls (Err BadFrame)
input_breaks limit r0 r1 r2 held calls sound read end some past =
    (held.bytes, None, [], nothing_more limit r0 r1 r2 held calls sound read past, (some, refl, end, refl))

-- a piece came, and there was no memory for it
pub piece_unfed : (limit : ℕ) (r0 r1 r2 : Known) (held : HeldCalls) (calls : List Client) (piece : List ℕ) → held.fault ≡ None
    → Consumes r1 r2 piece → 0 < length piece → length piece ≤ 8192 → length calls < limit
    → ReadSoFar limit (length calls) r0 r1 held calls → Reads limit r0 r2 held calls (Err OutOfMemory)
piece_unfed limit r0 r1 r2 held calls piece sound read some few under past = (
  held.bytes,
  None,
  piece,
  record {
    bytes = past.bytes;
    stream = sound_stream held past.bytes calls sound past.come;
    read = Consumes-more r0 r1 r2 past.bytes piece past.read read;
    under = piece_under limit held past.bytes piece calls sound past.come under few;
  },
  (some, few),
)

-- a piece came, and its calls with it
pub piece_fed : (limit : ℕ) (r0 r1 r2 : Known) (held next : HeldCalls) (calls : List Client) (piece : List ℕ) (fed : Fed Client) → held.fault ≡ None
    → Consumes r1 r2 piece → length piece ≤ 8192 → length calls < limit
    → ((bytes : List ℕ) (before : List Client) → HaveCome held bytes before → HaveCome next (bytes ++ piece) (before ++ fed.values.items))
    → ReadSoFar limit (length calls) r0 r1 held calls → Reads limit r0 r2 next calls (Ok fed)
piece_fed limit r0 r1 r2 held next calls piece fed sound read few under comes past =
    record {
      bytes = past.bytes ++ piece;
      come = comes past.bytes calls past.come;
      read = Consumes-more r0 r1 r2 past.bytes piece past.read read;
      under = piece_under limit held past.bytes piece calls sound past.come under few;
    }

-- ---- asking

abbrev Asking : Type 0 → Type 1
Asking A = A → ClientCall → Result Answer HasClosed → A → Type 0

-- a first call
pub begun : {A : Type 0} (asks : Asking A) (limit : ℕ) (start : Standing A) (held : HeldCalls) (calls written : ℕ) → HaveCome held [] []
    → calls ≡ 0 → written ≡ 0 → SoFar asks limit start start held [] calls written
begun asks limit start held calls written come none no_bytes =
    record {
      asked = [];
      comes = record { bytes = []; come = come; read = Consumes-none start.input; under = inl refl };
      answers = [];
      answered = refl;
      counted = none;
      appends = Appends-none start.output;
      totalled = no_bytes;
    }

-- the calls that wait, written otherwise
pub same_calls : {A : Type 0} (asks : Asking A) (limit : ℕ) (start now : Standing A) (held : HeldCalls) (waiting others : List Client) (calls written : ℕ)
    → waiting ≡ others → SoFar asks limit start now held waiting calls written → SoFar asks limit start now held others calls written
same_calls asks limit start now held waiting others calls written e past =
    subst (λ (ws : List Client). SoFar asks limit start now held ws calls written) e past

-- there is a next piece: fewer calls were asked than may be
pub may_read : {A : Type 0} (asks : Asking A) (limit : ℕ) (start now : Standing A) (held : HeldCalls) (calls written : ℕ)
    → (past : SoFar asks limit start now held [] calls written) → calls < limit → length (past.asked ++ []) < limit
may_read asks limit start now held calls written past under = omega (arith, under, past.counted, length-append past.asked [])

-- and all calls that came were asked
pub all_come : {A : Type 0} (asks : Asking A) (limit : ℕ) (start now : Standing A) (held : HeldCalls) (calls written : ℕ)
    → (past : SoFar asks limit start now held [] calls written)
    → ReadSoFar limit (length (past.asked ++ [])) start.input now.input held (past.asked ++ [])
all_come asks limit start now held calls written past =
    subst (λ (n : ℕ). ReadSoFar limit n start.input now.input held (past.asked ++ [])) (ap length (sym (append-nil past.asked))) past.comes

pub some_of : {T : Type 0} (o : Option T) → is_some o ≡ true → (x : T) × (o ≡ Some x)
some_of None e = absurd cc
some_of (Some x) e = (x, refl)

pub none_of : {T : Type 0} (o : Option T) → is_some o ≡ false → o ≡ None
none_of None e = refl
none_of (Some x) e = absurd cc

-- one call more was asked, and answered
asked_more : {A : Type 0} (asks : Asking A) (a b c : A) (calls : List Client) (answers : List Answer) (call : Client) (answer : Answer)
    → AreAsked asks a calls answers b → asks b call.0 (Ok answer) c → AreAsked asks a (calls ++ call ∷ []) (answers ++ answer ∷ []) c
asked_more {A} asks a b c [] [] call answer run one = (c, subst (λ (x : A). asks x call.0 (Ok answer) c) run one, refl)
asked_more asks a b c [] (r ∷ rs) call answer run one = absurd run
asked_more asks a b c (q ∷ qs) [] call answer run one = absurd run
asked_more asks a b c (q ∷ qs) (r ∷ rs) call answer run one = (run.0, run.1, asked_more asks run.0 b c qs rs call answer run.2 one)

-- and its frame comes behind the others
frames_more : (answers : List Answer) (answer : Answer) → frames_of (answers ++ answer ∷ []) ≡ frames_of answers ++ frame_of answer
frames_more answers answer =
    flat_map-append (λ r. framed (answer_body r)) answers (answer ∷ []) ∙ ap (λ (x : List ℕ). frames_of answers ++ x) (append-nil (frame_of answer))

-- what has come is what was read
was_read : (limit asked : ℕ) (r0 r1 : Known) (held : HeldCalls) (calls : List Client) (past : ReadSoFar limit asked r0 r1 held calls)
    → HasRead limit asked r0 r1 calls (held.bytes ++ past.come.unheld) held.fault []
was_read limit asked r0 r1 held calls past =
    let same : past.bytes ≡ past.bytes ++ [] = sym (append-nil past.bytes) in
    record {
      bytes = past.bytes;
      stream = past.come.reads;
      read = subst (Consumes r0 r1) same past.read;
      under = subst (ReadsUnder limit asked) same past.under;
    }

one_longer : {T : Type 0} (xs : List T) (x : T) → length (xs ++ x ∷ []) ≡ length xs + 1
one_longer xs x = length-append xs (x ∷ [])

-- the first call that waits is asked
first_asked : (limit : ℕ) (r0 r1 : Known) (held : HeldCalls) (asked waiting : List Client) (call : Client)
    → ReadSoFar limit (length asked) r0 r1 held (asked ++ call ∷ waiting)
    → ReadSoFar limit (length (asked ++ call ∷ [])) r0 r1 held ((asked ++ call ∷ []) ++ waiting)
first_asked limit r0 r1 held asked waiting call past =
    record {
      bytes = past.bytes;
      come = subst (HaveCome held past.bytes) (sym (append_assoc asked (call ∷ []) waiting)) past.come;
      read = past.read;
      under = more_asked limit (length asked) (length (asked ++ call ∷ [])) past.bytes (omega (arith, one_longer asked call)) past.under;
    }

-- a call was answered, and the answer's frame written whole
pub goes_on : {A : Type 0} (asks : Asking A) (limit : ℕ) (start : Standing A) (input w1 w2 : Known) (a1 a2 : A) (held : HeldCalls)
    → (call : Client) (waiting : List Client) (calls written : ℕ) (answer : Answer) (bytes : List ℕ) (n : ℕ)
    → SoFar asks limit start (record { input = input; output = w1; asker = a1 }) held (call ∷ waiting) calls written
    → asks a1 call.0 (Ok answer) a2 → bytes ≡ frame_of answer → Appends w1 w2 (take n bytes) → n ≤ length bytes → length bytes ≤ n
    → SoFar asks limit start (record { input = input; output = w2; asker = a2 }) held waiting (calls + 1) (written + n)
goes_on asks limit start input w1 w2 a1 a2 held call waiting calls written answer bytes n past one is wrote few all =
    let whole : take n bytes ≡ frame_of answer = take_all n bytes all ∙ is in
    record {
      asked = past.asked ++ call ∷ [];
      comes = first_asked limit start.input input held past.asked waiting call past.comes;
      answers = past.answers ++ answer ∷ [];
      answered = asked_more asks start.asker a1 a2 past.asked past.answers call answer past.answered one;
      counted = omega (arith, past.counted, one_longer past.asked call);
      appends = subst (Appends start.output w2) (sym (frames_more past.answers answer))
          (Appends-more start.output w1 w2 (frames_of past.answers) (frame_of answer) past.appends (subst (Appends w1 w2) whole wrote));
      totalled = omega (
        arith,
        past.totalled,
        few,
        all,
        ap length is,
        ap length (frames_more past.answers answer),
        length-append (frames_of past.answers) (frame_of answer),
      );
    }

-- a call found the host ended
pub finds_closed : {A : Type 0} (asks : Asking A) (limit : ℕ) (start : Standing A) (input w1 : Known) (a1 a2 : A) (held : HeldCalls)
    → (call : Client) (waiting : List Client) (calls written : ℕ) (closed : HasClosed)
    → SoFar asks limit start (record { input = input; output = w1; asker = a1 }) held (call ∷ waiting) calls written
    → asks a1 call.0 (Err closed) a2
    → HasServed asks limit start.input input start.output w1 start.asker a2 Closed (calls + 1) written
finds_closed asks limit start input w1 a1 a2 held call waiting calls written closed past one =
    let comes = first_asked limit start.input input held past.asked waiting call past.comes in
    record {
      asked = past.asked ++ call ∷ [];
      unasked = waiting;
      rest = held.bytes ++ comes.come.unheld;
      fault = held.fault;
      unfed = [];
      input = was_read limit _ start.input input held ((past.asked ++ call ∷ []) ++ waiting) comes;
      answers = past.answers;
      answered = (past.asked, call, a1, closed, refl, past.answered, one);
      counted = omega (arith, past.counted, one_longer past.asked call);
      text = frames_of past.answers;
      appends = past.appends;
      wrote = refl;
      totalled = past.totalled;
      ends = omega arith;
      misses = inl refl;
    }

-- there was no memory for an answer's frame
pub finds_no_memory : {A : Type 0} (asks : Asking A) (limit : ℕ) (start : Standing A) (input w1 : Known) (a1 a2 : A) (held : HeldCalls)
    → (call : Client) (waiting : List Client) (calls written : ℕ) (answer : Answer)
    → SoFar asks limit start (record { input = input; output = w1; asker = a1 }) held (call ∷ waiting) calls written
    → asks a1 call.0 (Ok answer) a2
    → HasServed asks limit start.input input start.output w1 start.asker a2 OutOfMemory (calls + 1) written
finds_no_memory asks limit start input w1 a1 a2 held call waiting calls written answer past one =
    let comes = first_asked limit start.input input held past.asked waiting call past.comes in
    record {
      asked = past.asked ++ call ∷ [];
      unasked = waiting;
      rest = held.bytes ++ comes.come.unheld;
      fault = held.fault;
      unfed = [];
      input = was_read limit _ start.input input held ((past.asked ++ call ∷ []) ++ waiting) comes;
      answers = past.answers ++ answer ∷ [];
      answered = asked_more asks start.asker a1 a2 past.asked past.answers call answer past.answered one;
      counted = omega (arith, past.counted, one_longer past.asked call);
      text = frames_of past.answers;
      appends = past.appends;
      wrote = inl (past.answers, answer, refl, refl, refl);
      totalled = past.totalled;
      ends = tt;
      misses = inl refl;
    }

-- only a proper front of an answer's frame was written
pub write_fails : {A : Type 0} (asks : Asking A) (limit : ℕ) (start : Standing A) (input w1 w2 : Known) (a1 a2 : A) (held : HeldCalls)
    → (call : Client) (waiting : List Client) (calls written : ℕ) (answer : Answer) (bytes : List ℕ) (n : ℕ)
    → SoFar asks limit start (record { input = input; output = w1; asker = a1 }) held (call ∷ waiting) calls written
    → asks a1 call.0 (Ok answer) a2 → bytes ≡ frame_of answer → Appends w1 w2 (take n bytes) → n < length bytes
    → HasServed asks limit start.input input start.output w2 start.asker a2 WriteFault (calls + 1) (written + n)
write_fails asks limit start input w1 w2 a1 a2 held call waiting calls written answer bytes n past one is wrote few =
    let front : length (take n bytes) ≡ n = length-take-le n bytes (omega (arith, few)) in
    let comes = first_asked limit start.input input held past.asked waiting call past.comes in
    record {
      asked = past.asked ++ call ∷ [];
      unasked = waiting;
      rest = held.bytes ++ comes.come.unheld;
      fault = held.fault;
      unfed = [];
      input = was_read limit _ start.input input held ((past.asked ++ call ∷ []) ++ waiting) comes;
      answers = past.answers ++ answer ∷ [];
      answered = asked_more asks start.asker a1 a2 past.asked past.answers call answer past.answered one;
      counted = omega (arith, past.counted, one_longer past.asked call);
      text = frames_of past.answers ++ take n bytes;
      appends = Appends-more start.output w1 w2 (frames_of past.answers) (take n bytes) past.appends wrote;
      wrote = (
        past.answers,
        answer,
        take n bytes,
        refl,
        (drop n bytes, sym is ∙ sym (take-append-drop n bytes), omega (arith, few, length-drop n bytes)),
        refl,
      );
      totalled = omega (arith, past.totalled, front, length-append (frames_of past.answers) (take n bytes));
      ends = omega arith;
      misses = inl refl;
    }

-- as many calls were asked as may be
pub meets_limit : {A : Type 0} (asks : Asking A) (limit : ℕ) (start now : Standing A) (held : HeldCalls) (waiting : List Client) (calls written : ℕ)
    → calls ≡ limit → SoFar asks limit start now held waiting calls written
    → HasServed asks limit start.input now.input start.output now.output start.asker now.asker FrameLimit calls written
meets_limit asks limit start now held waiting calls written same past =
    record {
      asked = past.asked;
      unasked = waiting;
      rest = held.bytes ++ past.comes.come.unheld;
      fault = held.fault;
      unfed = [];
      input = was_read limit _ start.input now.input held (past.asked ++ waiting) past.comes;
      answers = past.answers;
      answered = past.answered;
      counted = past.counted;
      text = frames_of past.answers;
      appends = past.appends;
      wrote = refl;
      totalled = past.totalled;
      ends = same;
      misses = inl refl;
    }

-- all was asked, and there is a fault behind it
pub meets_fault : {A : Type 0} (asks : Asking A) (limit : ℕ) (start now : Standing A) (held : HeldCalls) (calls written : ℕ) (fault : Fault)
    → held.fault ≡ Some fault → calls < limit → SoFar asks limit start now held [] calls written
    → HasServed asks limit start.input now.input start.output now.output start.asker now.asker BadFrame calls written
meets_fault asks limit start now held calls written fault bad under past =
    record {
      asked = past.asked;
      unasked = [];
      rest = held.bytes ++ past.comes.come.unheld;
      fault = held.fault;
      unfed = [];
      input = was_read limit _ start.input now.input held (past.asked ++ []) past.comes;
      answers = past.answers;
      answered = past.answered;
      counted = past.counted;
      text = frames_of past.answers;
      appends = past.appends;
      wrote = refl;
      totalled = past.totalled;
      ends = (refl, under, inl (fault, bad));
      misses = inl refl;
    }

-- all was asked, and the reading goes on
pub reads_on : {A : Type 0} (asks : Asking A) (limit : ℕ) (start : Standing A) (input input2 w1 : Known) (a1 : A) (held next : HeldCalls) (calls written : ℕ)
    → (fed : Fed Client) (past : SoFar asks limit start (record { input = input; output = w1; asker = a1 }) held [] calls written)
    → Reads limit start.input input2 next (past.asked ++ []) (Ok fed)
    → SoFar asks limit start (record { input = input2; output = w1; asker = a1 }) next fed.values.items calls written
reads_on asks limit start input input2 w1 a1 held next calls written fed past reads =
    record {
      asked = past.asked;
      comes = subst (λ (x : List Client). ReadSoFar limit (length x) start.input input2 next (x ++ fed.values.items)) (append-nil past.asked) reads;
      answers = past.answers;
      answered = past.answered;
      counted = past.counted;
      appends = past.appends;
      totalled = past.totalled;
    }

-- all calls are asked
all_asked : (limit : ℕ) (r0 r1 : Known) (asked : List Client) (rest : List ℕ) (fault : Option Fault) (unfed : List ℕ)
    → HasRead limit (length (asked ++ [])) r0 r1 (asked ++ []) rest fault unfed → HasRead limit (length asked) r0 r1 (asked ++ []) rest fault unfed
all_asked limit r0 r1 asked rest fault unfed input =
    subst (λ (n : ℕ). HasRead limit n r0 r1 (asked ++ []) rest fault unfed) (ap length (append-nil asked)) input

-- or the session ends there
pub reads_no_more : {A : Type 0} (asks : Asking A) (limit : ℕ) (start : Standing A) (input input2 w1 : Known) (a1 : A) (held next : HeldCalls) (calls written : ℕ)
    → (cause : EndCause) (past : SoFar asks limit start (record { input = input; output = w1; asker = a1 }) held [] calls written)
    → calls < limit → Reads limit start.input input2 next (past.asked ++ []) (Err cause)
    → HasServed asks limit start.input input2 start.output w1 start.asker a1 cause calls written
reads_no_more asks limit start input input2 w1 a1 held next calls written Ended past under reads =
    record {
      asked = past.asked;
      unasked = [];
      rest = reads.0;
      fault = reads.1;
      unfed = reads.2;
      input = all_asked limit start.input input2 past.asked reads.0 reads.1 reads.2 reads.3;
      answers = past.answers;
      answered = past.answered;
      counted = past.counted;
      text = frames_of past.answers;
      appends = past.appends;
      wrote = refl;
      totalled = past.totalled;
      ends = (refl, under, reads.4.0, reads.4.1, reads.4.2);
      misses = inl reads.4.3;
    }
reads_no_more asks limit start input input2 w1 a1 held next calls written ReadFault past under reads =
    record {
      asked = past.asked;
      unasked = [];
      rest = reads.0;
      fault = reads.1;
      unfed = reads.2;
      input = all_asked limit start.input input2 past.asked reads.0 reads.1 reads.2 reads.3;
      answers = past.answers;
      answered = past.answered;
      counted = past.counted;
      text = frames_of past.answers;
      appends = past.appends;
      wrote = refl;
      totalled = past.totalled;
      ends = (refl, under, reads.4.0);
      misses = inl reads.4.1;
    }
reads_no_more asks limit start input input2 w1 a1 held next calls written WriteFault past under reads = absurd reads.4
reads_no_more asks limit start input input2 w1 a1 held next calls written BadFrame past under reads =
    record {
      asked = past.asked;
      unasked = [];
      rest = reads.0;
      fault = reads.1;
      unfed = reads.2;
      input = all_asked limit start.input input2 past.asked reads.0 reads.1 reads.2 reads.3;
      answers = past.answers;
      answered = past.answered;
      counted = past.counted;
      text = frames_of past.answers;
      appends = past.appends;
      wrote = refl;
      totalled = past.totalled;
      ends = (refl, under, inr (reads.4.1, reads.4.0, reads.4.2));
      misses = inl reads.4.3;
    }
reads_no_more asks limit start input input2 w1 a1 held next calls written FrameLimit past under reads = absurd reads.4
reads_no_more asks limit start input input2 w1 a1 held next calls written Closed past under reads = absurd reads.4
reads_no_more asks limit start input input2 w1 a1 held next calls written OutOfMemory past under reads =
    record {
      asked = past.asked;
      unasked = [];
      rest = reads.0;
      fault = reads.1;
      unfed = reads.2;
      input = all_asked limit start.input input2 past.asked reads.0 reads.1 reads.2 reads.3;
      answers = past.answers;
      answered = past.answered;
      counted = past.counted;
      text = frames_of past.answers;
      appends = past.appends;
      wrote = inr (refl, reads.4.0);
      totalled = past.totalled;
      ends = tt;
      misses = inr (refl, refl, under, reads.4.1);
    }

-- ---- how much may come

-- what is left before the version is known
abbrev unknown_left : Option Version → ℕ
unknown_left o = cond (is_some o) 0 50000

-- what is left of a session: calls, the version, and bytes that may be held
abbrev pub left_of : Bool → ℕ → ℕ → HeldCalls → ℕ
left_of bad limit calls held = cond bad 0 (1 + (limit - calls) * 100000 + unknown_left held.version + (40000 - length held.bytes))

version_few : (o : Option Version) → unknown_left o ≤ 50000
version_few None = omega arith
version_few (Some v) = omega arith

unknown_more : (o : Option Version) → o ≡ None → unknown_left o ≡ 50000
unknown_more None e = refl
unknown_more (Some v) e = absurd cc

known_none : (o : Option Version) → is_some o ≡ true → unknown_left o ≡ 0
known_none None e = absurd cc
known_none (Some v) e = refl

pub empty : {T : Type 0} (xs : List T) → length xs ≡ 0 → xs ≡ []
empty [] e = refl
empty (x ∷ xs) e = absurd (omega (arith, e))

less_by : (before after : HeldCalls) → length after.bytes < 32791 → HasRoomLess before after
    → unknown_left after.version + (40000 - length after.bytes) < unknown_left before.version + (40000 - length before.bytes)
less_by before after few (inl more) =
    let same : unknown_left after.version ≡ unknown_left before.version = ap unknown_left more.1 in
    omega (arith, few, more.0, same)
less_by before after few (inr known) = omega (arith, unknown_more before.version known.0, known_none after.version known.1)

-- with each piece less is left
pub less : (bad : Bool) (limit calls now : ℕ) (before after : HeldCalls) → calls < limit → calls ≤ now
    → (bad ≡ false → length after.bytes < 32791) → (now ≡ calls → bad ≡ false → HasRoomLess before after)
    → left_of bad limit now after < left_of false limit calls before
less true limit calls now before after under grows few room = omega arith
less false limit calls now before after under grows few room =
    elim (cases_eq now calls) [
      | inl same ↦ omega (arith, same, less_by before after (few refl) (room same refl))
      | inr more ↦ omega (arith, under, grows, more, version_few after.version)
    ]
