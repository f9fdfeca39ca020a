-- What stands of a record while it is read, and what a piece or a call more makes of it.
use Rattle.std.proofs.Common.{◌≡◌, ℕ, zero, suc, ◌+◌, ◌-◌, ◌<◌, ◌≤◌, ◌^◌, ◌↔◌, List, [], ◌∷◌, ◌++◌, map, length, take, drop, Bool, false, not, if◌then◌else◌, Option, Some, None, Result, Ok, Err, IfOk, MatchOption, is_some, IsFalse, unwrap_or, inl, inr, refl, sym, ap, ◌∙◌, subst, append_assoc, take-append-drop, append-nil, arith, slice_get}
use Rattle.std.specs.Io.KnownBytes.{Consumes}
use Rattle.std.proofs.lemmas.List.{map-append, length-map, take_more}
use Rattle.std.proofs.lemmas.Option.{slice_get_within, slice_get_cases, get_or_from_slice_get}
use Rattle.plain.specs.declared.call.Call.{Call}
use Rattle.host_calls.specs.declared.seat.SeatName.{SeatName}
use Rattle.host_core.specs.Journal.{Entry as Page, Pages, calls_of}
use Rattle.session_proto.specs.Stream.{HasCome, Held}
use Rattle.session_proto.specs.declared.fault.Fault.{Fault}
use Rattle.run_record.specs.Entry.{entry_body, EntryFits, entry_at}
use Rattle.run_record.specs.Header.{header_text}
use Rattle.run_record.specs.Naming.{parts_of}
use Rattle.run_record.specs.declared.entry.Entry.{Entry}
use Rattle.run_record.specs.declared.header.Header.{Header}
use Rattle.run_replay.specs.declared.reel.Reel.{Reel}
use Rattle.run_replay.specs.declared.reel.Batch.{Batch}
use Rattle.session_proto.specs.Reading.{next_of}
use Rattle.session_proto.specs.Stream.{frames, rest_of}
use Rattle.run_replay.specs.declared.reel.Asked.{Asked}
use Rattle.run_replay.specs.declared.loading.Replayed.{Replayed}
use Rattle.dispatch_core.specs.Running.{sizes_of}
use Rattle.plain.specs.Step.{of_sizes}
use Rattle.run_replay.proofs.Records.{before-map}
use Rattle.run_replay.specs.Replaying.{Known, HasRead, Opens, ArePages, before, whose, IsReplayOf}

pub Consumes-none : (r : Known) → Consumes r r []
Consumes-none None = tt
Consumes-none (Some xs) = refl

pub Consumes-more : (a b c : Known) (x y : List ℕ) → Consumes a b x → Consumes b c y → Consumes a c (x ++ y)
Consumes-more None b c x y h k = tt
Consumes-more (Some xs) None c x y h k = absurd h
Consumes-more (Some xs) (Some ys) None x y h k = absurd k
Consumes-more (Some xs) (Some ys) (Some zs) x y h k = h ∙ ap (λ l. x ++ l) k ∙ sym (append_assoc x y zs)

-- a line and what stands behind it
pub cut_line : (held line rest text : List ℕ) (size : ℕ) → line ≡ take size held → rest ≡ drop size held → line ≡ text → held ≡ text ++ rest
cut_line held line rest text size front back is =
    sym (take-append-drop size held) ∙ ap (λ (x : List ℕ). x ++ drop size held) (sym front ∙ is) ∙ ap (λ (x : List ℕ). text ++ x) (sym back)

-- a piece more
pub reads_on : (a b : Reel) (piece given : List ℕ) (values : List Entry) → b.header ≡ a.header → given ≡ piece
    → ((stream : List ℕ) (entries : List Entry) → HasCome entry_body EntryFits entry_at 131083 a.feeder stream entries → HasCome entry_body EntryFits entry_at 131083 b.feeder (stream ++ given) (entries ++ values))
    → (bytes : List ℕ) (entries : List Entry) → HasRead a bytes entries → HasRead b (bytes ++ piece) (entries ++ values)
reads_on a b piece given values header same came bytes entries h = record {
  stream = h.stream ++ piece;
  whole = ap (λ (x : List ℕ). x ++ piece) h.whole ∙ append_assoc (header_text a.header.config a.header.sectors) h.stream piece
      ∙ ap (λ (it : Header). header_text it.config it.sectors ++ (h.stream ++ piece)) (sym header);
  come = subst (λ (x : List ℕ). HasCome entry_body EntryFits entry_at 131083 b.feeder (h.stream ++ x) (entries ++ values)) same (came h.stream entries h.come);
}

-- the same, with another buffer
pub reads_same : (a b : Reel) → b.feeder ≡ a.feeder → b.header ≡ a.header → (bytes : List ℕ) (entries : List Entry) → HasRead a bytes entries → HasRead b bytes entries
reads_same a b feeder header bytes entries h = record {
  stream = h.stream;
  whole = h.whole ∙ ap (λ (it : Header). header_text it.config it.sectors ++ h.stream) (sym header);
  come = subst (λ (f : Held). HasCome entry_body EntryFits entry_at 131083 f h.stream entries) (sym feeder) h.come;
}

-- bytes that a piece was appended to
pub grown : (held new given piece : List ℕ) (ok err : Bool) → new ≡ (if ok then held ++ given else held) → ok ≡ not err → err ≡ false → given ≡ piece → new ≡ held ++ piece
grown held new given piece ok err is told none same =
    is ∙ ap (λ (it : Bool). if it then held ++ given else held) (told ∙ ap not none) ∙ ap (λ (x : List ℕ). held ++ x) same

-- the first line and the entries behind it, if they were read
pub opens : {E : Type 0} (r0 r1 : Known) (held given : List ℕ) (result : Result (Reel × Batch) E) → Consumes r0 r1 held → given ≡ held
    → IfOk result (λ r. HasRead r.0 given r.1.entries.items) → IfOk result (λ r. r.1.is_bad ≡ is_some r.0.feeder.fault)
    → IfOk result (λ r. Opens r0 r1 r.0 r.1.entries.items r.1.is_bad)
opens r0 r1 held given (Ok r) read same has bad = ((held, read, subst (λ (x : List ℕ). HasRead r.0 x r.1.entries.items) same has), bad)
opens r0 r1 held given (Err e) read same has bad = tt

-- one page more of a journal
pub take_next : (pages : List Page) (n : ℕ) (page : Page) → slice_get pages n ≡ Some page → take (n + 1) pages ≡ take n pages ++ page ∷ []
take_next pages n page is =
    take_more pages n page (slice_get_within pages n page is)
    ∙ ap (λ (p : Page). take n pages ++ p ∷ []) (get_or_from_slice_get pages n page page is)

-- as many as there are, or more
pub take_past : {A : Type 0} (xs : List A) (n : ℕ) → length xs ≤ n → take n xs ≡ xs
take_past [] zero h = refl
take_past [] (suc n) h = refl
take_past (x ∷ xs) zero h = absurd (omega (arith, h))
take_past (x ∷ xs) (suc n) h = ap (λ ys. x ∷ ys) (take_past xs n (omega (arith, h)))

-- the pages of one entry more
pub pages_more : (old new : List Page) (name : SeatName) (call : Call) (part : Option (SeatName × Call)) → new ≡ old ++ record { name = name; call = call } ∷ [] → part ≡ Some (name, call)
    → map whose new ≡ map whose old ++ part ∷ []
pages_more old new name call part is same =
    ap (λ (ps : List Page). map whose ps) is ∙ map-append whose old (record { name = name; call = call } ∷ []) ∙ ap (λ (p : Option (SeatName × Call)). map whose old ++ p ∷ []) (sym same)

-- one entry less is to be made
pub goes_on : (first now next all : List (Option (SeatName × Call))) (waits rest : List Entry) (entry : Entry) → now ++ map parts_of waits ≡ first ++ all → waits ≡ entry ∷ rest → next ≡ now ++ parts_of entry ∷ []
    → next ++ map parts_of rest ≡ first ++ all
goes_on first now next all waits rest entry so_far is made =
    ap (λ ps. ps ++ map parts_of rest) made ∙ append_assoc now (parts_of entry ∷ []) (map parts_of rest)
    ∙ ap (λ (es : List Entry). now ++ map parts_of es) (sym is) ∙ so_far

-- none is left
pub all_made : (first now all : List (Option (SeatName × Call))) (waits : List Entry) → now ++ map parts_of waits ≡ first ++ all → waits ≡ [] → now ≡ first ++ all
all_made first now all waits so_far none = sym (append-nil now) ∙ ap (λ (es : List Entry). now ++ map parts_of es) (sym none) ∙ so_far

none_of : (o : Option Fault) → is_some o ≡ false → o ≡ None
none_of None e = refl
none_of (Some x) e = absurd cc

-- what was read of a record, and made of it
pub record Stands (r0 r1 : Known) (reel : Reel) (book : Pages) : Type 0 where
  pub bytes : List ℕ
  pub entries : List Entry
  pub consumes : Consumes r0 r1 bytes
  pub read : HasRead reel bytes entries
  pub made : ArePages entries book.entries
  pub good : reel.feeder.fault ≡ None

-- a piece's entries were made
pub stands : (r0 r1 : Known) (reel : Reel) (old new : Pages) (entries : List Entry) (bytes : List ℕ) (all : List Entry) (is_bad : Bool) → Consumes r0 r1 bytes → HasRead reel bytes all
    → is_bad ≡ is_some reel.feeder.fault → is_bad ≡ false → (before : List Entry) → all ≡ before ++ entries → ArePages before old.entries
    → map whose new.entries ≡ map whose old.entries ++ map parts_of entries → Stands r0 r1 reel new
stands r0 r1 reel old new entries bytes all is_bad consumes read told good before whole pages made = record {
  bytes = bytes;
  entries = all;
  consumes = consumes;
  read = read;
  made = ap (λ (es : List Entry). map parts_of es) whole ∙ map-append parts_of before entries ∙ ap (λ (xs : List (Option (SeatName × Call))). xs ++ map parts_of entries) pages ∙ sym made;
  good = none_of reel.feeder.fault (sym told ∙ good);
}

pub on_some : {A : Type 0} (o : Option A) (x : A) (P : Type 0) (Q : A → Type 0) → o ≡ Some x → MatchOption o P Q → Q x
on_some {A} o x P Q e h = subst (λ (it : Option A). MatchOption it P Q) e h

pub on_none : {A : Type 0} (o : Option A) (P : Type 0) (Q : A → Type 0) → o ≡ None → MatchOption o P Q → P
on_none {A} o P Q e h = subst (λ (it : Option A). MatchOption it P Q) e h

-- nothing more was read
pub stands_still : (r0 r1 r2 : Known) (a b : Reel) (book : Pages) → Stands r0 r1 a book → Consumes r1 r2 [] → b.feeder ≡ a.feeder → b.header ≡ a.header → Stands r0 r2 b book
stands_still r0 r1 r2 a b book s consumes feeder header = record {
  bytes = s.bytes;
  entries = s.entries;
  consumes = subst (λ (x : List ℕ). Consumes r0 r2 x) (append-nil s.bytes) (Consumes-more r0 r1 r2 s.bytes [] s.consumes consumes);
  read = reads_same a b feeder header s.bytes s.entries s.read;
  made = s.made;
  good = ap (λ (h : Held). h.fault) feeder ∙ s.good;
}

-- the keeper of the calls before an entry has the pages of the entries before it
pub pages_before : (to : Option ℕ) (entries : List Entry) (pages kept : List Page) → ArePages entries pages → kept ≡ before to pages → ArePages (before to entries) kept
pages_before to entries pages kept made is =
    before-map parts_of to entries ∙ ap (λ (xs : List (Option (SeatName × Call))). before to xs) made ∙ sym (before-map whose to pages)
    ∙ ap (λ (ps : List Page). map whose ps) (sym is)

-- as many entries as pages
pub count_pages : (entries : List Entry) (pages : List Page) → ArePages entries pages → length (calls_of pages) ≡ length entries
count_pages entries pages made =
    length-map pages (λ (p : Page). p.call) ∙ sym (length-map pages whose) ∙ ap (λ (xs : List (Option (SeatName × Call))). length xs) (sym made) ∙ length-map entries parts_of

-- a record that was read to its end, and its keeper
pub ended : (r0 r1 : Known) (reel : Reel) (book : Pages) (asked : Asked) (r : Replayed) (s : Stands r0 r1 reel book)
    → r.header ≡ reel.header → r.entries ≡ length (calls_of book.entries) → r.entries ≤ reel.header.config.history_max → (IsFalse r.is_torn ↔ reel.feeder.bytes ≡ []) → reel.header.sectors < 2 ^ 55
    → r.book.entries ≡ before asked.to book.entries → r.book.limits ≡ of_sizes (sizes_of reel.header.config reel.header.sectors) → r.book.most ≡ unwrap_or asked.history reel.header.config.history_max
    → IsReplayOf s.bytes asked r
ended r0 r1 reel book asked r s header count fits torn few made limits most =
    let come = s.read.come in
    let held : reel.feeder.bytes ++ come.unheld ≡ reel.feeder.bytes = ap (λ (x : List ℕ). reel.feeder.bytes ++ x) (come.all_held s.good) ∙ append-nil reel.feeder.bytes in
    let stream : s.read.stream ≡ frames entry_body s.entries ++ reel.feeder.bytes = come.reads.whole ∙ ap (λ (x : List ℕ). frames entry_body s.entries ++ x) held in
    record {
      entries = s.entries;
      rest = reel.feeder.bytes;
      whole = s.read.whole ∙ ap (λ (x : List ℕ). header_text reel.header.config reel.header.sectors ++ x) stream
          ∙ ap (λ (it : Header). header_text it.config it.sectors ++ (frames entry_body s.entries ++ reel.feeder.bytes)) (sym header);
      each = come.reads.each;
      ends = ap (λ (x : List ℕ). next_of entry_at 131083 x) (sym held) ∙ come.reads.ends ∙ ap rest_of s.good;
      torn = torn;
      fits = subst (λ (it : Header). length s.entries ≤ it.config.history_max) (sym header) (omega (arith, fits, count, count_pages s.entries book.entries s.made));
      count = count ∙ count_pages s.entries book.entries s.made;
      few = subst (λ (it : Header). it.sectors < 2 ^ 55) (sym header) few;
      limits = limits ∙ ap (λ (it : Header). of_sizes (sizes_of it.config it.sectors)) (sym header);
      most = most ∙ ap (λ (it : Header). unwrap_or asked.history it.config.history_max) (sym header);
      made = pages_before asked.to s.entries book.entries r.book.entries s.made made;
    }

-- the pages up to a number, and one more
pub one_more : (pages old new : List Page) (n : ℕ) (page : Page) → old ≡ take n pages → new ≡ old ++ page ∷ [] → Some page ≡ slice_get pages n → new ≡ take (n + 1) pages
one_more pages old new n page is made there = made ∙ ap (λ (ps : List Page). ps ++ page ∷ []) is ∙ sym (take_next pages n page (sym there))

not_both : (o : Option Page) (page : Page) → o ≡ Some page → o ≡ None → ⊥
not_both None page e f = absurd cc
not_both (Some x) page e f = absurd cc

-- there is none of that number: these are all, and so are those before any later one
pub none_more : (pages old : List Page) (n : ℕ) (to : Option ℕ) (number : ℕ) → old ≡ take n pages → slice_get pages n ≡ None → to ≡ Some number → n ≤ number - 1 → old ≡ before to pages
none_more pages old n to number is none some few =
    let past : length pages ≤ n = elim (slice_get_cases pages n).1 [
      | inl found ↦ absurd (not_both (slice_get pages n) found.0 found.2 none)
      | inr past ↦ past.0
    ] in
    is ∙ take_past pages n past ∙ sym (take_past pages (number - 1) (omega (arith, past, few))) ∙ ap (λ (o : Option ℕ). before o pages) (sym some)
