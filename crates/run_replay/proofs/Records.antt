-- A record of a journal is read as that journal.
use Rattle.std.proofs.Common.{◌≡◌, ℕ, zero, suc, ◌-◌, ◌<◌, ◌^◌, List, [], ◌∷◌, ◌++◌, map, take, Option, Some, None, IsFalse, refl, sym, ap, ◌∙◌, append-nil, arith}
use Rattle.std.specs.List.{AllByRecursion}
use Rattle.plain.specs.declared.call.Call.{Call}
use Rattle.host_calls.specs.declared.seat.SeatName.{SeatName}
use Rattle.sector_core.specs.declared.config.Config.{Config}
use Rattle.host_core.specs.Journal.{Entry as Page}
use Rattle.session_proto.specs.Frame.{framed}
use Rattle.session_proto.specs.Reading.{next_of}
use Rattle.session_proto.specs.declared.next.Next.TheVariants.{More}
use Rattle.session_proto.specs.Stream.{frames, IsStream}
use Rattle.session_proto.specs.declared.fault.Fault.{Fault}
use Rattle.run_record.specs.Entry.{entry_body, EntryFits, entry_at}
use Rattle.run_record.specs.Header.{header_text, IsSameConfig}
use Rattle.run_record.specs.Naming.{parts_of}
use Rattle.run_record.specs.declared.entry.Entry.{Entry}
use Rattle.run_recording.specs.Recorded.{AreFrames}
use Rattle.run_replay.specs.declared.loading.Replayed.{Replayed}
use Rattle.run_replay.specs.declared.reel.Asked.{Asked}
use Rattle.run_replay.specs.Replaying.{ArePages, before, whose, IsReplayOf}

-- the entries whose frames they are
pub record AreEntries (pages : List Page) (bytes : List ℕ) : Type 0 where
  pub entries : List Entry
  pub whole : bytes ≡ frames entry_body entries
  pub each : AllByRecursion EntryFits entries
  pub same : ArePages entries pages

entries_of : (pages : List Page) (bytes : List ℕ) → AreFrames pages bytes → AreEntries pages bytes
entries_of [] bytes are = record { entries = []; whole = are; each = tt; same = refl }
entries_of (page ∷ pages) bytes are =
    let entry : Entry = are.2.0 in
    let rest = entries_of pages are.1 are.3 in
    let rest_bytes = rest.whole in
    let rest_pages : map parts_of rest.entries ≡ map whose pages = rest.same in
    let entry_is : parts_of entry ≡ Some (page.name, page.call) = are.2.1.1 in
    record {
      entries = entry ∷ rest.entries;
      whole = are.4 ∙ ap (λ (frame : List ℕ). frame ++ are.1) are.2.2 ∙ ap (λ (z : List ℕ). framed (entry_body entry) ++ z) rest_bytes;
      each = (are.2.1.0, rest.each);
      same = cc;
    }

one_page : (a b : Page) → whose a ≡ whose b → a ≡ b
one_page a b e =
    let both : (a.name, a.call) ≡ (b.name, b.call) = cc in
    let name : a.name ≡ b.name = ap (λ (p : SeatName × Call). p.0) both in
    let call : a.call ≡ b.call = ap (λ (p : SeatName × Call). p.1) both in
    ap (λ (n : SeatName). record { name = n; call = a.call }) name ∙ ap (λ (c : Call). record { name = b.name; call = c }) call

pub one_journal : (xs ys : List Page) → map whose xs ≡ map whose ys → xs ≡ ys
one_journal [] [] e = refl
one_journal [] (y ∷ ys) e = absurd cc
one_journal (x ∷ xs) [] e = absurd cc
one_journal (x ∷ xs) (y ∷ ys) e =
    let first : whose x ≡ whose y = cc in
    let rest : map whose xs ≡ map whose ys = cc in
    ap (λ (p : Page). p ∷ xs) (one_page x y first) ∙ ap (λ (ps : List Page). y ∷ ps) (one_journal xs ys rest)

take-map : {A B : Type 0} (f : A → B) (n : ℕ) (xs : List A) → map f (take n xs) ≡ take n (map f xs)
take-map f zero xs = refl
take-map f (suc n) [] = refl
take-map f (suc n) (x ∷ xs) = ap (λ ys. f x ∷ ys) (take-map f n xs)

pub before-map : {A B : Type 0} (f : A → B) (to : Option ℕ) (xs : List A) → map f (before to xs) ≡ before to (map f xs)
before-map f None xs = refl
before-map f (Some number) xs = take-map f (number - 1) xs

nothing_more : next_of entry_at 131083 [] ≡ More
unfolding next_of
nothing_more = refl

pub replayed : ((c d : Config) (m n : ℕ) (x y : List ℕ) → m < 2 ^ 64 → n < 2 ^ 64 → header_text c m ++ x ≡ header_text d n ++ y → IsSameConfig c d × (m ≡ n) × (x ≡ y))
    → ((stream : List ℕ) (values others : List Entry) (x y : List ℕ) (f g : Option Fault)
    → IsStream entry_body EntryFits entry_at 131083 stream values x f → IsStream entry_body EntryFits entry_at 131083 stream others y g → (values ≡ others) × (x ≡ y) × (f ≡ g))
    → (config : Config) (sectors : ℕ) (pages : List Page) (bytes frames : List ℕ) (asked : Asked) (r : Replayed)
    → sectors < 2 ^ 55 → AreFrames pages frames → bytes ≡ header_text config sectors ++ frames → IsReplayOf bytes asked r
    → IsSameConfig r.header.config config × (r.header.sectors ≡ sectors) × (r.book.entries ≡ before asked.to pages) × IsFalse r.is_torn
replayed one_header one_reading config sectors pages bytes stream asked r few are is whole =
    let header = one_header r.header.config config r.header.sectors sectors (frames entry_body whole.entries ++ whole.rest) stream
    (omega (arith, whole.few)) (omega (arith, few)) (sym whole.whole ∙ is) in
    let own = entries_of pages stream are in
    let read : IsStream entry_body EntryFits entry_at 131083 stream whole.entries whole.rest None =
    record { whole = sym header.2; each = whole.each; ends = whole.ends } in
    let written : IsStream entry_body EntryFits entry_at 131083 stream own.entries [] None =
    record { whole = own.whole ∙ sym (append-nil (frames entry_body own.entries)); each = own.each; ends = nothing_more } in
    let same = one_reading stream own.entries whole.entries [] whole.rest None None written read in
    let pages_are : map whose r.book.entries ≡ map whose (before asked.to pages) =
    sym whole.made ∙ ap (λ (es : List Entry). map parts_of (before asked.to es)) (sym same.0) ∙ before-map parts_of asked.to own.entries
    ∙ ap (λ xs. before asked.to xs) own.same ∙ sym (before-map whose asked.to pages) in
    (header.0, header.1, one_journal r.book.entries (before asked.to pages) pages_are, whole.torn.1 (sym same.1))
