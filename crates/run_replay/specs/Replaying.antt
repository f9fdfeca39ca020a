-- A record read, and replayed: the calls of its entries, one after the other.
use Rattle.std.specs.Prelude.{◌≡◌, ℕ, ◌-◌, ◌<◌, ◌≤◌, ◌^◌, ◌↔◌, List, [], ◌++◌, take, length, map, Bool, IsFalse, Option, None, Some, is_some, unwrap_or}
use Rattle.std.specs.List.{AllByRecursion}
use Rattle.std.specs.Io.KnownBytes.{Consumes, IsAtEnd}
use Rattle.plain.specs.Step.{of_sizes}
use Rattle.plain.specs.declared.call.Call.{Call}
use Rattle.host_calls.specs.declared.seat.SeatName.{SeatName}
use Rattle.dispatch_core.specs.Running.{sizes_of}
use Rattle.host_core.specs.Journal.{Entry as Page}
use Rattle.session_proto.specs.Reading.{next_of}
use Rattle.session_proto.specs.Stream.{frames, HasCome}
use Rattle.session_proto.specs.declared.next.Next.TheVariants.{More}
use Rattle.run_record.specs.Entry.{entry_body, EntryFits, entry_at}
use Rattle.run_record.specs.Header.{header_text}
use Rattle.run_record.specs.Naming.{parts_of}
use Rattle.run_record.specs.declared.entry.Entry.{Entry}
use Rattle.run_replay.specs.declared.reel.Reel.{Reel}
use Rattle.run_replay.specs.declared.reel.Asked.{Asked}
use Rattle.run_replay.specs.declared.loading.Replayed.{Replayed}

-- bytes that are known, or not
abbrev pub Known : Type 0
Known = Option (List ℕ)

-- a record's bytes so far are its first line and these entries, and bytes behind them that are held (our format)
pub record HasRead (reel : Reel) (bytes : List ℕ) (entries : List Entry) : Type 0 where
  pub stream : List ℕ
  pub whole : bytes ≡ header_text reel.header.config reel.header.sectors ++ stream
  pub come : HasCome entry_body EntryFits entry_at 131083 reel.feeder stream entries

-- the first line was read, with these entries behind it in its piece; no frame is behind them if they are bad (our profile)
abbrev pub Opens : Known → Known → Reel → List Entry → Bool → Type 0
Opens r0 r1 reel entries is_bad = ((bytes : List ℕ) × Consumes r0 r1 bytes × HasRead reel bytes entries) × (is_bad ≡ is_some reel.feeder.fault)

-- a piece more was read, with these entries (our profile)
abbrev pub Goes : Known → Known → Reel → Reel → List Entry → Bool → Type 0
Goes r0 r1 a b entries is_bad =
    ((piece : List ℕ) × Consumes r0 r1 piece × ((bytes : List ℕ) (before : List Entry) → HasRead a bytes before → HasRead b (bytes ++ piece) (before ++ entries)))
    × (is_bad ≡ is_some b.feeder.fault)

-- nothing more is there to be read
abbrev pub IsOver : Known → Known → Reel → Reel → Type 0
IsOver r0 r1 a b = Consumes r0 r1 [] × IsAtEnd r1 × (b.feeder ≡ a.feeder) × (b.header ≡ a.header)

-- whose call a page has, and the call
abbrev pub whose : Page → Option (SeatName × Call)
whose page = Some (page.name, page.call)

-- the pages are those of these entries, in order (our profile)
abbrev pub ArePages : List Entry → List Page → Type 0
ArePages entries pages = map parts_of entries ≡ map whose pages

-- those before the one of a number, from 1, or all (our profile)
abbrev pub before : {A : Type 0} → Option ℕ → List A → List A
before None xs = xs
before (Some number) xs = take (number - 1) xs

-- a record is its first line, the frames of its entries, and perhaps a front of one more; its keeper has made the calls of the entries before the
-- one that is asked for, each of which was accepted, with the record's history, which has room for all, or with the one that is asked for (our profile)
pub record IsReplayOf (bytes : List ℕ) (asked : Asked) (r : Replayed) : Type 0 where
  pub entries : List Entry
  pub rest : List ℕ
  pub whole : bytes ≡ header_text r.header.config r.header.sectors ++ (frames entry_body entries ++ rest)
  pub each : AllByRecursion EntryFits entries
  pub ends : next_of entry_at 131083 rest ≡ More
  pub torn : IsFalse r.is_torn ↔ rest ≡ []
  pub count : r.entries ≡ length entries
  pub few : r.header.sectors < 2 ^ 55
  pub fits : length entries ≤ r.header.config.history_max
  pub limits : r.book.limits ≡ of_sizes (sizes_of r.header.config r.header.sectors)
  pub most : r.book.most ≡ unwrap_or asked.history r.header.config.history_max
  pub made : ArePages (before asked.to entries) r.book.entries
