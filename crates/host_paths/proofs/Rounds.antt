-- Rounds, one after the other.
use Rattle.std.proofs.Common.{◌≡◌, ℕ, ◌-◌, ◌^◌, ◌<◌, List, [], ◌∷◌, ◌++◌, Option, None, Some, map, refl, ap, sym, subst, inl, ◌∙◌, append_assoc, append-nil, arith}
use Rattle.std.proofs.lemmas.List.{map-append}
use Rattle.base_image.specs.Image.{Disk, Log}
use Rattle.base_image.specs.Kinds.{Read}
use Rattle.device_engine.specs.Work.{Works, ReadsFor, ReadsInVain}
use Rattle.host_calls.specs.declared.ring.RingReply.{RingReply}
use Rattle.host_calls.specs.declared.ring.RingReply.TheVariants.{Answer as Answered}
use Rattle.plain.specs.declared.answer.Answer.TheVariants.{Accepted}
use Rattle.plain.specs.declared.answer.Reply.TheVariants.{Taken}
use Rattle.plain.specs.declared.answer.Work.{Work}
use Rattle.plain.specs.declared.call.DeviceCall.{DeviceCall}
use Rattle.plain.specs.declared.call.DeviceCall.TheVariants.{Take, Finish, Requeue}
use Rattle.host_core.specs.Seats.{SameSeat, seat_number, staged, collected}
use Rattle.host_paths.specs.Working.{Device, Exchange, Does, DoesAll, Loses, ReadsOf, ReadsAll, HasAsked, HasDone, HasMade, HasTold, IsAlone, IsLeft, IsRound, handed_out}
use Rattle.host_paths.specs.declared.worker.Round.{Round}
use Rattle.host_paths.specs.declared.worker.Round.TheVariants.{Told, Pauses, Waits, Ended}
use Rattle.host_paths.specs.declared.worker.WorkerEnd.{WorkerEnd}

-- the work that was handed out last
abbrev last_taken : Option Work → List Exchange → Option Work
last_taken taken [] = taken
last_taken taken (e ∷ rest) = last_taken (handed_out e.1) rest

does-more : (number : ℕ) (taken : Option Work) (before middle after : Disk) (xs ys : List Exchange) → DoesAll number taken before xs middle
    → DoesAll number (last_taken taken xs) middle ys after → DoesAll number taken before (xs ++ ys) after
does-more number taken before middle after [] ys first then = subst (λ d. DoesAll number taken d ys after) first then
does-more number taken before middle after (e ∷ rest) ys first then =
    (first.0, first.1, does-more number (handed_out e.1) first.0 middle after rest ys first.2 then)

-- the log before what was read in vain for the work that was taken last
last_log : (taken : Option Work) (before after : Log) (xs : List Exchange) → ReadsAll taken before xs after → Log
last_log taken before after [] reads = before
last_log taken before after (e ∷ rest) reads = last_log (handed_out e.1) reads.0 after rest reads.2

last_loss : (taken : Option Work) (before after : Log) (xs : List Exchange) (reads : ReadsAll taken before xs after)
    → Loses (last_taken taken xs) (last_log taken before after xs reads) after
unfolding last_log
last_loss taken before after [] reads = reads
last_loss taken before after (e ∷ rest) reads = last_loss (handed_out e.1) reads.0 after rest reads.2

reads-more : (taken : Option Work) (before middle after : Log) (xs ys : List Exchange) (reads : ReadsAll taken before xs middle)
    → ReadsAll (last_taken taken xs) (last_log taken before middle xs reads) ys after → ReadsAll taken before (xs ++ ys) after
unfolding last_log
reads-more taken before middle after [] ys reads then = then
reads-more taken before middle after (e ∷ rest) ys reads then =
    (reads.0, reads.1, reads-more (handed_out e.1) reads.0 middle after rest ys reads.2 then)

-- nothing is read in vain
none-lost : (taken : Option Work) (log : Log) → Loses taken log log
none-lost (Some work) log = inl refl
none-lost None log = refl

-- what is added at the end of a list, and then of that
added : {A : Type 0} (one two three xs ys : List A) → two ≡ one ++ xs → three ≡ two ++ ys → three ≡ one ++ (xs ++ ys)
added one two three xs ys first then = then ∙ ap (λ l. l ++ ys) first ∙ append_assoc one xs ys

-- what a call does where its work was taken last
works-does : (number : ℕ) (work : Work) (before after : Disk) (call : DeviceCall) → Works before work call after → Does number (Some work) before call after
works-does number work before after (Take worker) works = elim works [ ]
works-does number work before after (Finish tag issue outcome) works = works
works-does number work before after (Requeue tag issue) works = works

-- what is read for a call where its work was taken last
works-reads : (work : Work) (disk disk1 : Disk) (before after : Log) (call : DeviceCall) → Works disk work call disk1 → ReadsFor work call before after → ReadsOf (Some work) before call after
works-reads work disk disk1 before after (Take worker) works reads = elim works [ ]
works-reads work disk disk1 before after (Finish tag issue outcome) works reads = reads
works-reads work disk disk1 before after (Requeue tag issue) works reads = reads

-- calls, and then more
module _ (number : ℕ) (taken : Option Work) (calls calls1 calls2 : List DeviceCall) (replies replies1 replies2 : List RingReply) (before middle after : Read) where
  made-more : (was : HasMade number taken calls replies before calls1 replies1 middle)
      → HasMade number (last_taken taken was.exchanges) calls1 replies1 (record middle { log = last_log taken before.log middle.log was.exchanges was.reads })
      calls2 replies2 after
      → HasMade number taken calls replies before calls2 replies2 after
  made-more was more = record {
    exchanges = was.exchanges ++ more.exchanges;
    calls = added calls calls1 calls2 (map (λ e. e.0) was.exchanges) (map (λ e. e.0) more.exchanges) was.calls more.calls
        ∙ ap (λ xs. calls ++ xs) (sym (map-append (λ e. e.0) was.exchanges more.exchanges));
    replies = added replies replies1 replies2 (map (λ e. e.1) was.exchanges) (map (λ e. e.1) more.exchanges) was.replies more.replies
        ∙ ap (λ xs. replies ++ xs) (sym (map-append (λ e. e.1) was.exchanges more.exchanges));
    does = does-more number taken before.disk middle.disk after.disk was.exchanges more.exchanges was.does more.does;
    reads = reads-more taken before.log middle.log after.log was.exchanges more.exchanges was.reads more.reads;
  }

-- rounds, and then one more
module _ (number : ℕ) (round : Round) (s t u : Device) (before middle after : Read) where
  pub rounds-more : IsRound number Told s before t middle → IsRound number round t middle u after → IsRound number round s before u after
  rounds-more first then = λ calls asks taken log lost.
      let was = first calls asks taken log lost in
      let made = was.2 in
      let more = then was.0 was.1 (last_taken taken made.exchanges) (last_log taken log middle.log made.exchanges made.reads)
      (last_loss taken log middle.log made.exchanges made.reads) in
      (more.0, more.1, made-more number taken calls was.0 more.0 (collected s) (collected t) (collected u) (record before { log = log }) middle after made more.2)

-- and work is asked for after it
pub rounds-ask : (number : ℕ) (s t u : Device) (before after : Read) → IsRound number Waits s before t after → HasAsked number (staged t) u → collected u ≡ collected t
    → IsRound number Told s before u after
rounds-ask number s t u before after round asks same = λ calls asked0 taken log lost.
    let was = round calls asked0 taken log lost in (
      was.0,
      asks ∙ ap (λ c. c ++ Take number ∷ []) was.1,
      subst (λ r. HasMade number taken calls (collected s) (record before { log = log }) was.0 r after) (sym same) was.2,
    )

-- what is left where no work is asked for
pub left-alone : (round : Round) (number : ℕ) (calls : List DeviceCall) (s : Device) → IsAlone round → staged s ≡ calls → IsLeft round number calls s
left-alone (Ended end) number calls s alone is = inl is
left-alone Waits number calls s alone is = is
left-alone Told number calls s alone is = elim alone [ ]
left-alone Pauses number calls s alone is = elim alone [ ]

-- no round
pub rounds-none : (number : ℕ) (s : Device) (before : Read) → IsRound number Told s before s before
rounds-none number s before = λ calls asks taken log lost. (
  calls,
  asks,
  record {
    exchanges = [];
    calls = sym (append-nil calls);
    replies = sym (append-nil (collected s));
    does = refl;
    reads = lost;
  },
)

-- no call was made
pub made-none : (number : ℕ) (calls : List DeviceCall) (replies : List RingReply) (before : Read) → HasMade number None calls replies before calls replies before
made-none number calls replies before = record {
  exchanges = [];
  calls = sym (append-nil calls);
  replies = sym (append-nil replies);
  does = refl;
  reads = refl;
}

-- all that comes of rounds once work is asked for
pub from-asked : (s t u : Device) (end : WorkerEnd) (before after : Read) → HasAsked (seat_number s) (staged s) t → collected t ≡ collected s
    → seat_number t ≡ seat_number s → IsRound (seat_number t) (Ended end) t before u after → HasDone None s before u after
from-asked s t u end before after asks replies same rounds =
    let all = (subst (λ n. IsRound n (Ended end) t before u after) same rounds) (staged s) asks None before.log refl in
    (all.0, all.1, subst (λ r. HasMade (seat_number s) None (staged s) r before all.0 (collected u) after) replies all.2)

-- the last call asked for work, and its reply came, which none had before
module _ (number : ℕ) (taken : Option Work) (calls : List DeviceCall) (replies replies1 : List RingReply) (reply : RingReply) (before : Read) (log : Log) where
  pub asked : replies1 ≡ replies ++ reply ∷ [] → Loses taken log before.log
      → HasMade number taken calls replies (record before { log = log }) (calls ++ Take number ∷ []) replies1 before
  asked is lost = record {
    exchanges = (Take number, reply) ∷ [];
    calls = refl;
    replies = is;
    does = (before.disk, (refl, refl), refl);
    reads = (before.log, lost, none-lost (handed_out reply) before.log);
  }

  -- and then this came of it
  pub asked-told : (calls1 : List DeviceCall) (replies2 : List RingReply) (after : Read) → replies1 ≡ replies ++ reply ∷ [] → Loses taken log before.log
      → HasMade number (handed_out reply) (calls ++ Take number ∷ []) replies1 before calls1 replies2 after
      → HasMade number taken calls replies (record before { log = log }) calls1 replies2 after
  asked-told calls1 replies2 after is lost then = record {
    exchanges = (Take number, reply) ∷ then.exchanges;
    calls = then.calls ∙ append_assoc calls (Take number ∷ []) (map (λ e. e.0) then.exchanges);
    replies = added replies replies1 replies2 (reply ∷ []) (map (λ e. e.1) then.exchanges) is then.replies;
    does = (before.disk, (refl, refl), then.does);
    reads = (before.log, lost, then.reads);
  }

-- a round whose work came, where this became of it
pub round-told : (s t u : Device) (round : Round) (work : Work) (before after : Read) → staged t ≡ staged s
    → collected t ≡ collected s ++ Answered (Accepted (Taken work)) ∷ [] → seat_number t ≡ seat_number s
    → HasTold (seat_number t) round work t before u after → IsRound (seat_number s) round s before u after
round-told s t u round work before after calls0 replies same told = λ calls asks taken log lost.
    let all = subst (λ n. HasTold n round work t before u after) same told in (
      all.0,
      all.1,
      asked-told (seat_number s) taken calls (collected s) (collected t) (Answered (Accepted (Taken work))) before log all.0 (collected u) after replies lost
          (subst (λ c. HasMade (seat_number s) (Some work) c (collected t) before all.0 (collected u) after) (calls0 ∙ asks) all.2),
    )

-- a round in which no work came
pub round-asked : (s t : Device) (reply : RingReply) (before : Read) → staged t ≡ staged s → collected t ≡ collected s ++ reply ∷ []
    → IsRound (seat_number s) Waits s before t before
round-asked s t reply before calls0 replies = λ calls asks taken log lost.
    (calls ++ Take (seat_number s) ∷ [], calls0 ∙ asks, asked (seat_number s) taken calls (collected s) (collected t) reply before log replies lost)

-- the last round
pub round-closed : (s t : Device) (end : WorkerEnd) (reply : RingReply) (before : Read) → staged t ≡ staged s → collected t ≡ collected s ++ reply ∷ []
    → IsRound (seat_number s) (Ended end) s before t before
round-closed s t end reply before calls0 replies = λ calls asks taken log lost. (
  calls ++ Take (seat_number s) ∷ [],
  inl (calls0 ∙ asks),
  asked (seat_number s) taken calls (collected s) (collected t) reply before log replies lost,
)

-- work was told
pub told : (number : ℕ) (work : Work) (call : DeviceCall) (calls : List DeviceCall) (replies replies1 : List RingReply) (before after : Read)
    → Works before.disk work call after.disk → ReadsFor work call before.log after.log → (reply : RingReply) × (replies1 ≡ replies ++ reply ∷ [])
    → HasMade number (Some work) calls replies before (calls ++ call ∷ []) replies1 after
told number work call calls replies replies1 before after works reads replied = record {
  exchanges = (call, replied.0) ∷ [];
  calls = refl;
  replies = replied.1;
  does = (after.disk, works-does number work before.disk after.disk call works, refl);
  reads = (after.log, works-reads work before.disk after.disk before.log after.log call works reads, none-lost (handed_out replied.0) after.log);
}

-- work was not told, and read in vain
pub lost : (number : ℕ) (work : Work) (calls : List DeviceCall) (replies replies1 : List RingReply) (before after : Read)
    → after.disk ≡ before.disk → ReadsInVain work before.log after.log → replies1 ≡ replies → HasMade number (Some work) calls replies before calls replies1 after
lost number work calls replies replies1 before after same reads is = record {
  exchanges = [];
  calls = sym (append-nil calls);
  replies = is ∙ sym (append-nil replies);
  does = same;
  reads = reads;
}

pub seat-none : (s : Device) → SameSeat s s
seat-none s = search

pub seat-twice : (a b c : Device) → SameSeat a b → SameSeat b c → SameSeat a c
seat-twice a b c first then = search

-- an image that has not counted as many faults as it can may count one more
pub countable : (disk : Disk) (faults : ℕ) → faults ≡ disk.faults → faults < 2 ^ 64 → (faults ≡ 2 ^ 64 - 1 → ⊥) → disk.faults < 2 ^ 64 - 1
countable disk faults is fits less = omega (arith, is, fits, less)
