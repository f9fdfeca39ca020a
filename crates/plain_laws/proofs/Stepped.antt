-- Every step leaves a machine whose counters are what is owed.
use Rattle.std.proofs.Common.{false, ℕ, ◌+◌, List, refl, ap, arith}
use Rattle.std.specs.Option.{option_map}
use Rattle.plain.specs.declared.seat.Seat.{Seat}
use Rattle.plain.specs.Machine.{Plain}
use Rattle.plain.specs.declared.answer.Reply.TheVariants.{Queued}
use Rattle.plain.specs.declared.call.Call.{Call}
use Rattle.plain.specs.Opening.{Limits}
use Rattle.plain.specs.Steps.Attach.{attached}
use Rattle.plain.specs.Steps.Submit.{submitted}
use Rattle.plain.specs.Steps.Switch.{switched}
use Rattle.plain.specs.Keeper.{machine_of}
use Rattle.plain.specs.Headline.{replay}
use Rattle.plain_laws.specs.Owed.{UnreapedIsOwed}
use Rattle.plain_laws.proofs.Debts.{Sound, Sound-later, Sound-rest, Sound-bfq, Sound-opening, attached-sound}
use Rattle.plain_laws.proofs.Counters.{submitted-sound, reaped-sound}
use Rattle.plain_laws.proofs.Sendings.{IsTaken-first, dispatched-sound, resent-sound, given_back-sound}
use Rattle.plain.specs.Steps.Finish.{effect_of}
use Rattle.plain_laws.proofs.Leavings.{left-sound, after_finish-sound}
use Rattle.plain_laws.proofs.Served.{woken-keeps, sent_by_bfq-keeps}
use Rattle.plain_laws.proofs.Leads.{Leads}
use Rattle.plain_laws.proofs.Stamps.{machine-leads}

next-sound : (l : Limits) (n : ℕ) (m : Plain) → Sound l n m → Sound l (n + 1) m
next-sound l n m h = Sound-later l n (n + 1) m (omega arith) h

sound-leads : (l : Limits) → Leads l (Sound l)
sound-leads l = record {
  later = Sound-later l;
  stays = λ n m h. h;
  attaches = λ n m seat group prio class small free known few h.
      let next : Plain = attached l m n seat group prio class in
      let entry : Seat = record { session = n; prio = prio; unreaped = 0; leaving = false } in
      attached-sound l n m seat entry next.head next.bfq small free refl refl refl h;
  submits = λ n m seat session op range payload next small its sized is h.
      let made : Sound l n (submitted m n seat session op range payload) = submitted-sound l n m seat session op range payload its h in
      next-sound l n next
      (woken-keeps (Sound l n) m seat (submitted m n seat session op range payload) (Queued n) made (λ b _. Sound-bfq l n _ b made) (next, Queued n) (ap (option_map (λ next. (next, Queued n))) is));
  reaps = λ n m seat bio bios is h. reaped-sound l n m seat bio bios is h;
  leaves = λ n m seat small there h. left-sound l n m seat h;
  takes_turns = λ n m seat tag r rest none is low free h. dispatched-sound l n m seat tag r rest seat m.head m.bfq (IsTaken-first (m.queue seat) r rest is) low free h;
  sends = λ n m tag o bfq is low free h.
      next-sound l n o.0 (sent_by_bfq-keeps (Sound l n) l m n tag (λ k r rest head b taken. dispatched-sound l n m k tag r rest m.served head b taken low free h) o is);
  resends = λ n m tag r rest is low free h. resent-sound l n m tag r rest is low free h;
  finishes = λ n m tag f outcome low is fit h. after_finish-sound l n m tag (effect_of outcome f.request.op) f low is h;
  gives_back = λ n m tag f low is h. given_back-sound l n m tag f low is h;
  makes = λ n m group parent weight known weighs few is h. Sound-bfq l n m _ h;
  drops = λ n m group known other unused h. Sound-bfq l n m _ h;
  weighs = λ n m group weight known other weighs h. Sound-bfq l n m _ h;
  freezes = λ n m frozen h. Sound-rest l n m frozen m.served m.head m.bfq m.scheduler h;
  switches = λ _ n m scheduler none h. let next : Plain = switched l m scheduler in Sound-rest l n m m.frozen next.served next.head next.bfq scheduler h;
  ticks = λ n m slot is h. next-sound l n _ (Sound-bfq l n m _ h);
}

-- the law
pub unreaped-owed : (l : Limits) (most : ℕ) (journal : List Call) → UnreapedIsOwed l most journal
unreaped-owed l most journal =
    let h : Sound l ((replay l most journal).last + 1) (machine_of (replay l most journal)) = machine-leads l most journal (Sound l) (sound-leads l) (Sound-opening l) in
    h.counts
