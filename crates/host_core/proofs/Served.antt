-- A visit of a seat, by what it came to.
use Rattle.std.proofs.Common.{true, false, Bool, ◌≡◌, ℕ, List, [], ◌∷◌, ◌++◌, length, refl, sym, ap, ◌∙◌, subst, Option, ◌&&◌}
use Rattle.std.proofs.lemmas.Bool.{false≢true}
use Rattle.plain.specs.declared.answer.Answer.{Answer}
use Rattle.plain.specs.declared.answer.Answer.TheVariants.{Accepted, Refused, NotYet}
use Rattle.plain.specs.declared.answer.Cause.{Cause}
use Rattle.host_calls.specs.declared.ring.RingReply.{RingReply}
use Rattle.host_calls.specs.declared.ring.RingReply.TheVariants.{Answer as Answered}
use Rattle.host_calls.specs.declared.seat.SeatName.{SeatName}
use Rattle.host_calls.specs.declared.seat.SeatName.TheVariants.{Client, Device, Operator, Core}
use Rattle.host_core.specs.Journal.{Pages, Entry}
use Rattle.host_core.specs.Kinds.{is_of_kind, are_of_kind, IsOfKind, AreOfKind}
use Rattle.host_core.specs.Rows.{Row, Took}
use Rattle.host_core.specs.declared.asked.Asked.{Asked}
use Rattle.host_core.specs.declared.asked.Asked.TheVariants.{Ask, Take, Stop}
use Rattle.host_core.specs.Judging.{JudgedBy, entered_at, keeps_calls, is_kept}
use Rattle.host_core.specs.Visits.{IsReady, MayTell, Serves, MustWait, Idles, Stops}

both-first : (a b : Bool) → (a && b) ≡ true → a ≡ true
both-first true b h = refl
both-first false b h = absurd (false≢true h)

-- what waits alone is of its kind
kind-waits : (name : SeatName) (waiting : List Asked) (call : Asked) → AreOfKind name waiting → waiting ≡ call ∷ [] → IsOfKind name call
kind-waits name waiting call h e = both-first (is_of_kind name call) true (subst (λ w. are_of_kind name w ≡ true) e h)

pub served : (allows : List RingReply → RingReply → Type 0) (lasts : List (Option ℕ)) (p q : Pages) (r s t : Row) (name : SeatName) (call : Asked) (answer : Answer)
    → IsReady r → MayTell r.name allows → Took r s → name ≡ s.name → s.waiting ≡ call ∷ []
    → JudgedBy p.limits p.most name lasts p.entries call answer → q.entries ≡ entered_at p.entries name call answer → q.limits ≡ p.limits → q.most ≡ p.most
    → is_kept name answer ≡ false → t ≡ record s { waiting = []; replied = s.replied ++ Answered answer ∷ [] }
    → ((name ≡ r.name) × Serves lasts p r q t) × IsReady t
served allows lasts p q r s t name call answer ready rule took named waits judged entered limits most kept row =
    let e : name ≡ r.name = named ∙ took.name in
    let here : JudgedBy p.limits p.most r.name lasts p.entries call answer = subst (λ n. JudgedBy p.limits p.most n lasts p.entries call answer) e judged in
    let kind : IsOfKind r.name call = subst (λ n. IsOfKind n call) took.name (kind-waits s.name s.waiting call (took.kind ready.1) waits) in
    subst (λ x. ((name ≡ r.name) × Serves lasts p r q x) × IsReady x) (sym row) (
      (
        e,
        record {
          call = call;
          answer = answer;
          name = took.name;
          was_open = ready.0;
          closed = took.closed ∙ ready.0;
          taken_is = λ done h. took.taken_is done h ∙ ap (λ w. done ++ w) waits;
          waiting = refl;
          judged = here;
          told = (rule [] p.limits p.most lasts p.entries call answer kind here (subst (λ n. is_kept n answer ≡ false) e kept)).1;
          replied = ap (λ rs. rs ++ Answered answer ∷ []) took.replied;
          entries = entered ∙ ap (λ n. entered_at p.entries n call answer) e;
          limits = limits;
          most = most;
        },
      ),
      (took.closed ∙ ready.0, refl, λ k. refl),
    )

-- nothing waits at it
pub unasked : (lasts : List (Option ℕ)) (p : Pages) (r s : Row) → IsReady r → Took r s → s.waiting ≡ [] → Idles lasts p r p s × IsReady s
unasked lasts p r s ready took none = (
  record { pages = record { entries = refl; limits = refl; most = refl }; took = took; waits = subst (MustWait lasts p r.name) (sym none) tt },
  (took.closed ∙ ready.0, took.kind ready.1, λ _. ap length none),
)

-- what is not yet right to answer is no entry
not-entered : (entries : List Entry) (name : SeatName) (call : Asked) (cause : Cause) → entered_at entries name call (NotYet cause) ≡ entries
not-entered entries name (Ask call) cause = refl
not-entered entries name (Take worker) cause = refl
not-entered entries name Stop cause = refl

-- its call waits on
pub waits-on : (lasts : List (Option ℕ)) (p q : Pages) (r s : Row) (name : SeatName) (call : Asked) (answer : Answer)
    → IsReady r → Took r s → name ≡ s.name → s.waiting ≡ call ∷ []
    → JudgedBy p.limits p.most name lasts p.entries call answer → q.entries ≡ entered_at p.entries name call answer → q.limits ≡ p.limits → q.most ≡ p.most
    → is_kept name answer ≡ true → Idles lasts p r q s × IsReady s
waits-on lasts p q r s name call (Accepted reply) ready took named waits judged entered limits most kept = absurd (false≢true kept)
waits-on lasts p q r s name call (Refused code) ready took named waits judged entered limits most kept = absurd (false≢true kept)
waits-on lasts p q r s name call (NotYet cause) ready took named waits judged entered limits most kept = (
  record {
    pages = record { entries = entered ∙ not-entered p.entries name call cause; limits = limits; most = most };
    took = took;
    waits = subst (MustWait lasts p r.name) (sym waits) (cause, subst (λ n. JudgedBy p.limits p.most n lasts p.entries call (NotYet cause)) (named ∙ took.name) judged);
  },
  (took.closed ∙ ready.0, took.kind ready.1, λ k. absurd (false≢true (sym k ∙ ap keeps_calls (sym named) ∙ kept))),
)

-- Stop is of the operator's kind alone
of-operator : (name : SeatName) → IsOfKind name Stop → name ≡ Operator
of-operator (Client n) h = absurd (false≢true h)
of-operator (Device n) h = absurd (false≢true h)
of-operator Operator h = refl
of-operator Core h = absurd (false≢true h)

-- its owner asks for the end
pub stopped : (p q : Pages) (r s : Row) (call : Asked) → IsReady r → Took r s → s.waiting ≡ call ∷ [] → call ≡ Stop
    → q.entries ≡ p.entries → q.limits ≡ p.limits → q.most ≡ p.most → Stops p r q s × Unit {0}
stopped p q r s call ready took waits stop entries limits most =
    let alone : s.waiting ≡ Stop ∷ [] = waits ∙ ap (λ x. x ∷ []) stop in (
      record {
        pages = record { entries = entries; limits = limits; most = most };
        took = took;
        waits = alone;
        operator = sym took.name ∙ of-operator s.name (kind-waits s.name s.waiting Stop (took.kind ready.1) alone);
      },
      tt,
    )
