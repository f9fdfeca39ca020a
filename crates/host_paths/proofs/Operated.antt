-- Calls that were asked one after the other, and what was written of their replies.
use Rattle.std.proofs.Common.{◌≡◌, ℕ, Bool, true, false, List, [], ◌∷◌, ◌++◌, map, Option, Some, None, is_some, refl, sym, ap, subst, ◌∙◌, append_assoc, append-nil, lit≤}
use Rattle.std.specs.Io.KnownBytes.{Appends, Consumes, Keeps}
use Rattle.std.proofs.KnownBytes.{Consumes-kept}
use Rattle.std.proofs.lemmas.List.{map-append}
use Rattle.std.proofs.lemmas.List.Concat.{flat_map-append}
use Rattle.host_calls.specs.declared.operator.OperatorCall.{OperatorCall}
use Rattle.host_calls.specs.declared.ring.RingReply.{RingReply}
use Rattle.host_calls.specs.declared.ring.RingReply.TheVariants.{Closed as Closing}
use Rattle.host_core.specs.Seats.{staged, collected, SameSeat}
use Rattle.byte_writing.specs.Written.{IsWritten}
use Rattle.session_proto.specs.Frame.{framed}
use Rattle.session_proto.specs.Host.{host_body}
use Rattle.session_proto.specs.declared.operator.Operator.{Operator}
use Rattle.session_proto.specs.declared.fault.Fault.{Fault}
use Rattle.session_proto.specs.Stream.{Held, HasCome}
use Rattle.session_proto.specs.Operator.{operator_body, OperatorFits, operator_at}
use Rattle.host_paths.specs.Operating.{Operators, Known, frames_of, HasAsked, IsOperated}

pub Appends-none : (w : Known) → Appends w w []
Appends-none None = tt
Appends-none (Some xs) = sym (append-nil xs)

pub Appends-more : (a b c : Known) (x y : List ℕ) → Appends a b x → Appends b c y → Appends a c (x ++ y)
Appends-more None b c x y h k = tt
Appends-more (Some xs) None c x y h k = absurd h
Appends-more (Some xs) (Some ys) None x y h k = absurd k
Appends-more (Some xs) (Some ys) (Some zs) x y h k = k ∙ ap (λ l. l ++ y) h ∙ append_assoc xs x y

pub Consumes-none : (r : Known) → Consumes r r []
Consumes-none None = tt
Consumes-none (Some xs) = refl

pub Consumes-more : (a b c : Known) (x y : List ℕ) → Consumes a b x → Consumes b c y → Consumes a c (x ++ y)
Consumes-more None b c x y h k = tt
Consumes-more (Some xs) None c x y h k = absurd h
Consumes-more (Some xs) (Some ys) None x y h k = absurd k
Consumes-more (Some xs) (Some ys) (Some zs) x y h k = h ∙ ap (λ l. x ++ l) k ∙ sym (append_assoc x y zs)

-- no call
pub asked_none : (s : Operators) (w : Known) → HasAsked s s w w [] true
asked_none s w = record {
  asked = [];
  unasked = [];
  order = refl;
  stages = sym (append-nil (staged s));
  whole = [];
  last = [];
  one = lit≤ tt;
  collects = sym (append-nil (collected s));
  front = [];
  unwritten = [];
  cut = refl;
  writes = Appends-none w;
  all = λ _. (refl, refl);
}

-- a call that found the host ended before
pub asked_not : (s t : Operators) (w : Known) (call : OperatorCall) → staged t ≡ staged s → collected t ≡ collected s → HasAsked s t w w (record { 0 = call } ∷ []) false
asked_not s t w call stages collects = record {
  asked = [];
  unasked = record { 0 = call } ∷ [];
  order = refl;
  stages = stages ∙ sym (append-nil (staged s));
  whole = [];
  last = [];
  one = lit≤ tt;
  collects = collects ∙ sym (append-nil (collected s));
  front = [];
  unwritten = [];
  cut = refl;
  writes = Appends-none w;
  all = λ on. absurd cc;
}

-- a call of whose reply a front was written, or nothing
pub asked_cut : (s t : Operators) (w0 w1 : Known) (call : OperatorCall) (reply : RingReply) (front unwritten : List ℕ) → staged t ≡ staged s ++ call ∷ [] → collected t ≡ collected s ++ reply ∷ []
    → framed (host_body reply) ≡ front ++ unwritten → Appends w0 w1 front → HasAsked s t w0 w1 (record { 0 = call } ∷ []) false
asked_cut s t w0 w1 call reply front unwritten stages collects cut writes = record {
  asked = record { 0 = call } ∷ [];
  unasked = [];
  order = refl;
  stages = stages;
  whole = [];
  last = reply ∷ [];
  one = lit≤ tt;
  collects = collects;
  front = front;
  unwritten = unwritten;
  cut = append-nil (framed (host_body reply)) ∙ cut;
  writes = writes;
  all = λ on. absurd cc;
}

-- a call whose reply was written whole
pub asked_whole : (s t : Operators) (w0 w1 : Known) (call : OperatorCall) (reply : RingReply) → staged t ≡ staged s ++ call ∷ [] → collected t ≡ collected s ++ reply ∷ []
    → Appends w0 w1 (framed (host_body reply)) → HasAsked s t w0 w1 (record { 0 = call } ∷ []) true
asked_whole s t w0 w1 call reply stages collects writes = record {
  asked = record { 0 = call } ∷ [];
  unasked = [];
  order = refl;
  stages = stages;
  whole = reply ∷ [];
  last = [];
  one = lit≤ tt;
  collects = collects;
  front = [];
  unwritten = [];
  cut = refl;
  writes = subst (λ (x : List ℕ). Appends w0 w1 x) (sym (append-nil (framed (host_body reply) ++ []) ∙ append-nil (framed (host_body reply)))) writes;
  all = λ _. (refl, refl);
}

-- what was written of a reply or all of it
pub asked_written : (s t : Operators) (w0 w1 : Known) (call : OperatorCall) (reply : RingReply) (frame : List ℕ) (is_all : Bool) → staged t ≡ staged s ++ call ∷ [] → collected t ≡ collected s ++ reply ∷ []
    → frame ≡ framed (host_body reply) → IsWritten w0 w1 frame is_all → HasAsked s t w0 w1 (record { 0 = call } ∷ []) is_all
asked_written s t w0 w1 call reply frame true stages collects is writes = asked_whole s t w0 w1 call reply stages collects (subst (λ (x : List ℕ). Appends w0 w1 x) is writes)
asked_written s t w0 w1 call reply frame false stages collects is writes = asked_cut s t w0 w1 call reply writes.0 writes.1 stages collects (sym is ∙ writes.3) writes.4

abbrev call_of : Operator → OperatorCall
call_of c = c.0

front_none : (x y : List ℕ) → x ++ y ≡ [] → x ≡ []
front_none [] y e = refl
front_none (c ∷ cs) y e = absurd cc

-- some calls, and then some more
pub asked_then : (s t u : Operators) (w0 w1 w2 : Known) (xs ys : List Operator) (goes_on : Bool) → HasAsked s t w0 w1 xs true → HasAsked t u w1 w2 ys goes_on → HasAsked s u w0 w2 (xs ++ ys) goes_on
asked_then s t u w0 w1 w2 xs ys goes_on a b =
    let done = a.all refl in
    let xs_are : xs ≡ a.asked = a.order ∙ ap (λ (cs : List Operator). a.asked ++ cs) done.0 ∙ append-nil a.asked in
    let replies : collected t ≡ collected s ++ a.whole = a.collects ∙ ap (λ (rs : List RingReply). collected s ++ (a.whole ++ rs)) done.1 ∙ ap (λ (rs : List RingReply). collected s ++ rs) (append-nil a.whole) in
    let none : a.front ++ a.unwritten ≡ [] = sym a.cut ∙ ap frames_of done.1 in
    let no_front : a.front ≡ [] = front_none a.front a.unwritten none in
    let text : Appends w0 w1 (frames_of a.whole) = subst (λ (x : List ℕ). Appends w0 w1 x) (ap (λ (x : List ℕ). frames_of a.whole ++ x) no_front ∙ append-nil (frames_of a.whole)) a.writes in
    record {
      asked = a.asked ++ b.asked;
      unasked = b.unasked;
      order = ap (λ (cs : List Operator). cs ++ ys) xs_are ∙ ap (λ (cs : List Operator). a.asked ++ cs) b.order ∙ sym (append_assoc a.asked b.asked b.unasked);
      stages = b.stages ∙ ap (λ (cs : List OperatorCall). cs ++ map call_of b.asked) a.stages ∙ append_assoc (staged s) (map call_of a.asked) (map call_of b.asked)
          ∙ ap (λ (cs : List OperatorCall). staged s ++ cs) (sym (map-append call_of a.asked b.asked));
      whole = a.whole ++ b.whole;
      last = b.last;
      one = b.one;
      collects = b.collects ∙ ap (λ (rs : List RingReply). rs ++ (b.whole ++ b.last)) replies ∙ append_assoc (collected s) a.whole (b.whole ++ b.last)
          ∙ ap (λ (rs : List RingReply). collected s ++ rs) (sym (append_assoc a.whole b.whole b.last));
      front = b.front;
      unwritten = b.unwritten;
      cut = b.cut;
      writes = subst (λ (x : List ℕ). Appends w0 w2 x) (sym (append_assoc (frames_of a.whole) (frames_of b.whole) b.front)
          ∙ ap (λ (x : List ℕ). x ++ b.front) (sym (flat_map-append (λ r. framed (host_body r)) a.whole b.whole)))
          (Appends-more w0 w1 w2 (frames_of a.whole) (frames_of b.whole ++ b.front) text b.writes);
      all = b.all;
    }

-- and others that are not asked
pub asked_no_more : (s t : Operators) (w0 w1 : Known) (xs ys : List Operator) (goes_on : Bool) → HasAsked s t w0 w1 xs goes_on → HasAsked s t w0 w1 (xs ++ ys) false
asked_no_more s t w0 w1 xs ys goes_on a = record {
  asked = a.asked;
  unasked = a.unasked ++ ys;
  order = ap (λ (cs : List Operator). cs ++ ys) a.order ∙ append_assoc a.asked a.unasked ys;
  stages = a.stages;
  whole = a.whole;
  last = a.last;
  one = a.one;
  collects = a.collects;
  front = a.front;
  unwritten = a.unwritten;
  cut = a.cut;
  writes = a.writes;
  all = λ on. absurd cc;
}

-- what was read, asked and written while the connection goes on
pub record Stands (r0 r1 w0 w1 : Known) (s t : Operators) (held : Held) : Type 0 where
  pub bytes : List ℕ
  pub calls : List Operator
  pub read : Consumes r0 r1 bytes
  pub come : HasCome (λ (c : Operator). operator_body c.0) (λ (c : Operator). OperatorFits c.0) operator_at 32787 held bytes calls
  pub asked : HasAsked s t w0 w1 calls true
  pub good : held.fault ≡ None

-- how it ends
pub operated : (r0 r1 w0 w1 : Known) (s t : Operators) (held : Held) (bytes unfed : List ℕ) (calls : List Operator) (goes_on : Bool) → Consumes r0 r1 (bytes ++ unfed)
    → HasCome (λ (c : Operator). operator_body c.0) (λ (c : Operator). OperatorFits c.0) operator_at 32787 held bytes calls → HasAsked s t w0 w1 calls goes_on → IsOperated r0 r1 w0 w1 s t
operated r0 r1 w0 w1 s t held bytes unfed calls goes_on read come asked = record {
  bytes = bytes;
  unfed = unfed;
  read = read;
  calls = calls;
  rest = held.bytes ++ come.unheld;
  fault = held.fault;
  stream = come.reads;
  goes_on = goes_on;
  served = asked;
}

-- it ends as it stands
pub ends_here : (r0 r1 r2 w0 w1 : Known) (s t : Operators) (held : Held) → Stands r0 r1 w0 w1 s t held → Keeps r1 r2 → IsOperated r0 r2 w0 w1 s t
ends_here r0 r1 r2 w0 w1 s t held h kept =
    operated r0 r2 w0 w1 s t held h.bytes [] h.calls true
    (subst (λ (x : List ℕ). Consumes r0 r2 x) (sym (append-nil h.bytes)) (Consumes-kept r0 r1 r2 h.bytes h.read kept)) h.come h.asked

Keeps-same : (r : Known) → Keeps r r
Keeps-same None = tt
Keeps-same (Some xs) = refl

pub ends_now : (r0 r1 w0 w1 : Known) (s t : Operators) (held : Held) → Stands r0 r1 w0 w1 s t held → IsOperated r0 r1 w0 w1 s t
ends_now r0 r1 w0 w1 s t held h = ends_here r0 r1 r1 w0 w1 s t held h (Keeps-same r1)

-- it ends, as there is no memory for a piece
pub ends_unfed : (r0 r1 r2 w0 w1 : Known) (s t : Operators) (held : Held) (piece : List ℕ) → Stands r0 r1 w0 w1 s t held → Consumes r1 r2 piece → IsOperated r0 r2 w0 w1 s t
ends_unfed r0 r1 r2 w0 w1 s t held piece h read = operated r0 r2 w0 w1 s t held h.bytes piece h.calls true (Consumes-more r0 r1 r2 h.bytes piece h.read read) h.come h.asked

-- it ends, or goes on, behind a piece whose calls were asked
pub ends_behind : (r0 r1 r2 w0 w1 w2 : Known) (s t u : Operators) (held new : Held) (piece : List ℕ) (values : List Operator) (goes_on : Bool) → Stands r0 r1 w0 w1 s t held → Consumes r1 r2 piece
    → ((stream : List ℕ) (calls : List Operator) → HasCome (λ (c : Operator). operator_body c.0) (λ (c : Operator). OperatorFits c.0) operator_at 32787 held stream calls
    → HasCome (λ (c : Operator). operator_body c.0) (λ (c : Operator). OperatorFits c.0) operator_at 32787 new (stream ++ piece) (calls ++ values))
    → HasAsked t u w1 w2 values goes_on → IsOperated r0 r2 w0 w2 s u
ends_behind r0 r1 r2 w0 w1 w2 s t u held new piece values goes_on h read came asked =
    operated r0 r2 w0 w2 s u new (h.bytes ++ piece) [] (h.calls ++ values) goes_on
    (subst (λ (x : List ℕ). Consumes r0 r2 x) (sym (append-nil (h.bytes ++ piece))) (Consumes-more r0 r1 r2 h.bytes piece h.read read)) (came h.bytes h.calls h.come)
    (asked_then s t u w0 w1 w2 h.calls values goes_on h.asked asked)

none_of : (o : Option Fault) → is_some o ≡ false → o ≡ None
none_of None e = refl
none_of (Some x) e = absurd cc

pub goes_behind : (r0 r1 r2 w0 w1 w2 : Known) (s t u : Operators) (held new : Held) (piece : List ℕ) (values : List Operator) (goes_on : Bool) (fault : Option Fault) → Stands r0 r1 w0 w1 s t held → Consumes r1 r2 piece
    → ((stream : List ℕ) (calls : List Operator) → HasCome (λ (c : Operator). operator_body c.0) (λ (c : Operator). OperatorFits c.0) operator_at 32787 held stream calls
    → HasCome (λ (c : Operator). operator_body c.0) (λ (c : Operator). OperatorFits c.0) operator_at 32787 new (stream ++ piece) (calls ++ values))
    → HasAsked t u w1 w2 values goes_on → goes_on ≡ true → fault ≡ new.fault → is_some fault ≡ false → Stands r0 r2 w0 w2 s u new
goes_behind r0 r1 r2 w0 w1 w2 s t u held new piece values goes_on fault h read came asked on told none = record {
  bytes = h.bytes ++ piece;
  calls = h.calls ++ values;
  read = Consumes-more r0 r1 r2 h.bytes piece h.read read;
  come = came h.bytes h.calls h.come;
  asked = asked_then s t u w0 w1 w2 h.calls values true h.asked (subst (λ (b : Bool). HasAsked t u w1 w2 values b) on asked);
  good = sym told ∙ none_of fault none;
}

pub begins : (r w : Known) (s : Operators) (held : Held) → HasCome (λ (c : Operator). operator_body c.0) (λ (c : Operator). OperatorFits c.0) operator_at 32787 held [] [] → held.fault ≡ None
    → Stands r r w w s s held
begins r w s held come good = record { bytes = []; calls = []; read = Consumes-none r; come = come; asked = asked_none s w; good = good }

-- calls of which some were asked so far
pub record AreAsked (s t : Operators) (w0 w1 : Known) (all waits : List Operator) : Type 0 where
  pub done : List Operator
  pub order : all ≡ done ++ waits
  pub asked : HasAsked s t w0 w1 done true

pub asks_next : (s t u : Operators) (w0 w1 w2 : Known) (all waits rest : List Operator) (call : Operator) (goes_on : Bool) → AreAsked s t w0 w1 all waits → waits ≡ call ∷ rest
    → HasAsked t u w1 w2 (call ∷ []) goes_on → goes_on ≡ true → AreAsked s u w0 w2 all rest
asks_next s t u w0 w1 w2 all waits rest call goes_on h is asked on = record {
  done = h.done ++ call ∷ [];
  order = h.order ∙ ap (λ (cs : List Operator). h.done ++ cs) is ∙ sym (append_assoc h.done (call ∷ []) rest);
  asked = asked_then s t u w0 w1 w2 h.done (call ∷ []) true h.asked (subst (λ (b : Bool). HasAsked t u w1 w2 (call ∷ []) b) on asked);
}

pub asks_last : (s t u : Operators) (w0 w1 w2 : Known) (all waits rest : List Operator) (call : Operator) (goes_on : Bool) → AreAsked s t w0 w1 all waits → waits ≡ call ∷ rest
    → HasAsked t u w1 w2 (call ∷ []) goes_on → HasAsked s u w0 w2 all false
asks_last s t u w0 w1 w2 all waits rest call goes_on h is asked =
    subst (λ (cs : List Operator). HasAsked s u w0 w2 cs false)
    (append_assoc h.done (call ∷ []) rest ∙ ap (λ (cs : List Operator). h.done ++ cs) (sym is) ∙ sym h.order)
    (asked_no_more s u w0 w2 (h.done ++ call ∷ []) rest goes_on (asked_then s t u w0 w1 w2 h.done (call ∷ []) goes_on h.asked asked))

pub asks_no_more : (s t : Operators) (w0 w1 : Known) (all waits : List Operator) → AreAsked s t w0 w1 all waits → HasAsked s t w0 w1 all false
asks_no_more s t w0 w1 all waits h = subst (λ (cs : List Operator). HasAsked s t w0 w1 cs false) (sym h.order) (asked_no_more s t w0 w1 h.done waits true h.asked)

pub asks_all : (s t : Operators) (w0 w1 : Known) (all waits : List Operator) → AreAsked s t w0 w1 all waits → waits ≡ [] → HasAsked s t w0 w1 all true
asks_all s t w0 w1 all waits h none =
    subst (λ (cs : List Operator). HasAsked s t w0 w1 cs true) (sym (h.order ∙ ap (λ (cs : List Operator). h.done ++ cs) none ∙ append-nil h.done)) h.asked

-- a call that finds the host ended, before or by its reply: nothing is written of that
pub found_ended : (s t : Operators) (w : Known) (call : OperatorCall) (was_closed : Bool) → (was_closed ≡ true → (staged t ≡ staged s) × (collected t ≡ collected s))
    → (was_closed ≡ false → (staged t ≡ staged s ++ call ∷ []) × (collected t ≡ collected s ++ Closing ∷ [])) → HasAsked s t w w (record { 0 = call } ∷ []) false
found_ended s t w call true before closing = asked_not s t w call (before refl).0 (before refl).1
found_ended s t w call false before closing = asked_cut s t w w call Closing [] (framed (host_body Closing)) (closing refl).0 (closing refl).1 refl (Appends-none w)

pub same_seat : (s : Operators) → SameSeat s s
same_seat s = (((refl, refl, refl, refl), refl), ((refl, refl, refl, refl), refl), refl)
