-- The seat of the operator while it is served (our profile).
use Rattle.std.specs.Prelude.{◌≡◌, ℕ, ◌≤◌, Bool, true, false, List, [], ◌∷◌, ◌++◌, length, map, Option}
use Rattle.std.specs.Io.KnownBytes.{Appends, Consumes}
use Rattle.host_calls.specs.declared.operator.OperatorCall.{OperatorCall}
use Rattle.host_calls.specs.declared.ring.RingReply.{RingReply}
use Rattle.host_core.specs.Seats.{staged, collected, is_closed}
use Rattle.host_core.specs.declared.seat_rules.OperatorReplies.{OperatorReplies}
use Rattle.host_core.specs.declared.seat.Seat.{Seat}
use Rattle.session_proto.specs.Stream.{frames, IsStream}
use Rattle.session_proto.specs.Host.{host_body}
use Rattle.session_proto.specs.Operator.{operator_body, OperatorFits, operator_at}
use Rattle.session_proto.specs.declared.fault.Fault.{Fault}
use Rattle.session_proto.specs.declared.operator.Operator.{Operator}

-- the seat of the operator
abbrev pub Operators : Type 0
Operators = Seat OperatorCall OperatorReplies

-- if the host has not ended, each call of the seat was answered
abbrev pub IsBetween : Operators → Type 0
IsBetween s = is_closed s ≡ false → length (staged s) ≡ length (collected s)

-- just this call was staged, and one reply collected
abbrev pub Asks : OperatorCall → Operators → Operators → Type 0
Asks call s t = (reply : RingReply) × (staged t ≡ staged s ++ call ∷ []) × (collected t ≡ collected s ++ reply ∷ [])

-- bytes that are known, or not
abbrev pub Known : Type 0
Known = Option (List ℕ)

-- the frames of replies, one after the other (our format)
abbrev pub frames_of : List RingReply → List ℕ
frames_of replies = frames host_body replies

-- of some calls the first ones were asked in their order, each once the reply to the one before was written whole; of the reply to the last only
-- a front may be written, and then, or if there is none for it, no other is asked (our profile)
pub record HasAsked (s t : Operators) (w0 w1 : Known) (calls : List Operator) (goes_on : Bool) : Type 0 where
  pub asked : List Operator
  pub unasked : List Operator
  pub order : calls ≡ asked ++ unasked
  pub stages : staged t ≡ staged s ++ map (λ (c : Operator). c.0) asked
  pub whole : List RingReply
  pub last : List RingReply
  pub one : length last ≤ 1
  pub collects : collected t ≡ collected s ++ (whole ++ last)
  pub front : List ℕ
  pub unwritten : List ℕ
  pub cut : frames_of last ≡ front ++ unwritten
  pub writes : Appends w0 w1 (frames_of whole ++ front)
  pub all : goes_on ≡ true → (unasked ≡ []) × (last ≡ [])

-- a connection of the operator: the calls that were asked are those of the first frames that were read, in their order; behind them a piece
-- that for want of memory was not looked at, or nothing (our profile)
pub record IsOperated (r0 r1 w0 w1 : Known) (s t : Operators) : Type 0 where
  pub bytes : List ℕ
  pub unfed : List ℕ
  pub read : Consumes r0 r1 (bytes ++ unfed)
  pub calls : List Operator
  pub rest : List ℕ
  pub fault : Option Fault
  pub stream : IsStream (λ (c : Operator). operator_body c.0) (λ (c : Operator). OperatorFits c.0) operator_at 32787 bytes calls rest fault
  pub goes_on : Bool
  pub served : HasAsked s t w0 w1 calls goes_on
