-- The calls of a session, asked one after the other, and what their answers are as bytes.
use Rattle.std.specs.Prelude.{◌≡◌, ℕ, List, [], ◌∷◌, ◌++◌, Result, Ok, Err, Option}
use Rattle.plain.specs.declared.answer.Answer.{Answer}
use Rattle.host_calls.specs.declared.client.ClientCall.{ClientCall}
use Rattle.host_calls.specs.declared.ring.Closed.{Closed}
use Rattle.host_calls.specs.declared.ring.RingReply.TheVariants as ring
use Rattle.session_proto.specs.Frame.{framed}
use Rattle.session_proto.specs.Stream.{frames}
use Rattle.session_proto.specs.Host.{host_body}
use Rattle.session_proto.specs.declared.client.Client.{Client}

-- bytes that are known, or not
abbrev pub Known : Type 0
Known = Option (List ℕ)

-- calls asked one after the other, each with an answer by the asker's own relation (our profile)
abbrev pub AreAsked : {A : Type 0} → (A → ClientCall → Result Answer Closed → A → Type 0)
    → A → List Client → List Answer → A → Type 0
AreAsked asks a [] [] b = b ≡ a
AreAsked asks a [] (answer ∷ answers) b = ⊥
AreAsked asks a (call ∷ calls) [] b = ⊥
AreAsked {A} asks a (call ∷ calls) (answer ∷ answers) b =
    (mid : A) × asks a call.0 (Ok answer) mid × AreAsked asks mid calls answers b

-- and the last found the host ended
abbrev pub AreAskedTillClosed : {A : Type 0} → (A → ClientCall → Result Answer Closed → A → Type 0)
    → A → List Client → List Answer → A → Type 0
AreAskedTillClosed {A} asks a calls answers b =
    (before : List Client) × (last : Client) × (mid : A) × (closed : Closed)
    × (calls ≡ before ++ last ∷ []) × AreAsked asks a before answers mid × asks mid last.0 (Err closed) b

-- the body of an answer's frame (our format)
abbrev pub answer_body : Answer → List ℕ
answer_body answer = host_body (ring.Answer answer)

-- an answer's frame (our format)
abbrev pub frame_of : Answer → List ℕ
frame_of answer = framed (answer_body answer)

-- the frames of answers, one after the other (our format)
abbrev pub frames_of : List Answer → List ℕ
frames_of answers = frames answer_body answers
