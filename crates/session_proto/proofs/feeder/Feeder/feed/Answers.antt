use Rattle.std.proofs.Common.{ℕ, List, take, refl, sym, ap, ◌∙◌}
use Rattle.std.proofs.lemmas.List.{take_at}
use Rattle.session_proto.specs.Stream.{Held}
use Rattle.session_proto.specs.declared.version.Version.TheVariants.{One}
use Rattle.session_proto.proofs.Streams.{comes_unheld, reads_piece, comes_piece, grows_by, is_fault, refused}
use Rattle.session_proto.proofs.feeder.Feeder.feed.Goals as goal

pub returns-in-Some-clause-came : goal.returns-in-Some-clause-came
returns-in-Some-clause-came g c = λ stream values came. rw c.new.ensures.items
    (comes_unheld g.S.Side.body (g.S.Side.fits One) (g.S.Side.body_at One) g.S.Side.MOST c.args.self.now stream c.args.piece.now values c.in-Some.fault
    (rw (← c.self.view_is) c.in-Some.is) came)

pub returns-in-Some-clause-fault : goal.returns-in-Some-clause-fault
returns-in-Some-clause-fault g c = sym (ap (λ (h : Held). h.fault) (sym c.self.view_is) ∙ c.in-Some.is)

pub returns-in-Some-clause-again : goal.returns-in-Some-clause-again
returns-in-Some-clause-again g c = λ f is. (refl, (c.new.ensures.items, sym c.in-Some.is ∙ ap (λ (h : Held). h.fault) c.self.view_is ∙ is))

pub returns-in-Some-clause-short : goal.returns-in-Some-clause-short
returns-in-Some-clause-short g c = λ none. absurd (is_fault c.in-Some.fault none)

pub returns-in-Some-clause-grows : goal.returns-in-Some-clause-grows
returns-in-Some-clause-grows g c = λ _ none. absurd (is_fault c.in-Some.fault none)

pub returns-in-Ok-clause-came : goal.returns-in-Ok-clause-came
returns-in-Ok-clause-came g c = λ stream values came. comes_piece (record { bytes = c.self.inside.held.items; fault = c.self.inside.fault }) stream c.args.piece.now c.in_default.not-Some
    (reads_piece c.self.inside.held.items c.args.piece.now c.in-Ok.found.size
    c.in_ok-extend_from_slice.ensures.items c.deref.ensures.value c.let_go.ensures c.in-Ok.ensures.read)
    (rw c.self.view_is came)

pub returns-in-Ok-clause-read : goal.returns-in-Ok-clause-read
returns-in-Ok-clause-read g c = λ _. rw (← c.self.view_is) (reads_piece c.self.inside.held.items c.args.piece.now c.in-Ok.found.size
    c.in_ok-extend_from_slice.ensures.items c.deref.ensures.value c.let_go.ensures c.in-Ok.ensures.read)

pub returns-in-Ok-clause-fault : goal.returns-in-Ok-clause-fault
returns-in-Ok-clause-fault g c = refl

pub returns-in-Ok-clause-again : goal.returns-in-Ok-clause-again
returns-in-Ok-clause-again g c = λ f is. absurd (c.in_default.not-Some f (ap (λ (h : Held). h.fault) c.self.view_is ∙ is))

pub returns-in-Ok-clause-grows : goal.returns-in-Ok-clause-grows
returns-in-Ok-clause-grows g c = λ none _. rw (← c.self.view_is) (grows_by (reads_piece c.self.inside.held.items c.args.piece.now c.in-Ok.found.size
    c.in_ok-extend_from_slice.ensures.items c.deref.ensures.value c.let_go.ensures c.in-Ok.ensures.read) none)

pub returns-in-Err-clause-again : goal.returns-in-Err-clause-again
returns-in-Err-clause-again g c = λ f is. absurd (c.in_default.not-Some f (ap (λ (h : Held). h.fault) c.self.view_is ∙ is))

pub returns-in_err-extend_from_slice-clause-again : goal.returns-in_err-extend_from_slice-clause-again
returns-in_err-extend_from_slice-clause-again g c = λ f is. absurd (c.in_default.not-Some f (ap (λ (h : Held). h.fault) c.self.view_is ∙ is))

pub returns-in_err-extend_from_slice-clause-err : goal.returns-in_err-extend_from_slice-clause-err
returns-in_err-extend_from_slice-clause-err g c = refused c.from_residual.result
    (ap (λ (x : List ℕ). record { bytes = x; fault = c.self.inside.fault }) c.in_err-extend_from_slice.ensures.items ∙ c.self.view_is)

pub returns-in-Err-clause-err : goal.returns-in-Err-clause-err
returns-in-Err-clause-err g c = ap (λ (x : List ℕ). record { bytes = x; fault = c.self.inside.fault })
    (c.truncate.ensures.items ∙ ap (take c.len-before.result) c.in_ok-extend_from_slice.ensures.items ∙ take_at c.self.inside.held.items c.args.piece.now c.len-before.result (sym (c.len-before.ensures ∙ c.self.inside.held.ok.0)))
    ∙ c.self.view_is
