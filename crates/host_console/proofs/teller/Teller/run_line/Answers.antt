use Rattle.std.proofs.Common.{ℕ, List, inr, sym, ap, ◌∙◌, subst}
use Rattle.std.specs.Prelude.{Option, None, Some, ◌≡◌}
use Rattle.std.proofs.lemmas.Result.{on_ok_weaker, on_err_weaker}
use Rattle.script_line.specs.declared.line.Line.{Line}
use Rattle.plain.specs.declared.call.Call.{Call}
use Rattle.host_console.specs.Printed.{Desk, AnswersOver, Looks, Prints, asked}
use Rattle.host_console.proofs.teller.Teller.run_line.Goals as goal

-- what a line prints, by the call that it makes
abbrev PrintsBy : Desk → Line → List ℕ → Desk → Option Call → Type 0
PrintsBy before line text after made = elim made [ None ↦ Looks before line text after | Some c ↦ AnswersOver before c text after ]

-- a line prints what its own call is answered
prints-asked : (before after : Desk) (line : Line) (made : Call) (text : List ℕ) → asked before.payload line ≡ Some made → AnswersOver before made text after → Prints before line text after
prints-asked before after line made text is answers = subst (PrintsBy before line text after) (sym is) answers

-- or, with no call of its own, what it finds
prints-looks : (before after : Desk) (line : Line) (text : List ℕ) → asked before.payload line ≡ None → Looks before line text after → Prints before line text after
prints-looks before after line text is looks = subst (PrintsBy before line text after) (sym is) looks

pub returns-in-Some-clause-ok : goal.returns-in-Some-clause-ok
returns-in-Some-clause-ok g c =
    let asks : Desk → Option Call = λ d. asked d.payload c.args.line in
    let is : asked c.args.self.now.payload c.args.line ≡ Some c.in-Some.call = sym (ap asks c.self.view_is) ∙ sym c.in_ok-call.ensures ∙ c.in-Some.is in
    on_ok_weaker c.answer.result (λ h. (h.0, h.1, prints-asked _ _ c.args.line c.in-Some.call h.0 is h.2)) c.answer.ensures.ok

pub returns-in-Some-clause-err : goal.returns-in-Some-clause-err
returns-in-Some-clause-err g c =
    let asks : Desk → Option Call = λ d. asked d.payload c.args.line in
    let is : asked c.args.self.now.payload c.args.line ≡ Some c.in-Some.call = sym (ap asks c.self.view_is) ∙ sym c.in_ok-call.ensures ∙ c.in-Some.is in
    on_err_weaker c.answer.result (λ h. inr (h.0, prints-asked _ _ c.args.line c.in-Some.call h.0 is h.1)) c.answer.ensures.err
