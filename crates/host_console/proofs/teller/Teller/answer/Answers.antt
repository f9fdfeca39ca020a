use Rattle.std.proofs.Common.{rules, ◌≡◌, ◌++◌, refl, append_assoc, arith}
use Rattle.std.proofs.lemmas.Grind.{common_steps}
use Rattle.std.specs.Prelude.{Result, Ok, Err, OnErr}
use Rattle.host_calls.specs.Texts.{text_of}
use Rattle.host_console.specs.Printed.{ended}
use Rattle.host_console.proofs.teller.Teller.answer.Goals as goal

pub returns-clause-ok : goal.returns-clause-ok
returns-clause-ok g c =
    let put : c.put_answer.new.out.items ≡ c.args.out.now.items ++ text_of c.call-answer.result = search rules in
    let line : c.push.new.self.items ≡ c.args.out.now.items ++ ended (text_of c.call-answer.result) = grind (arith, common_steps, append_assoc) in
    rw (← c.self.view_is) (ended (text_of c.call-answer.result), line, ((c.call-answer.result, c.call-answer.ensures, refl), refl, refl))

-- what holds in any case
on_err : {T E P : Type 0} (r : Result T E) → P → OnErr r P
on_err (Ok x) p = tt
on_err (Err e) p = p

pub returns-in_err-map_err-clause-err : goal.returns-in_err-map_err-clause-err
returns-in_err-map_err-clause-err g c =
    rw (← c.self.view_is) (on_err c.from_residual.result (ended (text_of c.call-answer.result), ((c.call-answer.result, c.call-answer.ensures, refl), refl, refl)))

pub returns-in_err-push-clause-err : goal.returns-in_err-push-clause-err
returns-in_err-push-clause-err g c =
    rw (← c.self.view_is) (on_err c.from_residual-in_err-push.result (ended (text_of c.call-answer.result), ((c.call-answer.result, c.call-answer.ensures, refl), refl, refl)))
