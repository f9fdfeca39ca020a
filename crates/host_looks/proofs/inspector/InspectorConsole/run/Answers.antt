use Rattle.std.proofs.Common.{◌≡◌, ℕ, List, ◌++◌, true, rules, subst}
use Rattle.script_line.specs.Query.{is_query}
use Rattle.script_line.specs.declared.line.Line.{Line}
use Rattle.host_looks.specs.Telling.{IsTold}
use Rattle.host_looks.proofs.inspector.InspectorConsole.run.Goals as goal

pub returns-clause-ok : goal.returns-clause-ok
returns-clause-ok g c =
    let text = c.in-Some.told.text.items in
    let query : is_query c.args.line ≡ true = search rules in
    let put : c.extend_from_slice.new.self.items ≡ c.args.out.now.items ++ text = search rules in
    let P : Line → Type 0 = λ l. ∥ IsTold l text ∥₁ in
    (text, put, (query, subst P c.in-Some.ensures.asked.0 c.in-Some.told.told))
