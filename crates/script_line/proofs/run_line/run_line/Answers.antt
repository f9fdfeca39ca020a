use Rattle.std.proofs.Common.{◌<◌, inl, inr, length, refl, rules, sym, ◌∙◌, subst}
use Rattle.script_line.specs.Script.{IsSilent, IsStrange, MayHaveRun, Step}
use Rattle.script_line.proofs.Same.{one_spelling}
use Rattle.script_line.proofs.run_line.run_line.Goals as goal

-- a line that is spelled as one that does not run is that one
pub returns-then-not-runs : goal.returns-then-not-runs
returns-then-not-runs g c =
    let loud : IsSilent c.args.line.now → ⊥ = search rules in
    let strange : IsStrange g.C.Console.prints c.args.console.now c.in-Some.found = search rules in (
      (
        loud,
        λ l fits is.
            subst (IsStrange g.C.Console.prints c.args.console.now)
            (one_spelling c.in-Some.found l c.in-Some.ensures.found.0 fits (sym c.in-Some.ensures.found.1 ∙ is))
            strange,
      ),
      refl,
    )

pub returns-in-Err : goal.returns-in-Err
returns-in-Err g c =
    let some : 0 < length c.args.line.now = search rules in
    let ran : MayHaveRun (Step g.C.Console.prints) c.args.console.now c.args.line.now c.run.new.self = elim c.in-Err.ensures.err [
      | inl same ↦ inl same
      | inr run ↦ inr (run.0, inr (c.in-Some.found, c.in-Some.ensures.found.0, c.in-Some.ensures.found.1, run.1))
    ] in
    (some, ran)
