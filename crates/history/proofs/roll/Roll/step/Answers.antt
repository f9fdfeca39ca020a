use Rattle.std.proofs.Common.{◌≡◌, ℕ, suc, ◌+◌, ◌-◌, ◌≤◌, List, [], ◌∷◌, ◌++◌, length, take, set, refl, sym, ap, ◌∙◌, subst, arith, true, map, length-set, vec_len, vec_capacity}
use Rattle.plain.specs.declared.answer.Answer.TheVariants.{Accepted, Refused, NotYet}
use Rattle.plain.specs.declared.answer.Code.TheVariants.{OutOfMemory}
use Rattle.change_record.specs.declared.change.Change.{Change}
use Rattle.plain.specs.Machine.{Plain}
use Rattle.change_record.specs.Tape.{step_at}
use Rattle.plain.specs.declared.sizes.Sizes.{Sizes}
use Rattle.plain.specs.declared.call.Stamped.{Stamped}
use Rattle.dispatch_core.specs.WellFormed.{IsSound}
use Rattle.plain.specs.Step.{of_sizes, step as plain_step}
use Rattle.std.specs.List.{take-map}
use Rattle.std.proofs.lemmas.List.{map-append}
use Rattle.dispatch_core.specs.Counts.{IsCount}
use Rattle.dispatch_core.specs.Running.{plain_of}
use Rattle.history.specs.Line.{IsLine}
use Rattle.history.specs.Places.{steps_in}
use Rattle.plain.specs.declared.call.Call.TheVariants.{Do}
use Rattle.history.proofs.Places.{still-placed}
use Rattle.history.specs.Roll.{Line, plain_at, MayStep}
use Rattle.history.proofs.Lines.{past-fold}
use Rattle.change_record.specs.Exchange.{back_tables, FitBack}
use Rattle.history.proofs.Ways.{same-line, step-line, made, roomed, may-other, may-accept, may-want, kept-last, added-last, dropped-last, length-added}
use Rattle.history.proofs.roll.Roll.step.Goals as goal

pub returns-in-Refused-clause-may : goal.returns-in-Refused-clause-may
returns-in-Refused-clause-may c =
    let i = c.self.inside in
    let old : Line = record { sizes = i.machine.sizes; steps = steps_in i.journal.items i.line.items; cursor = i.cursor; last = i.last; lengths = map length i.tape.steps; turns = i.machine.turns; journal = i.journal.items; spare = vec_capacity i.journal - vec_len i.journal } in
    let new : Line = record { sizes = c.apply.new.self.sizes; steps = steps_in c.made_ready-ready.new.journal.items c.made_ready-ready.new.line.items; cursor = i.cursor; last = i.last; lengths = map length c.apply.new.tape.steps; turns = c.apply.new.self.turns; journal = c.made_ready-ready.new.journal.items; spare = vec_capacity c.made_ready-ready.new.journal - vec_len c.made_ready-ready.new.journal } in
    let P : Line → Type 0 = λ v. MayStep v c.args.room c.args.step.now (Refused c.in-Refused.code) new in
    let plain : plain_of i.machine ≡ plain_at old = past-fold _ _ _ (steps_in i.journal.items i.line.items) i.cursor i.machine.tables c.self.invariant.line.within c.self.invariant.line.past in
    subst P c.self.view_is (may-other old new (plain_of i.machine) (plain_of c.apply.new.self) c.args.room c.args.step.now (Refused c.in-Refused.code) plain
    c.in-Refused.ensures.applies (λ h. h) (record { sizes = c.apply.ensures.sizes; steps = λ j. steps_in (c.made_ready-ready.ensures.items j) (c.made_ready-ready.ensures.places j); cursor = refl; last = refl; journal = c.made_ready-ready.ensures.items }))

pub returns-in-NotYet-clause-may : goal.returns-in-NotYet-clause-may
returns-in-NotYet-clause-may c =
    let i = c.self.inside in
    let old : Line = record { sizes = i.machine.sizes; steps = steps_in i.journal.items i.line.items; cursor = i.cursor; last = i.last; lengths = map length i.tape.steps; turns = i.machine.turns; journal = i.journal.items; spare = vec_capacity i.journal - vec_len i.journal } in
    let new : Line = record { sizes = c.apply.new.self.sizes; steps = steps_in c.made_ready-ready.new.journal.items c.made_ready-ready.new.line.items; cursor = i.cursor; last = i.last; lengths = map length c.apply.new.tape.steps; turns = c.apply.new.self.turns; journal = c.made_ready-ready.new.journal.items; spare = vec_capacity c.made_ready-ready.new.journal - vec_len c.made_ready-ready.new.journal } in
    let P : Line → Type 0 = λ v. MayStep v c.args.room c.args.step.now (NotYet c.in-NotYet.cause) new in
    let plain : plain_of i.machine ≡ plain_at old = past-fold _ _ _ (steps_in i.journal.items i.line.items) i.cursor i.machine.tables c.self.invariant.line.within c.self.invariant.line.past in
    subst P c.self.view_is (may-other old new (plain_of i.machine) (plain_of c.apply.new.self) c.args.room c.args.step.now (NotYet c.in-NotYet.cause) plain
    c.in-NotYet.ensures.applies (λ h. h) (record { sizes = c.apply.ensures.sizes; steps = λ j. steps_in (c.made_ready-ready.ensures.items j) (c.made_ready-ready.ensures.places j); cursor = refl; last = refl; journal = c.made_ready-ready.ensures.items }))

pub invariant_of-self-in-Some : goal.invariant_of-self-in-Some
invariant_of-self-in-Some c =
    let i = c.self.inside in
    let k : ℕ = i.cursor in
    let r = c.in-Accepted.ensures.records in
    let made_it : plain_of c.apply.new.self ≡ (plain_step (of_sizes i.machine.sizes) (plain_of i.machine) (i.last + 1) true c.args.step.now).0 =
    made (of_sizes i.machine.sizes) (plain_of i.machine) (plain_of c.apply.new.self) (i.last + 1) c.args.room c.args.step.now c.in-Accepted.reply c.in-Accepted.ensures.applies in
    let line : List Stamped = steps_in i.journal.items i.line.items in
    let ready : steps_in c.made_ready-ready.new.journal.items c.made_ready-ready.new.line.items ≡ line =
    λ j. steps_in (c.made_ready-ready.ensures.items j) (c.made_ready-ready.ensures.places j) in
    let lines : steps_in c.enter.new.journal.items c.enter.new.line.items ≡ take k line ++ record { serial = i.last + 1; step = c.args.step.now } ∷ [] =
    c.enter.ensures.steps
    ∙ ap (λ l. take k l ++ record { serial = i.last + 1; step = c.in-Some.copy } ∷ []) ready
    ∙ ap (λ s. take k line ++ record { serial = i.last + 1; step = s } ∷ []) c.in-Some.ensures.copy in
    let cut : k ≤ length i.tape.steps = let e = c.self.invariant.line.even in let h = c.self.invariant.line.within in omega (arith, e, h) in
    let tapes : c.keep_last.new.self.steps ≡ take k i.tape.steps ++ r.0 ∷ [] =
    c.keep_last.ensures.steps
    ∙ ap (λ l. take k l ++ step_at l (length l - 1) ∷ []) r.1
    ∙ kept-last i.tape.steps r.0 k cut in
    let W : Sizes → Type 0 = λ z. IsSound (of_sizes z) (i.last + 1 + 1) c.apply.new.self.tables in
    let P : ℕ → Type 0 = λ n. IsLine (steps_in c.enter.new.journal.items c.enter.new.line.items) n (i.last + 1) c.apply.new.self.sizes c.apply.new.self.tables c.keep_last.new.self.steps c.keep_last.new.self.current in
    let Q : List Stamped → Type 0 = λ l. IsLine l (suc k) (i.last + 1) c.apply.new.self.sizes c.apply.new.self.tables c.keep_last.new.self.steps c.keep_last.new.self.current in
    record {
      placed = c.enter.ensures.placed;
      line = subst P (omega arith) (subst Q (sym lines) (same-line _ (suc k) (i.last + 1) _ _ _ _ _ _ _ _ c.apply.ensures.sizes refl tapes (c.keep_last.ensures.current ∙ sym c.self.invariant.line.idle)
          (step-line line k i.last i.machine.sizes i.machine.tables c.apply.new.self.tables i.tape.steps i.tape.current r.0 c.args.step.now
          c.self.invariant.line r.3 (subst W c.apply.ensures.sizes c.apply.ensures.well) made_it)));
    }

pub returns-in-Some-clause-may : goal.returns-in-Some-clause-may
returns-in-Some-clause-may c =
    let i = c.self.inside in
    let old : Line = record { sizes = i.machine.sizes; steps = steps_in i.journal.items i.line.items; cursor = i.cursor; last = i.last; lengths = map length i.tape.steps; turns = i.machine.turns; journal = i.journal.items; spare = vec_capacity i.journal - vec_len i.journal } in
    let new : Line = record { sizes = c.apply.new.self.sizes; steps = steps_in c.enter.new.journal.items c.enter.new.line.items; cursor = i.cursor + 1; last = i.last + 1; lengths = map length c.keep_last.new.self.steps; turns = c.apply.new.self.turns; journal = c.enter.new.journal.items; spare = vec_capacity c.enter.new.journal - vec_len c.enter.new.journal } in
    let P : Line → Type 0 = λ v. MayStep v c.args.room c.args.step.now (Accepted c.in-Accepted.reply) new in
    let plain : plain_of i.machine ≡ plain_at old = past-fold _ _ _ (steps_in i.journal.items i.line.items) i.cursor i.machine.tables c.self.invariant.line.within c.self.invariant.line.past in
    let k : ℕ = i.cursor in
    let line : List Stamped = steps_in i.journal.items i.line.items in
    let ready : steps_in c.made_ready-ready.new.journal.items c.made_ready-ready.new.line.items ≡ line =
    λ j. steps_in (c.made_ready-ready.ensures.items j) (c.made_ready-ready.ensures.places j) in
    let lines : steps_in c.enter.new.journal.items c.enter.new.line.items ≡ take k line ++ record { serial = i.last + 1; step = c.args.step.now } ∷ [] =
    c.enter.ensures.steps
    ∙ ap (λ l. take k l ++ record { serial = i.last + 1; step = c.in-Some.copy } ∷ []) ready
    ∙ ap (λ s. take k line ++ record { serial = i.last + 1; step = s } ∷ []) c.in-Some.ensures.copy in
    let entries : c.enter.new.journal.items ≡ i.journal.items ++ Do c.args.step.now ∷ [] =
    c.enter.ensures.entries
    ∙ ap (λ l. l ++ Do c.in-Some.copy ∷ []) c.made_ready-ready.ensures.items
    ∙ ap (λ s. i.journal.items ++ Do s ∷ []) c.in-Some.ensures.copy in
    subst P c.self.view_is (may-accept old new (plain_of i.machine) (plain_of c.apply.new.self) c.args.room c.args.step.now c.in-Accepted.reply plain
    c.in-Accepted.ensures.applies (record { sizes = c.apply.ensures.sizes; steps = lines; cursor = refl; last = refl; journal = entries }))

pub returns-in-None-clause-may : goal.returns-in-None-clause-may
returns-in-None-clause-may c =
    let i = c.self.inside in
    let old : Line = record { sizes = i.machine.sizes; steps = steps_in i.journal.items i.line.items; cursor = i.cursor; last = i.last; lengths = map length i.tape.steps; turns = i.machine.turns; journal = i.journal.items; spare = vec_capacity i.journal - vec_len i.journal } in
    let new : Line = record { sizes = c.back.new.self.sizes; steps = steps_in c.made_ready-ready.new.journal.items c.made_ready-ready.new.line.items; cursor = i.cursor; last = i.last; lengths = map length c.drop_last.new.self.steps; turns = c.back.new.self.turns; journal = c.made_ready-ready.new.journal.items; spare = vec_capacity c.made_ready-ready.new.journal - vec_len c.made_ready-ready.new.journal } in
    let P : Line → Type 0 = λ v. MayStep v c.args.room c.args.step.now (Refused OutOfMemory) new in
    let plain : plain_of i.machine ≡ plain_at old = past-fold _ _ _ (steps_in i.journal.items i.line.items) i.cursor i.machine.tables c.self.invariant.line.within c.self.invariant.line.past in
    subst P c.self.view_is (may-want old new (plain_of i.machine) (plain_of c.apply.new.self) c.args.room c.args.step.now c.in-Accepted.reply plain
    c.in-Accepted.ensures.applies (record { sizes = c.back.ensures.sizes ∙ c.apply.ensures.sizes; steps = λ j. steps_in (c.made_ready-ready.ensures.items j) (c.made_ready-ready.ensures.places j); cursor = refl; last = refl; journal = c.made_ready-ready.ensures.items }))

pub returns-in-Some-clause-lengths : goal.returns-in-Some-clause-lengths
returns-in-Some-clause-lengths c =
    let i = c.self.inside in
    let k : ℕ = i.cursor in
    let s = c.args.step.now in
    let r = c.in-Accepted.ensures.records in
    let old : Line = record { sizes = i.machine.sizes; steps = steps_in i.journal.items i.line.items; cursor = i.cursor; last = i.last; lengths = map length i.tape.steps; turns = i.machine.turns; journal = i.journal.items; spare = vec_capacity i.journal - vec_len i.journal } in
    let plain : plain_of i.machine ≡ plain_at old = past-fold _ _ _ (steps_in i.journal.items i.line.items) i.cursor i.machine.tables c.self.invariant.line.within c.self.invariant.line.past in
    let cut : k ≤ length i.tape.steps = let e = c.self.invariant.line.even in let h = c.self.invariant.line.within in omega (arith, e, h) in
    let tapes : c.keep_last.new.self.steps ≡ take k i.tape.steps ++ r.0 ∷ [] =
    c.keep_last.ensures.steps
    ∙ ap (λ l. take k l ++ step_at l (length l - 1) ∷ []) r.1
    ∙ kept-last i.tape.steps r.0 k cut in
    let lists : map length c.keep_last.new.self.steps ≡ take k (map length i.tape.steps) ++ length r.0 ∷ [] =
    ap (map length) tapes ∙ map-append length (take k i.tape.steps) (r.0 ∷ [])
    ∙ ap (λ l. l ++ length r.0 ∷ []) (sym (take-map length k i.tape.steps)) in
    let P : Line → Type 0 = λ v. map length c.keep_last.new.self.steps ≡ take v.cursor v.lengths ++ length r.0 ∷ [] in
    let M : Plain → Type 0 = λ m. IsCount m s (length r.0) in
    let Q : Line → Type 0 = λ v. IsCount (plain_at v) s (length r.0) in
    (length r.0, subst P c.self.view_is lists, subst Q c.self.view_is (subst M plain r.2))

-- the machine and its tape are as they were, and the line too
pub invariant_of-self : goal.invariant_of-self
invariant_of-self c =
    let i = c.self.inside in
    let r = c.in-Refused.ensures.records in
    let P : List Stamped → Type 0 = λ l. IsLine l i.cursor i.last c.apply.new.self.sizes c.apply.new.self.tables c.apply.new.tape.steps c.apply.new.tape.current in
    let ready : steps_in c.made_ready-ready.new.journal.items c.made_ready-ready.new.line.items ≡ steps_in i.journal.items i.line.items =
    λ j. steps_in (c.made_ready-ready.ensures.items j) (c.made_ready-ready.ensures.places j) in
    record {
      placed = still-placed i.journal.items c.made_ready-ready.new.journal.items i.line.items c.made_ready-ready.new.line.items c.made_ready-ready.ensures.items c.made_ready-ready.ensures.places c.self.invariant.placed;
      line = subst P (sym ready) (same-line (steps_in i.journal.items i.line.items) i.cursor i.last _ _ _ _ _ _ _ _ c.apply.ensures.sizes r.1 r.0
          (c.apply.ensures.idle ∙ sym c.self.invariant.line.idle) c.self.invariant.line);
    }

pub returns-in-Refused-clause-lengths : goal.returns-in-Refused-clause-lengths
returns-in-Refused-clause-lengths c = ap (map length) c.in-Refused.ensures.records.0 ∙ ap (λ v. v.lengths) c.self.view_is

pub invariant_of-self-in-NotYet : goal.invariant_of-self-in-NotYet
invariant_of-self-in-NotYet c =
    let i = c.self.inside in
    let r = c.in-NotYet.ensures.records in
    let P : List Stamped → Type 0 = λ l. IsLine l i.cursor i.last c.apply.new.self.sizes c.apply.new.self.tables c.apply.new.tape.steps c.apply.new.tape.current in
    let ready : steps_in c.made_ready-ready.new.journal.items c.made_ready-ready.new.line.items ≡ steps_in i.journal.items i.line.items =
    λ j. steps_in (c.made_ready-ready.ensures.items j) (c.made_ready-ready.ensures.places j) in
    record {
      placed = still-placed i.journal.items c.made_ready-ready.new.journal.items i.line.items c.made_ready-ready.new.line.items c.made_ready-ready.ensures.items c.made_ready-ready.ensures.places c.self.invariant.placed;
      line = subst P (sym ready) (same-line (steps_in i.journal.items i.line.items) i.cursor i.last _ _ _ _ _ _ _ _ c.apply.ensures.sizes r.1 r.0
          (c.apply.ensures.idle ∙ sym c.self.invariant.line.idle) c.self.invariant.line);
    }

pub returns-in-NotYet-clause-lengths : goal.returns-in-NotYet-clause-lengths
returns-in-NotYet-clause-lengths c = ap (map length) c.in-NotYet.ensures.records.0 ∙ ap (λ v. v.lengths) c.self.view_is

pub enter-requires-clause-small : goal.enter-requires-clause-small
enter-requires-clause-small c =
    let i = c.self.inside in
    let room : c.args.room ≡ true = roomed (of_sizes i.machine.sizes) (plain_of i.machine) (plain_of c.apply.new.self) (i.last + 1) c.args.room c.args.step.now c.in-Accepted.reply c.in-Accepted.ensures.applies in
    let few = c.requires.room room in
    let serials = c.requires.serials in
    let last : i.last ≡ c.args.self.now.last = ap (λ v. v.last) c.self.view_is in
    omega (arith, few, serials, last)

pub keep_last-requires-clause-there : goal.keep_last-requires-clause-there
keep_last-requires-clause-there c =
    let within = c.self.invariant.line.within in
    let even = c.self.invariant.line.even in
    let r = c.in-Accepted.ensures.records in
    let more = length-added c.apply.new.tape.steps c.self.inside.tape.steps r.0 r.1 in
    omega (arith, within, even, more)

pub keep_last-requires-clause-idle : goal.keep_last-requires-clause-idle
keep_last-requires-clause-idle c = c.apply.ensures.idle

pub overflow_sub-at : goal.overflow_sub-at
overflow_sub-at c =
    let r = c.in-Accepted.ensures.records in
    let more = length-added c.apply.new.tape.steps c.self.inside.tape.steps r.0 r.1 in
    let len = c.len-at.ensures in
    omega (arith, more, len)

pub back-requires-clause-there : goal.back-requires-clause-there
back-requires-clause-there c =
    let r = c.in-Accepted.ensures.records in
    let more = length-added c.apply.new.tape.steps c.self.inside.tape.steps r.0 r.1 in
    let len = c.len-at.ensures in
    omega (arith, more, len)

pub drop_last-requires-clause-there : goal.drop_last-requires-clause-there
drop_last-requires-clause-there c =
    let r = c.in-Accepted.ensures.records in
    let more = length-added c.apply.new.tape.steps c.self.inside.tape.steps r.0 r.1 in
    let same = ap length c.back.ensures.steps ∙ length-set c.apply.new.tape.steps _ _ in
    omega (arith, more, same)

pub drop_last-requires-clause-idle : goal.drop_last-requires-clause-idle
drop_last-requires-clause-idle c = c.back.ensures.current ∙ c.apply.ensures.idle

-- the step that is taken back is the last of the tape
taken-back : (all steps : List (List Change)) (changes : List Change) (n : ℕ) → n ≡ length all → all ≡ steps ++ changes ∷ [] → step_at all (n - 1) ≡ changes
taken-back all steps changes n e h =
    ap (λ x. step_at all (x - 1)) e ∙ ap (λ l. step_at l (length l - 1)) h ∙ added-last steps changes

-- without it the tape is as it was
steps-before : (all now steps : List (List Change)) (changes left : List Change) (n : ℕ) → n ≡ length all → all ≡ steps ++ changes ∷ [] → now ≡ set all (n - 1) left
    → take (length now - 1) now ≡ steps
steps-before all now steps changes left n e h w =
    ap (λ l. take (length l - 1) l) w
    ∙ ap (λ x. take (length (set all (x - 1) left) - 1) (set all (x - 1) left)) e
    ∙ ap (λ l. take (length (set l (length l - 1) left) - 1) (set l (length l - 1) left)) h
    ∙ dropped-last steps changes left

pub back-requires-clause-fits : goal.back-requires-clause-fits
back-requires-clause-fits c =
    let r = c.in-Accepted.ensures.records in
    let P : List Change → Type 0 = λ d. FitBack d c.apply.new.self.tables in
    subst P (sym (taken-back c.apply.new.tape.steps c.self.inside.tape.steps r.0 c.len-at.result c.len-at.ensures r.1)) r.3.fits

pub invariant_of-self-in-None : goal.invariant_of-self-in-None
invariant_of-self-in-None c =
    let i = c.self.inside in
    let r = c.in-Accepted.ensures.records in
    let e = c.back.ensures in
    let all : List (List Change) = c.apply.new.tape.steps in
    let n : ℕ = c.len-at.result in
    let last = taken-back all i.tape.steps r.0 n c.len-at.ensures r.1 in
    let tables : c.back.new.self.tables ≡ i.machine.tables = e.tables ∙ ap (λ d. back_tables d c.apply.new.self.tables) last ∙ r.3.back in
    let tapes : c.drop_last.new.self.steps ≡ i.tape.steps =
    c.drop_last.ensures.steps ∙ steps-before all c.back.new.tape.steps i.tape.steps r.0 _ n c.len-at.ensures r.1 e.steps in
    let P : List Stamped → Type 0 = λ l. IsLine l i.cursor i.last c.back.new.self.sizes c.back.new.self.tables c.drop_last.new.self.steps c.drop_last.new.self.current in
    let ready : steps_in c.made_ready-ready.new.journal.items c.made_ready-ready.new.line.items ≡ steps_in i.journal.items i.line.items =
    λ j. steps_in (c.made_ready-ready.ensures.items j) (c.made_ready-ready.ensures.places j) in
    record {
      placed = still-placed i.journal.items c.made_ready-ready.new.journal.items i.line.items c.made_ready-ready.new.line.items c.made_ready-ready.ensures.items c.made_ready-ready.ensures.places c.self.invariant.placed;
      line = subst P (sym ready) (same-line (steps_in i.journal.items i.line.items) i.cursor i.last _ _ _ _ _ _ _ _ (e.sizes ∙ c.apply.ensures.sizes) tables tapes
          (c.drop_last.ensures.current ∙ sym c.self.invariant.line.idle) c.self.invariant.line);
    }
