use Rattle.std.proofs.Common.{inr, true, false, ◌≡◌, ℕ, ◌+◌, ◌==◌, nat_lt, [], ◌∷◌, ◌++◌, length, sym, ap, ◌∙◌, subst, arith, rules}
use Rattle.plain.specs.declared.call.Call.TheVariants.{Redo}
use Rattle.plain.specs.declared.answer.Answer.TheVariants.{Refused}
use Rattle.plain.specs.declared.answer.Reply.TheVariants.{Moved}
use Rattle.plain.specs.declared.answer.Code.TheVariants.{OutOfMemory}
use Rattle.plain.specs.Keeper.{State}
use Rattle.plain.specs.Headline.{MayCall}
use Rattle.history.specs.Keeping.{state_of}
use Rattle.history.specs.Kept.{Kept}
use Rattle.change_record.specs.Tape.{TakesBack}
use Rattle.history.specs.Turns.{changes_of, Turns}
use Rattle.history.specs.Roll.{SameLine}
use Rattle.history.proofs.Calls.{keeper-same, Noted, keeper-noted, redo-done, redo-wants}
use Rattle.history.proofs.keeper.Keeper.redo.Goals as goal

-- where there is no memory, all is as it was

pub invariant_of-self : goal.invariant_of-self
invariant_of-self c =
    let i = c.self.inside in
    let e = c.reserve.ensures in
    let cursor = e.same.cursor in
    let spare = e.spare in
    let reserved = c.self.invariant.reserved in
    keeper-same i.roll c.reserve.new.self i.held i.most e.same (omega (arith, cursor, spare, reserved)) c.self.invariant

pub invariant_of-self-in-Err : goal.invariant_of-self-in-Err
invariant_of-self-in-Err c =
    let i = c.self.inside in
    let e = c.reserve.ensures in
    let r = c.in-Err.ensures in
    let same : SameLine i.roll c.redo_steps.new.roll = record {
      sizes = r.sizes ∙ e.same.sizes;
      steps = r.steps ∙ e.same.steps;
      cursor = r.err ∙ e.same.cursor;
      last = r.last ∙ e.same.last;
      journal = r.journal ∙ e.same.journal;
    } in
    let cursor = same.cursor in
    let spare = e.spare in
    let kept = r.spare in
    let reserved = c.self.invariant.reserved in
    keeper-same i.roll c.redo_steps.new.roll i.held i.most same (omega (arith, cursor, spare, kept, reserved)) c.self.invariant

pub returns-in-Err-clause-may : goal.returns-in-Err-clause-may
returns-in-Err-clause-may c =
    let i = c.self.inside in
    let n : ℕ = c.args.k in
    let same = c.reserve.ensures.same in
    let r = c.in-Err.ensures in
    let room : nat_lt (length i.roll.journal) i.most ≡ true = sym c.has_room.ensures ∙ c.if-not-has_room.false in
    let at = c.cursor.ensures.cursor in
    let long = c.length.ensures in
    let few = c.if-length-end.false in
    let positive = c.if-k-eq0.false in
    let enough : nat_lt (length i.roll.steps) (i.roll.cursor + n) ≡ false = search (rules, at, long, few) in
    let some : (n == 0) ≡ false = search (rules, positive) in
    let P : State → Type 0 = λ s. MayCall s (Redo n) (Refused OutOfMemory) (state_of c.redo_steps.new.roll i.held i.most) in
    subst P (ap (λ v. v.state) c.self.view_is) (redo-wants i.roll c.redo_steps.new.roll i.held i.most n c.if-not-self.false some enough room (record {
      sizes = r.sizes ∙ same.sizes;
      steps = r.steps ∙ same.steps;
      cursor = r.err ∙ same.cursor;
      last = r.last ∙ same.last;
      journal = r.journal ∙ same.journal;
    }))

pub returns-then-not-reserve-clause-may : goal.returns-then-not-reserve-clause-may
returns-then-not-reserve-clause-may c =
    let i = c.self.inside in
    let n : ℕ = c.args.k in
    let room : nat_lt (length i.roll.journal) i.most ≡ true = sym c.has_room.ensures ∙ c.if-not-has_room.false in
    let at = c.cursor.ensures.cursor in
    let long = c.length.ensures in
    let few = c.if-length-end.false in
    let positive = c.if-k-eq0.false in
    let enough : nat_lt (length i.roll.steps) (i.roll.cursor + n) ≡ false = search (rules, at, long, few) in
    let some : (n == 0) ≡ false = search (rules, positive) in
    let P : State → Type 0 = λ s. MayCall s (Redo n) (Refused OutOfMemory) (state_of c.reserve.new.self i.held i.most) in
    subst P (ap (λ v. v.state) c.self.view_is) (redo-wants i.roll c.reserve.new.self i.held i.most n c.if-not-self.false some enough room c.reserve.ensures.same)

pub invariant_of-self-2 : goal.invariant_of-self-2
invariant_of-self-2 c =
    let i = c.self.inside in
    let n : ℕ = c.args.k in
    let room : nat_lt (length i.roll.journal) i.most ≡ true = sym c.has_room.ensures ∙ c.if-not-has_room.false in
    let at = c.cursor.ensures.cursor in
    let long = c.length.ensures in
    let few = c.if-length-end.false in
    let positive = c.if-k-eq0.false in
    let enough : nat_lt (length i.roll.steps) (i.roll.cursor + n) ≡ false = search (rules, at, long, few) in
    let some : (n == 0) ≡ false = search (rules, positive) in
    let same = c.reserve.ensures.same in
    let r = c.in-Ok.ensures in
    let e = c.note.ensures in
    let noted : Noted i.roll (i.roll.cursor + n) (Redo n) c.note.new.self = record {
      sizes = e.sizes ∙ r.sizes ∙ same.sizes;
      steps = e.steps ∙ r.steps ∙ same.steps;
      cursor = e.cursor ∙ r.cursor ∙ ap (λ k. k + n) same.cursor;
      last = e.last ∙ r.last ∙ same.last;
      journal = e.journal ∙ ap (λ l. l ++ Redo n ∷ []) (r.journal ∙ same.journal);
    } in
    let has = c.reserve.ensures.room c.if-not-reserve.false in
    let cursor = noted.cursor in
    let kept = r.spare in
    let spare = e.spare in
    keeper-noted i.roll c.note.new.self i.held i.held i.most (i.roll.cursor + n) (Redo n) (Moved (i.roll.cursor + n) (length i.roll.steps)) c.self.invariant noted room
    (omega (arith, at, has, cursor, kept, spare)) (redo-done (state_of i.roll i.held i.most) n c.if-not-self.false some enough room)

pub returns-in-Err-clause-turns : goal.returns-in-Err-clause-turns
returns-in-Err-clause-turns c =
    let i = c.self.inside in
    let n : ℕ = c.args.k in
    let roll = c.redo_steps.new.roll in
    let now : Kept = record { state = state_of roll i.held i.most; lengths = roll.lengths; turns = roll.turns } in
    let P : Kept → Type 0 = λ k. Turns k (Redo n) (Refused OutOfMemory) now in
    let e = c.reserve.ensures in
    let r = c.in-Err.ensures in
    let some : changes_of c.reserve.new.self.lengths c.reserve.new.self.cursor n ≡ changes_of i.roll.lengths i.roll.cursor n = λ j. changes_of (e.lengths j) (e.same.cursor j) n in
    let A : ℕ → Type 0 = λ t. TakesBack t (changes_of c.reserve.new.self.lengths c.reserve.new.self.cursor n) roll.turns in
    let B : ℕ → Type 0 = λ m. TakesBack i.roll.turns m roll.turns in
    subst P c.self.view_is (inr (subst B some (subst A e.turns r.turned_back)), r.lengths ∙ e.lengths)
