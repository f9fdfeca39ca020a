use Rattle.std.proofs.Common.{true, ◌≡◌, nat_lt, [], ◌∷◌, ◌++◌, length, sym, ap, ◌∙◌, arith}
use Rattle.plain.specs.declared.call.Call.TheVariants.{Hold}
use Rattle.plain.specs.declared.answer.Reply.TheVariants.{Moved}
use Rattle.history.specs.Keeping.{state_of}
use Rattle.history.proofs.Calls.{keeper-same, Noted, keeper-noted, hold-done}
use Rattle.history.proofs.keeper.Keeper.hold.Goals as goal

-- where there is no memory, all is as it was
pub invariant_of-self : goal.invariant_of-self
invariant_of-self c =
    let i = c.self.inside in
    let e = c.reserve.ensures in
    let cursor = e.same.cursor in
    let spare = e.spare in
    let reserved = c.self.invariant.reserved in
    keeper-same i.roll c.reserve.new.self i.held i.most e.same (omega (arith, cursor, spare, reserved)) c.self.invariant

pub invariant_of-self-2 : goal.invariant_of-self-2
invariant_of-self-2 c =
    let i = c.self.inside in
    let room : nat_lt (length i.roll.journal) i.most ≡ true = sym c.has_room.ensures ∙ c.if-not-has_room.false in
    let same = c.reserve.ensures.same in
    let e = c.note.ensures in
    let noted : Noted i.roll i.roll.cursor Hold c.note.new.self = record {
      sizes = e.sizes ∙ same.sizes;
      steps = e.steps ∙ same.steps;
      cursor = e.cursor ∙ same.cursor;
      last = e.last ∙ same.last;
      journal = e.journal ∙ ap (λ l. l ++ Hold ∷ []) same.journal;
    } in
    let at = c.cursor-standing.ensures.cursor in
    let has = c.reserve.ensures.room c.if-not-reserve.false in
    let cursor = noted.cursor in
    let spare = e.spare in
    keeper-noted i.roll c.note.new.self i.held true i.most i.roll.cursor Hold (Moved i.roll.cursor (length i.roll.steps)) c.self.invariant noted room
    (omega (arith, at, has, cursor, spare)) (hold-done (state_of i.roll i.held i.most) c.if-self.false room)
