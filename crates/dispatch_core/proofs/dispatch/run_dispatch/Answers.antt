use Rattle.std.proofs.Common.{◌≡◌, Some, None, sym, ◌∙◌, rules}
use Rattle.sector_core.specs.Table.{AllTaken, IsFirstFree}
use Rattle.dispatch_core.proofs.Words.{first_slot, meaning}
use Rattle.soft_queue.specs.Turn.{next_seat}
use Rattle.plain.specs.Step.{of_sizes}
use Rattle.plain.specs.Steps.Dispatch.{dispatch, sent, sent_by_bfq, next_queue}
use Rattle.plain.specs.Tests.{accepted_if}
use Rattle.sector_core.specs.declared.config.Scheduler.TheVariants.{Plain as PlainScheduler, Bfq as BfqScheduler}
use Rattle.dispatch_core.proofs.Queues.{next_queue_is, no_tag_free, tag_free}
use Rattle.dispatch_core.proofs.SentAgain.{none_again, again_found, again-list, again_few, leaves_again}
use Rattle.dispatch_core.proofs.Decided.{dispatch_idle, dispatch_full, dispatch_by, Answers-by}
use Rattle.dispatch_core.proofs.dispatch.run_dispatch.Goals as goal

pub returns-in-Some-clause-leaves : goal.returns-in-Some-clause-leaves
returns-in-Some-clause-leaves c =
    let l = of_sizes c.args.sizes in
    let t = c.args.parts.now.tables in
    let n = c.args.serial in
    let slot = c.in-Some.slot in
    let first : first_slot 0 t.requeued ≡ Some slot = search rules in
    let found = again_found l n t slot c.requires.well first in
    let list = again-list l n t slot 0 found.0 c.requires.well first found.1 in
    let few = again_few l (meaning t) n c.args.room _ _ list in
    leaves_again l n _ _ c.send_again.result t _ c.args.tape.now.current _ _ few.0 few.1 c.send_again.ensures.leaves

pub returns-in_default-pick-clause-answers : goal.returns-in_default-pick-clause-answers
returns-in_default-pick-clause-answers c =
    let l = of_sizes c.args.sizes in
    let t = c.args.parts.now.tables in
    let n = c.args.serial in
    let none_first : first_slot 0 t.requeued ≡ None = search rules in
    let empty = none_again t none_first in
    let turn = next_queue_is l n t c.requires.well in
    let none : next_seat t.served t.links ≡ None = search rules in
    sym (dispatch_idle l (meaning t) n c.args.room empty (turn ∙ none))

pub returns-in_default-lowest_free-clause-answers : goal.returns-in_default-lowest_free-clause-answers
returns-in_default-lowest_free-clause-answers c =
    let l = of_sizes c.args.sizes in
    let t = c.args.parts.now.tables in
    let n = c.args.serial in
    let none_first : first_slot 0 t.requeued ≡ None = search rules in
    let empty = none_again t none_first in
    let turn = next_queue_is l n t c.requires.well in
    let next : next_seat t.served t.links ≡ Some c.in-Some-pick.seat = search rules in
    let seat_next : next_queue (meaning t) ≡ Some c.in-Some-pick.seat = turn ∙ next in
    let all : AllTaken t.tags = search rules in
    sym (dispatch_full l (meaning t) n c.args.room empty c.in-Some-pick.seat seat_next (no_tag_free l n t c.requires.well all))

pub returns-in-Plain-clause-answers : goal.returns-in-Plain-clause-answers
returns-in-Plain-clause-answers c =
    let l = of_sizes c.args.sizes in
    let t = c.args.parts.now.tables in
    let n = c.args.serial in
    let none_first : first_slot 0 t.requeued ≡ None = search rules in
    let empty = none_again t none_first in
    let next : next_seat t.served t.links ≡ Some c.in-Some-pick.seat = search rules in
    let tag = c.in-Some-lowest_free.tag in
    let free : IsFirstFree t.tags tag = search rules in
    let by : dispatch l (meaning t) n c.args.room ≡ sent (meaning t) n c.args.room c.in-Some-pick.seat tag ((meaning t).queue c.in-Some-pick.seat) =
    dispatch_by l (meaning t) n c.args.room empty c.in-Some-pick.seat tag PlainScheduler (next_queue_is l n t c.requires.well ∙ next) (tag_free l n t tag c.requires.well free) (search rules) in
    Answers-by (λ m. dispatch l m n c.args.room) (λ m. sent m n c.args.room c.in-Some-pick.seat tag (m.queue c.in-Some-pick.seat)) t c.send_first.new.parts.tables c.send_first.result by c.send_first.ensures.answers

pub returns-in-Bfq-clause-answers : goal.returns-in-Bfq-clause-answers
returns-in-Bfq-clause-answers c =
    let l = of_sizes c.args.sizes in
    let t = c.args.parts.now.tables in
    let n = c.args.serial in
    let none_first : first_slot 0 t.requeued ≡ None = search rules in
    let empty = none_again t none_first in
    let next : next_seat t.served t.links ≡ Some c.in-Some-pick.seat = search rules in
    let tag = c.in-Some-lowest_free.tag in
    let free : IsFirstFree t.tags tag = search rules in
    let by : dispatch l (meaning t) n c.args.room ≡ accepted_if c.args.room (meaning t) (sent_by_bfq l (meaning t) n tag) =
    dispatch_by l (meaning t) n c.args.room empty c.in-Some-pick.seat tag BfqScheduler (next_queue_is l n t c.requires.well ∙ next) (tag_free l n t tag c.requires.well free) (search rules) in
    Answers-by (λ m. dispatch l m n c.args.room) (λ m. accepted_if c.args.room m (sent_by_bfq l m n tag)) t c.send_by_bfq.new.parts.tables c.send_by_bfq.result by c.send_by_bfq.ensures.answers
