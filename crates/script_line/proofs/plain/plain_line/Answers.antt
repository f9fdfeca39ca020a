-- The lemma of each goal by name: a search finds it late.
use Rattle.script_line.specs.Plain.{Reads}
use Rattle.script_line.proofs.Plains.{of_none, of_one, of_two, of_three, of_four, of_five, too_many}
use Rattle.script_line.proofs.plain.plain_line.Goals as goal

pub returns-in-empty : goal.returns-in-empty
returns-in-empty c =
    of_none (λ ns. Reads c.args.word.now ns c.with_none.result) c.args.given.now c.in-empty.len_below c.with_none.ensures

pub returns-in-len1 : goal.returns-in-len1
returns-in-len1 c =
    of_one (λ ns. Reads c.args.word.now ns c.with_one.result) c.args.given.now c.in-len1.len_at_least c.in-len1.len_below c.with_one.ensures

pub returns-in-len2 : goal.returns-in-len2
returns-in-len2 c =
    of_two (λ ns. Reads c.args.word.now ns c.with_two.result) c.args.given.now c.in-len2.len_at_least c.in-len2.len_below c.with_two.ensures

pub returns-in-len3 : goal.returns-in-len3
returns-in-len3 c =
    of_three (λ ns. Reads c.args.word.now ns c.with_three.result) c.args.given.now c.in-len3.len_at_least c.in-len3.len_below c.with_three.ensures

pub returns-in-len4 : goal.returns-in-len4
returns-in-len4 c =
    of_four (λ ns. Reads c.args.word.now ns c.with_four.result) c.args.given.now c.in-len4.len_at_least c.in-len4.len_below c.with_four.ensures

pub returns-in-len5 : goal.returns-in-len5
returns-in-len5 c =
    of_five (λ ns. Reads c.args.word.now ns c.with_five.result) c.args.given.now c.in-len5.len_at_least c.in-len5.len_below c.with_five.ensures

pub returns-in_default : goal.returns-in_default
returns-in_default c = too_many c.args.word.now c.args.given.now c.in_default.len_at_least
