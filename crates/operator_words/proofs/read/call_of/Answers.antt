use Rattle.operator_words.proofs.Words.{three_words}
use Rattle.operator_words.proofs.read.call_of.Goals as goal

pub returns-in-len3 : goal.returns-in-len3
returns-in-len3 c = rw (three_words c.args.words.now _ c.as_bytes-in-len3.result.now c.as_bytes-in-len3-2.result.now c.as_bytes-in-len3-3.result.now
    c.in-len3.len_at_least c.in-len3.len_below c.as_bytes-in-len3.ensures.value c.as_bytes-in-len3-2.ensures.value c.as_bytes-in-len3-3.ensures.value) c.with_two.ensures
