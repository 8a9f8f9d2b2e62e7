use Rattle.std.proofs.Common.{◌∙◌, eqb-true, length, sym}
use Rattle.command.proofs.OrderWords.{none_next, reads_end, skipped_next, taken_next}
use Rattle.command.proofs.listed.listed_order.Goals as goal

pub words-preserved-then-is_empty : goal.words-preserved-then-is_empty
words-preserved-then-is_empty g c =
    skipped_next c.args.text.now c.words.rest.now c.split_at.result.0.now c.split_at.result.1.now c.words.order.items c.word_len.result c.min.result c.words.invariant c.word_len.ensures.value c.split_at.ensures.front c.split_at.ensures.back c.min.ensures
    (sym c.is_empty-in-words.ensures ∙ c.if-is_empty.true)

pub words-preserved : goal.words-preserved
words-preserved g c =
    taken_next c.args.text.now c.words.rest.now c.split_at.result.0.now c.split_at.result.1.now c.words.order.items c.push.new.self.items c.word_len.result c.min.result c.in-Some.number c.words.invariant c.word_len.ensures.value c.split_at.ensures.front c.split_at.ensures.back c.min.ensures
    (sym c.is_empty-in-words.ensures ∙ c.if-is_empty.false) c.in-Some.ensures c.in_ok-push-in-Some.ensures.items

pub returns-in-None : goal.returns-in-None
returns-in-None g c =
    none_next c.args.text.now c.words.rest.now c.split_at.result.0.now c.words.order.items c.word_len.result c.words.invariant c.word_len.ensures.value c.split_at.ensures.front
    (sym c.is_empty-in-words.ensures ∙ c.if-is_empty.false) c.in-None.ensures

pub returns : goal.returns
returns g c = reads_end c.args.text.now c.words.rest.now c.words.order.items c.words.invariant (eqb-true (length c.words.rest.now) 0 (sym c.is_empty.ensures ∙ c.words-test.false))
