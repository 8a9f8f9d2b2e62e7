use Rattle.std.proofs.Common.{◌≡◌, ◌<◌, length, ap, sym, subst, ◌∙◌, arith, eqb-true, true≢false}
use Rattle.std.specs.Str.Parse.{AllDigits}
use Rattle.std.proofs.lemmas.List.{nil_from_length}
use Rattle.replay.specs.Schedules.{SpellsNumber}
use Rattle.replay.specs.inner.Rows.{behind, past, behind_letter}
use Rattle.replay.proofs.Rows.{all_past, asks, bad, digits_are, some_left}
use Rattle.replay.proofs.row.read_row.Goals as goal

pub returns-then-is_empty : goal.returns-then-is_empty
returns-then-is_empty c = all_past c.args.row.now (sym c.past.ensures ∙ nil_from_length c.past.result.now (eqb-true (length c.past.result.now) 0 (sym c.is_empty.ensures ∙ c.if-is_empty.true)))

pub returns-then-not-parts : goal.returns-then-not-parts
returns-then-not-parts c =
    let p = c.cut_row-parts.result in
    bad c.args.row.now p.thread.now p.apart p.accesses p.count.now p.over.now c.cut_row-parts.ensures (subst (λ z. 0 < length z) c.past.ensures (some_left c.past.result.now (sym c.is_empty.ensures ∙ c.if-is_empty.false)))
    (λ line a f. absurd (true≢false (sym f.apart_is ∙ c.if-not-parts.true)))

pub returns-then-not-is_empty : goal.returns-then-not-is_empty
returns-then-not-is_empty c =
    let p = c.cut_row-parts.result in
    let more = some_left p.over.now (sym c.is_empty-2.ensures ∙ c.if-not-is_empty.true) in
    bad c.args.row.now p.thread.now p.apart p.accesses p.count.now p.over.now c.cut_row-parts.ensures (subst (λ z. 0 < length z) c.past.ensures (some_left c.past.result.now (sym c.is_empty.ensures ∙ c.if-is_empty.false)))
    (λ line a f. let none : length p.over.now ≡ 0 = ap (λ z. length z) f.over_is in absurd (omega (arith, more, none)))

pub number-requires : goal.number-requires
number-requires c = subst (AllDigits 10) (sym c.cut_row-parts.ensures.thread_is) (digits_are (past c.args.row.now))

pub returns-in_default : goal.returns-in_default
returns-in_default c =
    let p = c.cut_row-parts.result in
    bad c.args.row.now p.thread.now p.apart p.accesses p.count.now p.over.now c.cut_row-parts.ensures (subst (λ z. 0 < length z) c.past.ensures (some_left c.past.result.now (sym c.is_empty.ensures ∙ c.if-is_empty.false)))
    (λ line a f. c.in_default.ensures line.thread (subst (λ d. SpellsNumber d line.thread) (sym f.thread_is) a.thread_is))

pub number-requires-2 : goal.number-requires-2
number-requires-2 c = subst (AllDigits 10) (sym c.cut_row-parts.ensures.count_is) (digits_are (behind_letter (past (behind (past c.args.row.now)))))

pub returns-in-Some-number : goal.returns-in-Some-number
returns-in-Some-number c =
    let p = c.cut_row-parts.result in
    asks c.args.row.now p.thread.now p.apart p.accesses p.count.now p.over.now c.cut_row-parts.ensures c.if-not-parts.false (nil_from_length p.over.now (eqb-true (length p.over.now) 0 (sym c.is_empty-2.ensures ∙ c.if-not-is_empty.false)))
    c.in-Some.thread c.in-Some-number.count c.in-Some.ensures c.in-Some-number.ensures

pub returns-in-None : goal.returns-in-None
returns-in-None c =
    let p = c.cut_row-parts.result in
    bad c.args.row.now p.thread.now p.apart p.accesses p.count.now p.over.now c.cut_row-parts.ensures (subst (λ z. 0 < length z) c.past.ensures (some_left c.past.result.now (sym c.is_empty.ensures ∙ c.if-is_empty.false)))
    (λ line a f. c.in-None.ensures line.count (subst (λ d. SpellsNumber d line.count) (sym f.count_is) a.count_is))
