use Rattle.std.proofs.Common.{rules}
use Rattle.shared_words.proofs.Meetings.{meets_both}
use Rattle.shared_words.proofs.Moves.{joins, splits_rest, splits_whole}
use Rattle.shared_words.proofs.sharing.meet.Goals as goal

pub split_seat-whole-requires : goal.split_seat-whole-requires
split_seat-whole-requires g c = (search rules, search rules, splits_whole c.args.words.now.key _ _)

pub join_seat-requires : goal.join_seat-requires
join_seat-requires g c = (search rules, search rules, search rules, search rules, joins c.args.words.now.key _ _ _ _)

pub split_seat-back-requires : goal.split_seat-back-requires
split_seat-back-requires g c = (search rules, search rules, splits_rest c.args.words.now.key _ _)

pub join_seat-requires-2 : goal.join_seat-requires-2
join_seat-requires-2 g c = (search rules, search rules, search rules, search rules, joins c.args.words.now.key _ _ _ _)

pub returns-clause-both : goal.returns-clause-both
returns-clause-both g c = (
  c.floor-found.ensures.floor.0,
  λ p q mine theirs.
      meets_both c.args.mine.now.me c.args.theirs.now.me c.join_seat.new.seat.me c.floor-first.new.seat.me c.floor-found.new.seat.me c.split_seat-back.new.seat.me c.split_seat-whole.new.seat.me c.join_seat-2.new.seat.me c.split_seat-whole.result.me c.split_seat-back.result.me c.floor-first.result c.floor-found.result
      c.split_seat-whole.ensures.2 c.split_seat-whole.ensures.4 c.join_seat.ensures.2 c.floor-first.ensures.floor c.floor-found.ensures.floor c.split_seat-back.ensures.2 c.split_seat-back.ensures.4 c.join_seat-2.ensures.2 p q mine theirs,
)
