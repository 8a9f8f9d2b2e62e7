use Rattle.std.proofs.Common.{◌≤◌, ◌∙◌, length, arith}
use Rattle.write_log.proofs.Journal.{left_of, leads_on, can_last}
use Rattle.write_log.proofs.undo_to.Goals as goal

pub undo-requires : goal.undo-requires
undo-requires g c =
    let le : c.args.length ≤ length c.take_last-change.new.self.items = omega (arith, c.take_last-change.new.self.ok.0) in
    (can_last c.args.length c.loop-journal.journal.items c.take_last-change.new.self.items c.take_last-change.result c.loop-journal.pairs.pairs c.take_last-change.ensures.items le c.loop-journal.invariant.undoes).0

pub loop-journal-preserved : goal.loop-journal-preserved
loop-journal-preserved g c =
    let n = c.args.length in
    let journal = c.loop-journal.journal.items in
    let left = c.take_last-change.new.self.items in
    let change = c.take_last-change.result in
    let ps = c.loop-journal.pairs.pairs in
    let le : n ≤ length left = omega (arith, c.take_last-change.new.self.ok.0) in
    let split = c.take_last-change.ensures.items in
    record {
      within = omega arith;
      left = left_of n journal left change split le ∙ c.loop-journal.invariant.left;
      leads = rw c.undo.ensures.pairs (leads_on n journal left change ps split le ∙ c.loop-journal.invariant.leads);
      undoes = rw c.undo.ensures.pairs (can_last n journal left change ps split le c.loop-journal.invariant.undoes).1;
      pairs_room = omega arith;
      capacity = c.take_last-change.ensures.capacity ∙ c.loop-journal.invariant.capacity;
    }
