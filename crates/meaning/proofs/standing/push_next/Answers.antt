use Rattle.meaning.proofs.Advancing.{puts_both, puts_end, puts_task}
use Rattle.meaning.proofs.standing.push_next.Goals as goal

pub returns-in-Ends : goal.returns-in-Ends
returns-in-Ends g c = λ source s. puts_end source c.args.left.now.items c.in-Ends.end c.args.next s c.in-Ends.is

pub returns-in_ok-push-in-Goes : goal.returns-in_ok-push-in-Goes
returns-in_ok-push-in-Goes g c = λ source s. puts_task source c.args.left.now.items c.push.new.self.items c.in-Goes.task c.args.next s c.in-Goes.is c.in_ok-push-in-Goes.ensures.items

pub returns-in_ok-push-in-Nests-2 : goal.returns-in_ok-push-in-Nests-2
returns-in_ok-push-in-Nests-2 g c = λ source s. puts_both source c.args.left.now.items c.push-in-Nests.new.self.items c.push-in-Nests-2.new.self.items c.in-Nests.outer c.in-Nests.task c.args.next s c.in-Nests.is c.in_ok-push-in-Nests.ensures.items c.in_ok-push-in-Nests-2.ensures.items
