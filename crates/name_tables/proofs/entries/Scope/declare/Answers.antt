use Rattle.std.proofs.Common.{refl, ◌∙◌, ap, length, length-append, ◌≡◌, ◌+◌}
use Rattle.name_tables.proofs.Numbered.{numbered_more, hidden_more}
use Rattle.name_tables.proofs.entries.Scope.declare.Goals as goal

pub invariant_of-self-in-Ok : goal.invariant_of-self-in-Ok
invariant_of-self-in-Ok g c =
    let old = c.args.self.now in
    let all = c.push.new.self.items in
    let size : c.len.result ≡ length old.locals.items + 1 = c.len.ensures ∙ c.push.new.self.ok.0 ∙ ap length c.in_ok-push.ensures.items ∙ length-append old.locals.items _ in
    record {
      numbered = numbered_more old.numbers c.insert.new.self c.args.name _ c.in-Ok.ensures.updates old.locals.items all _ c.in_ok-push.ensures.items refl size old.numbered;
      hidden = hidden_more old.locals.items all _ c.in_ok-push.ensures.items (c.number_of-hidden.ensures ∙ old.numbered c.args.name.now) old.hidden;
    }
