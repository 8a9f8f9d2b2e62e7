use Rattle.std.proofs.Common.{refl, Some, None, ◌≡◌, bytes_eq}
use Rattle.std.specs.HashMap.{Updates}
use Rattle.name_tables.specs.inner.Maps.{value_at}
use Rattle.name_tables.specs.inner.Numbers.{AreNumbered}
use Rattle.name_tables.proofs.Numbered.{numbered_less, hidden_less, hidden_own, not_absent, by_either}
use Rattle.name_tables.proofs.entries.Scope.forget.Goals as goal

pub invariant_of-self : goal.invariant_of-self
invariant_of-self g c =
    let old = c.args.self.now in
    let new = c.insert.new.self in
    let ls = c.pop.new.self.items in
    let l = c.in-Some.local in
    let is = c.in-Some.ensures.items in
    record {
      numbered = by_either c.insert.result (Updates (λ a b. bytes_eq a.now b.now) old.numbers new l.name (Some _)) (value_at old.numbers l.name.now ≡ None) (AreNumbered new ls) c.insert.ensures.updates c.insert.ensures.absent
          (λ u. numbered_less old.numbers new l.name _ u old.locals.items ls l is refl (hidden_own old.locals.items ls l is old.hidden) old.numbered)
          (λ none. absurd (not_absent old.numbers old.locals.items ls l is old.numbered none));
      hidden = hidden_less old.locals.items ls l is old.hidden;
    }

pub unreachable-requires : goal.unreachable-requires
unreachable-requires g c =
    let old = c.args.self.now in
    not_absent old.numbers old.locals.items c.pop.new.self.items c.in-Some.local c.in-Some.ensures.items old.numbered c.in-Err.ensures.absent
