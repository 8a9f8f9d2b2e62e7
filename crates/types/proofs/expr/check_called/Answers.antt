use Rattle.std.proofs.Common.{◌++◌, ◌∙◌, ap}
use Rattle.syntax.specs.Typing.{may_be_function, takes_so_many}
use Rattle.syntax.specs.Typing.{first_unmet, demand}
use Rattle.types.specs.inner.Known.{known_in}
use Rattle.types.proofs.expr.check_called.Goals as goal

pub returns : goal.returns
returns g c =
    c.check_symbol.ensures ∙ (λ i. first_unmet (demand 22 c.args.span (may_be_function ((c.look-symbol.ensures ∙ ap (known_in c.args.names.now) c.as_str.ensures) i)) ++ demand 23 c.args.f.now.span (takes_so_many ((c.look-symbol.ensures ∙ ap (known_in c.args.names.now) c.as_str.ensures) i) (c.count_of-many.ensures i))))
