use Rattle.std.proofs.Common.{◌∙◌, sym, map}
use Rattle.syntax.specs.Views.{item_of}
use Rattle.types.proofs.Bodies.{body_more, body_same}
use Rattle.types.proofs.function.add_body.Goals as goal

pub returns-in_ok-declare : goal.returns-in_ok-declare
returns-in_ok-declare g c = body_more (map item_of c.args.earlier.now) c.args.f.now c.args.bodies.now c.declare.new.self c.as_str.result.now _ c.in_ok-declare.ensures.ok c.as_str.ensures (sym c.is_some.ensures ∙ c.if-is_some.true) c.requires

pub returns-else-is_some : goal.returns-else-is_some
returns-else-is_some g c = body_same (map item_of c.args.earlier.now) c.args.f.now c.args.bodies.now (sym c.is_some.ensures ∙ c.if-is_some.false) c.requires
