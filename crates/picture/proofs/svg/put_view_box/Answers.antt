use Rattle.std.specs.Prelude.{codes, decimal}
use Rattle.picture.proofs.Drawn.{in_five}
use Rattle.picture.proofs.svg.put_view_box.Goals as goal

pub returns : goal.returns
returns g c = in_five c.args.to.now.items (codes " viewBox=\"0 0 ") (decimal c.args.width) (codes " ") (decimal c.args.height) (codes "\"") _ _ _ _ _ c.in_ok-extend_from_slice.ensures.items c.in_ok-put_number.ensures c.in_ok-extend_from_slice-2.ensures.items c.in_ok-put_number-2.ensures c.in_ok-extend_from_slice-3.ensures.items
