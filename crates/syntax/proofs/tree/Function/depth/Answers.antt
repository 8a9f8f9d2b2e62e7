use Rattle.std.proofs.Common.{◌-◌, ◌^◌, min, option_map, ap, sym, ◌∙◌}
use Rattle.syntax.specs.Depth.{block_depth, body_depth}
use Rattle.syntax.specs.Views.{stmts_of}
use Rattle.syntax.proofs.tree.Function.depth.Goals as goal

pub returns-in-Some : goal.returns-in-Some
returns-in-Some g c =
    c.block_depth_of.ensures ∙ ap (λ ss. min (block_depth (stmts_of ss)) (2 ^ 64 - 1)) c.as_slice.ensures ∙ sym (ap (λ b. min (body_depth (option_map stmts_of b)) (2 ^ 64 - 1)) c.in-Some.is)
