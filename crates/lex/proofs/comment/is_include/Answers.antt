use Rattle.std.proofs.Common.{◌≡◌, Bool, true, false, not, sym, ◌∙◌, drop, codes, ◌++◌}
use Rattle.std.specs.Bool.{MatchBool}
use Rattle.std.specs.List.{prefix_len}
use Rattle.lex.specs.Bytes.{starts, is_part, is_blank}
use Rattle.lex.specs.Pieces.{IsInclude}
use Rattle.lex.proofs.pieces.Directives.{include_word, include_here, include_not}
use Rattle.lex.proofs.comment.is_include.Goals as goal

pub returns-in-Some : goal.returns-in-Some
returns-in-Some c =
    let behind : c.split_at.result.1.now ≡ drop 1 c.args.line.now = c.split_at.ensures.back in
    let word : c.split_at-2.result.1.now ≡ drop (prefix_len is_blank (drop 1 c.args.line.now)) (drop 1 c.args.line.now) = c.split_at-2.ensures.back ∙ cc (behind, c.blanks_len.ensures.value) in
    let whole : drop (prefix_len is_blank (drop 1 c.args.line.now)) (drop 1 c.args.line.now) ≡ codes "include" ++ c.in-Some.rest.now = sym word ∙ c.in-Some.ensures in
    go c.starts_part.result c.starts_part.ensures whole
  where
    go : (b : Bool) → b ≡ starts is_part c.in-Some.rest.now → drop (prefix_len is_blank (drop 1 c.args.line.now)) (drop 1 c.args.line.now) ≡ codes "include" ++ c.in-Some.rest.now → MatchBool (not b) (IsInclude c.args.line.now) (IsInclude c.args.line.now → ⊥)
    go true e w = include_not c.args.line.now c.in-Some.rest.now w (sym e)
    go false e w = include_here c.args.line.now c.in-Some.rest.now c.requires.some c.requires.begins w (sym e)

pub returns-in-None : goal.returns-in-None
returns-in-None c = λ h.
    let behind : c.split_at.result.1.now ≡ drop 1 c.args.line.now = c.split_at.ensures.back in
    let word : c.split_at-2.result.1.now ≡ drop (prefix_len is_blank (drop 1 c.args.line.now)) (drop 1 c.args.line.now) = c.split_at-2.ensures.back ∙ cc (behind, c.blanks_len.ensures.value) in
    c.in-None.ensures h.rest (word ∙ include_word c.args.line.now h)
