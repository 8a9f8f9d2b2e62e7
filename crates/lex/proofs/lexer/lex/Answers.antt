use Rattle.std.proofs.Common.{sym, arith, subst, List}
use Rattle.lex.specs.declared.token.Token.{Token}
use Rattle.lex.specs.Tokens.{toks}
use Rattle.lex.specs.Pieces.{Cut, start}
use Rattle.lex.proofs.steps.Cuts.{token_cut, gap_cut}
use Rattle.lex.proofs.lexer.lex.Goals as goal

pub pieces-init : goal.pieces-init
pieces-init g c = record {
  within = omega arith;
  cut = subst (λ (z : List Token). Cut c.args.text.now 0 (toks z)) (sym c.new-tokens.ensures.items) start;
}

pub pieces-preserved-in_ok-push : goal.pieces-preserved-in_ok-push
pieces-preserved-in_ok-push g c = token_cut c.args.text.now c.pieces.at c.in_ok-kind.len c.pieces.tokens.items c.push.new.self.items c.in_ok-kind.kind c.in-Some.kind c.pieces.invariant.within c.pieces.invariant.cut c.in-Some.is c.in_ok-kind.ensures c.in_ok-push.ensures.items

pub pieces-preserved : goal.pieces-preserved
pieces-preserved g c = gap_cut c.args.text.now c.pieces.at c.in_ok-kind.len c.pieces.tokens.items c.in_ok-kind.kind c.pieces.invariant.within c.pieces.invariant.cut c.in_default.is c.in_ok-kind.ensures
