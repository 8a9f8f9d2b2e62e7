use Rattle.std.proofs.Common.{sym, ap, ◌∙◌, ◌++◌, string_bytes}
use Rattle.std.proofs.lemmas.Bool.{ltb-true, ltb-false}
use Rattle.std.proofs.lemmas.List.{append-nil}
use Rattle.bytecode.specs.Views.{function_of}
use Rattle.bytecode.proofs.Lines.{name_there, name_not}
use Rattle.bytecode.proofs.list_instr.push_name.Goals as goal

pub returns-in_ok-push_str-in-Some : goal.returns-in_ok-push_str-in-Some
returns-in_ok-push_str-in-Some g c = c.in_ok-push_str-in-Some.ensures.bytes ∙ ap (λ x. string_bytes c.args.text.now ++ x) (c.as_str.ensures ∙ sym (name_there function_of c.args.functions.now c.args.f c.in-Some.callee.now (ltb-true _ _ (sym c.in-Some.ensures.lookup.0)) c.in-Some.ensures.lookup.1))

pub returns-in-None : goal.returns-in-None
returns-in-None g c = sym (ap (λ x. string_bytes c.args.text.now ++ x) (name_not function_of c.args.functions.now c.args.f (ltb-false _ _ (sym c.in-None.ensures.lookup.0))) ∙ append-nil _)
