use Rattle.std.proofs.Common.{◌≡◌, ◌∙◌, true, ap, sym, map, arith}
use Rattle.std.specs.List.{list_all}
use Rattle.std.proofs.lemmas.List.{length-map}
use Rattle.std.proofs.lemmas.List.Folds.{list_all-map}
use Rattle.syntax.specs.Views.{global_of}
use Rattle.bytecode.specs.Valid.{is_shaped}
use Rattle.bytecode.specs.Views.{code_of, instr_of}
use Rattle.bytecode.proofs.Answering.{ok_map}
use Rattle.bytecode.proofs.Each.{denied, affirmed}
use Rattle.bytecode.proofs.LaidOut.{laid_out_covers, valid_laid_out}
use Rattle.bytecode.proofs.valid.is_valid.Goals as goal

pub returns-then-not-are_laid_out : goal.returns-then-not-are_laid_out
returns-then-not-are_laid_out g c = denied c.are_laid_out.result _ _ (search) c.are_laid_out.ensures (λ v. valid_laid_out (code_of c.args.parts.now) v)

pub returns-then-not-are_shaped : goal.returns-then-not-are_shaped
returns-then-not-are_shaped g c = (
  λ t. cc t,
  λ v.
      let shaped : list_all is_shaped (map global_of c.args.parts.now.globals) ≡ true = v.shaped in
      let each = c.are_shaped.ensures ∙ ap (list_all (λ x. is_shaped (global_of x))) c.as_slice.ensures ∙ sym (list_all-map is_shaped global_of c.args.parts.now.globals) in
      cc (shaped, each, c.if-not-are_shaped.true),
)

pub returns-else-not-branch : goal.returns-else-not-branch
returns-else-not-branch g c = ok_map c.are_valid_functions.result _ _ c.are_valid_functions.ensures (λ b h. (
  λ t. record {
    each = h.0 t;
    distinct = affirmed c.in_ok-have_distinct_names-in-Some.field-0 _ (search) c.in_ok-have_distinct_names-in-Some.ensures;
    covered = laid_out_covers (code_of c.args.parts.now) (affirmed c.are_laid_out.result _ (search) c.are_laid_out.ensures);
    few = let l = length-map c.args.parts.now.instructions (instr_of c.args.parts.now.arguments) in let e = c.len.ensures in let f = c.if-len-gt-MOST_INSTRUCTIONS.false in omega (arith, l, e, f);
    shaped = list_all-map is_shaped global_of c.args.parts.now.globals ∙ ap (list_all (λ x. is_shaped (global_of x))) (sym c.as_slice.ensures) ∙ sym c.are_shaped.ensures ∙ (search);
    cells = let e = rw c.as_slice-2.ensures at c.in-Some.ensures.0 in let f = c.in-Some.ensures.1 in omega (arith, e, f);
    worker = affirmed c.has_worker.result _ (search) c.has_worker.ensures;
  },
  λ v. h.1 v.each,
))
