use Rattle.std.proofs.Common.{◌≡◌, ◌++◌, ◌∷◌, [], ◌+◌, map, length, ap, sym, ◌∙◌, append_assoc}
use Rattle.std.proofs.lemmas.List.{length-map}
use Rattle.syntax.specs.Views.{stmts_of, parameter_of}
use Rattle.bytecode.specs.declared.instr.Instr.TheVariants as instr
use Rattle.lower_spec.specs.Programs.{parameter_locals}
use Rattle.lower_exprs.specs.Lists.{lists_of}
use Rattle.lower_exprs.specs.Fragments.{of_written}
use Rattle.lower_exprs.specs.Views.{scope_in}
use Rattle.program_tables.specs.Views.{program_in}
use Rattle.lower_exprs.proofs.Adding.{same, stops, no_less}
use Rattle.lower.proofs.Bodies.{same_body}
use Rattle.lower.proofs.function.lower_body.Goals as goal

pub returns : goal.returns
returns g c =
    let ps = c.as_slice-parameters.ensures in
    let s : scope_in c.in_ok-scope.scope ≡ parameter_locals (map parameter_of c.args.f.now.parameters) = c.in_ok-scope.ensures ∙ ap (λ xs. parameter_locals (map parameter_of xs)) ps in
    let n : length c.as_slice-parameters.result.now ≡ length (map parameter_of c.args.f.now.parameters) = ap length ps ∙ sym (length-map c.args.f.now.parameters parameter_of) in
    let body = ap of_written (same_body (program_in c.args.names.now) (stmts_of c.args.body.now) c.args.from (lists_of c.args.lists.now) _ _ _ _ _ _ c.given_type.ensures s n) in
    let k = same body c.in_ok-last.ensures.code in
    record {
      code = c.in_ok-put.ensures ∙ ap (λ xs. xs ++ instr.Return ∷ []) k.code ∙ append_assoc c.args.code.now.items _ (instr.Return ∷ []);
      lists = c.note.ensures ∙ k.lists;
      end = c.in_ok-to.ensures ∙ ap (λ k. k + 1) k.end;
      fails = tt;
    }

pub returns-in_err-last : goal.returns-in_err-last
returns-in_err-last g c =
    let ps = c.as_slice-parameters.ensures in
    let s : scope_in c.in_ok-scope.scope ≡ parameter_locals (map parameter_of c.args.f.now.parameters) = c.in_ok-scope.ensures ∙ ap (λ xs. parameter_locals (map parameter_of xs)) ps in
    let n : length c.as_slice-parameters.result.now ≡ length (map parameter_of c.args.f.now.parameters) = ap length ps ∙ sym (length-map c.args.f.now.parameters parameter_of) in
    let body = ap of_written (same_body (program_in c.args.names.now) (stmts_of c.args.body.now) c.args.from (lists_of c.args.lists.now) _ _ _ _ _ _ c.given_type.ensures s n) in
    stops (same body c.lower_stmts.ensures.code) c.in_err-last.was c.from_residual-in_err-last.ensures (no_less _)
