use Rattle.std.proofs.Common.{◌≡◌, ◌∙◌, sym, ap, false, arith}
use Rattle.std.proofs.lemmas.Bool.{le-ltb}
use Rattle.std.specs.Prelude.{nat_lt}
use Rattle.syntax.specs.Names.{cells, global_of as global_of_program}
use Rattle.meaning.specs.inner.SourceThread.{state_in}
use Rattle.program_tables.specs.Views.{program_in}
use Rattle.program_tables.specs.Entries.{shared_in}
use Rattle.meaning.specs.inner.Does.{caller_in}
use Rattle.meaning.specs.inner.Word.{value_of}
use Rattle.meaning.proofs.Elements.{element_traps}
use Rattle.meaning.proofs.lvalues.element_cell.Goals as goal

pub returns-else-k-cell_count : goal.returns-else-k-cell_count
returns-else-k-cell_count g c done =
    let outside : nat_lt (value_of c.args.index).word (cells (shared_in c.in-Some.g).global) ≡ false =
    ap (λ w. nat_lt w (cells (shared_in c.in-Some.g).global)) (sym (ap (λ v. v.word) c.unpack-k.ensures))
    ∙ le-ltb c.unpack-k.result.word (cells (shared_in c.in-Some.g).global) (omega (arith, c.cell_count.ensures, c.if-k-cell_count.false)) in
    let found = sym (c.in-Some.ensures.value ∙ ap (global_of_program (program_in c.args.source.now)) c.as_str.ensures) in
    element_traps (program_in c.args.source.now) (caller_in c.args.source.now 0) c.args.x.now.text (value_of c.args.index) (shared_in c.in-Some.g) (state_in c.args.m.now) found outside ∙ c.lvalue_trap.ensures done
