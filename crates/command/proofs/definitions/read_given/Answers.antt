use Rattle.std.proofs.Common.{List, [], sym, subst}
use Rattle.std.specs.Prelude.{IfErr, IfOk, codes}
use Rattle.clap.specs.Words.{found_of, rows_of}
use Rattle.clap.proofs.WalkLemmas.{raw_values-rows}
use Rattle.command.specs.Asked.{AreDefinitionsOf}
use Rattle.command.specs.inner.Refusals.{IsOwn}
use Rattle.command.proofs.Defining.{none_given, words_given}
use Rattle.parameters.specs.declared.definition.Definition.{Definition}
use Rattle.command.proofs.definitions.read_given.Goals as goal

pub returns-in-Some-clause-ok : goal.returns-in-Some-clause-ok
returns-in-Some-clause-ok c =
    let f = found_of c.args.given.now in
    let e = words_given _ (rows_of f) _ c.in-Some.ensures (raw_values-rows f (codes "define")) in
    subst (λ ws. IfOk c.read.result (λ v. AreDefinitionsOf c.args.threads ws v.items)) (sym e) c.read.ensures.ok

pub returns-in-Some-clause-err : goal.returns-in-Some-clause-err
returns-in-Some-clause-err c =
    let f = found_of c.args.given.now in
    let e = words_given _ (rows_of f) _ c.in-Some.ensures (raw_values-rows f (codes "define")) in
    subst (λ ws. IfErr c.read.result (IsOwn ((ds : List Definition) → AreDefinitionsOf c.args.threads ws ds → ⊥))) (sym e) c.read.ensures.err

pub returns-in-None-clause-ok : goal.returns-in-None-clause-ok
returns-in-None-clause-ok c =
    let f = found_of c.args.given.now in
    let e = none_given _ (rows_of f) c.in-None.ensures (raw_values-rows f (codes "define")) in
    rw c.new.ensures.items (subst (λ ws. AreDefinitionsOf c.args.threads ws []) (sym e) tt)
