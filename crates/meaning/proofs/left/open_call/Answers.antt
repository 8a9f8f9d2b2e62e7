use Rattle.std.proofs.Common.{◌≡◌, ◌∙◌, Err, ap, sym}
use Rattle.syntax.specs.Views.{exprs_of}
use Rattle.meaning.specs.inner.Going.{frame_begun}
use Rattle.meaning.specs.inner.Left.{follow_of}
use Rattle.meaning.specs.inner.SourceThread.{state_in}
use Rattle.program_tables.specs.Views.{program_in}
use Rattle.meaning.proofs.Calling.{call_enters, call_unentered, call_unticked, call_unvalued}
use Rattle.meaning.proofs.Stops.{err_of, stops_as}
use Rattle.meaning.proofs.left.open_call.Goals as goal

pub returns : goal.returns
returns g c done =
    let p = program_in c.args.source.now in
    let s3 = state_in c.tick-2.new.m in
    call_enters p c.args.frames c.args.f.now.text (exprs_of c.args.args.now) (state_in c.args.m.now) (state_in c.tick.new.m) (state_in c.values.new.m) (c.in_ok-tick.ensures tt) s3 c.in_ok-values.values.items (c.in_ok-values.ensures tt) _ (c.in_ok-tick-2.ensures tt)
    (ap (λ vs. frame_begun p c.args.frames c.args.f.now.text vs s3) (sym c.as_slice.ensures.value) ∙ ap (λ x. frame_begun p c.args.frames x c.as_slice.result.now s3) (sym c.as_str.ensures) ∙ c.begin_frame.ensures done)

pub returns-in_err-tick : goal.returns-in_err-tick
returns-in_err-tick g c =
    let is : c.from_residual.result ≡ Err c.in_err-tick.field-0.0 = err_of c.from_residual.result c.in_err-tick.field-0.0 c.from_residual.ensures.1 in
    stops_as (follow_of c.args.source.now) c.from_residual.result c.in_err-tick.field-0.0 _ c.tick.new.m is (λ d. call_unticked (program_in c.args.source.now) c.args.frames c.args.f.now.text (exprs_of c.args.args.now) (state_in c.args.m.now) (state_in c.tick.new.m) _ (c.in_err-tick.ensures d))

pub returns-in_err-values : goal.returns-in_err-values
returns-in_err-values g c =
    let is : c.from_residual-in_err-values.result ≡ Err c.in_err-values.field-0.0 = err_of c.from_residual-in_err-values.result c.in_err-values.field-0.0 c.from_residual-in_err-values.ensures.1 in
    stops_as (follow_of c.args.source.now) c.from_residual-in_err-values.result c.in_err-values.field-0.0 _ c.values.new.m is (λ d. call_unvalued (program_in c.args.source.now) c.args.frames c.args.f.now.text (exprs_of c.args.args.now) (state_in c.args.m.now) (state_in c.tick.new.m) (state_in c.values.new.m) (c.in_ok-tick.ensures tt) _ (c.in_err-values.ensures d))

pub returns-in_err-tick-2 : goal.returns-in_err-tick-2
returns-in_err-tick-2 g c =
    let is : c.from_residual-in_err-tick-2.result ≡ Err c.in_err-tick-2.field-0.0 = err_of c.from_residual-in_err-tick-2.result c.in_err-tick-2.field-0.0 c.from_residual-in_err-tick-2.ensures.1 in
    stops_as (follow_of c.args.source.now) c.from_residual-in_err-tick-2.result c.in_err-tick-2.field-0.0 _ c.tick-2.new.m is (λ d. call_unentered (program_in c.args.source.now) c.args.frames c.args.f.now.text (exprs_of c.args.args.now) (state_in c.args.m.now) (state_in c.tick.new.m) (state_in c.values.new.m) (c.in_ok-tick.ensures tt) (state_in c.tick-2.new.m) c.in_ok-values.values.items (c.in_ok-values.ensures tt) _ (c.in_err-tick-2.ensures d))
