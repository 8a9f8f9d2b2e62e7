use Rattle.std.proofs.Common.{rules, sym, subst}
use Rattle.machine.specs.Standing.{begins_of}
use Rattle.machine.specs.inner.Inside.{MayAdvance}
use Rattle.machine.specs.inner.Contexts.{PlainContext, RunsInContext, context_of, machine_thread}
use Rattle.machine.proofs.contexts.Inside.{leads_as, runs_at}
use Rattle.machine.proofs.context.ThreadContext.advance_frames.Goals as goal

pub advance-requires-clause-of : goal.advance-requires-clause-of
advance-requires-clause-of g c = (begins_of c.args.self.now.core.attempt, c.requires.runs.stands)

pub advance-requires-clause-can : goal.advance-requires-clause-can
advance-requires-clause-can g c =
    let k = context_of {A = g.row.A.Denot} c.args.self.now in
    let is = runs_at k c.requires.running in
    record {
      valid = c.requires.valid;
      text = k.text;
      runs = subst (RunsInContext c.args.code.now) is c.requires.runs;
      may = subst (λ (z : PlainContext). MayAdvance g.L.Loads.leads g.L.Loads.can_step c.args.code.now c.args.loads.now (record { thread = machine_thread z; accesses = c.args.accesses.now }) c.args.most) is c.requires.can;
    }

pub returns-clause-leads : goal.returns-clause-leads
returns-clause-leads g c =
    let k = context_of {A = g.row.A.Denot} c.args.self.now in
    let l : PlainContext = record k { configuration = c.advance.new.self.configuration; core = c.advance.new.cells.core.now; trapping = c.advance.new.cells.trapping.now } in
    let o = c.advance.ensures.leads.4 k.text c.requires.valid (subst (RunsInContext c.args.code.now) (runs_at k c.requires.running) c.requires.runs) in
    leads_as g.L.Loads.leads c.args.code.now c.args.loads.now c.advance.new.cells.loads.now _ k l c.args.accesses.now c.advance.new.cells.accesses.now _ c.advance.result.0 c.requires.running c.requires.running (search rules) (search rules) o.led

pub returns-clause-runs : goal.returns-clause-runs
returns-clause-runs g c =
    let k = context_of {A = g.row.A.Denot} c.args.self.now in
    let l : PlainContext = record k { configuration = c.advance.new.self.configuration; core = c.advance.new.cells.core.now; trapping = c.advance.new.cells.trapping.now } in
    let o = c.advance.ensures.leads.4 k.text c.requires.valid (subst (RunsInContext c.args.code.now) (runs_at k c.requires.running) c.requires.runs) in
    subst (RunsInContext c.args.code.now) (sym (runs_at l c.requires.running)) o.runs

pub returns-clause-within : goal.returns-clause-within
returns-clause-within g c =
    let k = context_of {A = g.row.A.Denot} c.args.self.now in
    (c.advance.ensures.leads.4 k.text c.requires.valid (subst (RunsInContext c.args.code.now) (runs_at k c.requires.running) c.requires.runs)).within
