use Rattle.std.proofs.Common.{add-one, ◌-◌, length, map, refl, sym, ap, ◌∙◌, arith, []}
use Rattle.std.proofs.lemmas.List.{length-replicate, length-map}
use Rattle.bytecode.specs.Views.{instr_of}
use Rattle.bytecode.proofs.Answering.{init, has_arrival, takes, goes, goes_not, ends_here, ends_full, none_left, whole, below, code_with, from_first}
use Rattle.bytecode.proofs.walk.walk_over.Goals as goal

pub places-init : goal.places-init
places-init g c = record {
  walked = λ code arguments f h e. init code f c.args.first (c.args.behind - c.args.first) c.args.arrivals.now c.visit.new.arrivals c.args.work.now.items c.visit.new.work.items c.in_ok-visit.field-0 e c.requires.arrivals c.requires.work c.in_ok-visit.ensures.visited (search);
  long = c.in_ok-visit.ensures.len ∙ ap length c.requires.arrivals ∙ length-replicate _ _;
}

pub returns-in-None : goal.returns-in-None
returns-in-None g c = λ code arguments f h e. (λ t. ends_here code f c.args.first c.args.behind c.places.arrivals c.places.work.items c.places.made e (c.places.invariant.walked code arguments f h e) (none_left c.places.work.items c.pop.new.self.items _ c.in-None.ensures.cases.0 c.in-None.ensures.rest c.in-None.ensures.items) (whole c.args.first c.args.behind (length c.places.arrivals) c.places.invariant.long c.requires.starts), λ k. refl)

pub returns-in-None-arrival_of : goal.returns-in-None-arrival_of
returns-in-None-arrival_of g c = λ code arguments f h e. absurd (has_arrival code f c.args.first c.places.arrivals c.places.work.items c.pop.new.self.items c.in-Some.at c.places.made e (c.places.invariant.walked code arguments f h e) c.in-Some.ensures.items (sym c.arrival_of.ensures ∙ c.in-None-arrival_of.is))

pub go_on-requires : goal.go_on-requires
go_on-requires g c =
    let b = takes (code_with (map (instr_of []) c.args.instrs.now)) (from_first c.args.first) c.args.first c.places.arrivals c.places.work.items c.pop.new.self.items c.in-Some.at c.places.made refl (c.places.invariant.walked (code_with (map (instr_of []) c.args.instrs.now)) [] (from_first c.args.first) refl refl) c.in-Some.ensures.items in
    below c.args.first c.args.behind c.in-Some.at (length c.places.arrivals) (length c.args.instrs.now) b.0 b.1 c.places.invariant.long c.requires.starts c.requires.ends

pub returns-then-not-branch-2 : goal.returns-then-not-branch-2
returns-then-not-branch-2 g c = λ code arguments f h e. (λ t. cc t, λ k. absurd (goes_not code f c.args.first c.args.behind c.places.arrivals c.go_on.new.arrivals c.places.work.items c.pop.new.self.items c.go_on.new.work.items c.in-Some.at c.places.made c.in-Some-arrival_of.arrival c.in_ok-go_on-in-Some-arrival_of.field-0 (map (instr_of arguments) c.args.instrs.now) h e (whole c.args.first c.args.behind (length c.places.arrivals) c.places.invariant.long c.requires.starts) (rw length-map c.requires.ends) (c.places.invariant.walked code arguments f h e) c.in-Some.ensures.items (sym c.arrival_of.ensures ∙ c.in-Some-arrival_of.is) (λ i s. c.in_ok-go_on-in-Some-arrival_of.ensures.went arguments i s) (search) k))

pub places-preserved : goal.places-preserved
places-preserved g c = record {
  walked = λ code arguments f h e. rw add-one (goes code f c.args.first c.args.behind c.places.arrivals c.go_on.new.arrivals c.places.work.items c.pop.new.self.items c.go_on.new.work.items c.in-Some.at c.places.made c.in-Some-arrival_of.arrival c.in_ok-go_on-in-Some-arrival_of.field-0 (map (instr_of arguments) c.args.instrs.now) h e (whole c.args.first c.args.behind (length c.places.arrivals) c.places.invariant.long c.requires.starts) (rw length-map c.requires.ends) (c.places.invariant.walked code arguments f h e) c.in-Some.ensures.items (sym c.arrival_of.ensures ∙ c.in-Some-arrival_of.is) (λ i s. c.in_ok-go_on-in-Some-arrival_of.ensures.went arguments i s) c.if-not-branch-2.false);
  long = c.in_ok-go_on-in-Some-arrival_of.ensures.len ∙ c.places.invariant.long;
}

pub returns : goal.returns
returns g c = λ code arguments f h e. (λ t. ends_full code f c.args.first c.args.behind c.places.arrivals c.places.work.items c.places.made e (c.places.invariant.walked code arguments f h e) (let a = c.places.auto.made-end in let b = c.places-test.false in let d = c.places.invariant.long in grind (arith, a, b, d)) (whole c.args.first c.args.behind (length c.places.arrivals) c.places.invariant.long c.requires.starts), λ k. refl)
