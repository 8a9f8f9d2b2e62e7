use Rattle.std.proofs.Common.{refl, ◌≡◌, ◌++◌, ◌∷◌, [], ℕ, List, None, Some, cond, bytes_eq, length, vec_len, ap, ◌∙◌, rules}
use Rattle.std.proofs.lemmas.Slice.Eq.{bytes_eq-Decides}
use Rattle.name_tables.specs.Named.{first}
use Rattle.name_tables.specs.Known.{entries_in}
use Rattle.safety.proofs.Graphs.{put_number, extended, numbered_more, linked_more}
use Rattle.safety.proofs.graph.number.Goals as goal

pub returns-in_ok-declare-in-None-clause-numbered : goal.returns-in_ok-declare-in-None-clause-numbered
returns-in_ok-declare-in-None-clause-numbered g c =
    let old = entries_in c.args.graph.now.numbers in
    let new = entries_in c.declare.new.self in
    let name = c.args.name.now in
    let callers = c.args.graph.now.callers.items in
    let sizes : vec_len c.args.graph.now.callers ≡ length callers = search rules in
    let none : first old name ≡ None = search rules in
    let is : (x : List ℕ) → first new x ≡ cond (bytes_eq name x) (Some (length callers)) (first old x) = λ x. put_number old new name c.len-number.result none c.in_ok-declare-in-None.ensures.ok x ∙ ap (λ n. cond (bytes_eq name x) (Some n) (first old x)) (c.len-number.ensures ∙ sizes) in
    numbered_more (first old) (first new) callers name none is c.requires c.push.new.self.items (c.in_ok-push-in-None.ensures.items ∙ ap (λ v. callers ++ v ∷ []) c.new.ensures)

pub returns-in_ok-declare-in-None-clause-number : goal.returns-in_ok-declare-in-None-clause-number
returns-in_ok-declare-in-None-clause-number g c =
    let old = entries_in c.args.graph.now.numbers in
    let new = entries_in c.declare.new.self in
    let name = c.args.name.now in
    let none : first old name ≡ None = search rules in
    put_number old new name c.len-number.result none c.in_ok-declare-in-None.ensures.ok name ∙ ap (λ b. cond b (Some c.len-number.result) (first old name)) ((bytes_eq-Decides name name).1 refl)

pub returns-in_ok-declare-in-None-clause-extends : goal.returns-in_ok-declare-in-None-clause-extends
returns-in_ok-declare-in-None-clause-extends g c =
    let old = entries_in c.args.graph.now.numbers in
    let new = entries_in c.declare.new.self in
    let name = c.args.name.now in
    let callers = c.args.graph.now.callers.items in
    let sizes : vec_len c.args.graph.now.callers ≡ length callers = search rules in
    let none : first old name ≡ None = search rules in
    let is : (x : List ℕ) → first new x ≡ cond (bytes_eq name x) (Some (length callers)) (first old x) = λ x. put_number old new name c.len-number.result none c.in_ok-declare-in-None.ensures.ok x ∙ ap (λ n. cond (bytes_eq name x) (Some n) (first old x)) (c.len-number.ensures ∙ sizes) in
    extended (first old) (first new) callers name none is c.requires

pub returns-in_ok-declare-in-None-clause-links : goal.returns-in_ok-declare-in-None-clause-links
returns-in_ok-declare-in-None-clause-links g c =
    let old = entries_in c.args.graph.now.numbers in
    let new = entries_in c.declare.new.self in
    let name = c.args.name.now in
    let callers = c.args.graph.now.callers.items in
    let sizes : vec_len c.args.graph.now.callers ≡ length callers = search rules in
    let none : first old name ≡ None = search rules in
    let is : (x : List ℕ) → first new x ≡ cond (bytes_eq name x) (Some (length callers)) (first old x) = λ x. put_number old new name c.len-number.result none c.in_ok-declare-in-None.ensures.ok x ∙ ap (λ n. cond (bytes_eq name x) (Some n) (first old x)) (c.len-number.ensures ∙ sizes) in
    λ links k. linked_more (first old) (first new) callers name none is c.requires links c.push.new.self.items (c.in_ok-push-in-None.ensures.items ∙ ap (λ v. callers ++ v ∷ []) c.new.ensures) k
