use Rattle.std.proofs.Common.{◌≡◌, ◌++◌, ◌∷◌, [], length, set, vec_len, ap, subst, sym, ◌∙◌, rules}
use Rattle.std.proofs.lemmas.List.{length-set}
use Rattle.name_tables.specs.Named.{first}
use Rattle.name_tables.specs.Known.{entries_in}
use Rattle.safety.specs.Sets.{link_of}
use Rattle.safety.specs.inner.Graphs.{callers_at, HasLinks}
use Rattle.safety.proofs.Graphs.{number_more, callee_within, linked_one, written_back}
use Rattle.safety.proofs.graph.add_link.Goals as goal

pub returns-clause-links : goal.returns-clause-links
returns-clause-links g c = λ links k.
    let mid = first (entries_in c.number_of_callee.new.graph.numbers) in
    let graph = c.number.new.graph in
    let numbers = first (entries_in graph.numbers) in
    let items = graph.callers.items in
    let callee = c.in_ok-callee.callee in
    let caller = c.in_ok-caller.caller in
    let all = c.add_caller.new.callers in
    let link = link_of c.args.link in
    let sizes : vec_len graph.callers ≡ length items = search rules in
    let is : all ≡ set items callee (callers_at items callee ++ caller ∷ []) = c.in_ok-add_caller.ensures ∙ ap (λ cs. set cs callee (callers_at cs callee ++ caller ∷ [])) c.as_mut_slice.ensures.value in
    let size : length all ≡ length items = ap length is ∙ length-set items callee (callers_at items callee ++ caller ∷ []) in
    let own = number_more mid numbers c.in_ok-caller.ensures.extends link.callee callee c.in_ok-callee.ensures.number in
    let less = callee_within numbers items link.callee callee c.in_ok-caller.ensures.numbered own in
    subst (HasLinks (links ++ link ∷ []) numbers) (sym (written_back all items graph.callers.len sizes size))
    (linked_one numbers items all link callee caller is less links (c.in_ok-caller.ensures.links links (c.in_ok-callee.ensures.links links k)) (own, c.in_ok-caller.ensures.number))
