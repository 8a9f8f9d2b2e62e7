use Rattle.std.proofs.Common.{◌≡◌, ◌∙◌, ap, sym, map, true, false, bytes_eq, if◌then◌else◌}
use Rattle.syntax.specs.Views.{function_of, item_of}
use Rattle.syntax.specs.Types.{known_function}
use Rattle.syntax.specs.Typing.{is_unknown}
use Rattle.types.specs.inner.Known.{known_in}
use Rattle.types.proofs.Files.{defines_more, defines_again}
use Rattle.types.proofs.function.add_function.Goals as goal

pub define-requires-clause-new : goal.define-requires-clause-new
define-requires-clause-new g c = ap is_unknown (sym c.look.ensures) ∙ sym c.is_unknown.ensures ∙ c.if-is_unknown.true

pub returns-in_ok-define-clause-known : goal.returns-in_ok-define-clause-known
returns-in_ok-define-clause-known g c =
    let old = c.args.names.now in
    let new = c.define.new.self in
    let f = function_of c.args.f.now in
    let name : c.as_str-name.result.now ≡ f.name.text = c.as_str-name.ensures in
    let free : is_unknown (known_in old f.name.text) ≡ true = ap (λ x. is_unknown (known_in old x)) (sym name) ∙ ap is_unknown (sym c.look.ensures) ∙ sym c.is_unknown.ensures ∙ c.if-is_unknown.true in
    let e = c.in_ok-define.ensures.known in
    defines_more (map item_of c.args.earlier.now) (known_in old) f (known_in new) c.requires.known free (e ∙ (λ i y. if bytes_eq (name i) y then known_function f else known_in old y))

pub returns-else-is_unknown-clause-known : goal.returns-else-is_unknown-clause-known
returns-else-is_unknown-clause-known g c =
    let old = c.args.names.now in
    let f = function_of c.args.f.now in
    let name : c.as_str-name.result.now ≡ f.name.text = c.as_str-name.ensures in
    let known : is_unknown (known_in old f.name.text) ≡ false = ap (λ x. is_unknown (known_in old x)) (sym name) ∙ ap is_unknown (sym c.look.ensures) ∙ sym c.is_unknown.ensures ∙ c.if-is_unknown.false in
    defines_again (map item_of c.args.earlier.now) (known_in old) f c.requires.known known
