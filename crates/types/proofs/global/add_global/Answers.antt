use Rattle.std.proofs.Common.{◌≡◌, ◌∙◌, ◌∷◌, ◌++◌, [], map, sym, ap, false, refl, Option, Some, None, ℕ, option_map, unwrap_or, bytes_eq, if◌then◌else◌, Result, Ok, Err, OnOk}
use Rattle.syntax.specs.Tree.{Scalar, Span}
use Rattle.syntax.specs.Views.{global_of, item_of}
use Rattle.syntax.specs.Types.{Array, Number, known_global}
use Rattle.syntax.specs.Typing.{is_unknown}
use Rattle.types.specs.inner.Known.{known_in}
use Rattle.types.proofs.Files.{shares_more}
use Rattle.types.proofs.global.add_global.Goals as goal

is_known : (ty : Scalar) (length : Option (ℕ × Span)) → is_unknown (unwrap_or (option_map (λ n. Array ty n.0) length) (Number ty)) ≡ false
is_known ty None = refl
is_known ty (Some n) = refl

on_ok : {X Y P Q : Type 0} (r : Result X Y) → (P → Q) → OnOk r P → OnOk r Q
on_ok (Ok x) f h = f h
on_ok (Err y) f h = tt

pub define-requires-clause-new : goal.define-requires-clause-new
define-requires-clause-new g c = ap (λ x. is_unknown (known_in c.args.names.now x)) c.as_str.ensures ∙ c.requires.new

pub define-requires-clause-symbol : goal.define-requires-clause-symbol
define-requires-clause-symbol g c = let x = global_of c.args.g.now in ap is_unknown c.symbol_of.ensures ∙ is_known x.ty x.length

pub returns-clause-known : goal.returns-clause-known
returns-clause-known g c =
    let old = c.args.names.now in
    let new = c.define.new.self in
    let x = global_of c.args.g.now in
    let before = map global_of c.args.before.now in
    on_ok c.define.result
    (λ e. shares_more (map item_of c.args.earlier.now) (known_in old) before x (known_in new) c.requires.known c.requires.new
    (e ∙ (λ i y. if bytes_eq (c.as_str.ensures i) y then c.symbol_of.ensures i else known_in old y)))
    c.define.ensures.known
