use Rattle.std.proofs.Common.{◌≡◌, refl}
use Rattle.name_tables.specs.Named.{with_declaration}
use Rattle.name_tables.specs.Known.{entries_in}
use Rattle.types.specs.inner.Symbols.{AreSymbols}
use Rattle.types.specs.inner.Known.{file_of}
use Rattle.name_tables.proofs.Numbered.{by_either}
use Rattle.types.proofs.Grown.{define_known, symbols_more, symbols_same}
use Rattle.types.proofs.table.ScopeTable.define.Goals as goal

pub invariant_of-self : goal.invariant_of-self
invariant_of-self g c =
    let old = c.args.self.now in
    let es = entries_in c.declare.new.self in
    let before = file_of old in
    let x = c.args.name.now in
    let symbols = by_either c.declare.result (es ≡ with_declaration before x c.args.symbol) (es ≡ before) (AreSymbols es) c.declare.ensures.ok c.declare.ensures.err
    (λ e. symbols_more before es x c.args.symbol e c.requires.symbol old.symbols)
    (λ e. symbols_same before es e old.symbols) in
    record { symbols = symbols }

pub returns-clause-known : goal.returns-clause-known
returns-clause-known g c = define_known c.args.self.now _ c.args.name.now c.args.symbol c.requires.none refl c.in_ok-declare.ensures.ok c.requires.new
