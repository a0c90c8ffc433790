use Rattle.std.proofs.Common.{◌/◌, length, arith}
use Rattle.sc_code.proofs.StreamSteps.{symbol_place}
use Rattle.sc_code.proofs.stream.Stream.symbol.Goals as goal

pub overflow_mul-result : goal.overflow_mul-result
overflow_mul-result c =
    let p = (symbol_place (length c.self.inside.symbols.items / c.self.inside.k) c.self.inside.k c.self.inside.symbols.items c.as_slice-symbols.result.now c.args.self.now c.args.t c.args.i c.as_slice-symbols.ensures.value c.self.view_is c.self.invariant.1 c.requires.slot c.requires.symbol).within in
    grind arith

pub overflow_add-result : goal.overflow_add-result
overflow_add-result c =
    let p = (symbol_place (length c.self.inside.symbols.items / c.self.inside.k) c.self.inside.k c.self.inside.symbols.items c.as_slice-symbols.result.now c.args.self.now c.args.t c.args.i c.as_slice-symbols.ensures.value c.self.view_is c.self.invariant.1 c.requires.slot c.requires.symbol).within in
    grind arith

pub bounds-symbols-t : goal.bounds-symbols-t
bounds-symbols-t c =
    (symbol_place (length c.self.inside.symbols.items / c.self.inside.k) c.self.inside.k c.self.inside.symbols.items c.as_slice-symbols.result.now c.args.self.now c.args.t c.args.i c.as_slice-symbols.ensures.value c.self.view_is c.self.invariant.1 c.requires.slot c.requires.symbol).within

pub returns : goal.returns
returns c =
    (symbol_place (length c.self.inside.symbols.items / c.self.inside.k) c.self.inside.k c.self.inside.symbols.items c.as_slice-symbols.result.now c.args.self.now c.args.t c.args.i c.as_slice-symbols.ensures.value c.self.view_is c.self.invariant.1 c.requires.slot c.requires.symbol).value
