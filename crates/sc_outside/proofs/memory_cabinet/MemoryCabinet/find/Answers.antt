use Rattle.std.proofs.Common.{Some, map, sym, ap, ◌∙◌, arith}
use Rattle.sc_outside.specs.Cabinet.{file_named}
use Rattle.sc_outside.specs.MemoryCabinet.{file_entry}
use Rattle.sc_outside.proofs.MemoryCabinetSteps.{file_here, file_later}
use Rattle.sc_outside.proofs.memory_cabinet.MemoryCabinet.find.Goals as goal

pub returns-then-eq : goal.returns-then-eq
returns-then-eq c =
    let here = file_here c.args.name.now c.deref-file-items.result.now c.loop-file.file-index c.file-item.result (omega arith) c.file-item.is cc in
    ap Some c.as_slice.ensures.value ∙ sym here ∙ c.loop-file.invariant
    ∙ ap (λ files. file_named c.args.name.now (map file_entry files)) c.deref-file-items.ensures.value
    ∙ ap (λ s. file_named c.args.name.now s.files) c.self.view_is

pub loop-file-preserved : goal.loop-file-preserved
loop-file-preserved c =
    let later = file_later c.args.name.now c.deref-file-items.result.now c.loop-file.file-index c.file-item.result (omega arith) c.file-item.is cc in
    sym later ∙ c.loop-file.invariant
