use Rattle.std.proofs.Common.{take, ◌∙◌, arith, length-append}
use Rattle.std.proofs.KnownBytes.{Consumes-trans}
use Rattle.std.proofs.lemmas.List.{length-take}
use Rattle.sc_outside.proofs.PartSteps.{length-written_over}
use Rattle.sc_outside.proofs.dir_cabinet.start_of.Goals as goal

pub loop-piece-preserved : goal.loop-piece-preserved
loop-piece-preserved g c =
    let so_far = c.loop-piece.invariant in
    let step = c.in_ok-read_onto.ensures in
    let bytes = c.loop-piece.bytes in
    let got = c.in_ok-read_onto.field-0 in
    let size = length-take c.min-room.result c.deref_mut.result.now in
    record {
      bound = rw step.read.onto (omega (
        arith,
        length-append bytes.items (take got c.read_onto.new.piece),
        step.bound,
        c.read_onto.auto.piece,
        size,
        c.min-room.ensures,
        c.len-in-loop-piece-2.ensures,
        so_far.bound,
        bytes.ok.0,
      ));
      taken = rw step.read.onto (Consumes-trans _ _ _ _ _ so_far.taken step.read.taken);
      room = length-written_over _ _ _ c.loop-piece.piece.ok.0 ∙ omega (arith, so_far.room, c.loop-piece.piece.ok.0);
    }
