use Rattle.std.proofs.Common.{refl, inl}
use Rattle.sc_slots.specs.Protected.{protection_of}
use Rattle.sc_slots.proofs.EndSteps.{all_few, rest_all, rest_halts, rest_failed}
use Rattle.sc_slots.proofs.protect.protect_rest.Goals as goal

pub returns-in_default : goal.returns-in_default
returns-in_default g c = inl c.in_default.ensures

pub put_last-requires-clause-few : goal.put_last-requires-clause-few
put_last-requires-clause-few g c =
    let h = rw c.in-Ok-end.is at c.in-Ok.ensures in
    all_few (protection_of c.args.file.now c.args.size) _ _ _ _ _ h

pub returns-in-Ok-end : goal.returns-in-Ok-end
returns-in-Ok-end g c =
    let h = rw c.in-Ok-end.is at c.in-Ok.ensures in
    let p = protection_of c.args.file.now c.args.size in
    rest_all p _ _ _ _ _ _ c.put_last.result h (c.put_last.ensures p h.is_of refl)

pub returns-in-Ok-flush : goal.returns-in-Ok-flush
returns-in-Ok-flush g c =
    let h = rw c.in-Err.is at c.in-Ok.ensures in
    rest_halts (protection_of c.args.file.now c.args.size) _ _ _ _ c.in-Err.fault h c.in-Ok-flush.ensures.1

pub returns-in-Err-flush : goal.returns-in-Err-flush
returns-in-Err-flush g c =
    let h = rw c.in-Err.is at c.in-Ok.ensures in
    rest_failed (protection_of c.args.file.now c.args.size) _ _ _ _ _ c.in-Err.fault h c.in-Err-flush.ensures
