use Rattle.std.proofs.Common.{◌-◌, ◌++◌, length, take, drop, sym, ap, ◌∙◌, append_assoc}
use Rattle.std.proofs.KnownBytes.{Appends-trans}
use Rattle.std.proofs.lemmas.List.{take-append-drop}
use Rattle.sc_outside.proofs.PartSteps.{take-rest}
use Rattle.sc_outside.proofs.whole.tell_whole.Goals as goal

pub loop-rest-preserved : goal.loop-rest-preserved
loop-rest-preserved g c =
    let n = c.in_ok-told.told in
    let rest = c.loop-rest.rest.now in
    let so_far = c.loop-rest.invariant in
    let step = c.in_ok-told.ensures in
    record {
      put = so_far.put ++ take n rest;
      parts = so_far.parts
          ∙ ap (λ l. so_far.put ++ l) (sym (take-append-drop n rest) ∙ ap (λ l. take n rest ++ l) (sym (take-rest n rest)))
          ∙ sym (append_assoc so_far.put (take n rest) (take (length rest - n) (drop n rest)));
      given = Appends-trans _ _ _ _ _ so_far.given step.given;
      faults = step.faults ∙ so_far.faults;
    }
