use Rattle.std.proofs.Common.{◌-◌, ◌++◌, length, take, drop, sym, ap, ◌∙◌, append_assoc}
use Rattle.std.proofs.lemmas.List.{take-append-drop}
use Rattle.sc_outside.proofs.MovesLaws.{Puts-trans, Puts-one}
use Rattle.sc_outside.proofs.PartSteps.{take-rest}
use Rattle.sc_outside.proofs.whole.write_whole.Goals as goal

pub loop-rest-preserved : goal.loop-rest-preserved
loop-rest-preserved g c =
    let n = c.in_ok-written.written in
    let rest = c.loop-rest.rest.now in
    let so_far = c.loop-rest.invariant in
    let step = c.in_ok-written.ensures in
    record {
      put = so_far.put ++ take n rest;
      parts = so_far.parts
          ∙ ap (λ l. so_far.put ++ l) (sym (take-append-drop n rest) ∙ ap (λ l. take n rest ++ l) (sym (take-rest n rest)))
          ∙ sym (append_assoc so_far.put (take n rest) (take (length rest - n) (drop n rest)));
      puts = Puts-trans _ _ _ _ _ so_far.puts (Puts-one _ _ _ _ step);
      write_faults = step.write_faults ∙ so_far.write_faults;
    }
