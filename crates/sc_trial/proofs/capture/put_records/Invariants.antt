use Rattle.std.proofs.Common.{◌≡◌, ◌-◌, ◌*◌}
use Rattle.rand_pcg.specs.Lcg.{advance}
use Rattle.rand_pcg.specs.Pcg.{multiplier_64}
use Rattle.sc_trial.specs.Generated.{GivesOrHolds}
use Rattle.sc_trial.proofs.RecordSteps.{text}
use Rattle.sc_trial.proofs.capture.put_records.Given as goal

-- so many records were given or wait, and their words were drawn
abbrev pub invariant-loop-i : goal.invariant-loop-i
invariant-loop-i g l =
    let told = g.P.Port.told in
    record {
      holds : GivesOrHolds (told l.fn.port) (told l.port) (text l.fn.words l.fn.pending l.i l.size) l.pending;
      steps : l.words ≡ advance 64 multiplier_64 (l.i * (l.size - 12)) l.fn.words;
    }
