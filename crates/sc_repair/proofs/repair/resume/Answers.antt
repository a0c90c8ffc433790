use Rattle.std.proofs.Common.{◌≡◌, ℕ, ◌+◌, [], length, false, None, Result, Ok, Err, IfOk, subst}
use Rattle.sc_code.specs.declared.code.CodeFile.{CodeFile}
use Rattle.sc_repair.specs.Repairer.{Repairer}
use Rattle.sc_repair.specs.RepairSteps.{IsGoing, Resumes}
use Rattle.sc_repair.specs.Stands.{Stands}
use Rattle.sc_repair.proofs.ComeSteps.{new_resumes}
use Rattle.sc_repair.proofs.repair.resume.Goals as goal

started : {E : Type 0} (file : CodeFile) (m missed : ℕ) (result : Result Repairer E) → missed ≡ 0 → IfOk result (λ s. Stands s []) → IfOk result (λ s. (s.k ≡ file.code.k) × (s.r ≡ file.code.r) × (s.memory + 1 ≡ length file.code.lags))
    → IfOk result (λ s. (s.deadline ≡ file.channel.t) × (s.m ≡ m) × (s.passed ≡ 0) × (s.next ≡ 0) × (s.finished ≡ false)) → IfOk result (λ s. s.own ≡ file.code) → IfOk result (λ s. Resumes file None missed m s)
started file m missed (Ok s) zero a b c o = new_resumes file m missed s zero (a, b, c, o)
started file m missed (Err e) zero a b c o = tt

pub returns-in-None-clause-resumes : goal.returns-in-None-clause-resumes
returns-in-None-clause-resumes c =
    rw c.in-None.is (started c.args.file.now c.args.m c.args.counts.now.missed c.start_by.result (subst (λ k. IsGoing c.args.file.now k c.args.counts.now) c.in-None.is c.requires.going) c.start_by.ensures.stands c.start_by.ensures.code
    (subst (λ t. IfOk c.start_by.result (λ s. (s.deadline ≡ t) × (s.m ≡ c.args.m) × (s.passed ≡ 0) × (s.next ≡ 0) × (s.finished ≡ false))) c.t.ensures.number c.start_by.ensures.numbers) c.start_by.ensures.own)
