use Rattle.std.proofs.Common.{refl, sym, ap, ◌∙◌}
use Rattle.std.proofs.lemmas.Bool.{both_ways}
use Rattle.sc_channel.specs.Certificate.{are_residues}
use Rattle.sc_channel.proofs.CertificateLaws.{tests-to, residues-from, period-from}
use Rattle.sc_channel.proofs.certificate.Certificate.new.Goals as goal
use Rattle.sc_channel.proofs.certificate.Certificate.new.Goals.{else-are_residues-via-then-are_residues+else-is_period, else-are_residues-via-else-are_residues}

pub invariant_of-result : goal.invariant_of-result
invariant_of-result c =
    tests-to (record { period = c.args.period; lost = c.args.lost.items })
    (ap (are_residues c.args.period 0) (sym c.deref.ensures.value) ∙ sym c.are_residues.ensures ∙ c.if-are_residues.true)
    (sym c.is_period.ensures ∙ c.if-is_period.true)

pub returns-then-is_period-clause-accepted : goal.returns-then-is_period-clause-accepted
returns-then-is_period-clause-accepted c = (λ _. invariant_of-result c, λ _. refl)

pub returns-else-are_residues-clause-accepted : goal.returns-else-are_residues-clause-accepted
returns-else-are_residues-clause-accepted c = (
  λ e. absurd (both_ways _ refl e),
  λ is. elim c.else-are_residues.branch [
    | else-are_residues-via-then-are_residues+else-is_period w ↦
        absurd (both_ways _ (sym w.is_period.ensures ∙ w.if-is_period.false) (period-from _ is))
    | else-are_residues-via-else-are_residues w ↦
        absurd (both_ways _ (sym c.are_residues.ensures ∙ w.if-are_residues.false)
        (ap (are_residues c.args.period 0) c.deref.ensures.value ∙ residues-from (record { period = c.args.period; lost = c.args.lost.items }) is))
  ],
)
