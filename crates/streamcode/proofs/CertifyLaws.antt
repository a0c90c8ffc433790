-- `certify`, in the words of codes.
use Rattle.std.proofs.Common.{◌≡◌, ◌≢◌, ◌==◌, Bool, true, false, cond, nat_lt, ℕ, ◌+◌, ◌*◌, ◌≤◌, Option, None, Some, MatchOption, List, refl, ap, arith}
use Rattle.std.proofs.lemmas.Bool.Decides.{nat_tests}
use Rattle.sc_outside.specs.Ends.{Due}
use Rattle.sc_channel.specs.Certificate.{CertificateNumbers, IsAccepted}
use Rattle.sc_code.specs.declared.code.CodeFile.{CodeFile}
use Rattle.sc_rate.specs.Compared.{beside}
use Rattle.sc_rate.specs.Rate.{kept_count}
use Rattle.sc_rate.specs.Residue.{IsFirstBadResidue, bad_residue}
use Rattle.sc_rate.specs.declared.rate.Rate.TheVariants.{Below, Equal, Above}
use Rattle.sc_rate.proofs.BoundSteps.{rate_bounded}
use Rattle.sc_rate.proofs.ByteCodeSteps.{byte_code_bounded}
use Rattle.sc_rate.proofs.ResidueLaws.{bad_residue-answers}
use Rattle.streamcode.specs.declared.end.End.{End}
use Rattle.streamcode.specs.End.{status_of}
use Rattle.streamcode.specs.Jobs.{certify_by}
use Rattle.streamcode.specs.CertifyLaws.{due_of_certify, ZeroIsAccepted, BoundIsPrinted, AcceptedBoundsRates, NeverAbove, TellsResidue, ResidueIsTold}

module _ (file : CodeFile) (certificate : CertificateNumbers) (input : List ℕ) where
  -- by the first bad residue
  residue_answers : MatchOption (bad_residue file.channel certificate) (IsAccepted file.channel certificate) (IsFirstBadResidue file.channel certificate)
  residue_answers = bad_residue-answers file.channel certificate

  accepted_none : (o : Option ℕ) → bad_residue file.channel certificate ≡ o → MatchOption o (IsAccepted file.channel certificate) (IsFirstBadResidue file.channel certificate)
      → IsAccepted file.channel certificate → o ≡ None
  accepted_none None e h ok = refl
  accepted_none (Some residue) e h ok = absurd (h.bad (ok.each residue h.in_period))

  none_accepted : (o : Option ℕ) → MatchOption o (IsAccepted file.channel certificate) (IsFirstBadResidue file.channel certificate) → status_of ((certify_by o file certificate).whole input).answer ≡ 0
      → IsAccepted file.channel certificate
  none_accepted None h s = h
  none_accepted (Some residue) h s = absurd (omega (arith, s))

  due_accepted : IsAccepted file.channel certificate → due_of_certify file certificate input ≡ (certify_by None file certificate).whole input
  due_accepted ok = ap (λ o. (certify_by o file certificate).whole input) (accepted_none (bad_residue file.channel certificate) refl residue_answers ok)

  zero_accepted : status_of (due_of_certify file certificate input).answer ≡ 0 → IsAccepted file.channel certificate
  zero_accepted s = none_accepted (bad_residue file.channel certificate) residue_answers s

  told_by : (o : Option ℕ) → bad_residue file.channel certificate ≡ o → MatchOption o (IsAccepted file.channel certificate) (IsFirstBadResidue file.channel certificate)
      → (IsAccepted file.channel certificate → ⊥) → TellsResidue file certificate (due_of_certify file certificate input)
  told_by None e h refused = absurd (refused h)
  told_by (Some residue) e h refused = record { residue = residue; is_first = h; told = ap (λ o. (certify_by o file certificate).whole input) e }

pub zero-accepted : ZeroIsAccepted
zero-accepted file certificate input = (zero_accepted file certificate input, λ ok. ap (λ (d : Due End). status_of d.answer) (due_accepted file certificate input ok))

pub bound-printed : BoundIsPrinted
bound-printed file certificate input ok = due_accepted file certificate input ok

pub accepted-bounds : AcceptedBoundsRates
accepted-bounds file certificate input valid s a b horizon table some_in some_out is_table meets long =
    rate_bounded file.channel certificate a b horizon table valid (zero_accepted file certificate input s) some_in some_out is_table meets long

above_is : (rate bound : ℕ) → rate ≤ bound → beside rate bound ≢ Above
above_is rate bound h = above_by (nat_lt rate bound) (rate == bound) refl refl
  where
    above_by : (less same : Bool) → nat_lt rate bound ≡ less → (rate == bound) ≡ same → cond less Below (cond same Equal Above) ≡ Above → ⊥
    above_by true same l s e = cc e
    above_by false true l s e = cc e
    above_by false false l s e = grind (arith, nat_tests, h, l, s)

pub never-above : NeverAbove
never-above file certificate input is valid meets s =
    above_is (file.code.k * certificate.period) (kept_count certificate * (file.code.k + file.code.r))
    (byte_code_bounded file.code is file.channel certificate meets valid (zero_accepted file certificate input s))

pub residue-told : ResidueIsTold
residue-told file certificate input refused = told_by file certificate input (bad_residue file.channel certificate) refl (residue_answers file certificate input) refused
