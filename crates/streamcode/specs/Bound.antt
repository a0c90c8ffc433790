-- What `certify` prints. The line is of this project.
use Rattle.std.specs.Prelude.{ℕ, List, [], ◌∷◌, ◌++◌, codes, decimal}
use Rattle.sc_channel.specs.Certificate.{CertificateNumbers}
use Rattle.sc_code.specs.Code.{Code}
use Rattle.sc_rate.specs.Compared.{compared}
use Rattle.sc_rate.specs.Rate.{kept_count}
use Rattle.sc_rate.specs.declared.rate.Rate.{Rate}
use Rattle.sc_rate.specs.declared.rate.Rate.TheVariants.{Below, Equal, Above}
use Rattle.streamcode.specs.Verdict.{rate_text}

-- how a code's rate stands to a bound
abbrev pub rate_word : Rate → List ℕ
rate_word Below = codes "below"
rate_word Equal = codes "equal"
rate_word Above = codes "above"

-- the bound of a certificate, which isn't reduced, and the rate of a code beside it
abbrev pub bound_line : Code ℕ → CertificateNumbers → List ℕ
bound_line code certificate =
    codes "bound " ++ decimal (kept_count certificate) ++ codes "/" ++ decimal certificate.period
    ++ codes " code " ++ rate_text code ++ codes " " ++ rate_word (compared code certificate) ++ 10 ∷ []
