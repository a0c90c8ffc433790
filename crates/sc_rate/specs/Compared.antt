-- How a code's rate stands to a certificate's bound, as a function.
use Rattle.std.specs.Prelude.{◌==◌, ℕ, ◌+◌, ◌*◌, nat_lt, if◌then◌else◌}
use Rattle.sc_channel.specs.Certificate.{CertificateNumbers}
use Rattle.sc_code.specs.Code.{Code}
use Rattle.sc_rate.specs.declared.rate.Rate.{Rate}
use Rattle.sc_rate.specs.declared.rate.Rate.TheVariants.{Below, Equal, Above}
use Rattle.sc_rate.specs.Rate.{kept_count}

-- a rate and a bound over one denominator
abbrev pub beside : ℕ → ℕ → Rate
beside rate bound = if nat_lt rate bound then Below else if rate == bound then Equal else Above

-- k / (k + r) beside the kept slots over the period
abbrev pub compared : Code ℕ → CertificateNumbers → Rate
compared code certificate = beside (code.k * certificate.period) (kept_count certificate * (code.k + code.r))
