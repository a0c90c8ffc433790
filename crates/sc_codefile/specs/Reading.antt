-- The one answer for all bytes: the file of a form that they are, or why they are none.
use Rattle.std.specs.Prelude.{ℕ, ◌==◌, Bool, List, [], Option, Some, None, unwrap_or, map, Result, Ok, Err, if◌then◌else◌}
use Rattle.std.specs.Str.{is_utf8}
use Rattle.serde_json.specs.Data.{Data}
use Rattle.serde_json.specs.Read.{read}
use Rattle.sc_channel.specs.Certificate.{CertificateNumbers}
use Rattle.sc_code.specs.declared.code.CodeFile.{CodeFile}
use Rattle.sc_codefile.specs.declared.fault.FileFault.{FileFault}
use Rattle.sc_codefile.specs.declared.fault.FileFault.TheVariants.{NotJson}
use Rattle.sc_codefile.specs.Fault.{first_of}
use Rattle.sc_codefile.specs.CodeFile.{channel_at, k_at, lags_at, r_at, code_faults}
use Rattle.sc_codefile.specs.CertificateFile.{lost_at, period_at, certificate_faults}
use Rattle.sc_codefile.specs.LossFile.{loss_at, loss_faults}
use Rattle.sc_codefile.specs.Numbers.{with_cols}

-- the file of what a value has at its keys, with zeros for what it hasn't
abbrev pub file_at : Data → CodeFile
file_at d = record {
  channel = unwrap_or (channel_at d) (record { w = 0; b = 0; n = 0; t = 0 });
  code = record {
    k = unwrap_or (k_at d) 0;
    r = unwrap_or (r_at d) 0;
    lags = map (with_cols (unwrap_or (r_at d) 0)) (unwrap_or (lags_at d) []);
  };
}

-- the numbers of what a value has at its keys, with none for what it hasn't
abbrev pub certificate_at : Data → CertificateNumbers
certificate_at d = record { period = unwrap_or (period_at d) 0; lost = unwrap_or (lost_at d) [] }

-- the flags of what a value has at its key, with none for what it hasn't
abbrev pub loss_of : Data → List Bool
loss_of d = map (λ character. character == 49) (unwrap_or (loss_at d) [])

module _ {A : Type 0} (faults : Data → List (Bool × FileFault)) (made : Data → A) where
  -- a value without a fault is what is made of it
  abbrev pub reading_of_value : Option FileFault → Data → Result A FileFault
  reading_of_value None d = Ok (made d)
  reading_of_value (Some fault) d = Err fault

  abbrev pub reading_by : Option Data → Result A FileFault
  reading_by None = Err NotJson
  reading_by (Some d) = reading_of_value (first_of (faults d)) d

  -- What bytes are that have a form with these faults, or the first fault. `serde_json` reads values from UTF-8 alone.
  abbrev pub file_reading : List ℕ → Result A FileFault
  file_reading text = if is_utf8 text then reading_by (read text) else Err NotJson

-- the code file that bytes are, or the first fault
unfoldable pub code_reading : List ℕ → Result CodeFile FileFault
code_reading text = file_reading code_faults file_at text

-- the certificate that bytes are, or the first fault
unfoldable pub certificate_reading : List ℕ → Result CertificateNumbers FileFault
certificate_reading text = file_reading certificate_faults certificate_at text

-- the loss that bytes are, or the first fault
unfoldable pub loss_reading : List ℕ → Result (List Bool) FileFault
loss_reading text = file_reading loss_faults loss_of text
