-- What a run owes by the bytes of a file that was fetched.
use Rattle.std.specs.Prelude.{◌≡◌, ◌⊎◌, ℕ, ◌<◌, ◌≤◌, Bool, true, List, length, nat_lt, if◌then◌else◌, Result, Ok, Err}
use Rattle.sc_outside.specs.Cabinet.{CabinetTold, Fetched}
use Rattle.sc_channel.specs.Certificate.{CertificateNumbers}
use Rattle.sc_code.specs.declared.code.CodeFile.{CodeFile}
use Rattle.sc_codefile.specs.declared.fault.FileFault.{FileFault}
use Rattle.sc_codefile.specs.Reading.{code_reading, certificate_reading, loss_reading}
use Rattle.streamcode.specs.declared.end.Role.{Role}
use Rattle.streamcode.specs.declared.end.Role.TheVariants.{Code, Certificate, Loss}
use Rattle.streamcode.specs.declared.end.End.{End}
use Rattle.streamcode.specs.declared.end.End.TheVariants.{FileRefused, FileTooLong}
use Rattle.streamcode.specs.Jobs.{refusal}
use Rattle.streamcode.specs.Plans.{Plan, owes, fetches, most_fetched, FetchEnds}

-- the bytes of a file came, fewer than the limit
pub record BytesCame (old new : CabinetTold) (name bytes : List ℕ) : Type 0 where
  pub fetched : Fetched old new name most_fetched bytes
  pub short : length bytes < most_fetched

-- how a run ends without these: the fetch ended it, or the file is too long
abbrev pub BytesLack : CabinetTold → CabinetTold → List ℕ → Role → End → Type 0
BytesLack old new name role end =
    FetchEnds old new name end
    ⊎ ((bytes : List ℕ) × Fetched old new name most_fetched bytes × (end ≡ FileTooLong role) × (most_fetched ≤ length bytes))

-- Files of one role: what their bytes are read as, or their first fault.
module _ {A : Type 0} (role : Role) (reading : List ℕ → Result A FileFault) where
  -- a file is refused where it isn't of its form; else what it holds says what is owed
  abbrev pub by_reading : (A → Plan) → Result A FileFault → Plan
  by_reading next (Ok file) = next file
  by_reading next (Err fault) = owes (refusal true (FileRefused role fault))

  -- one that is too long is refused for that
  abbrev pub by_bytes : (A → Plan) → List ℕ → Plan
  by_bytes next bytes =
      if nat_lt (length bytes) most_fetched then by_reading next (reading bytes) else owes (refusal true (FileTooLong role))

  -- the file is fetched
  abbrev pub file_plan : List ℕ → (A → Plan) → Plan
  file_plan name next = fetches name (by_bytes next)

  -- How a run ends by the bytes of a file that came and isn't of its form: it is too long, or it has a fault.
  abbrev pub IsRefusedBy : List ℕ → End → Type 0
  IsRefusedBy bytes end =
      ((end ≡ FileTooLong role) × (most_fetched ≤ length bytes))
      ⊎ ((fault : FileFault) × (end ≡ FileRefused role fault) × (length bytes < most_fetched) × (reading bytes ≡ Err fault))

  -- The file was fetched and is of its form; or how the run ends without it: the fetch ended it, or memory ran out while it
  -- was read, or it is refused.
  abbrev pub Came : CabinetTold → CabinetTold → List ℕ → Result A End → Type 0
  Came old new name (Ok file) =
      (bytes : List ℕ) × Fetched old new name most_fetched bytes × (length bytes < most_fetched) × (reading bytes ≡ Ok file)
  Came old new name (Err end) =
      FetchEnds old new name end ⊎ ((bytes : List ℕ) × Fetched old new name most_fetched bytes × IsRefusedBy bytes end)

-- the file of a code, that of a certificate, and that of a loss
abbrev pub code_plan : List ℕ → (CodeFile → Plan) → Plan
code_plan = file_plan Code code_reading

abbrev pub certificate_plan : List ℕ → (CertificateNumbers → Plan) → Plan
certificate_plan = file_plan Certificate certificate_reading

abbrev pub loss_plan : List ℕ → (List Bool → Plan) → Plan
loss_plan = file_plan Loss loss_reading

abbrev pub CodeCame : CabinetTold → CabinetTold → List ℕ → Result CodeFile End → Type 0
CodeCame = Came Code code_reading

abbrev pub CertificateCame : CabinetTold → CabinetTold → List ℕ → Result CertificateNumbers End → Type 0
CertificateCame = Came Certificate certificate_reading

abbrev pub LossCame : CabinetTold → CabinetTold → List ℕ → Result (List Bool) End → Type 0
LossCame = Came Loss loss_reading
