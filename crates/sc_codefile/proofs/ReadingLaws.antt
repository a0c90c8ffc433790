-- The one answer for all bytes is the one that the relation gives.
use Rattle.std.proofs.Common.{◌≡◌, ◌⊎◌, inl, inr, ℕ, Bool, true, false, List, Option, Some, None, IfOk, IfErr, Result, Ok, Err, if◌then◌else◌, refl, sym, ap, ◌∙◌}
use Rattle.std.specs.Str.{is_utf8}
use Rattle.std.proofs.lemmas.Str.{IsUtf8-from_is_utf8, is_utf8-from_IsUtf8}
use Rattle.serde_json.specs.Data.{Data}
use Rattle.serde_json.specs.Read.{read}
use Rattle.sc_matrix.specs.Matrix.{Matrix}
use Rattle.sc_channel.specs.Certificate.{CertificateNumbers}
use Rattle.sc_code.specs.declared.code.CodeFile.{CodeFile}
use Rattle.sc_codefile.specs.declared.fault.FileFault.{FileFault}
use Rattle.sc_codefile.specs.declared.fault.FileFault.TheVariants.{NotJson, Shape, Range, Memory}
use Rattle.sc_codefile.specs.Value.{IsValueOf, IsNotJson}
use Rattle.sc_codefile.specs.Fault.{first_of, IsFirstFault, IsRefusedFor}
use Rattle.sc_codefile.specs.CodeFile.{code_faults, IsCodeFile, IsCodeFileText}
use Rattle.sc_codefile.specs.CertificateFile.{certificate_faults, IsCertificateFile, IsCertificateText}
use Rattle.sc_codefile.specs.LossFile.{loss_faults, IsLossText}
use Rattle.sc_codefile.specs.Reading.{file_at, certificate_at, loss_of, reading_by, file_reading, code_reading, certificate_reading, loss_reading}
use Rattle.sc_codefile.proofs.CodeSteps.{with_cols-rows_of}
use Rattle.sc_codefile.proofs.FileSteps.{no_fault-file}
use Rattle.sc_codefile.proofs.CertificateSteps.{no_fault-certificate}
use Rattle.sc_codefile.proofs.LossSteps.{no_fault-loss, loss_of-is}

file_at-is : (d : Data) (file : CodeFile) → IsCodeFile d file → file_at d ≡ file
file_at-is d file is =
    rw (is.channel, is.k, is.r, is.lags)
    (ap (λ (lags : List (Matrix ℕ)). let f : CodeFile = record { channel = file.channel; code = record { k = file.code.k; r = file.code.r; lags = lags } } in f)
    (with_cols-rows_of file.code.k file.code.r file.code.lags is.is_code.shapes))

certificate_at-is : (d : Data) (certificate : CertificateNumbers) → IsCertificateFile d certificate → certificate_at d ≡ certificate
certificate_at-is d certificate is = rw (is.period, is.lost) refl

module _ {A : Type 0} (faults : Data → List (Bool × FileFault)) (made : Data → A) where
  -- a value with no fault
  clear : (text : List ℕ) (value : Data) → IsValueOf text value → first_of (faults value) ≡ None → file_reading faults made text ≡ Ok (made value)
  clear text value is none = rw (is_utf8-from_IsUtf8 text is.utf8, is.is_read, none) refl

  first : (text : List ℕ) (fault : FileFault) → IsFirstFault faults text fault → file_reading faults made text ≡ Err fault
  first text fault h = rw (is_utf8-from_IsUtf8 text h.is_value.utf8, h.is_value.is_read, h.first) refl

  not_json_by : (text : List ℕ) (o : Option Data) → read text ≡ o → is_utf8 text ≡ true → IsNotJson text → reading_by faults made o ≡ Err NotJson
  not_json_by text None e u h = refl
  not_json_by text (Some d) e u h = absurd (h d (record { utf8 = IsUtf8-from_is_utf8 text u; is_read = e }))

  not_json_in : (text : List ℕ) (b : Bool) → is_utf8 text ≡ b → IsNotJson text → (if b then reading_by faults made (read text) else Err NotJson) ≡ Err NotJson
  not_json_in text true u h = not_json_by text (read text) refl u h
  not_json_in text false u h = refl

  not_json : (text : List ℕ) → IsNotJson text → file_reading faults made text ≡ Err NotJson
  not_json text h = not_json_in text (is_utf8 text) refl h

  by_fault : (text : List ℕ) (fault : FileFault) → IsRefusedFor faults text fault → (fault ≡ Memory) ⊎ (file_reading faults made text ≡ Err fault)
  by_fault text NotJson h = inr (not_json text h)
  by_fault text (Shape key) h = inr (first text (Shape key) h)
  by_fault text (Range key) h = inr (first text (Range key) h)
  by_fault text Memory h = inl refl

  -- a refusal as the answer
  abbrev answer : FileFault → Result A FileFault
  answer fault = Err fault

  err_of : (text : List ℕ) (fault : FileFault) → (fault ≡ Memory) ⊎ (file_reading faults made text ≡ Err fault)
      → (answer fault ≡ Err Memory) ⊎ (answer fault ≡ file_reading faults made text)
  err_of text fault (inl memory) = inl (ap Err memory)
  err_of text fault (inr is) = inr (sym is)

  refusal : (text : List ℕ) (fault : FileFault) → IsRefusedFor faults text fault → (answer fault ≡ Err Memory) ⊎ (answer fault ≡ file_reading faults made text)
  refusal text fault h = err_of text fault (by_fault text fault h)

-- where memory was found, the answer is the one of all bytes
pub reading_of : (text : List ℕ) (result : Result CodeFile FileFault) → IfOk result (IsCodeFileText text) → IfErr result (IsRefusedFor code_faults text)
    → (result ≡ Err Memory) ⊎ (result ≡ code_reading text)
unfolding code_reading
reading_of text (Ok file) ok err =
    inr (sym (clear code_faults file_at text ok.value ok.is_value (no_fault-file ok.value file ok.is_file) ∙ ap Ok (file_at-is ok.value file ok.is_file)))
reading_of text (Err fault) ok err = refusal code_faults file_at text fault err

pub certificate_reading_of : (text : List ℕ) (result : Result CertificateNumbers FileFault) → IfOk result (IsCertificateText text) → IfErr result (IsRefusedFor certificate_faults text)
    → (result ≡ Err Memory) ⊎ (result ≡ certificate_reading text)
unfolding certificate_reading
certificate_reading_of text (Ok certificate) ok err =
    inr (sym (clear certificate_faults certificate_at text ok.value ok.is_value (no_fault-certificate ok.value certificate ok.is_file)
    ∙ ap Ok (certificate_at-is ok.value certificate ok.is_file)))
certificate_reading_of text (Err fault) ok err = refusal certificate_faults certificate_at text fault err

pub loss_reading_of : (text : List ℕ) (result : Result (List Bool) FileFault) → IfOk result (IsLossText text) → IfErr result (IsRefusedFor loss_faults text)
    → (result ≡ Err Memory) ⊎ (result ≡ loss_reading text)
unfolding loss_reading
loss_reading_of text (Ok flags) ok err =
    inr (sym (clear loss_faults loss_of text ok.value ok.is_value (no_fault-loss ok.value flags ok.is_file) ∙ ap Ok (loss_of-is ok.value flags ok.is_file)))
loss_reading_of text (Err fault) ok err = refusal loss_faults loss_of text fault err
