-- Thinning: the records whose flag isn't set, and the job that thinning is.
use Rattle.std.proofs.Common.{◌≡◌, ℕ, Bool, true, false, Option, None, Some, List, [], ◌∷◌, ◌++◌, length, drop, refl, sym, ap, ◌∙◌, subst, append_assoc}
use Rattle.std.proofs.lemmas.Grind.{flat_map-append}
use Rattle.sc_outside.specs.Ends.{IsPrefix, IsJob}
use Rattle.sc_outside.proofs.EndsLaws.{IsPrefix-nil}
use Rattle.sc_rtpdump.specs.Record.{Record, record_bytes}
use Rattle.sc_rtpdump.specs.Preamble.{IsPreamble, preamble_len}
use Rattle.sc_rtpdump.specs.Capture.{records_bytes, parts_of, reading_of}
use Rattle.sc_rtpdump.specs.Thin.{kept, rest_text, thin_text, thinning}
use Rattle.sc_rtpdump.proofs.CaptureLaws.{reading_of-preamble, reading_of-none}
use Rattle.sc_rtpdump.proofs.GrowLaws.{parts_of-grows, begins_with}

pub kept-none : (flags : List Bool) → kept flags [] ≡ []
kept-none [] = refl
kept-none (f ∷ flags) = refl

-- of some records and then others
pub kept-append : (flags : List Bool) (es fs : List Record) → kept flags (es ++ fs) ≡ kept flags es ++ kept (drop (length es) flags) fs
kept-append [] [] fs = refl
kept-append [] (e ∷ es) fs = refl
kept-append (f ∷ flags) [] fs = refl
kept-append (true ∷ flags) (e ∷ es) fs = kept-append flags es fs
kept-append (false ∷ flags) (e ∷ es) fs = ap (λ l. e ∷ l) (kept-append flags es fs)

pub records_bytes-append : (es fs : List Record) → records_bytes (es ++ fs) ≡ records_bytes es ++ records_bytes fs
records_bytes-append es fs = flat_map-append record_bytes es fs

pub text-append : (flags : List Bool) (es fs : List Record)
    → records_bytes (kept flags (es ++ fs)) ≡ records_bytes (kept flags es) ++ records_bytes (kept (drop (length es) flags) fs)
text-append flags es fs = ap records_bytes (kept-append flags es fs) ∙ records_bytes-append (kept flags es) (kept (drop (length es) flags) fs)

-- ---- what is due so far is a prefix of what is due

text_behind : (flags : List Bool) (pre xs ys : List ℕ) → IsPreamble pre → IsPrefix (thin_text flags (reading_of (pre ++ xs))) (thin_text flags (reading_of ((pre ++ xs) ++ ys)))
text_behind flags pre xs ys h =
    let more = parts_of-grows xs ys in
    let rest = records_bytes (kept (drop (length (parts_of xs).records) flags) more.0) in
    let before : thin_text flags (reading_of (pre ++ xs)) ≡ pre ++ rest_text flags (parts_of xs) = ap (thin_text flags) (reading_of-preamble pre xs h) in
    let after : thin_text flags (reading_of ((pre ++ xs) ++ ys)) ≡ pre ++ rest_text flags (parts_of (xs ++ ys)) =
    ap (λ l. thin_text flags (reading_of l)) (append_assoc pre xs ys) ∙ ap (thin_text flags) (reading_of-preamble pre (xs ++ ys) h) in
    record {
      rest = rest;
      parts = after
          ∙ ap (λ l. pre ++ records_bytes (kept flags l)) more.1
          ∙ ap (λ l. pre ++ l) (text-append flags (parts_of xs).records more.0)
          ∙ sym (append_assoc pre (rest_text flags (parts_of xs)) rest)
          ∙ ap (λ l. l ++ rest) (sym before);
    }

text_grows : (flags : List Bool) (taken rest : List ℕ) (place : Option ℕ) → preamble_len taken ≡ place
    → IsPrefix (thin_text flags (reading_of taken)) (thin_text flags (reading_of (taken ++ rest)))
text_grows flags taken rest None e =
    subst (λ r. IsPrefix (thin_text flags r) (thin_text flags (reading_of (taken ++ rest)))) (sym (reading_of-none taken e)) (IsPrefix-nil _)
text_grows flags taken rest (Some n) e =
    let b = begins_with taken n e in
    subst (λ l. IsPrefix (thin_text flags (reading_of l)) (thin_text flags (reading_of (l ++ rest)))) (sym b.parts) (text_behind flags b.preamble b.rest rest b.is)

pub thinning-IsJob : (flags : List Bool) → IsJob (thinning flags)
thinning-IsJob flags = record {
  grows = λ taken rest. text_grows flags taken rest (preamble_len taken) refl;
  spares = λ taken rest. IsPrefix-nil _;
}
