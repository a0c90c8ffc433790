-- `lose` in the format's own words.
use Rattle.std.proofs.Common.{◌≡◌, ◌↔◌, ℕ, ◌<◌, ◌≤◌, ◌⊎◌, inl, inr, ◌==◌, Bool, true, false, cond, nat_lt, is_ok, Option, Some, None, List, [], ◌++◌, length, drop, Result, Ok, Err, refl, sym, ap, ◌∙◌, arith, append-nil}
use Rattle.std.proofs.lemmas.Bool.{le-ltb, cases_lt, lt-ltb, eqb-true}
use Rattle.std.proofs.lemmas.List.{nil_from_length}
use Rattle.sc_outside.specs.Ends.{Due}
use Rattle.sc_codefile.specs.Reading.{code_reading, loss_reading}
use Rattle.sc_channel.specs.Channel.{ChannelNumbers}
use Rattle.sc_channel.specs.Flags.{set_count}
use Rattle.sc_channel.specs.Loss.{IsAdmissible, bad_window}
use Rattle.sc_channel.proofs.FineLaws.{IsAdmissible-no_bad}
use Rattle.sc_channel.proofs.WindowLaws.{bad_window-some, bad_window-admissible, admissible-no_bad_window}
use Rattle.sc_rtpdump.specs.declared.fault.DumpFault.TheVariants.{Preamble, RecordHead, RecordLength, Truncated, Read, Memory}
use Rattle.sc_rtpdump.specs.declared.thin.DropFault.{DropFault}
use Rattle.sc_rtpdump.specs.declared.thin.DropFault.TheVariants.{Dump, More, Fewer, Write}
use Rattle.sc_rtpdump.specs.declared.thin.Dropped.{Dropped}
use Rattle.sc_rtpdump.specs.Record.{Record, short_head, short_length, cut_body, Front, ends, breaks, starts, front_of, length_field, record_at}
use Rattle.sc_rtpdump.specs.Capture.{IsCapture, AreBytes, Parts, Reading, no_preamble, reads, reading_of, records_bytes, IsReading, BeginsOtherwise}
use Rattle.sc_rtpdump.specs.Thin.{thinned, end_at, rest_end, thin_end, thin_text}
use Rattle.sc_rtpdump.proofs.CaptureLaws.{front_of-end, front_of-head, front_of-length, front_of-body}
use Rattle.sc_rtpdump.proofs.ReadingLaws.{reading_of-capture, reading_of-sound, reading_of-only, reading_of-otherwise}
use Rattle.streamcode.specs.declared.end.End.{End}
use Rattle.streamcode.specs.declared.end.End.TheVariants.{Thinned, Capture}
use Rattle.streamcode.specs.End.{status_of, end_of_drop}
use Rattle.streamcode.specs.declared.end.Role.TheVariants.{Code, Loss}
use Rattle.streamcode.specs.Jobs.{lose_by, lose_job}
use Rattle.streamcode.specs.Files.{loss_plan}
use Rattle.streamcode.specs.Plans.{owes}
use Rattle.streamcode.specs.LoseLaws.{due_of_lose, FilesSayWhatIsDue, HasRecords, refused, Refusals}
use Rattle.streamcode.proofs.FileLaws.{due-file}

-- ---- what the files say
pub files-due : FilesSayWhatIsDue
files-due files code loss file flags input h =
    due-file Code code_reading (λ file. loss_plan loss (λ flags. owes (lose_job file.channel flags))) files code h.code_bytes file input h.code_there h.code_short h.code_is
    ∙ due-file Loss loss_reading (λ flags. owes (lose_job file.channel flags)) files loss h.loss_bytes flags input h.loss_there h.loss_short h.loss_is

-- ---- what the loss and the input say
-- what is due where the loss is admissible, by how thinning ends and what it gives
abbrev due_at : ℕ → Result Dropped DropFault → List ℕ → Due End
due_at flags end text = record { answer = end_of_drop flags end; text = text; at_end = is_ok end }

due_admissible : (channel : ChannelNumbers) (flags : List Bool) (input : List ℕ) → IsAdmissible channel flags
    → due_of_lose channel flags input ≡ due_at (length flags) (thin_end flags (reading_of input)) (thin_text flags (reading_of input))
due_admissible channel flags input ok = ap (λ w. (lose_by w flags).whole input) (bad_window-admissible channel flags ok)

-- and where this is the reading of the input
due_reading : (channel : ChannelNumbers) (flags : List Bool) (input : List ℕ) (reading : Reading) (end : Result Dropped DropFault) → IsAdmissible channel flags → reading_of input ≡ reading
    → thin_end flags reading ≡ end → due_of_lose channel flags input ≡ due_at (length flags) end (thin_text flags reading)
due_reading channel flags input reading end ok e f =
    due_admissible channel flags input ok
    ∙ ap (λ r. due_at (length flags) (thin_end flags r) (thin_text flags r)) e
    ∙ ap (λ r. due_at (length flags) r (thin_text flags reading)) f

-- ---- how thinning ends, by the parts
few_end : (flags : List Bool) (parts : Parts) (front : Front) → length parts.records ≤ length flags → front_of parts.tail ≡ front
    → rest_end flags parts ≡ end_at flags (length parts.records) front
unfolding rest_end
few_end flags parts front few at =
    ap (λ b. cond b (Err More) (end_at flags (length parts.records) (front_of parts.tail))) (le-ltb (length flags) (length parts.records) few)
    ∙ ap (end_at flags (length parts.records)) at

many_end : (flags : List Bool) (parts : Parts) → length flags < length parts.records → rest_end flags parts ≡ Err More
unfolding rest_end
many_end flags parts many = ap (λ b. cond b (Err More) (end_at flags (length parts.records) (front_of parts.tail))) (lt-ltb (length flags) (length parts.records) many)

whole_end : (flags : List Bool) (records : List Record) → length records ≡ length flags
    → rest_end flags (record { records = records; tail = [] }) ≡ Ok (record { records = length flags; lost = set_count flags })
whole_end flags records count =
    few_end flags (record { records = records; tail = [] }) ends (omega (arith, count)) (front_of-end [] refl)
    ∙ ap (λ b. cond b (Err (Fewer (length records))) (Ok (record { records = length flags; lost = set_count flags }))) (le-ltb (length records) (length flags) (omega (arith, count)))

-- ---- where the thinned capture is due
pub thinned-due : (channel : ChannelNumbers) (flags : List Bool) (input preamble : List ℕ) (records : List Record)
    → IsCapture input preamble records → length records ≡ length flags → IsAdmissible channel flags
    → due_of_lose channel flags input
    ≡ record { answer = Thinned (record { records = length flags; lost = set_count flags }); text = thinned flags preamble records; at_end = true }
thinned-due channel flags input preamble records capture count ok =
    due_reading channel flags input (reads preamble (record { records = records; tail = [] })) (Ok (record { records = length flags; lost = set_count flags })) ok
    (reading_of-capture input preamble records capture) (whole_end flags records count)

-- ---- where the input is refused
pub preamble-refused : (channel : ChannelNumbers) (flags : List Bool) (input : List ℕ) → IsAdmissible channel flags → BeginsOtherwise input
    → due_of_lose channel flags input ≡ refused (Capture Preamble) []
preamble-refused channel flags input ok other =
    due_reading channel flags input no_preamble (Err (Dump Preamble)) ok ((reading_of-otherwise input).1 other) refl

pub reading-refused : (channel : ChannelNumbers) (flags : List Bool) (input preamble : List ℕ) (parts : Parts) → IsAdmissible channel flags
    → IsReading input preamble parts → Refusals channel flags input preamble parts
reading-refused channel flags input preamble parts ok h =
    let read = reading_of-only input preamble parts h in
    let due = λ (end : Result Dropped DropFault). due_reading channel flags input (reads preamble parts) end ok read in
    let tail = parts.tail in
    record {
      more = λ many. due (Err More) (many_end flags parts many);
      head = λ few part. due (Err (Dump (RecordHead (length parts.records)))) (few_end flags parts (breaks short_head) few (front_of-head tail part.0 part.1));
      short = λ few eight less. due (Err (Dump (RecordLength (length parts.records)))) (few_end flags parts (breaks short_length) few (front_of-length tail eight less));
      cut = λ few part. due (Err (Dump (Truncated (length parts.records)))) (few_end flags parts (breaks cut_body) few (front_of-body tail part.0 part.1));
      fewer = λ few none. due (Err (Fewer (length parts.records))) (
          few_end flags parts ends (omega (arith, few)) (front_of-end tail none)
          ∙ ap (λ b. cond b (Err (Fewer (length parts.records))) (Ok (record { records = length flags; lost = set_count flags }))) (lt-ltb (length parts.records) (length flags) few)
          );
    }

-- ---- where status 0 is due

-- it comes of a whole thinning alone
zero_ok : (flags : ℕ) (end : Result Dropped DropFault) → status_of (end_of_drop flags end) ≡ 0 → is_ok end ≡ true
zero_ok flags (Ok dropped) h = refl
zero_ok flags (Err More) h = absurd (omega (arith, h))
zero_ok flags (Err (Fewer n)) h = absurd (omega (arith, h))
zero_ok flags (Err Write) h = absurd (omega (arith, h))
zero_ok flags (Err (Dump Preamble)) h = absurd (omega (arith, h))
zero_ok flags (Err (Dump (RecordHead i))) h = absurd (omega (arith, h))
zero_ok flags (Err (Dump (RecordLength i))) h = absurd (omega (arith, h))
zero_ok flags (Err (Dump (Truncated i))) h = absurd (omega (arith, h))
zero_ok flags (Err (Dump Read)) h = absurd (omega (arith, h))
zero_ok flags (Err (Dump Memory)) h = absurd (omega (arith, h))

least : (flags : List Bool) (n : ℕ) → (n < length flags) ⊎ (length flags ≤ n)
    → is_ok {T = Dropped} {E = DropFault} (cond (nat_lt n (length flags)) (Err (Fewer n)) (Ok (record { records = length flags; lost = set_count flags }))) ≡ true → length flags ≤ n
least flags n (inr most) h = most
least flags n (inl less) h =
    let no : false ≡ true = sym (ap (λ b. is_ok {T = Dropped} {E = DropFault} (cond b (Err (Fewer n)) (Ok (record { records = length flags; lost = set_count flags })))) (lt-ltb n (length flags) less)) ∙ h in
    absurd (cc)

end_whole : (flags : List Bool) (n : ℕ) (front : Front) → is_ok (end_at flags n front) ≡ true → (front ≡ ends) × (length flags ≤ n)
end_whole flags n (breaks break) h = absurd (cc)
end_whole flags n (starts e rest) h = absurd (cc)
end_whole flags n ends h = (refl, least flags n (cases_lt n (length flags)) h)

rest_split : (flags : List Bool) (parts : Parts) → (length flags < length parts.records) ⊎ (length parts.records ≤ length flags) → is_ok (rest_end flags parts) ≡ true
    → (front_of parts.tail ≡ ends) × (length parts.records ≡ length flags)
rest_split flags parts (inl many) h = let no : false ≡ true = sym (ap is_ok (many_end flags parts many)) ∙ h in absurd (cc)
rest_split flags parts (inr few) h =
    let e = end_whole flags (length parts.records) (front_of parts.tail) (sym (ap is_ok (few_end flags parts (front_of parts.tail) few refl)) ∙ h) in
    (e.0, omega (arith, few, e.1))

-- what ends is empty
only_ends : (a b c d : Bool) (e : Record) (r : List ℕ)
    → cond a ends (cond b (breaks short_head) (cond c (breaks short_length) (cond d (breaks cut_body) (starts e r)))) ≡ ends → a ≡ true
only_ends true b c d e r h = refl
only_ends false true c d e r h = absurd (cc)
only_ends false false true d e r h = absurd (cc)
only_ends false false false true e r h = absurd (cc)
only_ends false false false false e r h = absurd (cc)

ends-empty : (bytes : List ℕ) → front_of bytes ≡ ends → bytes ≡ []
unfolding front_of
ends-empty bytes h =
    nil_from_length bytes (eqb-true (length bytes) 0
    (only_ends (length bytes == 0) (nat_lt (length bytes) 8) (nat_lt (length_field bytes) 8) (nat_lt (length bytes) (length_field bytes)) (record_at bytes) (drop (length_field bytes) bytes) h))

-- a reading with nothing behind its records is a capture
pub whole-capture : (input preamble : List ℕ) (parts : Parts) → IsReading input preamble parts → front_of parts.tail ≡ ends → IsCapture input preamble parts.records
whole-capture input preamble parts r none = record {
  preamble_is = r.preamble_is;
  records_are = r.records_are;
  parts = r.spelled ∙ ap (λ l. preamble ++ (records_bytes parts.records ++ l)) (ends-empty parts.tail none) ∙ ap (λ l. preamble ++ l) (append-nil (records_bytes parts.records));
}

reading_whole : (flags : List Bool) (input : List ℕ) (reading : Reading) → AreBytes input → reading_of input ≡ reading → is_ok (thin_end flags reading) ≡ true → HasRecords input flags
reading_whole flags input no_preamble fits e h = absurd (cc)
reading_whole flags input (reads preamble parts) fits e h =
    let r = reading_of-sound input preamble parts fits e in
    let w = rest_split flags parts (cases_lt (length flags) (length parts.records)) h in
    record {
      preamble = preamble;
      records = parts.records;
      capture = whole-capture input preamble parts r w.0;
      count = w.1;
    }

zero_by : (channel : ChannelNumbers) (flags : List Bool) (input : List ℕ) → AreBytes input → (w : Option ℕ) → bad_window channel flags ≡ w
    → status_of ((lose_by w flags).whole input).answer ≡ 0 → IsAdmissible channel flags × HasRecords input flags
zero_by channel flags input fits (Some i) e h = absurd (omega (arith, h))
zero_by channel flags input fits None e h =
    (admissible-no_bad_window channel flags e, reading_whole flags input (reading_of input) fits refl (zero_ok (length flags) (thin_end flags (reading_of input)) h))

pub zero-thinned : (channel : ChannelNumbers) (flags : List Bool) (input : List ℕ) → AreBytes input → status_of (due_of_lose channel flags input).answer ≡ 0
    → IsAdmissible channel flags × HasRecords input flags
zero-thinned channel flags input fits h = zero_by channel flags input fits (bad_window channel flags) refl h

-- ---- where status 1 is due

not_one : (flags : ℕ) (end : Result Dropped DropFault) → status_of (end_of_drop flags end) ≡ 1 → ⊥
not_one flags (Ok dropped) h = omega (arith, h)
not_one flags (Err More) h = omega (arith, h)
not_one flags (Err (Fewer n)) h = omega (arith, h)
not_one flags (Err Write) h = omega (arith, h)
not_one flags (Err (Dump Preamble)) h = omega (arith, h)
not_one flags (Err (Dump (RecordHead i))) h = omega (arith, h)
not_one flags (Err (Dump (RecordLength i))) h = omega (arith, h)
not_one flags (Err (Dump (Truncated i))) h = omega (arith, h)
not_one flags (Err (Dump Read)) h = omega (arith, h)
not_one flags (Err (Dump Memory)) h = omega (arith, h)

one_only : (channel : ChannelNumbers) (flags : List Bool) (input : List ℕ) (w : Option ℕ) → bad_window channel flags ≡ w
    → status_of ((lose_by w flags).whole input).answer ≡ 1 → IsAdmissible channel flags → ⊥
one_only channel flags input (Some i) e h ok = IsAdmissible-no_bad channel flags i ok (bad_window-some channel flags i e)
one_only channel flags input None e h ok = not_one (length flags) (thin_end flags (reading_of input)) h

one_there : (channel : ChannelNumbers) (flags : List Bool) (input : List ℕ) (w : Option ℕ) → bad_window channel flags ≡ w
    → (IsAdmissible channel flags → ⊥) → status_of ((lose_by w flags).whole input).answer ≡ 1
one_there channel flags input (Some i) e bad = refl
one_there channel flags input None e bad = absurd (bad (admissible-no_bad_window channel flags e))

pub one-refused : (channel : ChannelNumbers) (flags : List Bool) (input : List ℕ)
    → (status_of (due_of_lose channel flags input).answer ≡ 1) ↔ (IsAdmissible channel flags → ⊥)
one-refused channel flags input =
    (one_only channel flags input (bad_window channel flags) refl, one_there channel flags input (bad_window channel flags) refl)
