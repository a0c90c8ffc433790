-- A preamble read in its parts: the magic, a line byte by byte, and 16 bytes.
use Rattle.std.proofs.Common.{◌≡◌, ◌≢◌, ℕ, ◌+◌, ◌<◌, ◌≤◌, ◌⊎◌, true, false, Some, None, List, [], ◌∷◌, ◌++◌, length, take, slice_set, Ok, Err, sym, ap, ◌∙◌, subst, arith, append-nil, append_assoc, length-take, take_all, inl, inr}
use Rattle.std.proofs.lemmas.Bool.{cases_lt}
use Rattle.std.proofs.lemmas.List.{take-set, take_more_set}
use Rattle.std.specs.Io.KnownBytes.{IsAtEnd}
use Rattle.sc_outside.specs.declared.error.Failed.{Failed}
use Rattle.sc_outside.specs.Port.{Told, Takes}
use Rattle.sc_outside.specs.Whole.{FillsOrEnds, ReadFailed}
use Rattle.sc_outside.proofs.FaultsLaws.{Rose-earlier}
use Rattle.sc_outside.proofs.MovesLaws.{Takes-trans}
use Rattle.sc_rtpdump.specs.declared.fault.DumpFault.TheVariants.{Preamble, Read}
use Rattle.sc_rtpdump.specs.Preamble.{magic, IsPreamble, HasNoPreamble, IsOneLine, MagicGives, LineGives, PartsGive}
use Rattle.sc_rtpdump.proofs.PreambleLaws.{no_newline, long_line, few_fields, other_beginning, short_beginning}

-- ---- a line that is read byte by byte into a buffer

IsOneLine-push : (xs : List ℕ) (b : ℕ) → IsOneLine xs → b ≢ 10 → IsOneLine (xs ++ b ∷ [])
IsOneLine-push [] b h other = (other, tt)
IsOneLine-push (x ∷ xs) b h other = (h.0, IsOneLine-push xs b h.1 other)

pub one_line_more : (bytes : List ℕ) (i b : ℕ) → i < length bytes → IsOneLine (take i bytes) → b ≢ 10 → IsOneLine (take (i + 1) (slice_set bytes i b))
one_line_more bytes i b within h other = subst IsOneLine (sym (take_more_set bytes i b within)) (IsOneLine-push (take i bytes) b h other)

pub takes_more : (old mid new : Told) (bytes : List ℕ) (i b : ℕ) → i < length bytes → Takes old mid (take i bytes) → Takes mid new (b ∷ [])
    → Takes old new (take (i + 1) (slice_set bytes i b))
takes_more old mid new bytes i b within t u = subst (Takes old new) (sym (take_more_set bytes i b within)) (Takes-trans old mid new (take i bytes) (b ∷ []) t u)

-- the bytes before the place stay
pub one_line_kept : (bytes : List ℕ) (i b : ℕ) → IsOneLine (take i bytes) → IsOneLine (take i (slice_set bytes i b))
one_line_kept bytes i b h = subst IsOneLine (sym (take-set bytes i b)) h

pub newline_last : (bytes : List ℕ) (i b : ℕ) → i < length bytes → b ≡ 10 → take (i + 1) (slice_set bytes i b) ≡ take i (slice_set bytes i b) ++ 10 ∷ []
newline_last bytes i b within e =
    take_more_set bytes i b within ∙ ap (λ l. l ++ b ∷ []) (sym (take-set bytes i b)) ∙ ap (λ n. take i (slice_set bytes i b) ++ n ∷ []) e

-- nothing more was taken
pub takes_same : (old mid new : Told) (taken : List ℕ) → Takes old mid taken → Takes mid new [] → Takes old new taken
takes_same old mid new taken t u = subst (Takes old new) (append-nil taken) (Takes-trans old mid new taken [] t u)

-- ---- the parts

missing : (old new : Told) (bytes taken : List ℕ) → Takes old new taken → ((rest : List ℕ) → HasNoPreamble (taken ++ rest)) ⊎ (HasNoPreamble taken × IsAtEnd new.left)
    → PartsGive old new bytes (Err Preamble)
missing old new bytes taken t h = (record { taken = taken; takes = t; holds = h }, λ e. cc)

pub magic_missing : (old new : Told) (bytes : List ℕ) → MagicGives old new (Ok false) → PartsGive old new bytes (Err Preamble)
magic_missing old new bytes m = elim m as (λ _. PartsGive old new bytes (Err Preamble)) [
  | inl other ↦ missing old new bytes other.taken other.takes (inl (λ rest. other_beginning other.taken rest other.holds.0 other.holds.1))
  | inr short ↦ missing old new bytes short.0.taken short.0.takes (inr (short_beginning short.0.taken short.0.holds, short.1))
]

pub magic_failed : (old new : Told) (bytes : List ℕ) (e : Failed) → MagicGives old new (Err e) → PartsGive old new bytes (Err Read)
magic_failed old new bytes e m =
    ((record { taken = m.0.taken; takes = m.0.takes; holds = short_beginning m.0.taken m.0.holds }, m.1), λ x. cc)

line_ends : (new : Told) (buf line : List ℕ) → length buf ≡ 4083 → IsOneLine line → (length line < length buf → IsAtEnd new.left)
    → (4083 ≤ length line) ⊎ (length line < 4083) → ((rest : List ℕ) → HasNoPreamble ((magic ++ line) ++ rest)) ⊎ (HasNoPreamble (magic ++ line) × IsAtEnd new.left)
line_ends new buf line size one end (inl long) = inl (λ rest. subst HasNoPreamble (sym (append_assoc magic line rest)) (long_line line rest one long))
line_ends new buf line size one end (inr short) = inr (no_newline line one, end (omega (arith, size)))

either : (n m : ℕ) → (n ≤ m) ⊎ (m < n)
either n m = elim (cases_lt m n) as (λ _. (n ≤ m) ⊎ (m < n)) [ inl less ↦ inr less | inr least ↦ inl least ]

pub line_missing : (old mid new : Told) (bytes buf : List ℕ) → length buf ≡ 4083 → MagicGives old mid (Ok true) → LineGives mid new buf (Ok None)
    → PartsGive old new bytes (Err Preamble)
line_missing old mid new bytes buf size m l =
    missing old new bytes (magic ++ l.taken) (Takes-trans old mid new magic l.taken m l.takes)
    (line_ends new buf l.taken size l.holds.0 l.holds.1 (either 4083 (length l.taken)))

pub line_failed : (old mid new : Told) (bytes buf : List ℕ) (e : Failed) → MagicGives old mid (Ok true) → LineGives mid new buf (Err e) → PartsGive old new bytes (Err Read)
line_failed old mid new bytes buf e m l = (
  (
    record {
      taken = magic ++ l.0.taken;
      takes = Takes-trans old mid new magic l.0.taken m l.0.takes;
      holds = no_newline l.0.taken l.0.holds;
    },
    Rose-earlier _ _ _ m.moves.read_faults l.1,
  ),
  λ x. cc,
)

-- the magic, a line and what follows it
three : (buf more : List ℕ) (i : ℕ) → take (i + 1) buf ≡ take i buf ++ 10 ∷ [] → (magic ++ take (i + 1) buf) ++ more ≡ magic ++ (take i buf ++ 10 ∷ more)
three buf more i e =
    ap (λ l. (magic ++ l) ++ more) e ∙ append_assoc magic (take i buf ++ 10 ∷ []) more ∙ ap (λ l. magic ++ l) (append_assoc (take i buf) (10 ∷ []) more)

takes_two : (old mid low : Told) (buf : List ℕ) (i : ℕ) → MagicGives old mid (Ok true) → LineGives mid low buf (Ok (Some i)) → Takes old low (magic ++ take (i + 1) buf)
takes_two old mid low buf i m l = Takes-trans old mid low magic (take (i + 1) buf) m l.3

pub fields_missing : (old mid low new : Told) (bytes buf fields : List ℕ) (i n : ℕ) → length fields ≡ 16 → n ≢ 16 → MagicGives old mid (Ok true) → LineGives mid low buf (Ok (Some i))
    → FillsOrEnds low new n fields → PartsGive old new bytes (Err Preamble)
fields_missing old mid low new bytes buf fields i n size other m l f =
    let part = take n fields in
    let whole = Takes-trans old low new (magic ++ take (i + 1) buf) part (takes_two old mid low buf i m l) f.takes in
    let few : length part < 16 = omega (arith, length-take n fields, f.bound, size, other) in
    missing old new bytes ((magic ++ take (i + 1) buf) ++ part) whole
    (inr (subst HasNoPreamble (sym (three buf part i l.2)) (few_fields (take i buf) part l.1 few), f.end (omega (arith, f.bound, size, other))))

pub fields_failed : (old mid low new : Told) (bytes buf : List ℕ) (i : ℕ) → MagicGives old mid (Ok true) → LineGives mid low buf (Ok (Some i))
    → ReadFailed low new 16 → PartsGive old new bytes (Err Read)
fields_failed old mid low new bytes buf i m l f =
    let so_far = takes_two old mid low buf i m l in (
      (
        record {
          taken = (magic ++ take (i + 1) buf) ++ f.taken;
          takes = Takes-trans old low new (magic ++ take (i + 1) buf) f.taken so_far f.takes;
          holds = subst HasNoPreamble (sym (three buf f.taken i l.2)) (few_fields (take i buf) f.taken l.1 f.short);
        },
        Rose-earlier _ _ _ so_far.moves.read_faults f.rose,
      ),
      λ x. cc,
    )

pub parts_done : (old mid low new : Told) (bytes buf fields : List ℕ) (i n : ℕ) → length buf ≡ 4083 → length fields ≡ 16 → n ≡ 16 → MagicGives old mid (Ok true)
    → LineGives mid low buf (Ok (Some i)) → FillsOrEnds low new n fields → bytes ≡ (magic ++ take (i + 1) buf) ++ fields → IsPreamble bytes × Takes old new bytes
parts_done old mid low new bytes buf fields i n room size all m l f e = (
  record {
    line = take i buf;
    fields = fields;
    parts = e ∙ three buf fields i l.2;
    one_line = l.1;
    short_line = omega (arith, length-take i buf, l.0, room);
    all_fields = size;
  },
  subst (Takes old new) (ap (λ x. (magic ++ take (i + 1) buf) ++ x) (take_all n fields (omega (arith, size, all))) ∙ sym e)
      (Takes-trans old low new (magic ++ take (i + 1) buf) (take n fields) (takes_two old mid low buf i m l) f.takes),
)
