-- A value and the loss that it is, and the text of its value.
use Rattle.std.proofs.Common.{◌≡◌, ℕ, ◌≤◌, ◌==◌, Bool, true, false, not, List, [], ◌∷◌, ◌++◌, Some, None, is_none, length, map, drop, append_assoc, nat_le, codes, refl, sym, ap, ap₂, ◌∙◌, arith}
use Rattle.std.specs.List.{list_all}
use Rattle.std.proofs.lemmas.Bool.{not-false, and_parts, and_from, leb-true, le-leb}
use Rattle.std.proofs.lemmas.Bool.Decides.{nat_tests}
use Rattle.std.proofs.lemmas.List.{length-map}
use Rattle.std.proofs.lemmas.Option.{none-some, same_Some}
use Rattle.serde_json.specs.Data.{Data, null, boolean, number, string, array, object, member, no_members, depth}
use Rattle.serde_json.specs.Written.{compact_text, has_float}
use Rattle.serde_json.proofs.OnLiterals.{serde_json_on_literals}
use Rattle.sc_codefile.specs.declared.fault.FileFault.{FileFault}
use Rattle.sc_codefile.specs.declared.fault.FileFault.TheVariants.{Memory}
use Rattle.sc_codefile.specs.Value.{has_other_key, is_object}
use Rattle.sc_codefile.specs.Fault.{first_of, fails, IsRefusedFor}
use Rattle.sc_codefile.specs.LossFile.{loss_at, is_flag, flag_character, flags_text, is_flags_text, loss_faults, IsLossFile, IsLossText, loss_text, loss_value, HasText, HasFlags}
use Rattle.sc_codefile.specs.Reading.{loss_of}
use Rattle.sc_codefile.proofs.FaultSteps.{none_from_clear, clear_from_none, is_some_value, refused-clear}

-- ---- texts of flags

-- the flags of a text of flags are these
pub flags_back : (flags : List Bool) → map (λ character. character == 49) (flags_text flags) ≡ flags
flags_back [] = refl
flags_back (true ∷ flags) = ap (λ (xs : List Bool). true ∷ xs) (flags_back flags)
flags_back (false ∷ flags) = ap (λ (xs : List Bool). false ∷ xs) (flags_back flags)

all_flags : (flags : List Bool) → list_all is_flag (flags_text flags) ≡ true
all_flags [] = refl
all_flags (true ∷ flags) = all_flags flags
all_flags (false ∷ flags) = all_flags flags

pub is_flags_text-flags : (flags : List Bool) → length flags ≤ 4000000 → is_flags_text (flags_text flags) ≡ true
unfolding is_flags_text
is_flags_text-flags flags h =
    let size : length (flags_text flags) ≡ length flags = length-map flags flag_character in
    and_from _ _ (le-leb (length (flags_text flags)) 4000000 (omega (arith, size, h))) (all_flags flags)

-- a text of flags is the text of the flags that it writes
written : (text : List ℕ) → list_all is_flag text ≡ true → text ≡ flags_text (map (λ character. character == 49) text)
written [] h = refl
written (x ∷ text) h =
    let both = and_parts (is_flag x) (list_all is_flag text) h in
    ap₂ (λ (y : ℕ) (ys : List ℕ). y ∷ ys) (one_flag x both.0) (written text both.1)
  where
    one_flag : (x : ℕ) → is_flag x ≡ true → x ≡ flag_character (x == 49)
    one_flag x h = grind (arith, nat_tests)

pub flags-written : (text : List ℕ) → is_flags_text text ≡ true → HasFlags text (map (λ character. character == 49) text)
unfolding is_flags_text
flags-written text h =
    let both = and_parts (nat_le (length text) 4000000) (list_all is_flag text) h in
    let size : length (map (λ character. character == 49) text) ≡ length text = length-map text (λ (character : ℕ). character == 49) in
    record { text_is = written text both.1; limit = omega (arith, size, leb-true (length text) 4000000 both.0) }

-- ---- the file

pub loss_of-is : (d : Data) (flags : List Bool) → IsLossFile d flags → loss_of d ≡ flags
loss_of-is d flags is = rw is.loss (flags_back flags)

-- the text that was read makes this loss
pub is_file-text : (d : Data) (text : List ℕ) (flags : List Bool) → HasText d text → HasFlags text flags → IsLossFile d flags
is_file-text d text flags has made = record { keys = has.keys; loss = has.loss ∙ ap Some made.text_is; limit = made.limit }

-- the value of a loss is this loss
pub is_file-loss : (flags : List Bool) → length flags ≤ 4000000 → IsLossFile (loss_value flags) flags
unfolding has_other_key loss_at serde_json_on_literals
is_file-loss flags h = record { keys = refl; loss = refl; limit = h }

-- a value is one loss at most
pub same_loss : (d : Data) (flags other : List Bool) → IsLossFile d flags → IsLossFile d other → flags ≡ other
same_loss d flags other is too =
    sym (flags_back flags) ∙ ap (map (λ (character : ℕ). character == 49)) (same_Some _ _ (sym is.loss ∙ too.loss)) ∙ flags_back other

object_from_loss : (d : Data) (text : List ℕ) → loss_at d ≡ Some text → is_object d ≡ true
unfolding is_object loss_at
object_from_loss null text e = absurd (none-some text e)
object_from_loss (boolean b) text e = absurd (none-some text e)
object_from_loss (number n) text e = absurd (none-some text e)
object_from_loss (string s) text e = absurd (none-some text e)
object_from_loss (array ds) text e = absurd (none-some text e)
object_from_loss (object ms) text e = refl

pub no_fault-loss : (d : Data) (flags : List Bool) → IsLossFile d flags → first_of (loss_faults d) ≡ None
no_fault-loss d flags is =
    none_from_clear (loss_faults d) (
      ap not (object_from_loss d (flags_text flags) is.loss),
      (
        is.keys,
        (
          ap is_none is.loss,
          (
            ap (fails is_flags_text) is.loss ∙ ap not (is_flags_text-flags flags is.limit),
            tt,
          ),
        ),
      ),
    )

pub some_loss-no_fault : (d : Data) → first_of (loss_faults d) ≡ None → (flags : List Bool) × IsLossFile d flags
some_loss-no_fault d none =
    let p1 = clear_from_none (loss_faults d) none in
    let p2 = p1.1 in
    let p3 = p2.1 in
    let p4 = p3.1 in
    let l = is_some_value (loss_at d) p3.0 in
    let fits : is_flags_text l.0 ≡ true = not-false _ (sym (ap (fails is_flags_text) l.1) ∙ p4.0) in
    let made = flags-written l.0 fits in
    (map (λ (character : ℕ). character == 49) l.0, record { keys = p2.0; loss = l.1 ∙ ap Some made.text_is; limit = made.limit })

pub refused-loss : (text : List ℕ) (flags : List Bool) (fault : FileFault) → IsLossText text flags → IsRefusedFor loss_faults text fault → fault ≡ Memory
refused-loss text flags fault is refused =
    refused-clear loss_faults text fault is.value is.is_value (no_fault-loss is.value flags is.is_file) refused

-- ---- the text

quoted-flags : (flags : List Bool) → compact_text (string (flags_text flags)) ≡ 34 ∷ (flags_text flags ++ 34 ∷ [])
unfolding serde_json_on_literals
quoted-flags [] = refl
quoted-flags (true ∷ flags) = ap (λ (t : List ℕ). 34 ∷ 49 ∷ drop 1 t) (quoted-flags flags)
quoted-flags (false ∷ flags) = ap (λ (t : List ℕ). 34 ∷ 48 ∷ drop 1 t) (quoted-flags flags)

object_text : (d : Data) (l : List ℕ) → compact_text d ≡ l → compact_text (object (member (codes "loss") d no_members)) ≡ codes "{\"loss\":" ++ (l ++ codes "}")
unfolding serde_json_on_literals
object_text d l shows = rw shows refl

pub loss_text-value : (flags : List Bool) → compact_text (loss_value flags) ≡ loss_text flags
loss_text-value flags =
    object_text (string (flags_text flags)) (34 ∷ (flags_text flags ++ 34 ∷ [])) (quoted-flags flags)
    ∙ ap (λ (t : List ℕ). codes "{\"loss\":\"" ++ t) (append_assoc (flags_text flags) (34 ∷ []) (codes "}"))

pub depth-loss : (flags : List Bool) → depth (loss_value flags) ≤ 127
depth-loss flags = omega arith

pub no_float-loss : (flags : List Bool) → has_float (loss_value flags) ≡ false
no_float-loss flags = refl
