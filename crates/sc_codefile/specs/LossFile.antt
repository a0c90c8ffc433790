-- Losses as files: what a value has at its key, the faults in their order, and the text.
use Rattle.std.specs.Prelude.{◌≡◌, ℕ, ◌≤◌, ◌==◌, ◌&&◌, ◌||◌, List, [], ◌∷◌, ◌++◌, Bool, true, false, map, length, not, Option, Some, is_none, nat_le, option_and_then, codes, if◌then◌else◌}
use Rattle.std.specs.List.{list_all}
use Rattle.serde_json.specs.Data.{Data, object, member, no_members, string}
use Rattle.serde_json.specs.Find.{get, as_str}
use Rattle.sc_codefile.specs.declared.fault.Key.TheVariants.{Whole, Other, Loss}
use Rattle.sc_codefile.specs.declared.fault.FileFault.{FileFault}
use Rattle.sc_codefile.specs.declared.fault.FileFault.TheVariants.{Shape, Range}
use Rattle.sc_codefile.specs.Value.{IsValueOf, is_object, has_other_key}
use Rattle.sc_codefile.specs.Fault.{fails}

-- the keys of a loss
abbrev pub loss_keys : List (List ℕ)
loss_keys = codes "loss" ∷ []

-- a text at `loss`
unfoldable pub loss_at : Data → Option (List ℕ)
loss_at d = option_and_then as_str (get (codes "loss") d)

-- a flag as a character: `1` where the slot is lost, and else `0`
abbrev pub flag_character : Bool → ℕ
flag_character lost = if lost then 49 else 48

-- the flags as a text, a character each
abbrev pub flags_text : List Bool → List ℕ
flags_text flags = map flag_character flags

-- the character of a flag
abbrev pub is_flag : ℕ → Bool
is_flag character = character == 48 || character == 49

-- the text has at most 4,000,000 characters, each `0` or `1`
unfoldable pub is_flags_text : List ℕ → Bool
is_flags_text text = nat_le (length text) 4000000 && list_all is_flag text

-- The faults of a value as a loss, in their order.
abbrev pub loss_faults : Data → List (Bool × FileFault)
loss_faults d =
    (not (is_object d), Shape Whole)
    ∷ (has_other_key loss_keys d, Shape Other)
    ∷ (is_none (loss_at d), Shape Loss)
    ∷ (fails is_flags_text (loss_at d), Range Loss)
    ∷ []

-- The value is an object with the key and no other, and it has the text of at most 4,000,000 flags there.
pub record IsLossFile (d : Data) (flags : List Bool) : Type 0 where
  pub keys : has_other_key loss_keys d ≡ false
  pub loss : loss_at d ≡ Some (flags_text flags)
  pub limit : length flags ≤ 4000000

-- the bytes have a value, and it is this loss
pub record IsLossText (text : List ℕ) (flags : List Bool) : Type 0 where
  pub value : Data
  pub is_value : IsValueOf text value
  pub is_file : IsLossFile value flags

-- ---- the text

-- The text of a loss: its key, no space, and no newline behind it.
abbrev pub loss_text : List Bool → List ℕ
loss_text flags = codes "{\"loss\":\"" ++ (flags_text flags ++ codes "\"}")

-- the value of a loss
abbrev pub loss_value : List Bool → Data
loss_value flags = object (member (codes "loss") (string (flags_text flags)) no_members)

-- ---- the text that was read

-- the value is an object with this text at its key, and no other key
pub record HasText (d : Data) (text : List ℕ) : Type 0 where
  pub object : is_object d ≡ true
  pub keys : has_other_key loss_keys d ≡ false
  pub loss : loss_at d ≡ Some text

-- these are the flags of the text
pub record HasFlags (text : List ℕ) (flags : List Bool) : Type 0 where
  pub text_is : text ≡ flags_text flags
  pub limit : length flags ≤ 4000000
