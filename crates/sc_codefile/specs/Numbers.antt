-- What the functions answer that look a code file's numbers up, and test them.
use Rattle.std.specs.Prelude.{◌≡◌, ◌⊎◌, ℕ, ◌<◌, List, [], ◌∷◌, Bool, true, false, not, Option, Some, None, Result, Ok, Err, map}
use Rattle.serde_json.specs.Data.{Data}
use Rattle.sc_matrix.specs.Matrix.{Matrix}
use Rattle.sc_channel.specs.Channel.{IsChannel, is_channel}
use Rattle.sc_code.specs.Code.{IsCode}
use Rattle.sc_code.specs.declared.code.CodeFile.{CodeFile}
use Rattle.sc_codefile.specs.declared.fault.Key.{Key}
use Rattle.sc_codefile.specs.declared.fault.Key.TheVariants.{Whole, Other, Channel, K, Lags, R}
use Rattle.sc_codefile.specs.declared.fault.FileFault.{FileFault}
use Rattle.sc_codefile.specs.declared.fault.FileFault.TheVariants.{Shape, Range, Memory}
use Rattle.sc_codefile.specs.declared.numbers.CodeNumbers.{CodeNumbers}
use Rattle.sc_codefile.specs.Value.{is_object, has_other_key}
use Rattle.sc_codefile.specs.Fault.{first_of}
use Rattle.sc_codefile.specs.CodeFile.{code_keys, channel_at, k_at, lags_at, r_at, is_k, are_lags, is_r}

-- what was found at a key, or a fault of its shape
abbrev pub IsFound : {A : Type 0} → Option A → Key → Result A FileFault → Type 0
IsFound found key (Ok x) = found ≡ Some x
IsFound found key (Err fault) = (fault ≡ Memory) ⊎ ((fault ≡ Shape key) × (found ≡ None))

-- the value isn't an object, or it has a key that is none of these
abbrev pub IsKeyFault : List (List ℕ) → Data → FileFault → Type 0
IsKeyFault keys d fault = first_of ((not (is_object d), Shape Whole) ∷ (has_other_key keys d, Shape Other) ∷ []) ≡ Some fault

-- the value is an object with these numbers at its keys, and no other key
pub record HasNumbers (d : Data) (n : CodeNumbers) : Type 0 where
  pub object : is_object d ≡ true
  pub keys : has_other_key code_keys d ≡ false
  pub channel : channel_at d ≡ Some n.channel
  pub k : k_at d ≡ Some n.k
  pub lags : lags_at d ≡ Some n.lags
  pub r : r_at d ≡ Some n.r

-- the faults of such a value, in their order
abbrev pub range_faults : CodeNumbers → List (Bool × FileFault)
range_faults n =
    (not (is_channel n.channel), Range Channel)
    ∷ (not (is_k n.k), Range K)
    ∷ (not (are_lags n.k n.r n.lags), Range Lags)
    ∷ (not (is_r n.k n.r), Range R)
    ∷ []

-- the matrix of these rows
abbrev pub with_cols : ℕ → List (List ℕ) → Matrix ℕ
with_cols r rows = record { cols = r; rows = rows }

-- the file has these numbers
pub record HasFile (n : CodeNumbers) (file : CodeFile) : Type 0 where
  pub channel : file.channel ≡ n.channel
  pub k : file.code.k ≡ n.k
  pub r : file.code.r ≡ n.r
  pub lags : file.code.lags ≡ map (with_cols n.r) n.lags
  pub is_channel : IsChannel file.channel
  pub is_code : IsCode (λ x. x < 256) file.code
