-- Code files: what a value has at each key, and the faults in their order.
use Rattle.std.specs.Prelude.{◌≡◌, ℕ, ◌+◌, ◌<◌, ◌&&◌, ◌==◌, List, [], ◌∷◌, Bool, false, not, Option, Some, None, is_none, unwrap_or, option_and_then, map, length, nat_le, codes}
use Rattle.std.specs.List.{list_all}
use Rattle.serde_json.specs.Data.{Data}
use Rattle.serde_json.specs.Find.{get}
use Rattle.sc_matrix.specs.Matrix.{Matrix}
use Rattle.sc_channel.specs.Channel.{ChannelNumbers, IsChannel, is_channel}
use Rattle.sc_code.specs.Code.{IsCode}
use Rattle.sc_code.specs.declared.code.CodeFile.{CodeFile}
use Rattle.sc_codefile.specs.declared.fault.Key.TheVariants.{Whole, Other, Channel, K, Lags, R}
use Rattle.sc_codefile.specs.declared.fault.FileFault.{FileFault}
use Rattle.sc_codefile.specs.declared.fault.FileFault.TheVariants.{Shape, Range}
use Rattle.sc_codefile.specs.Value.{IsValueOf, is_object, has_other_key, whole_number, list_of}
use Rattle.sc_codefile.specs.Fault.{fails}

-- the keys of a code file
abbrev pub code_keys : List (List ℕ)
code_keys = codes "channel" ∷ codes "k" ∷ codes "lags" ∷ codes "r" ∷ []

-- ---- the shapes

-- four numbers W, B, N, T
abbrev pub four : List ℕ → Option ChannelNumbers
four (w ∷ b ∷ n ∷ t ∷ []) = Some (record { w = w; b = b; n = n; t = t })
four _ = None

-- a list of four whole numbers at `channel`
unfoldable pub channel_at : Data → Option ChannelNumbers
channel_at d = option_and_then four (option_and_then (list_of whole_number) (get (codes "channel") d))

-- a whole number at `k`
unfoldable pub k_at : Data → Option ℕ
k_at d = option_and_then whole_number (get (codes "k") d)

-- a list of lists of lists of whole numbers at `lags`
unfoldable pub lags_at : Data → Option (List (List (List ℕ)))
lags_at d = option_and_then (list_of (list_of (list_of whole_number))) (get (codes "lags") d)

-- a whole number at `r`
unfoldable pub r_at : Data → Option ℕ
r_at d = option_and_then whole_number (get (codes "r") d)

-- ---- the ranges

-- 1 to 63
abbrev pub is_k : ℕ → Bool
is_k k = nat_le 1 k && nat_le k 63

-- r numbers, each 0 to 255
abbrev pub is_row : ℕ → List ℕ → Bool
is_row r xs = (length xs == r) && list_all (λ x. nat_le x 255) xs

-- k rows of r numbers, each 0 to 255
abbrev pub is_matrix : ℕ → ℕ → List (List ℕ) → Bool
is_matrix k r rows = (length rows == k) && list_all (is_row r) rows

-- 1 to 65 matrices of k rows of r numbers, each 0 to 255
unfoldable pub are_lags : ℕ → ℕ → List (List (List ℕ)) → Bool
are_lags k r lags = nat_le 1 (length lags) && nat_le (length lags) 65 && list_all (is_matrix k r) lags

-- at least 1, and k + r at most 64
abbrev pub is_r : ℕ → ℕ → Bool
is_r k r = nat_le 1 r && nat_le (k + r) 64

-- The faults of a value as a code file, in their order: the shapes of all keys come before the ranges.
abbrev pub code_faults : Data → List (Bool × FileFault)
code_faults d =
    (not (is_object d), Shape Whole)
    ∷ (has_other_key code_keys d, Shape Other)
    ∷ (is_none (channel_at d), Shape Channel)
    ∷ (is_none (k_at d), Shape K)
    ∷ (is_none (lags_at d), Shape Lags)
    ∷ (is_none (r_at d), Shape R)
    ∷ (fails is_channel (channel_at d), Range Channel)
    ∷ (fails is_k (k_at d), Range K)
    ∷ (fails (are_lags (unwrap_or (k_at d) 0) (unwrap_or (r_at d) 0)) (lags_at d), Range Lags)
    ∷ (fails (is_r (unwrap_or (k_at d) 0)) (r_at d), Range R)
    ∷ []

-- ---- the relation

-- the rows of each matrix
abbrev pub rows_of : List (Matrix ℕ) → List (List (List ℕ))
rows_of = map (λ m. m.rows)

-- The value is an object with the four keys and no other. It has the channel's numbers at `channel`, the code's numbers at
-- `k` and `r`, and the rows of its matrices at `lags`: number `lag`, row i, column j is what symbol i gives to parity j.
pub record IsCodeFile (d : Data) (file : CodeFile) : Type 0 where
  pub keys : has_other_key code_keys d ≡ false
  pub channel : channel_at d ≡ Some file.channel
  pub k : k_at d ≡ Some file.code.k
  pub lags : lags_at d ≡ Some (rows_of file.code.lags)
  pub r : r_at d ≡ Some file.code.r
  pub is_channel : IsChannel file.channel
  pub is_code : IsCode (λ x. x < 256) file.code

-- the bytes have a value, and it is this code file
pub record IsCodeFileText (text : List ℕ) (file : CodeFile) : Type 0 where
  pub value : Data
  pub is_value : IsValueOf text value
  pub is_file : IsCodeFile value file
