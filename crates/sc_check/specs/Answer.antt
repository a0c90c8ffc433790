-- What a check answers, as a function of a code over GF(256) and of the classes: the first class that isn't decided, and the
-- first stream that shows it. A stream is a list of blocks, each a list of the numbers of its symbols.
use Rattle.std.specs.Prelude.{ℕ, suc, ◌*◌, ◌==◌, ◌&&◌, ◌||◌, Bool, true, List, [], ◌∷◌, length, Option, Some, None, slice_index_or, bit_xor, not}
use Rattle.std.specs.List.{list_all, range_with_len}
use Rattle.std.specs.Option.{option_map}
use Rattle.sc_channel.specs.Channel.{ChannelNumbers}
use Rattle.sc_channel.specs.Classes.{classes_of}
use Rattle.sc_check.specs.declared.verdict.Verdict.{Verdict}
use Rattle.sc_check.specs.declared.verdict.Verdict.TheVariants.{Meets, Fails}
use Rattle.sc_field.specs.Gf256.{gf256_product}
use Rattle.sc_matrix.specs.Layout.{cut}
use Rattle.sc_code.specs.Code.{Code}
use Rattle.sc_code.specs.FirstBytes.{first_bytes}
use Rattle.sc_code.specs.Elements.{element_at}
use Rattle.sc_code.specs.Parity.{parity_symbol}

-- each symbol is zero
abbrev pub is_zero : List ℕ → Bool
is_zero block = list_all (λ symbol. symbol == 0) block

-- slot t is zero, in block and parity
abbrev pub is_zero_slot : Code ℕ → List (List ℕ) → ℕ → Bool
is_zero_slot code xs t =
    is_zero (slice_index_or xs t [])
    && list_all (λ j. parity_symbol 0 0 bit_xor gf256_product code (element_at 0 xs) t j == 0) (range_with_len 0 code.r)

-- the stream is zero in each kept slot, in block and parity, and its block 0 isn't zero
abbrev pub is_difference : Code ℕ → List Bool → List (List ℕ) → Bool
is_difference code class xs =
    not (is_zero (slice_index_or xs 0 []))
    && list_all (λ t. slice_index_or class t true || is_zero_slot code xs t) (range_with_len 0 (length class))

-- the first such stream, of one block a flag, compared symbol by symbol, block after block; none where the class is decided
unfoldable pub difference_of : Code ℕ → List Bool → Option (List (List ℕ))
difference_of code class =
    option_map (cut (length class) code.k) (first_bytes (length class * code.k) (λ symbols. is_difference code class (cut (length class) code.k symbols)))

-- a class that isn't decided, by its index, and the first stream that shows it
pub record Refuted : Type 0 where
  pub index : ℕ
  pub class : List Bool
  pub stream : List (List ℕ)

-- where a stream shows it of this class, that one, and else what comes behind
abbrev pub refuted_or : Option (List (List ℕ)) → ℕ → List Bool → Option Refuted → Option Refuted
refuted_or (Some stream) index class behind = Some (record { index = index; class = class; stream = stream })
refuted_or None index class behind = behind

-- the first class of a list that isn't decided, where the first of the list has this index
abbrev pub first_refuted : Code ℕ → ℕ → List (List Bool) → Option Refuted
first_refuted code index [] = None
first_refuted code index (class ∷ classes) = refuted_or (difference_of code class) index class (first_refuted code (suc index) classes)

-- the first class of a channel that a code doesn't decide
abbrev pub refuted_of : Code ℕ → ChannelNumbers → Option Refuted
refuted_of code channel = first_refuted code 0 (classes_of channel)

-- what a verdict tells
abbrev pub told_by : Verdict → Option Refuted
told_by Meets = None
told_by (Fails class loss stream) = Some (record { index = class; class = loss; stream = stream })
