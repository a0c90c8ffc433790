-- What the words of a command line mean. The forms of the words are of this project.
use Rattle.std.specs.Prelude.{ℕ, ◌==◌, ◌&&◌, ◌||◌, Bool, List, [], ◌∷◌, Option, Some, None, if◌then◌else◌, codes, length, map, nat_lt, nat_le, slice_index, string_bytes, String}
use Rattle.std.specs.Str.{all_ascii_digits, bytes_eq}
use Rattle.std.specs.Str.Parse.{digits_value}
use Rattle.sc_channel.specs.Channel.{ChannelNumbers, is_channel}
use Rattle.sc_words.specs.declared.words.Kind.{Kind}
use Rattle.sc_words.specs.declared.words.Kind.TheVariants.{Ms, Layered, Optimal}

-- a word has one character, or begins with one above the zero (48): with no sign and no leading zero
abbrev pub begins_plain : List ℕ → Bool
begins_plain word = length word == 1 || nat_lt 48 (slice_index word 0)

-- decimal digits, at least one, without a leading zero
abbrev pub is_numeral : List ℕ → Bool
is_numeral word = all_ascii_digits word && begins_plain word

-- the number of at most so much that a word writes in decimal, without sign and without a leading zero
unfoldable pub number_to : ℕ → List ℕ → Option ℕ
number_to most word =
    if is_numeral word && nat_le (digits_value 10 word) most then Some (digits_value 10 word) else None

-- the channel that four numbers are, where they are one
abbrev pub channel_at : Option ℕ → Option ℕ → Option ℕ → Option ℕ → Option ChannelNumbers
channel_at (Some w) (Some b) (Some n) (Some t) =
    let c : ChannelNumbers = record { w = w; b = b; n = n; t = t } in
    if is_channel c then Some c else None
channel_at _ _ _ _ = None

-- the channel that four words write
abbrev pub channel_of : List ℕ → List ℕ → List ℕ → List ℕ → Option ChannelNumbers
channel_of w b n t =
    channel_at (number_to 4294967295 w) (number_to 4294967295 b) (number_to 4294967295 n) (number_to 4294967295 t)

-- what a command line asks for, one constructor a command
pub data Command : Type 0 where
  lose : List ℕ → List ℕ → Command
  generate : ℕ → ℕ → ℕ → Command
  protect : List ℕ → ℕ → Command
  check : List ℕ → ℕ → Command
  repair : List ℕ → Command
  bound : ChannelNumbers → Command
  certify : List ℕ → List ℕ → Command
  design : Kind → ChannelNumbers → Command
  trial : List ℕ → ℕ → ℕ → ℕ → Command

-- CODE LOSS
abbrev pub lose_of : List (List ℕ) → Option Command
lose_of (code ∷ loss ∷ []) = Some (lose code loss)
lose_of _ = None

-- the command that a seed, a count and a size of at least 12 ask for, where all are there
abbrev pub gen_at : Option ℕ → Option ℕ → Option ℕ → Option Command
gen_at (Some seed) (Some count) (Some size) = if nat_le 12 size then Some (generate seed count size) else None
gen_at _ _ _ = None

-- SEED COUNT SIZE
abbrev pub gen_of : List (List ℕ) → Option Command
gen_of (seed ∷ count ∷ size ∷ []) =
    gen_at (number_to 18446744073709551615 seed) (number_to 3999960 count) (number_to 1472 size)
gen_of _ = None

-- the command that a file's name and a size of at least 12 ask for
abbrev pub protect_at : List ℕ → Option ℕ → Option Command
protect_at code (Some size) = if nat_le 12 size then Some (protect code size) else None
protect_at code None = None

-- CODE SIZE
abbrev pub protect_of : List (List ℕ) → Option Command
protect_of (code ∷ size ∷ []) = protect_at code (number_to 1472 size)
protect_of _ = None

-- the command that a file's name and at least one worker ask for
abbrev pub check_at : List ℕ → Option ℕ → Option Command
check_at code (Some workers) = if nat_le 1 workers then Some (check code workers) else None
check_at code None = None

-- CODE WORKERS
abbrev pub check_of : List (List ℕ) → Option Command
check_of (code ∷ workers ∷ []) = check_at code (number_to 64 workers)
check_of _ = None

-- CODE
abbrev pub repair_of : List (List ℕ) → Option Command
repair_of (code ∷ []) = Some (repair code)
repair_of _ = None

-- the command that a channel asks for, where it is there
abbrev pub bound_at : Option ChannelNumbers → Option Command
bound_at (Some channel) = Some (bound channel)
bound_at None = None

-- W B N T
abbrev pub bound_of : List (List ℕ) → Option Command
bound_of (w ∷ b ∷ n ∷ t ∷ []) = bound_at (channel_of w b n t)
bound_of _ = None

-- CODE CERT
abbrev pub certify_of : List (List ℕ) → Option Command
certify_of (code ∷ cert ∷ []) = Some (certify code cert)
certify_of _ = None

-- the kind of codes that a word names
abbrev pub kind_of : List ℕ → Option Kind
kind_of word =
    if bytes_eq word (codes "ms") then Some Ms
    else (if bytes_eq word (codes "layered") then Some Layered
    else (if bytes_eq word (codes "optimal") then Some Optimal else None))

-- the command that a kind and a channel ask for, where both are there
abbrev pub design_at : Option Kind → Option ChannelNumbers → Option Command
design_at (Some kind) (Some channel) = Some (design kind channel)
design_at _ _ = None

-- KIND W B N T
abbrev pub design_of : List (List ℕ) → Option Command
design_of (kind ∷ w ∷ b ∷ n ∷ t ∷ []) = design_at (kind_of kind) (channel_of w b n t)
design_of _ = None

-- the command that a file's name, a seed, a count and a size of at least 12 ask for, where all are there
abbrev pub trial_at : List ℕ → Option ℕ → Option ℕ → Option ℕ → Option Command
trial_at code (Some seed) (Some count) (Some size) = if nat_le 12 size then Some (trial code seed count size) else None
trial_at code _ _ _ = None

-- CODE SEED COUNT SIZE
abbrev pub trial_of : List (List ℕ) → Option Command
trial_of (code ∷ seed ∷ count ∷ size ∷ []) =
    trial_at code (number_to 18446744073709551615 seed) (number_to 10000 count) (number_to 1472 size)
trial_of _ = None

-- the command whose form the words have: its name, then its words
abbrev pub command_of : List (List ℕ) → Option Command
command_of [] = None
command_of (name ∷ words) =
    if bytes_eq name (codes "lose") then lose_of words
    else (if bytes_eq name (codes "gen") then gen_of words
    else (if bytes_eq name (codes "protect") then protect_of words
    else (if bytes_eq name (codes "check") then check_of words
    else (if bytes_eq name (codes "repair") then repair_of words
    else (if bytes_eq name (codes "bound") then bound_of words
    else (if bytes_eq name (codes "certify") then certify_of words
    else (if bytes_eq name (codes "design") then design_of words
    else (if bytes_eq name (codes "trial") then trial_of words else None))))))))

-- the bytes of each word
abbrev pub texts : {A : Type 0} → List (String A) → List (List ℕ)
texts words = map string_bytes words
