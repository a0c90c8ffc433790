-- The one form of words of each command, as it is typed.
use Rattle.std.specs.Prelude.{ℕ, ◌≤◌, List, [], ◌∷◌, codes}
use Rattle.std.specs.Fmt.{decimal}
use Rattle.sc_channel.specs.Channel.{IsChannel}
use Rattle.sc_words.specs.declared.words.Kind.{Kind}
use Rattle.sc_words.specs.declared.words.Kind.TheVariants.{Ms, Layered, Optimal}
use Rattle.sc_words.specs.Words.{Command, lose, generate, protect, check, repair, bound, certify, design, trial}

-- the word that names a kind of codes
abbrev pub kind_word : Kind → List ℕ
kind_word Ms = codes "ms"
kind_word Layered = codes "layered"
kind_word Optimal = codes "optimal"

-- the words that ask for a command, as bytes; numbers are written as they are printed
abbrev pub words_of : Command → List (List ℕ)
words_of (lose code loss) = codes "lose" ∷ code ∷ loss ∷ []
words_of (generate seed count size) = codes "gen" ∷ decimal seed ∷ decimal count ∷ decimal size ∷ []
words_of (protect code size) = codes "protect" ∷ code ∷ decimal size ∷ []
words_of (check code workers) = codes "check" ∷ code ∷ decimal workers ∷ []
words_of (repair code) = codes "repair" ∷ code ∷ []
words_of (bound channel) = codes "bound" ∷ decimal channel.w ∷ decimal channel.b ∷ decimal channel.n ∷ decimal channel.t ∷ []
words_of (certify code cert) = codes "certify" ∷ code ∷ cert ∷ []
words_of (design kind channel) =
    codes "design" ∷ kind_word kind ∷ decimal channel.w ∷ decimal channel.b ∷ decimal channel.n ∷ decimal channel.t ∷ []
words_of (trial code seed count size) = codes "trial" ∷ code ∷ decimal seed ∷ decimal count ∷ decimal size ∷ []

-- the limits of what a command may ask for
abbrev pub IsWithinLimits : Command → Type 0
IsWithinLimits (lose code loss) = Unit {0}
IsWithinLimits (generate seed count size) = (seed ≤ 18446744073709551615) × (count ≤ 3999960) × (12 ≤ size) × (size ≤ 1472)
IsWithinLimits (protect code size) = (12 ≤ size) × (size ≤ 1472)
IsWithinLimits (check code workers) = (1 ≤ workers) × (workers ≤ 64)
IsWithinLimits (repair code) = Unit {0}
IsWithinLimits (bound channel) = IsChannel channel
IsWithinLimits (certify code cert) = Unit {0}
IsWithinLimits (design kind channel) = IsChannel channel
IsWithinLimits (trial code seed count size) = (seed ≤ 18446744073709551615) × (count ≤ 10000) × (12 ≤ size) × (size ≤ 1472)
