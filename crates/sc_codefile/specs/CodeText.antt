-- The text of a code file.
use Rattle.std.specs.Prelude.{ℕ, List, [], ◌∷◌, ◌++◌, codes, decimal}
use Rattle.std.specs.List.{join_by}
use Rattle.serde_json.specs.Data.{Data, object, member, no_members}
use Rattle.sc_channel.specs.Channel.{ChannelNumbers}
use Rattle.sc_code.specs.declared.code.CodeFile.{CodeFile}
use Rattle.sc_codefile.specs.Value.{array_of, number_value}
use Rattle.sc_codefile.specs.CodeFile.{rows_of}

-- the texts of the items with commas between them, in brackets
abbrev pub list_text : {A : Type 0} → (A → List ℕ) → List A → List ℕ
list_text text xs = codes "[" ++ (join_by text (codes ",") xs ++ codes "]")

-- W, B, N and T
abbrev pub four_numbers : ChannelNumbers → List ℕ
four_numbers c = c.w ∷ c.b ∷ c.n ∷ c.t ∷ []

-- The text of a code file: its keys in the order of their bytes, no space, numbers in decimal, and no newline behind it.
abbrev pub code_text : CodeFile → List ℕ
code_text file =
    codes "{\"channel\":" ++ (list_text decimal (four_numbers file.channel)
    ++ (codes ",\"k\":" ++ (decimal file.code.k
    ++ (codes ",\"lags\":" ++ (list_text (list_text (list_text decimal)) (rows_of file.code.lags)
    ++ (codes ",\"r\":" ++ (decimal file.code.r
    ++ codes "}")))))))

-- the value of a code file
abbrev pub code_value : CodeFile → Data
code_value file =
    object
    (member (codes "channel") (array_of number_value (four_numbers file.channel))
    (member (codes "k") (number_value file.code.k)
    (member (codes "lags") (array_of (array_of (array_of number_value)) (rows_of file.code.lags))
    (member (codes "r") (number_value file.code.r)
    no_members))))
