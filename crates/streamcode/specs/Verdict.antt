-- What `check` prints. The lines are of this project.
use Rattle.std.specs.Prelude.{ℕ, zero as naught, suc, ◌+◌, List, [], ◌∷◌, ◌++◌, Option, Some, None, codes, decimal, length, map, replicate}
use Rattle.std.specs.List.{join_with_byte}
use Rattle.sc_channel.specs.Channel.{ChannelNumbers}
use Rattle.sc_channel.specs.Classes.{class_count}
use Rattle.sc_code.specs.Code.{Code}
use Rattle.sc_code.specs.declared.code.CodeFile.{CodeFile}
use Rattle.sc_check.specs.Answer.{Refuted}
use Rattle.sc_codefile.specs.LossFile.{flags_text}
use Rattle.streamcode.specs.declared.end.End.{End}
use Rattle.streamcode.specs.declared.end.End.TheVariants.{Accepted, Refused}

abbrev pub verdict_end : Option Refuted → End
verdict_end None = Accepted
verdict_end (Some refuted) = Refused

-- what stands before item i of a list
abbrev pub separator : ℕ → ℕ → List ℕ
separator c naught = []
separator c (suc i) = c ∷ []

-- a block: its symbols' numbers, with commas (44) between them
abbrev pub block_text : List ℕ → List ℕ
block_text block = join_with_byte 44 (map decimal block)

-- a stream: its blocks, with spaces (32) between them
abbrev pub stream_text : List (List ℕ) → List ℕ
stream_text blocks = join_with_byte 32 (map block_text blocks)

-- the numbers of a channel, with spaces between them
abbrev pub channel_text : ChannelNumbers → List ℕ
channel_text channel =
    decimal channel.w ++ codes " " ++ decimal channel.b ++ codes " " ++ decimal channel.n ++ codes " " ++ decimal channel.t

-- the rate of a code, which isn't reduced
abbrev pub rate_text : Code ℕ → List ℕ
rate_text code = decimal code.k ++ codes "/" ++ decimal (code.k + code.r)

-- the line of a code that meets its channel
abbrev pub meets_text : CodeFile → List ℕ
meets_text file =
    codes "meets " ++ channel_text file.channel ++ codes " rate " ++ rate_text file.code ++ codes " classes " ++ decimal (class_count file.channel) ++ 10 ∷ []

-- The lines of a code that doesn't: the first class that isn't decided, its loss, and two streams that differ in block 0 and
-- are alike in every slot that the loss keeps. The second is zero.
abbrev pub fails_text : ℕ → Refuted → List ℕ
fails_text k refuted =
    (codes "fails class " ++ decimal refuted.index ++ codes "\nloss " ++ flags_text refuted.class)
    ++ (codes "\nstream " ++ stream_text refuted.stream)
    ++ (codes "\nother " ++ stream_text (replicate (length refuted.stream) (replicate k 0)) ++ 10 ∷ [])

abbrev pub verdict_text : CodeFile → Option Refuted → List ℕ
verdict_text file None = meets_text file
verdict_text file (Some refuted) = fails_text file.code.k refuted
