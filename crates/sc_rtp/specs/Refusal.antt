-- Why bytes aren't a packet, in the words of the grammar: the parts that are there, up to the one that isn't.
use Rattle.std.specs.Prelude.{◌≡◌, ◌≢◌, ℕ, ◌+◌, ◌*◌, ◌^◌, ◌<◌, ◌⊎◌, true, is_some, Option, Result, Ok, Err, List, [], ◌∷◌, ◌++◌, length}
use Rattle.std.specs.Int.{w16, to_be_bytes}
use Rattle.sc_rtp.specs.declared.head.Head.{Head}
use Rattle.sc_rtp.specs.declared.not_rtp.NotRtp.{NotRtp}
use Rattle.sc_rtp.specs.declared.not_rtp.NotRtp.TheVariants.{Short, Version, Csrc, Extension, Padding}
use Rattle.sc_rtp.specs.Head.{IsHead, head_bytes}
use Rattle.sc_rtp.specs.Packet.{HeaderExtension, Packet, AreWords, words_bytes, IsExtension, extension_bytes, IsPacket}

-- bytes begin with a fixed head, and this follows it
pub record BeginsWithHead (bytes : List ℕ) (head : Head) (rest : List ℕ) : Type 0 where
  pub fits : IsHead head
  pub parts : bytes ≡ head_bytes head ++ rest

-- the version isn't 2
pub record HasOtherVersion (bytes : List ℕ) : Type 0 where
  pub head : Head
  pub rest : List ℕ
  pub begins : BeginsWithHead bytes head rest
  pub other : head.version ≢ 2

-- fewer bytes follow the fixed head than its CSRC words have
pub record LacksCsrcs (bytes : List ℕ) : Type 0 where
  pub head : Head
  pub rest : List ℕ
  pub begins : BeginsWithHead bytes head rest
  pub version : head.version ≡ 2
  pub short : length rest < 4 * head.csrc_count

-- bytes begin with a fixed head of version 2 and all its CSRC words, and this follows them
pub record BeginsWithCsrcs (bytes : List ℕ) (head : Head) (rest : List ℕ) : Type 0 where
  pub csrcs : List ℕ
  pub begins : BeginsWithHead bytes head (words_bytes csrcs ++ rest)
  pub version : head.version ≡ 2
  pub count : length csrcs ≡ head.csrc_count
  pub fit : AreWords csrcs

-- an extension begins, and fewer bytes follow its count of words than these have
pub record CutsWords (bytes : List ℕ) : Type 0 where
  pub profile : ℕ
  pub count : ℕ
  pub rest : List ℕ
  pub profile_fits : profile < 2 ^ 16
  pub count_fits : count < 2 ^ 16
  pub parts : bytes ≡ to_be_bytes w16 profile ++ (to_be_bytes w16 count ++ rest)
  pub short : length rest < 4 * count

-- no whole extension is at the front
abbrev pub CutsExtension : List ℕ → Type 0
CutsExtension bytes = (length bytes < 4) ⊎ CutsWords bytes

-- X is set, and no whole extension follows the CSRC words
pub record LacksExtension (bytes : List ℕ) : Type 0 where
  pub head : Head
  pub rest : List ℕ
  pub begins : BeginsWithCsrcs bytes head rest
  pub extended : head.extended ≡ true
  pub cut : CutsExtension rest

-- the last byte is 0, or greater than the number of bytes
pub record MiscountsPadding (bytes : List ℕ) : Type 0 where
  pub front : List ℕ
  pub count : ℕ
  pub parts : bytes ≡ front ++ count ∷ []
  pub wrong : (count ≡ 0) ⊎ (length front + 1 < count)

-- P is set, and no byte follows the header, or the last one isn't the number of bytes of any padding there
pub record LacksPadding (bytes : List ℕ) : Type 0 where
  pub head : Head
  pub extension : Option HeaderExtension
  pub rest : List ℕ
  pub begins : BeginsWithCsrcs bytes head (extension_bytes extension ++ rest)
  pub extended : is_some extension ≡ head.extended
  pub fits : IsExtension extension
  pub padded : head.padded ≡ true
  pub wrong : (rest ≡ []) ⊎ MiscountsPadding rest

-- why bytes are refused
abbrev pub IsRefused : List ℕ → NotRtp → Type 0
IsRefused bytes Short = length bytes < 12
IsRefused bytes Version = HasOtherVersion bytes
IsRefused bytes Csrc = LacksCsrcs bytes
IsRefused bytes Extension = LacksExtension bytes
IsRefused bytes Padding = LacksPadding bytes

-- what reading bytes answers: the parts of the packet that they are, or why they are none
abbrev pub ReadGives : List ℕ → Result Packet NotRtp → Type 0
ReadGives bytes (Ok p) = IsPacket bytes p
ReadGives bytes (Err e) = IsRefused bytes e
