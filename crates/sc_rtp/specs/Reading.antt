-- The reading of bytes as a packet, part by part.
use Rattle.std.specs.Prelude.{◌≡◌, ℕ, zero, suc, ◌+◌, ◌-◌, ◌*◌, ◌<◌, ◌==◌, Bool, true, false, nat_lt, Option, Some, None, List, [], ◌∷◌, ◌++◌, length, take, drop, slice_index, Result, Ok, Err, if◌then◌else◌}
use Rattle.sc_rtp.specs.declared.head.Head.{Head}
use Rattle.sc_rtp.specs.declared.not_rtp.NotRtp.{NotRtp}
use Rattle.sc_rtp.specs.declared.not_rtp.NotRtp.TheVariants.{Short, Version, Csrc, Extension, Padding}
use Rattle.sc_rtp.specs.Head.{IsHead, number16, number32, head_of}
use Rattle.sc_rtp.specs.Packet.{HeaderExtension, Packet, header_size, plain_packet}

-- numbers that are bytes
abbrev pub AreBytes : List ℕ → Type 0
AreBytes bytes = (i : ℕ) → slice_index bytes i < 256

-- the words that the first bytes spell, so many of them
abbrev pub words_of : ℕ → List ℕ → List ℕ
words_of zero bytes = []
words_of (suc n) bytes =
    number32 (slice_index bytes 0) (slice_index bytes 1) (slice_index bytes 2) (slice_index bytes 3) ∷ words_of n (drop 4 bytes)

-- the number of words that the extension with which bytes begin announces
abbrev pub word_count : List ℕ → ℕ
word_count bytes = number16 (slice_index bytes 2) (slice_index bytes 3)

-- the bytes of the extension with which bytes begin: none where none is announced
abbrev pub extension_size : Bool → List ℕ → Result ℕ NotRtp
extension_size false bytes = Ok 0
extension_size true bytes =
    if nat_lt (length bytes) 4 then Err Extension
    else (if nat_lt (length bytes) (4 + 4 * word_count bytes) then Err Extension else Ok (4 + 4 * word_count bytes))

abbrev pub extension_of : Bool → List ℕ → Option HeaderExtension
extension_of false bytes = None
extension_of true bytes = Some (record {
  profile = number16 (slice_index bytes 0) (slice_index bytes 1);
  words = words_of (word_count bytes) (drop 4 bytes);
})

-- the bytes of padding at the end of bytes, by the last one: none where none is announced
abbrev pub last_byte : List ℕ → ℕ
last_byte bytes = slice_index bytes (length bytes - 1)

abbrev pub padding_size : Bool → List ℕ → Result ℕ NotRtp
padding_size false bytes = Ok 0
padding_size true bytes =
    if last_byte bytes == 0 then Err Padding
    else (if nat_lt (length bytes) (last_byte bytes) then Err Padding else Ok (last_byte bytes))

abbrev pub padding_of : Bool → List ℕ → ℕ → Option (List ℕ)
padding_of false bytes n = None
padding_of true bytes n = Some (take (n - 1) (drop (length bytes - n) bytes))

-- behind the header: the payload and padding of n bytes
abbrev pub with_padding : Head → List ℕ → Option HeaderExtension → List ℕ → Result ℕ NotRtp → Result Packet NotRtp
with_padding head csrcs extension bytes (Err e) = Err e
with_padding head csrcs extension bytes (Ok n) = Ok (record {
  head = head;
  csrcs = csrcs;
  extension = extension;
  payload = take (length bytes - n) bytes;
  padding = padding_of head.padded bytes n;
})

-- behind the CSRC words: an extension of n bytes, and the rest
abbrev pub with_extension : Head → List ℕ → List ℕ → Result ℕ NotRtp → Result Packet NotRtp
with_extension head csrcs bytes (Err e) = Err e
with_extension head csrcs bytes (Ok n) =
    with_padding head csrcs (extension_of head.extended bytes) (drop n bytes) (padding_size head.padded (drop n bytes))

-- behind the fixed head
abbrev pub with_head : Head → List ℕ → Result Packet NotRtp
with_head head bytes =
    if head.version == 2 then
    (if nat_lt (length bytes) (4 * head.csrc_count) then Err Csrc
    else with_extension head (words_of head.csrc_count bytes) (drop (4 * head.csrc_count) bytes) (extension_size head.extended (drop (4 * head.csrc_count) bytes)))
    else Err Version

-- the reading of bytes: the parts of the packet that they are, or the first reason why they are none
unfoldable pub reading_of : List ℕ → Result Packet NotRtp
reading_of bytes = if nat_lt (length bytes) 12 then Err Short else with_head (head_of bytes) (drop 12 bytes)

-- bytes are read back as this head, whatever payload stands behind them
abbrev pub ReadsBack : List ℕ → Head → Type 0
ReadsBack bytes head = (payload : List ℕ) → reading_of (bytes ++ payload) ≡ Ok (plain_packet head payload)

-- the packet that bytes are, where they are one
abbrev pub packet_or : Packet → Result Packet NotRtp → Packet
packet_or other (Ok p) = p
packet_or other (Err e) = other

unfoldable pub packet_in : List ℕ → Packet
packet_in bytes = packet_or (plain_packet (head_of bytes) []) (reading_of bytes)

-- what the reader of a packet keeps: its head, the bytes of its header, and its payload
pub record Holds (bytes : List ℕ) (head : Head) (header_len : ℕ) (payload : List ℕ) : Type 0 where
  pub read : reading_of bytes ≡ Ok (packet_in bytes)
  pub head_is : head ≡ (packet_in bytes).head
  pub fits : IsHead head
  pub csrcs : (packet_in bytes).head.csrc_count ≡ length (packet_in bytes).csrcs
  pub header : header_len ≡ header_size (packet_in bytes)
  pub payload_is : payload ≡ (packet_in bytes).payload
