-- The grammar of an RTP packet (RFC 3550, 5.1): the fixed head, CSRC words, maybe an extension, the payload, and maybe
-- padding, whose last byte is the number of its bytes.
use Rattle.std.specs.Prelude.{◌≡◌, ℕ, ◌+◌, ◌*◌, ◌^◌, ◌<◌, false, is_some, Option, Some, None, List, [], ◌∷◌, ◌++◌, length}
use Rattle.std.specs.List.{AllByRecursion, flat_map}
use Rattle.std.specs.Int.{w16, w32, to_be_bytes}
use Rattle.sc_rtp.specs.declared.head.Head.{Head}
use Rattle.sc_rtp.specs.Head.{IsHead, head_bytes}

-- an extension: a number that the profile defines, and words
pub record HeaderExtension : Type 0 where
  pub profile : ℕ
  pub words : List ℕ

-- The parts of a packet. Of padding these are the bytes before its last one.
pub record Packet : Type 0 where
  pub head : Head
  pub csrcs : List ℕ
  pub extension : Option HeaderExtension
  pub payload : List ℕ
  pub padding : Option (List ℕ)

-- how words of 32 bits are spelled, one after the other
abbrev pub words_bytes : List ℕ → List ℕ
words_bytes words = flat_map (to_be_bytes w32) words

-- how an extension is spelled: the profile's number, the number of words, the words
abbrev pub extension_bytes : Option HeaderExtension → List ℕ
extension_bytes None = []
extension_bytes (Some e) = to_be_bytes w16 e.profile ++ (to_be_bytes w16 (length e.words) ++ words_bytes e.words)

-- how padding is spelled: its last byte counts its bytes, itself among them
abbrev pub padding_bytes : Option (List ℕ) → List ℕ
padding_bytes None = []
padding_bytes (Some bytes) = bytes ++ (length bytes + 1) ∷ []

-- how a packet is spelled: its parts, one after the other
abbrev pub packet_bytes : Packet → List ℕ
packet_bytes p = head_bytes p.head ++ (words_bytes p.csrcs ++ (extension_bytes p.extension ++ (p.payload ++ padding_bytes p.padding)))

-- numbers of 32 bits
abbrev pub AreWords : List ℕ → Type 0
AreWords words = AllByRecursion (λ w. w < 2 ^ 32) words

-- the numbers of an extension fit their fields
abbrev pub IsExtension : Option HeaderExtension → Type 0
IsExtension None = Unit {0}
IsExtension (Some e) = (e.profile < 2 ^ 16) × (length e.words < 2 ^ 16) × AreWords e.words

-- the count of padding fits a byte
abbrev pub IsPadding : Option (List ℕ) → Type 0
IsPadding None = Unit {0}
IsPadding (Some bytes) = length bytes + 1 < 256

-- bytes are a packet with these parts
pub record IsPacket (bytes : List ℕ) (p : Packet) : Type 0 where
  pub head : IsHead p.head
  pub version : p.head.version ≡ 2
  pub csrc_count : length p.csrcs ≡ p.head.csrc_count
  pub csrcs : AreWords p.csrcs
  pub extended : is_some p.extension ≡ p.head.extended
  pub extension : IsExtension p.extension
  pub padded : is_some p.padding ≡ p.head.padded
  pub padding : IsPadding p.padding
  pub parts : bytes ≡ packet_bytes p

-- the bytes of a header: the fixed head, the CSRC words, and the extension with its four bytes before the words
abbrev pub extension_len : Option HeaderExtension → ℕ
extension_len None = 0
extension_len (Some e) = 4 + 4 * length e.words

abbrev pub header_size : Packet → ℕ
header_size p = 12 + 4 * length p.csrcs + extension_len p.extension

-- the head of a packet that has no padding, no extension, no CSRC words and no marker
abbrev pub plain_head : ℕ → ℕ → ℕ → ℕ → Head
plain_head payload_type sequence timestamp ssrc = record {
  version = 2;
  padded = false;
  extended = false;
  csrc_count = 0;
  marker = false;
  payload_type = payload_type;
  sequence = sequence;
  timestamp = timestamp;
  ssrc = ssrc;
}

-- such a packet
abbrev pub plain_packet : Head → List ℕ → Packet
plain_packet head payload = record { head = head; csrcs = []; extension = None; payload = payload; padding = None }
