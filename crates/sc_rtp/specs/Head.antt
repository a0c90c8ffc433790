-- The fixed head of a packet (RFC 3550, 5.1): a byte of the version in two bits, P, X and CC in four bits; a byte of M and
-- PT in seven bits; two bytes of sequence number, four of timestamp, and four of the SSRC. All numbers are big-endian.
use Rattle.std.specs.Prelude.{ℕ, ◌+◌, ◌*◌, ◌/◌, ◌%◌, ◌^◌, ◌<◌, ◌==◌, Bool, List, [], ◌∷◌, ◌++◌, slice_index, if◌then◌else◌}
use Rattle.std.specs.Int.{w16, w32, to_be_bytes, from_be_bytes}
use Rattle.sc_rtp.specs.declared.head.Head.{Head}

-- a bit
abbrev pub flag : Bool → ℕ
flag set = if set then 1 else 0

-- the numbers fit their fields
pub record IsHead (h : Head) : Type 0 where
  pub version : h.version < 4
  pub csrc_count : h.csrc_count < 16
  pub payload_type : h.payload_type < 128
  pub sequence : h.sequence < 2 ^ 16
  pub timestamp : h.timestamp < 2 ^ 32
  pub ssrc : h.ssrc < 2 ^ 32

-- the first byte and the second
abbrev pub first_byte : Head → ℕ
first_byte h = 64 * h.version + 32 * flag h.padded + 16 * flag h.extended + h.csrc_count

abbrev pub second_byte : Head → ℕ
second_byte h = 128 * flag h.marker + h.payload_type

-- how a head is spelled, in 12 bytes
abbrev pub head_bytes : Head → List ℕ
head_bytes h =
    (first_byte h ∷ second_byte h ∷ [])
    ++ (to_be_bytes w16 h.sequence ++ (to_be_bytes w32 h.timestamp ++ to_be_bytes w32 h.ssrc))

-- the numbers that two and four bytes spell
abbrev pub number16 : ℕ → ℕ → ℕ
number16 a b = from_be_bytes w16 (a ∷ b ∷ [])

abbrev pub number32 : ℕ → ℕ → ℕ → ℕ → ℕ
number32 a b c d = from_be_bytes w32 (a ∷ b ∷ c ∷ d ∷ [])

-- the head that the first 12 bytes spell
unfoldable pub head_of : List ℕ → Head
head_of bytes =
    let at = slice_index bytes in
    record {
      version = at 0 / 64;
      padded = at 0 / 32 % 2 == 1;
      extended = at 0 / 16 % 2 == 1;
      csrc_count = at 0 % 16;
      marker = at 1 / 128 == 1;
      payload_type = at 1 % 128;
      sequence = number16 (at 2) (at 3);
      timestamp = number32 (at 4) (at 5) (at 6) (at 7);
      ssrc = number32 (at 8) (at 9) (at 10) (at 11);
    }
