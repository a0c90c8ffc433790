-- Records of a capture, in this project's profile of the binary rtpdump format: two bytes of length, which is 8 and the
-- number of body bytes, two bytes of the packet's true length, four bytes of offset in milliseconds, and the body. All
-- numbers are big-endian.
use Rattle.std.specs.Prelude.{ℕ, ◌+◌, ◌^◌, ◌<◌, ◌≤◌, ◌==◌, List, [], ◌++◌, length, take, drop, nat_lt, if◌then◌else◌}
use Rattle.std.specs.Int.{w16, w32, to_be_bytes, from_be_bytes}

-- a record: the packet's true length, the offset, and the packet or its front
pub record Record : Type 0 where
  pub plen : ℕ
  pub offset : ℕ
  pub body : List ℕ

-- the record with nothing in it
abbrev pub empty_record : Record
empty_record = record { plen = 0; offset = 0; body = [] }

-- what has a spelling: the numbers fit their fields
pub record IsRecord (e : Record) : Type 0 where
  pub plen : e.plen < 2 ^ 16
  pub offset : e.offset < 2 ^ 32
  pub body : length e.body ≤ 65527

-- the eight bytes before the body
abbrev pub head_bytes : ℕ → ℕ → ℕ → List ℕ
head_bytes len plen offset = to_be_bytes w16 len ++ (to_be_bytes w16 plen ++ to_be_bytes w32 offset)

-- how a record is spelled
unfoldable pub record_bytes : Record → List ℕ
record_bytes e = head_bytes (8 + length e.body) e.plen e.offset ++ e.body

-- the number in the field of the length
unfoldable pub length_field : List ℕ → ℕ
length_field bytes = from_be_bytes w16 (take 2 bytes)

-- why bytes that are not empty begin with no record: fewer than eight bytes, a length below 8, or fewer bytes than
-- the length says
pub data Break : Type 0 where
  short_head : Break
  short_length : Break
  cut_body : Break

-- what bytes begin with: nothing is there, no record is there, or a record with what follows it
pub data Front : Type 0 where
  ends : Front
  breaks : Break → Front
  starts : Record → List ℕ → Front

-- the record that the first bytes spell, as many as its length says
abbrev pub record_at : List ℕ → Record
record_at bytes = record {
  plen = from_be_bytes w16 (take 2 (drop 2 bytes));
  offset = from_be_bytes w32 (take 4 (drop 4 bytes));
  body = drop 8 (take (length_field bytes) bytes);
}

unfoldable pub front_of : List ℕ → Front
front_of bytes =
    if length bytes == 0 then ends
    else (if nat_lt (length bytes) 8 then breaks short_head
    else (if nat_lt (length_field bytes) 8 then breaks short_length
    else (if nat_lt (length bytes) (length_field bytes) then breaks cut_body
    else starts (record_at bytes) (drop (length_field bytes) bytes))))
