-- The generated capture: the standard preamble, and records of RTP packets with drawn bytes. Of this project.
use Rattle.std.specs.Prelude.{◌≡◌, ℕ, ◌-◌, ◌*◌, ◌%◌, ◌^◌, true, false, List, [], ◌∷◌, ◌++◌, map, codes, Result, Ok, Err}
use Rattle.std.specs.List.{range_with_len}
use Rattle.rand_pcg.specs.Lcg.{Lcg}
use Rattle.sc_outside.specs.Ends.{Job, at_once}
use Rattle.sc_outside.specs.Port.{Told}
use Rattle.sc_outside.specs.Whole.{PutsAll}
use Rattle.sc_rtp.specs.Head.{head_bytes}
use Rattle.sc_rtp.specs.Packet.{plain_head}
use Rattle.sc_rtpdump.specs.Record.{Record}
use Rattle.sc_rtpdump.specs.Capture.{records_bytes}
use Rattle.sc_trial.specs.declared.capture.GenFault.{GenFault}
use Rattle.sc_trial.specs.declared.capture.GenFault.TheVariants.{Write, Memory}
use Rattle.sc_trial.specs.Draw.{generator, drawn}

-- the standard preamble: the line of the address 127.0.0.1 and the port 5004 with its newline, start seconds and
-- microseconds of 0, the address, the port, and two bytes of padding
abbrev pub standard_preamble : List ℕ
standard_preamble =
    codes "#!rtpplay1.0 127.0.0.1/5004"
    ++ (10 ∷ 0 ∷ 0 ∷ 0 ∷ 0 ∷ 0 ∷ 0 ∷ 0 ∷ 0 ∷ 127 ∷ 0 ∷ 0 ∷ 1 ∷ 19 ∷ 140 ∷ 0 ∷ 0 ∷ [])

-- The packet of this number, of so many bytes: a head of payload type 0, with a sequence number of 16 bits, 160 units of
-- time for each packet, and one source; and then bytes that are drawn, from the word of that number on.
unfoldable pub generated_packet : Lcg → ℕ → ℕ → ℕ → List ℕ
generated_packet g from size i =
    head_bytes (plain_head 0 (i % 65536) (160 * i % 2 ^ 32) 0x12345678) ++ drawn g from (size - 12)

-- its record: the packet is whole, 20 milliseconds after the one before
abbrev pub generated_record : Lcg → ℕ → ℕ → ℕ → Record
generated_record g from size i = record { plen = size; offset = 20 * i; body = generated_packet g from size i }

-- the first so many records, of packets of this size: each draws the words behind those of the one before
abbrev pub generated_records : Lcg → ℕ → ℕ → List Record
generated_records g count size = map (λ i. generated_record g (i * (size - 12)) size i) (range_with_len 0 count)

-- the generated capture
unfoldable pub generated : ℕ → ℕ → ℕ → List ℕ
generated seed count size = standard_preamble ++ records_bytes (generated_records (generator seed) count size)

-- What generating a capture owes: all of it, whatever the input is. Memory runs out before anything is given.
abbrev pub generating : ℕ → ℕ → ℕ → Job (Result (Unit {0}) GenFault)
generating seed count size =
    at_once (record { answer = Ok tt; text = generated seed count size; at_end = false }) true [] (Err Write) (Err Write) (Err Memory)

-- a front of these bytes was given, and the rest of them waits
pub record GivesOrHolds (old new : Told) (text waiting : List ℕ) : Type 0 where
  pub put : List ℕ
  pub puts : PutsAll old new put
  pub parts : text ≡ put ++ waiting

-- nothing was read, and no read failed
pub record IsUnread (old new : Told) : Type 0 where
  pub left : new.left ≡ old.left
  pub read_faults : new.read_faults ≡ old.read_faults
