-- What is said of the one reading of bytes: it is the one that the grammar gives.
use Rattle.std.specs.Prelude.{◌≡◌, List, ℕ, Ok, Err}
use Rattle.sc_rtp.specs.declared.not_rtp.NotRtp.{NotRtp}
use Rattle.sc_rtp.specs.Packet.{Packet, IsPacket}
use Rattle.sc_rtp.specs.Reading.{AreBytes, reading_of}
use Rattle.sc_rtp.specs.Refusal.{IsRefused}

-- a packet is read as its parts
abbrev pub PacketsAreRead : Type 0
PacketsAreRead = (bytes : List ℕ) (p : Packet) → IsPacket bytes p → reading_of bytes ≡ Ok p

-- the parts that are read are those of a packet
abbrev pub ReadingsArePackets : Type 0
ReadingsArePackets = (bytes : List ℕ) (p : Packet) → AreBytes bytes → reading_of bytes ≡ Ok p → IsPacket bytes p

-- bytes that are refused for a reason are read as refused for it
abbrev pub RefusalsAreRead : Type 0
RefusalsAreRead = (bytes : List ℕ) (e : NotRtp) → IsRefused bytes e → reading_of bytes ≡ Err e

-- a reason that is read is there
abbrev pub ReadingsAreRefused : Type 0
ReadingsAreRefused = (bytes : List ℕ) (e : NotRtp) → AreBytes bytes → reading_of bytes ≡ Err e → IsRefused bytes e

-- bytes are one packet at most
abbrev pub PacketsAreAlone : Type 0
PacketsAreAlone = (bytes : List ℕ) (p q : Packet) → IsPacket bytes p → IsPacket bytes q → p ≡ q

-- bytes are refused for one reason at most
abbrev pub ReasonsAreAlone : Type 0
ReasonsAreAlone = (bytes : List ℕ) (e f : NotRtp) → IsRefused bytes e → IsRefused bytes f → e ≡ f

-- no packet is refused
abbrev pub PacketsAreAccepted : Type 0
PacketsAreAccepted = (bytes : List ℕ) (p : Packet) (e : NotRtp) → IsPacket bytes p → IsRefused bytes e → ⊥
