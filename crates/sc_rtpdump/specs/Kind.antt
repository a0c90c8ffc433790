-- The kind of a record: the first of RTCP, cut, strange and RTP that holds.
use Rattle.std.specs.Prelude.{◌≡◌, ◌≢◌, ◌⊎◌, ◌<◌, ◌==◌, length, nat_lt, Result, Ok, Err, if◌then◌else◌}
use Rattle.sc_rtp.specs.declared.not_rtp.NotRtp.{NotRtp}
use Rattle.sc_rtp.specs.Packet.{Packet, IsPacket}
use Rattle.sc_rtp.specs.Refusal.{IsRefused}
use Rattle.sc_rtp.specs.Reading.{reading_of}
use Rattle.sc_rtpdump.specs.declared.kind.Kind.{Kind}
use Rattle.sc_rtpdump.specs.declared.kind.Kind.TheVariants.{Rtcp, Cut, Strange, Rtp}
use Rattle.sc_rtpdump.specs.Record.{Record}

-- a packet of RTP, whole
pub record IsRtp (e : Record) : Type 0 where
  pub packet : Packet
  pub is : IsPacket e.body packet

-- no packet of RTP
pub record IsNoRtp (e : Record) : Type 0 where
  pub why : NotRtp
  pub is : IsRefused e.body why

-- what each kind says
abbrev pub HasKind : Record → Kind → Type 0
HasKind e Rtcp = e.plen ≡ 0
HasKind e Cut = length e.body < e.plen
HasKind e Strange = (e.plen ≢ 0) × ((e.plen < length e.body) ⊎ ((length e.body ≡ e.plen) × IsNoRtp e))
HasKind e Rtp = (e.plen ≢ 0) × (length e.body ≡ e.plen) × IsRtp e

-- the kind of what is as long as it is to be, by its reading
abbrev pub kind_read : Result Packet NotRtp → Kind
kind_read (Ok p) = Rtp
kind_read (Err e) = Strange

-- the kind as a function
unfoldable pub kind : Record → Kind
kind e =
    if e.plen == 0 then Rtcp
    else (if nat_lt (length e.body) e.plen then Cut
    else (if nat_lt e.plen (length e.body) then Strange
    else kind_read (reading_of e.body)))
