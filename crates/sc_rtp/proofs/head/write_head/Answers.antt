use Rattle.std.proofs.Common.{◌≡◌, ℕ, List, [], ◌∷◌, ◌++◌, get_or, ap, ◌∙◌, rules}
use Rattle.sc_rtp.specs.Head.{head_bytes}
use Rattle.sc_rtp.specs.Packet.{plain_head}
use Rattle.sc_rtp.specs.Reading.{reading_of}
use Rattle.sc_rtp.proofs.ReadingLaws.{reading_of-plain}
use Rattle.sc_rtp.proofs.head.write_head.Goals as goal

pub returns : goal.returns
returns c =
    let a = c.args in
    let s = get_or c.to_be_bytes-sequence.result in
    let t = get_or c.to_be_bytes-timestamp.result in
    let r = get_or c.to_be_bytes-ssrc.result in
    let out : List ℕ = 128 ∷ a.payload_type ∷ s 0 0 ∷ s 1 0 ∷ t 0 0 ∷ t 1 0 ∷ t 2 0 ∷ t 3 0 ∷ r 0 0 ∷ r 1 0 ∷ r 2 0 ∷ r 3 0 ∷ [] in
    let head : out ≡ head_bytes (plain_head a.payload_type a.sequence a.timestamp a.ssrc) = search rules in
    record {
      head = head;
      read_back = λ payload.
          ap (λ l. reading_of (l ++ payload)) head
          ∙ reading_of-plain a.payload_type a.sequence a.timestamp a.ssrc payload c.requires c.ranges.sequence.fits c.ranges.timestamp.fits c.ranges.ssrc.fits;
    }
