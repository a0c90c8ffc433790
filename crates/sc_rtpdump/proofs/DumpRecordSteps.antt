-- Buffers that hold a record.
use Rattle.std.proofs.Common.{◌≡◌, ℕ, ◌+◌, ◌-◌, ◌^◌, ◌<◌, ◌≤◌, List, ◌++◌, length, take, drop, sym, ap, ◌∙◌, subst, arith, length-append, length-drop}
use Rattle.std.proofs.Math.Seq.{take-append-add}
use Rattle.std.proofs.lemmas.List.{length-take-le}
use Rattle.sc_rtpdump.specs.Record.{record_bytes, head_bytes}
use Rattle.sc_rtpdump.specs.DumpRecord.{HoldsRecord}

-- a head before bytes of which it counts some
pub HoldsRecord-made : (len plen offset : ℕ) (rest : List ℕ) → length rest ≡ 65527 → 8 ≤ len → len ≤ 65535 → plen < 2 ^ 16 → offset < 2 ^ 32
    → HoldsRecord plen offset len (head_bytes len plen offset ++ rest)
unfolding record_bytes
HoldsRecord-made len plen offset rest size head bound small_plen small_offset =
    let front = head_bytes len plen offset in
    let body : List ℕ = take (len - 8) rest in
    let count : length body ≡ len - 8 = length-take-le (len - 8) rest (omega arith) in
    let whole : 8 + (len - 8) ≡ len = omega arith in
    let spelled : take len (front ++ rest) ≡ front ++ body = ap (λ n. take n (front ++ rest)) (sym whole) ∙ take-append-add front rest (len - 8) in
    let again : 8 + length body ≡ len = omega (arith, count) in
    record {
      room = length-append front rest ∙ omega (arith, size);
      head = head;
      bound = bound;
      spelled = spelled ∙ ap (λ n. head_bytes n plen offset ++ body) (sym again);
      fits = record { plen = small_plen; offset = small_offset; body = omega (arith, count) };
    }

-- a buffer whose front was overwritten by a head
pub HoldsRecord-set : (len plen offset : ℕ) (old new : List ℕ) → new ≡ head_bytes len plen offset ++ drop 8 old → length old ≡ 65535 → 8 ≤ len → len ≤ 65535 → plen < 2 ^ 16 → offset < 2 ^ 32
    → HoldsRecord plen offset len new
HoldsRecord-set len plen offset old new e size head bound small_plen small_offset =
    subst (HoldsRecord plen offset len) (sym e) (HoldsRecord-made len plen offset (drop 8 old) (length-drop 8 old ∙ omega (arith, size)) head bound small_plen small_offset)
