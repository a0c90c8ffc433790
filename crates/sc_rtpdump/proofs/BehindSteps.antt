-- A record that is read while bytes wait: what its body behind its head carries, or stops at.
use Rattle.std.proofs.Common.{◌≡◌, ℕ, ◌+◌, true, false, List, [], ◌++◌, length, Ok, Err, refl, sym, subst, arith, length-append, append-nil}
use Rattle.sc_outside.specs.declared.error.Failed.{Failed}
use Rattle.sc_outside.specs.Port.{Told}
use Rattle.sc_outside.proofs.FaultsLaws.{Rose-earlier}
use Rattle.sc_rtpdump.specs.declared.head.Head.{Head}
use Rattle.sc_rtpdump.specs.declared.fault.DumpFault.TheVariants.{Truncated, Read}
use Rattle.sc_rtpdump.specs.Record.{Record, record_bytes, head_bytes, length_field}
use Rattle.sc_rtpdump.specs.DumpRecord.{FillGives}
use Rattle.sc_rtpdump.specs.Head.{IsHead}
use Rattle.sc_rtpdump.specs.Thin.{Carries, StopsBehind}
use Rattle.sc_rtpdump.proofs.HeadLaws.{length_field-head}
use Rattle.sc_rtpdump.proofs.NextSteps.{record_bytes-is}
use Rattle.sc_rtpdump.proofs.ThinSteps.{Carries-take, Carries-trans}

pub behind_found : (a b c : Told) (head : Head) (e : Record) (p q : List ℕ) → Carries a b (head_bytes head.len head.plen head.offset) [] p q
    → FillGives b c head e (Ok true) → Carries a c (record_bytes e) [] p q
behind_found a b c head e p q x f =
    let front = head_bytes head.len head.plen head.offset in
    subst (λ l. Carries a c l [] p q) (sym (record_bytes-is e head.len head.plen head.offset f.2 f.3))
    (Carries-trans a b c front e.body [] [] p q q x (Carries-take b c e.body [] q q f.1 (sym (append-nil q))))

pub behind_cut : (index : ℕ) (a b c : Told) (head : Head) (e : Record) (p q : List ℕ) → Carries a b (head_bytes head.len head.plen head.offset) [] p q → IsHead head
    → FillGives b c head e (Ok false) → StopsBehind index a c p q (Truncated index)
behind_cut index a b c head e p q x h f =
    let front = head_bytes head.len head.plen head.offset in
    let part = f.1.taken in
    let size : length (front ++ part) ≡ 8 + length part = length-append front part in
    let field : length_field (front ++ part) ≡ head.len = length_field-head head.len head.plen head.offset part h.0 in
    record {
      tail = front ++ part;
      carries = Carries-trans a b c front part [] [] p q q x (Carries-take b c part [] q q f.1.takes (sym (append-nil q)));
      at = (refl, (omega (arith, size), omega (arith, size, field, f.1.holds)), f.2);
    }

pub behind_failed : (index : ℕ) (a b c : Told) (head : Head) (e : Record) (d : Failed) (p q : List ℕ) → Carries a b (head_bytes head.len head.plen head.offset) [] p q → IsHead head
    → FillGives b c head e (Err d) → StopsBehind index a c p q Read
behind_failed index a b c head e d p q x h f =
    let front = head_bytes head.len head.plen head.offset in
    let part = f.1.taken in
    let size : length (front ++ part) ≡ 8 + length part = length-append front part in
    let field : length_field (front ++ part) ≡ head.len = length_field-head head.len head.plen head.offset part h.0 in
    record {
      tail = front ++ part;
      carries = Carries-trans a b c front part [] [] p q q x (Carries-take b c part [] q q f.1.takes (sym (append-nil q)));
      at = (λ _. omega (arith, size, field, f.1.holds), Rose-earlier _ _ _ x.moves.read_faults f.2);
    }
