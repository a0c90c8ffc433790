-- A head and what is read behind it make a record, or a fault.
use Rattle.std.proofs.Common.{◌≡◌, ℕ, ◌+◌, true, false, List, ◌++◌, length, Ok, Err, refl, sym, ap, ◌∙◌, subst, arith, length-append}
use Rattle.sc_outside.specs.declared.error.Failed.{Failed}
use Rattle.sc_outside.specs.Port.{Told, Takes}
use Rattle.sc_outside.specs.Whole.{PutsAll, WriteFailed}
use Rattle.sc_outside.proofs.FaultsLaws.{Rose-earlier}
use Rattle.sc_outside.proofs.MovesLaws.{Takes-trans}
use Rattle.sc_outside.proofs.WholeLaws.{PutsAll-trans, WriteFailed-first, WriteFailed-then}
use Rattle.sc_rtpdump.specs.declared.head.Head.{Head}
use Rattle.sc_rtpdump.specs.declared.fault.DumpFault.TheVariants.{Truncated, Read}
use Rattle.sc_rtpdump.specs.Record.{Record, record_bytes, head_bytes, length_field}
use Rattle.sc_rtpdump.specs.DumpRecord.{FillGives}
use Rattle.sc_rtpdump.specs.Head.{IsHead}
use Rattle.sc_rtpdump.specs.Next.{NextGives}
use Rattle.sc_rtpdump.proofs.HeadLaws.{length_field-head}

-- how a record is spelled, by a head of its length
pub record_bytes-is : (e : Record) (len plen offset : ℕ) → e ≡ record { plen = plen; offset = offset; body = e.body } → 8 + length e.body ≡ len
    → record_bytes e ≡ head_bytes len plen offset ++ e.body
unfolding record_bytes
record_bytes-is e len plen offset same size =
    ap (λ (x : Record). head_bytes (8 + length e.body) x.plen x.offset ++ e.body) same ∙ ap (λ n. head_bytes n plen offset ++ e.body) size

pub next_found : (index : ℕ) (old mid new : Told) (head : Head) (e : Record) → Takes old mid (head_bytes head.len head.plen head.offset)
    → FillGives mid new head e (Ok true) → NextGives index old new (Ok true) e
next_found index old mid new head e t f =
    (f.0, subst (Takes old new) (sym (record_bytes-is e head.len head.plen head.offset f.2 f.3)) (Takes-trans old mid new _ e.body t f.1))

pub next_cut : (index : ℕ) (old mid new : Told) (head : Head) (e : Record) → Takes old mid (head_bytes head.len head.plen head.offset) → IsHead head
    → FillGives mid new head e (Ok false) → NextGives index old new (Err (Truncated index)) e
next_cut index old mid new head e t h f =
    let front = head_bytes head.len head.plen head.offset in
    let part = f.1.taken in
    let size : length (front ++ part) ≡ 8 + length part = length-append front part in
    let field : length_field (front ++ part) ≡ head.len = length_field-head head.len head.plen head.offset part h.0 in (
      f.0,
      record {
        tail = front ++ part;
        takes = Takes-trans old mid new front part t f.1.takes;
        at = (refl, (omega (arith, size), omega (arith, size, field, f.1.holds)), f.2);
      },
    )

pub next_failed : (index : ℕ) (old mid new : Told) (head : Head) (e : Record) (d : Failed) → Takes old mid (head_bytes head.len head.plen head.offset) → IsHead head
    → FillGives mid new head e (Err d) → NextGives index old new (Err Read) e
next_failed index old mid new head e d t h f =
    let front = head_bytes head.len head.plen head.offset in
    let part = f.1.taken in
    let size : length (front ++ part) ≡ 8 + length part = length-append front part in
    let field : length_field (front ++ part) ≡ head.len = length_field-head head.len head.plen head.offset part h.0 in (
      f.0,
      record {
        tail = front ++ part;
        takes = Takes-trans old mid new front part t f.1.takes;
        at = (λ _. omega (arith, size, field, f.1.holds), Rose-earlier _ _ _ t.moves.read_faults f.2);
      },
    )

-- a record is written as its head and its body
spelled : (plen offset : ℕ) (body head : List ℕ) → head ≡ head_bytes (8 + length body) plen offset → head ++ body ≡ record_bytes (record { plen = plen; offset = offset; body = body })
unfolding record_bytes
spelled plen offset body head e = ap (λ l. l ++ body) e

pub record_whole : (old mid new : Told) (plen offset : ℕ) (body head : List ℕ) → head ≡ head_bytes (8 + length body) plen offset → PutsAll old mid head → PutsAll mid new body
    → PutsAll old new (record_bytes (record { plen = plen; offset = offset; body = body }))
record_whole old mid new plen offset body head e p q = subst (PutsAll old new) (spelled plen offset body head e) (PutsAll-trans old mid new head body p q)

pub record_first : (old new : Told) (plen offset : ℕ) (body head : List ℕ) → head ≡ head_bytes (8 + length body) plen offset → WriteFailed old new head
    → WriteFailed old new (record_bytes (record { plen = plen; offset = offset; body = body }))
record_first old new plen offset body head e p = subst (WriteFailed old new) (spelled plen offset body head e) (WriteFailed-first old new head body p)

pub record_then : (old mid new : Told) (plen offset : ℕ) (body head : List ℕ) → head ≡ head_bytes (8 + length body) plen offset → PutsAll old mid head → WriteFailed mid new body
    → WriteFailed old new (record_bytes (record { plen = plen; offset = offset; body = body }))
record_then old mid new plen offset body head e p q = subst (WriteFailed old new) (spelled plen offset body head e) (WriteFailed-then old mid new head body p.puts q)
