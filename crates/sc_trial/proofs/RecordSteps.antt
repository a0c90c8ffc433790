-- The generated records, one after the other, and the bytes of them that were given or wait.
use Rattle.std.proofs.Common.{◌≡◌, ℕ, ◌+◌, ◌-◌, ◌*◌, ◌%◌, ◌^◌, ◌≤◌, List, [], ◌++◌, length, take, drop, map, refl, sym, ap, ◌∙◌, subst, arith, length-append, append_assoc, append-nil, zero-add, inl, Ok, Err}
use Rattle.std.specs.List.{range_with_len}
use Rattle.std.proofs.lemmas.Grind.{flat_map-append}
use Rattle.std.proofs.lemmas.List.{take-append-drop, flat_map_more}
use Rattle.std.proofs.lemmas.List.FromFn.{map-range_with_len_more, take-map-range_with_len}
use Rattle.rand_pcg.specs.Lcg.{Lcg, advance}
use Rattle.rand_pcg.specs.Pcg.{multiplier_64}
use Rattle.sc_outside.specs.Ends.{input, write, Ends}
use Rattle.sc_outside.specs.Port.{Told}
use Rattle.sc_outside.specs.Whole.{PutsAll, WriteFailed}
use Rattle.sc_outside.specs.Pending.{HasWay, FlushFailed}
use Rattle.sc_outside.proofs.EndsLaws.{some_left}
use Rattle.sc_outside.proofs.WholeLaws.{PutsAll-none, PutsAll-trans, WriteFailed-first, WriteFailed-then}
use Rattle.sc_rtp.specs.Head.{head_bytes as rtp_head_bytes}
use Rattle.sc_rtp.specs.Packet.{plain_head}
use Rattle.sc_rtpdump.specs.Record.{Record, record_bytes, head_bytes}
use Rattle.sc_rtpdump.specs.Capture.{records_bytes}
use Rattle.sc_trial.specs.declared.capture.GenFault.TheVariants.{Write}
use Rattle.sc_trial.specs.Draw.{generator, drawn}
use Rattle.sc_trial.specs.Generated.{generated_packet, generated_record, generated_records, standard_preamble, generated, generating, GivesOrHolds}
use Rattle.sc_trial.proofs.DrawSteps.{length-drawn, drawn-advance}

-- ---- a record
pub record_spelled : (g : Lcg) (from size i : ℕ) → 12 ≤ size
    → record_bytes (generated_record g from size i)
    ≡ head_bytes (8 + size) size (20 * i) ++ (rtp_head_bytes (plain_head 0 (i % 65536) (160 * i % 2 ^ 32) 0x12345678) ++ drawn g from (size - 12))
unfolding record_bytes generated_packet
record_spelled g from size i least =
    let packet = rtp_head_bytes (plain_head 0 (i % 65536) (160 * i % 2 ^ 32) 0x12345678) in
    let long : length (packet ++ drawn g from (size - 12)) ≡ size =
    omega (arith, length-append packet (drawn g from (size - 12)), length-drawn g from (size - 12)) in
    ap (λ (n : ℕ). head_bytes (8 + n) size (20 * i) ++ (packet ++ drawn g from (size - 12))) long

-- the record that is drawn by a generator behind its first words
record_behind : (g : Lcg) (k size i : ℕ) → generated_record (advance 64 multiplier_64 k g) 0 size i ≡ generated_record g k size i
unfolding generated_packet
record_behind g k size i = ap (λ (l : List ℕ). let e : Record = record { plen = size; offset = 20 * i; body = rtp_head_bytes (plain_head 0 (i % 65536) (160 * i % 2 ^ 32) 0x12345678) ++ l } in e) (drawn-advance k (size - 12) g)

-- three parts behind the bytes that wait
pub three_behind : (before a b c h p d r : List ℕ) → a ≡ before ++ h → b ≡ a ++ p → c ≡ b ++ d → r ≡ h ++ (p ++ d) → c ≡ before ++ r
three_behind before a b c h p d r ea eb ec er =
    ec ∙ ap (λ l. l ++ d) (eb ∙ ap (λ l. l ++ p) ea ∙ append_assoc before h p) ∙ append_assoc before (h ++ p) d
    ∙ ap (λ l. before ++ l) (append_assoc h p d ∙ sym er)

-- ---- the first records
abbrev pub text : Lcg → List ℕ → ℕ → ℕ → List ℕ
text g before count size = before ++ records_bytes (generated_records g count size)

text-none : (g : Lcg) (before : List ℕ) (size : ℕ) → text g before 0 size ≡ before
text-none g before size = append-nil before

text-more : (g : Lcg) (before : List ℕ) (i size : ℕ)
    → text g before (i + 1) size ≡ text g before i size ++ record_bytes (generated_record g (i * (size - 12)) size i)
text-more g before i size =
    let f = λ (j : ℕ). generated_record g (j * (size - 12)) size j in
    ap (λ rs. before ++ records_bytes rs) (map-range_with_len_more f 0 i i (zero-add i))
    ∙ sym (flat_map_more record_bytes before (map f (range_with_len 0 i)) (f i))

text-front : (g : Lcg) (before : List ℕ) (i count size : ℕ) → i ≤ count → (rest : List ℕ) × (text g before count size ≡ text g before i size ++ rest)
text-front g before i count size fits =
    let f = λ (j : ℕ). generated_record g (j * (size - 12)) size j in
    let all = map f (range_with_len 0 count) in
    let front : take i all ≡ map f (range_with_len 0 i) = take-map-range_with_len f 0 count i fits in
    let parts : all ≡ map f (range_with_len 0 i) ++ drop i all = sym (take-append-drop i all) ∙ ap (λ l. l ++ drop i all) front in (
      records_bytes (drop i all),
      ap (λ rs. before ++ records_bytes rs) parts
          ∙ ap (λ l. before ++ l) (flat_map-append record_bytes (map f (range_with_len 0 i)) (drop i all))
          ∙ sym (append_assoc before (records_bytes (map f (range_with_len 0 i))) (records_bytes (drop i all))),
    )

-- ---- what was given and what waits
pub holds-none : (g : Lcg) (before : List ℕ) (size : ℕ) (a : Told) → GivesOrHolds a a (text g before 0 size) before
holds-none g before size a = record { put = []; puts = PutsAll-none a; parts = text-none g before size }

-- way was made, and a record put behind what waits
pub holds-more : (g h : Lcg) (before : List ℕ) (i size room more : ℕ) (a b c : Told) (waiting after new : List ℕ)
    → h ≡ advance 64 multiplier_64 (i * (size - 12)) g
    → GivesOrHolds a b (text g before i size) waiting → HasWay waiting after b c more room
    → new ≡ after ++ record_bytes (generated_record h 0 size i) → GivesOrHolds a c (text g before (i + 1) size) new
holds-more g h before i size room more a b c waiting after new behind x way e =
    let rec = record_bytes (generated_record g (i * (size - 12)) size i) in
    let here : generated_record h 0 size i ≡ generated_record g (i * (size - 12)) size i =
    ap (λ (k : Lcg). generated_record k 0 size i) behind ∙ record_behind g (i * (size - 12)) size i in
    record {
      put = x.put ++ way.put;
      puts = PutsAll-trans a b c x.put way.put x.puts way.puts;
      parts = text-more g before i size ∙ ap (λ l. l ++ rec) (x.parts ∙ ap (λ l. x.put ++ l) way.parts ∙ sym (append_assoc x.put way.put after))
          ∙ append_assoc (x.put ++ way.put) after rec
          ∙ ap (λ l. (x.put ++ way.put) ++ l) (ap (λ e. after ++ record_bytes e) (sym here) ∙ sym e);
    }

-- a write failed within what waits
pub failed-here : (g : Lcg) (before : List ℕ) (i count size : ℕ) (a b c : Told) (waiting after : List ℕ) → i ≤ count
    → GivesOrHolds a b (text g before i size) waiting → FlushFailed waiting after b c → WriteFailed a c (text g before count size)
failed-here g before i count size a b c waiting after fits x failed =
    let front = text-front g before i count size fits in
    let at : WriteFailed a c (text g before i size) =
    subst (WriteFailed a c) (sym x.parts) (WriteFailed-then a b c x.put waiting x.puts.puts failed.failed) in
    subst (WriteFailed a c) (sym front.1) (WriteFailed-first a c (text g before i size) front.0 at)

-- ---- how generating ends
generated-text : (seed count size : ℕ) (g : Lcg) (before : List ℕ) → g ≡ generator seed → before ≡ standard_preamble → text g before count size ≡ generated seed count size
unfolding generated
generated-text seed count size g before eg eb =
    ap (λ (h : Lcg). before ++ records_bytes (generated_records h count size)) eg
    ∙ ap (λ l. l ++ records_bytes (generated_records (generator seed) count size)) eb

ends-failed : (seed count size : ℕ) (a b : Told) → WriteFailed a b (generated seed count size) → Ends (generating seed count size) a b (Err Write)
ends-failed seed count size a b failed = record {
  cause = write;
  taken = [];
  put = failed.put;
  moves = failed.puts.moves;
  unread = λ _. refl;
  caused = (refl, failed.rose, inl (record { rest = failed.rest; parts = failed.parts; more = failed.short }));
}

-- a write failed before the last record was put behind what waits
pub records_failed : (seed count size : ℕ) (g : Lcg) (before : List ℕ) (a b : Told) → g ≡ generator seed → before ≡ standard_preamble
    → WriteFailed a b (text g before count size) → Ends (generating seed count size) a b (Err Write)
records_failed seed count size g before a b eg eb failed =
    ends-failed seed count size a b (subst (WriteFailed a b) (generated-text seed count size g before eg eb) failed)

-- a write failed within what waited last
pub last_failed : (seed count size : ℕ) (g : Lcg) (before : List ℕ) (a b c : Told) (waiting after : List ℕ) → g ≡ generator seed → before ≡ standard_preamble
    → GivesOrHolds a b (text g before count size) waiting → FlushFailed waiting after b c → Ends (generating seed count size) a c (Err Write)
last_failed seed count size g before a b c waiting after eg eb x failed =
    records_failed seed count size g before a c eg eb
    (subst (WriteFailed a c) (sym x.parts) (WriteFailed-then a b c x.put waiting x.puts.puts failed.failed))

-- all was written
pub all_given : (seed count size : ℕ) (g : Lcg) (before : List ℕ) (a b c : Told) (waiting : List ℕ) → g ≡ generator seed → before ≡ standard_preamble
    → GivesOrHolds a b (text g before count size) waiting → PutsAll b c waiting → Ends (generating seed count size) a c (Ok tt)
all_given seed count size g before a b c waiting eg eb x last =
    let there = some_left c.left in
    let all = PutsAll-trans a b c x.put waiting x.puts last in
    record {
      cause = input;
      taken = [];
      put = x.put ++ waiting;
      moves = all.puts.moves;
      unread = λ _. refl;
      caused = record {
        rest = there.0;
        left = there.1;
        answered = refl;
        given = sym (generated-text seed count size g before eg eb) ∙ x.parts;
        ended = λ no. absurd (cc);
      };
    }
