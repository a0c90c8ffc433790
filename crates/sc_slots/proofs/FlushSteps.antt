-- The steps of protecting: the slots that flush the last blocks out.
use Rattle.std.proofs.Common.{◌≡◌, ℕ, suc, ◌+◌, ◌-◌, ◌*◌, ◌<◌, ◌≤◌, min, List, [], ◌∷◌, ◌++◌, length, map, replicate, get_or, sym, ap, ◌∙◌, subst, arith, append-nil, append_assoc, length-append}
use Rattle.std.specs.List.{concat}
use Rattle.std.proofs.lemmas.List.{length-map, length-replicate, get_or-append_right, get_or-replicate, replicate-append-replicate}
use Rattle.sc_outside.specs.Pending.{HasWay, FlushFailed}
use Rattle.sc_outside.specs.Port.{Told}
use Rattle.sc_outside.specs.Whole.{PutsAll}
use Rattle.sc_outside.proofs.FaultsLaws.{Rose-earlier}
use Rattle.sc_outside.proofs.MovesLaws.{Puts-none, Puts-trans}
use Rattle.sc_rtpdump.specs.Record.{Record, empty_record}
use Rattle.sc_field.specs.Gf256.{gf256_product}
use Rattle.sc_matrix.specs.Layout.{cut}
use Rattle.sc_matrix.proofs.LayoutLaws.{cut-replicate}
use Rattle.sc_matrix.proofs.MatrixLaws.{map-replicate}
use Rattle.sc_code.specs.Code.{Code}
use Rattle.sc_code.specs.Encoder.{Encoder, StandsFor}
use Rattle.sc_code.specs.Parity.{parity}
use Rattle.sc_code.specs.Stream.{zero_block}
use Rattle.sc_code.proofs.StreamLaws.{parity-append}
use Rattle.sc_slots.specs.declared.maker.Label.{Label}
use Rattle.sc_slots.specs.declared.protect.Taken.{Taken}
use Rattle.sc_slots.specs.Slot.{slot_bytes}
use Rattle.sc_slots.specs.Protected.{Protection, rtp_part, blocks, stream, source_of, timestamp_of, slot_text, slots_text}
use Rattle.sc_slots.specs.ProtectSteps.{next_text, PutsSlot, last_source, source_stream, Knows, IsOf, GivesMore, LosesMore, flush_text}
use Rattle.sc_slots.proofs.ProtectedLaws.{frame_in, zero_blocks, same_slot, length-source_stream, stream-parts, slots-split, slots-one}

-- ---- what was given, and what waits

pub GivesMore-none : (a : Told) (before : List ℕ) → GivesMore a a [] before before
GivesMore-none a before = record { put = []; puts = Puts-none a; parts = append-nil before }

pub GivesMore-way : (a b c : Told) (more before mid after : List ℕ) (n room : ℕ) → GivesMore a b more before mid → HasWay mid after b c n room → GivesMore a c more before after
GivesMore-way a b c more before mid after n room x way = record {
  put = x.put ++ way.put;
  puts = Puts-trans a b c x.put way.put x.puts way.puts.puts;
  parts = x.parts ∙ ap (λ l. x.put ++ l) way.parts ∙ sym (append_assoc x.put way.put after);
}

pub GivesMore-push : (a b : Told) (more before mid after text : List ℕ) → GivesMore a b more before mid → after ≡ mid ++ text → GivesMore a b (more ++ text) before after
GivesMore-push a b more before mid after text x e = record {
  put = x.put;
  puts = x.puts;
  parts = sym (append_assoc before more text) ∙ ap (λ l. l ++ text) x.parts ∙ append_assoc x.put mid text ∙ ap (λ l. x.put ++ l) (sym e);
}

-- a write failed within what waits, and this would have followed
pub LosesMore-way : (a b c : Told) (more rest before mid after : List ℕ) → GivesMore a b more before mid → FlushFailed mid after b c → LosesMore a c (more ++ rest) before
LosesMore-way a b c more rest before mid after x f = record {
  lacking = f.failed.rest ++ rest;
  gives = record {
    put = x.put ++ f.failed.put;
    puts = Puts-trans a b c x.put f.failed.put x.puts f.failed.puts;
    parts = sym (append_assoc before more rest) ∙ ap (λ l. l ++ rest) (x.parts ∙ ap (λ l. x.put ++ l) f.failed.parts ∙ sym (append_assoc x.put f.failed.put f.failed.rest))
        ∙ append_assoc (x.put ++ f.failed.put) f.failed.rest rest;
  };
  short = omega (arith, length-append f.failed.rest rest, f.failed.short);
  rose = Rose-earlier _ _ _ x.puts.moves.write_faults f.failed.rose;
}

-- ---- a slot that flushes

-- the stream up to such a slot
abbrev pub flush_stream : Protection → List Record → ℕ → List (List (List ℕ))
flush_stream p rtp j = source_stream p rtp ++ replicate j (zero_block p.code.k p.m)

zero_cut : (p : Protection) → cut p.code.k p.m (replicate (p.code.k * p.m) 0) ≡ zero_block p.code.k p.m
zero_cut p = cut-replicate p.code.k p.m 0

length-flush_stream : (p : Protection) (rtp : List Record) (j : ℕ) → length (flush_stream p rtp j) ≡ length rtp + j
length-flush_stream p rtp j =
    omega (arith, length-append (source_stream p rtp) (replicate j (zero_block p.code.k p.m)), length-source_stream p rtp, length-replicate j (zero_block p.code.k p.m))

replicate-next : {A : Type 0} (j r : ℕ) (z : A) → replicate (j + suc r) z ≡ (replicate j z ++ z ∷ []) ++ replicate r z
replicate-next j r z = sym (replicate-append-replicate j (suc r) z) ∙ sym (append_assoc (replicate j z) (z ∷ []) (replicate r z))

-- the whole stream, around such a slot
around : (p : Protection) (rtp : List Record) (j r : ℕ) → j + suc r ≡ p.deadline
    → stream p rtp ≡ (flush_stream p rtp j ++ zero_block p.code.k p.m ∷ []) ++ replicate r (zero_block p.code.k p.m)
around p rtp j r e =
    let z = zero_block p.code.k p.m in
    stream-parts p rtp (zero_blocks p)
    ∙ ap (λ l. source_stream p rtp ++ l) (map-replicate (cut p.code.k p.m) p.deadline (replicate (p.code.k * p.m) 0) ∙ ap (replicate p.deadline) (zero_cut p) ∙ ap (λ n. replicate n z) (sym e) ∙ replicate-next j r z)
    ∙ sym (append_assoc (source_stream p rtp) (replicate j z ++ z ∷ []) (replicate r z))
    ∙ ap (λ l. l ++ replicate r z) (sym (append_assoc (source_stream p rtp) (replicate j z) (z ∷ [])))

flush_parity : (p : Protection) (rtp : List Record) (j r : ℕ) → j + suc r ≡ p.deadline
    → parity 0 gf256_product p.code p.m (flush_stream p rtp j ++ cut p.code.k p.m (replicate (p.code.k * p.m) 0) ∷ []) (length (flush_stream p rtp j)) ≡ parity 0 gf256_product p.code p.m (stream p rtp) (length rtp + j)
flush_parity p rtp j r e =
    let z = zero_block p.code.k p.m in
    let xs = flush_stream p rtp j in
    let size : length (flush_stream p rtp j) ≡ length rtp + j = length-flush_stream p rtp j in
    let within : length rtp + j < length (flush_stream p rtp j ++ zero_block p.code.k p.m ∷ []) = omega (arith, length-append xs (z ∷ [])) in
    ap (λ b. parity 0 gf256_product p.code p.m (xs ++ b ∷ []) (length xs)) (zero_cut p)
    ∙ ap (parity 0 gf256_product p.code p.m (xs ++ z ∷ [])) size
    ∙ sym (parity-append 0 gf256_product p.code p.m (xs ++ z ∷ []) (replicate r z) (length rtp + j) within)
    ∙ ap (λ (ys : List (List (List ℕ))). parity 0 gf256_product p.code p.m ys (length rtp + j)) (sym (around p rtp j r e))

pub flush_slot : (p : Protection) (rtp : List Record) (j n time off : ℕ) → j < p.deadline → n ≡ length rtp + j → time ≡ timestamp_of (last_source rtp).body → off ≡ (last_source rtp).offset
    → next_text p.code p.m (flush_stream p rtp j) (record { number = n; end = j + 1; timestamp = time; offset = off }) (replicate (p.code.k * p.m) 0) ≡ slot_text p rtp (length rtp + j)
unfolding next_text slot_text
flush_slot p rtp j n time off h en et eo =
    let t = length rtp + j in
    let zeros : List ℕ = replicate (p.code.k * p.m) 0 in
    let xs = flush_stream p rtp j in
    let place : min (length rtp + j) (length rtp - 1) ≡ length rtp - 1 = omega arith in
    let source : source_of rtp (length rtp + j) ≡ last_source rtp = ap (λ i. get_or rtp i empty_record) place in
    let end : length rtp + j + 1 - length rtp ≡ j + 1 = omega arith in
    let back : length rtp + j - length rtp ≡ j = omega arith in
    let rest : j + suc (p.deadline - (j + 1)) ≡ p.deadline = omega arith in
    let block : get_or (blocks p rtp) (length rtp + j) [] ≡ replicate (p.code.k * p.m) 0 =
    get_or-append_right (map (frame_in p) rtp) (zero_blocks p) (length rtp) t [] (length-map rtp (frame_in p)) (omega arith)
    ∙ ap (λ i. get_or (zero_blocks p) i []) back ∙ get_or-replicate p.deadline j zeros [] h in
    let par = flush_parity p rtp j (p.deadline - (j + 1)) rest in
    ap (λ k. slot_bytes p.code.k p.code.r off (record { number = k; end = j + 1; m = p.m; timestamp = time; block = zeros; parity = concat (parity 0 gf256_product p.code p.m (xs ++ cut p.code.k p.m zeros ∷ []) (length xs)) })) en
    ∙ ap (λ o. slot_bytes p.code.k p.code.r o (record { number = t; end = j + 1; m = p.m; timestamp = time; block = zeros; parity = concat (parity 0 gf256_product p.code p.m (xs ++ cut p.code.k p.m zeros ∷ []) (length xs)) })) (eo ∙ ap (λ (x : Record). x.offset) (sym source))
    ∙ ap (slot_bytes p.code.k p.code.r (source_of rtp t).offset)
    (same_slot t (j + 1) (t + 1 - length rtp) p.m time (timestamp_of (source_of rtp t).body) zeros (get_or (blocks p rtp) t [])
    (concat (parity 0 gf256_product p.code p.m (xs ++ cut p.code.k p.m zeros ∷ []) (length xs))) (concat (parity 0 gf256_product p.code p.m (stream p rtp) t))
    (sym end) (et ∙ ap (λ (x : Record). timestamp_of x.body) (sym source)) (sym block) (ap concat par))

-- ---- so many of them

-- after j slots that flush, for the records that are known
pub record Flushed (p : Protection) (a b : Told) (records : List Record) (j : ℕ) (encoder : Encoder ℕ) (before after : List ℕ) : Type 0 where
  pub gives : GivesMore a b (flush_text p records j) before after
  pub stands : StandsFor encoder (flush_stream p (rtp_part records) j)

pub Flushed-none : (p : Protection) (a : Told) (records : List Record) (taken : Taken) (encoder : Encoder ℕ) (before : List ℕ) → Knows p records taken encoder → Flushed p a a records 0 encoder before before
Flushed-none p a records taken encoder before k = record {
  gives = GivesMore-none a before;
  stands = subst (StandsFor encoder) (sym (append-nil (source_stream p (rtp_part records)))) k.stands;
}

pub Flushed-more : (p : Protection) (a b c : Told) (records : List Record) (j room n : ℕ) (taken : Taken) (first encoder encoder' : Encoder ℕ) (before mid way after : List ℕ) → j < p.deadline → IsOf p encoder → Knows p records taken first
    → Flushed p a b records j encoder before mid → HasWay mid way b c room n
    → PutsSlot encoder encoder' (record { number = taken.rtp + j; end = j + 1; timestamp = taken.timestamp; offset = taken.offset }) (replicate (encoder.code.k * encoder.width) 0) way after
    → Flushed p a c records (j + 1) encoder' before after
Flushed-more p a b c records j room n taken first encoder encoder' before mid way after h of k x w puts =
    let rtp = rtp_part records in
    let z = zero_block p.code.k p.m in
    let xs = flush_stream p rtp j in
    let label : Label = record { number = taken.rtp + j; end = j + 1; timestamp = taken.timestamp; offset = taken.offset } in
    let blank : replicate (encoder.code.k * encoder.width) 0 ≡ replicate (p.code.k * p.m) 0 =
    ap (λ (d : Code ℕ). replicate (d.k * encoder.width) 0) of.code ∙ ap (λ v. replicate (p.code.k * v) 0) of.width in
    let text : next_text encoder.code encoder.width xs label (replicate (encoder.code.k * encoder.width) 0) ≡ slot_text p rtp (length rtp + j) =
    ap (λ (d : Code ℕ). next_text d encoder.width xs label (replicate (encoder.code.k * encoder.width) 0)) of.code
    ∙ ap (λ v. next_text p.code v xs label (replicate (encoder.code.k * encoder.width) 0)) of.width
    ∙ ap (next_text p.code p.m xs label) blank
    ∙ flush_slot p rtp j (taken.rtp + j) taken.timestamp taken.offset h (ap (λ (t : Taken). t.rtp + j) k.counts) (ap (λ (t : Taken). t.timestamp) k.counts) (ap (λ (t : Taken). t.offset) k.counts) in
    let grown : xs ++ cut encoder.code.k encoder.width (replicate (encoder.code.k * encoder.width) 0) ∷ [] ≡ flush_stream p rtp (j + 1) =
    ap (λ (d : Code ℕ). xs ++ cut d.k encoder.width (replicate (encoder.code.k * encoder.width) 0) ∷ []) of.code
    ∙ ap (λ v. xs ++ cut p.code.k v (replicate (encoder.code.k * encoder.width) 0) ∷ []) of.width
    ∙ ap (λ b. xs ++ cut p.code.k p.m b ∷ []) blank
    ∙ ap (λ b. xs ++ b ∷ []) (zero_cut p)
    ∙ append_assoc (source_stream p rtp) (replicate j z) (z ∷ [])
    ∙ ap (λ l. source_stream p rtp ++ l) (replicate-append-replicate j 1 z) in
    let more : flush_text p records (j + 1) ≡ flush_text p records j ++ slot_text p rtp (length rtp + j) =
    slots-split p rtp (length rtp) j 1 ∙ ap (λ l. flush_text p records j ++ l) (slots-one p rtp (length rtp + j)) in
    record {
      gives = subst (λ l. GivesMore a c l before after) (sym more)
          (GivesMore-push a c (flush_text p records j) before way after (slot_text p rtp (length rtp + j)) (GivesMore-way a b c (flush_text p records j) before mid way room n x.gives w)
          (puts.waits xs x.stands ∙ ap (λ l. way ++ l) text));
      stands = subst (StandsFor encoder') grown (puts.stands xs x.stands);
    }

-- a write failed before the slot of this number
pub flush_failed : (p : Protection) (a b c : Told) (records : List Record) (j : ℕ) (encoder : Encoder ℕ) (before mid after : List ℕ) → j ≤ p.deadline → Flushed p a b records j encoder before mid → FlushFailed mid after b c
    → LosesMore a c (flush_text p records p.deadline) before
flush_failed p a b c records j encoder before mid after h x f =
    let rtp = rtp_part records in
    let sum : p.deadline ≡ j + (p.deadline - j) = omega arith in
    let parts : flush_text p records p.deadline ≡ flush_text p records j ++ slots_text p rtp (length rtp + j) (p.deadline - j) =
    ap (slots_text p rtp (length rtp)) sum ∙ slots-split p rtp (length rtp) j (p.deadline - j) in
    subst (λ l. LosesMore a c l before) (sym parts) (LosesMore-way a b c (flush_text p records j) (slots_text p rtp (length rtp + j) (p.deadline - j)) before mid after x.gives f)

-- all were put, and what waits was given
pub last_given : (a b c : Told) (more before mid : List ℕ) → GivesMore a b more before mid → PutsAll b c mid → GivesMore a c more before []
last_given a b c more before mid x p = record {
  put = x.put ++ mid;
  puts = Puts-trans a b c x.put mid x.puts p.puts;
  parts = x.parts ∙ sym (append-nil (x.put ++ mid));
}

-- or a write failed
pub last_failed : (a b c : Told) (more before mid after : List ℕ) → GivesMore a b more before mid → FlushFailed mid after b c → LosesMore a c more before
last_failed a b c more before mid after x f = subst (λ l. LosesMore a c l before) (append-nil more) (LosesMore-way a b c more [] before mid after x f)
