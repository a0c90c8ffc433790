-- Repairing is a job: what is due grows with what was read, and what the input decides is none of the answers of the outside.
use Rattle.std.proofs.Common.{◌≡◌, ℕ, zero as naught, suc, ◌+◌, ◌<◌, ◌≤◌, nat_lt, nat_le, nat_eq, Bool, true, false, cond, List, [], ◌∷◌, ◌++◌, length, take, position, Option, Some, None, option_map, Err, refl, sym, ap, ◌∙◌, subst, arith, append-nil, append_assoc}
use Rattle.std.proofs.lemmas.Bool.{ltb-true, ltb-false, eqb-true}
use Rattle.std.proofs.lemmas.Option.{none-some}
use Rattle.sc_outside.specs.Ends.{IsPrefix, IsJob}
use Rattle.sc_outside.proofs.EndsLaws.{IsPrefix-refl, IsPrefix-nil, IsPrefix-trans}
use Rattle.sc_rtpdump.specs.Record.{Record, short_head, short_length, cut_body, Front, ends, breaks, starts, front_of}
use Rattle.sc_rtpdump.specs.Preamble.{IsPreamble, preamble_len}
use Rattle.sc_rtpdump.specs.Capture.{Parts, parts_of, Reading as CaptureReading, no_preamble, reads, reading_of}
use Rattle.sc_rtpdump.proofs.CaptureLaws.{reading_of-preamble, reading_of-none}
use Rattle.sc_rtpdump.proofs.GrowLaws.{parts_of-grows, begins_with}
use Rattle.sc_field.specs.Gf256.{gf256_product}
use Rattle.sc_code.specs.declared.code.CodeFile.{CodeFile}
use Rattle.sc_code.proofs.FirstBytesLaws.{option_map-some}
use Rattle.sc_slots.specs.Slot.{Slot, Reading, stranger, wrong_code, bad_shape, slot}
use Rattle.sc_slots.specs.Taken.{Taken, taken_slot, one_past}
use Rattle.sc_slots.specs.Repair.{HasNoClash}
use Rattle.sc_slots.proofs.EndLaws.{AllBelow-one_past, one_past-push}
use Rattle.sc_slots.proofs.FitLaws.{AllFrom-one}
use Rattle.sc_slots.proofs.SettledLaws.{HasNoClash-iff_consistent}
use Rattle.sc_repair.specs.declared.repair.RepairEnd.{RepairEnd}
use Rattle.sc_repair.specs.declared.repair.RepairEnd.TheVariants.{Dump, TooManyRecords, WrongCode, BadShape, TooManySlots, Unfit, Clash, BadBlock, Write, Memory}
use Rattle.sc_repair.specs.declared.repairer.Unfit.{Unfit as Misfit}
use Rattle.sc_repair.specs.RepairLaws.{IsOfInput}
use Rattle.sc_repair.specs.Values.{is_consistent}
use Rattle.sc_repair.specs.Repairing.{Refusal, slots_of, width_in, values_text, is_bad_value, first_of, bad_among, read_as, slots_in, taken_of, put_of, values_of, misfit, stop_by, stop_at, refusal_by, slot_refusal, reading_refusal, refusal, refusal_at, first_below, first_refused, values_so_far, last_values, text_by, text_so_far, preamble_of, due_at_end, due_behind, due_by, due_of, repairing}
use Rattle.sc_repair.proofs.Growth.{values_text-append, bad_behind, bad_among-behind, taken_of-push, taken_of-repeat, slots_in-push, first_refused-push, first_refused-stays, first_refused-earlier}
use Rattle.sc_repair.proofs.ValueLaws.{is_consistent-true, put_values-le, put_values-grow, put_values-later, no_clash_at_end, outcomes-begin}

-- ---- the faults of refusals

-- a record, a slot or a block is refused
abbrev pub IsRefusal : RepairEnd → Type 0
IsRefusal (Dump fault) = ⊥
IsRefusal Write = ⊥
IsRefusal Memory = ⊥
IsRefusal fault = Unit {0}

abbrev pub AreRefusals : Option Refusal → Type 0
AreRefusals None = Unit {0}
AreRefusals (Some r) = IsRefusal r.fault

first_of-are : (a b : Option Refusal) → AreRefusals a → AreRefusals b → AreRefusals (first_of a b)
first_of-are None b x y = y
first_of-are (Some r) b x y = x

cond-are : (t : Bool) (a b : Option Refusal) → AreRefusals a → AreRefusals b → AreRefusals (cond t a b)
cond-are true a b x y = x
cond-are false a b x y = y

placed-are : (values : List (Option (List (List ℕ)))) (o : Option ℕ) → AreRefusals (option_map (λ t. let r : Refusal = record { fault = BadBlock t; values = take t values } in r) o)
placed-are values None = tt
placed-are values (Some t) = tt

pub bad_among-are : (values : List (Option (List (List ℕ)))) → AreRefusals (bad_among values)
bad_among-are values = placed-are values (position is_bad_value values)

module _ (file : CodeFile) where
  stop_by-are : (m : ℕ) (taken : List (Taken ℕ)) (one : Taken ℕ) → AreRefusals (stop_by file m taken one)
  stop_by-are m taken one =
      let after = taken ++ one ∷ [] in
      first_of-are (bad_among (put_of file m taken one.number)) _ (bad_among-are (put_of file m taken one.number))
      (cond-are (is_consistent file.code.k m after (one.number + 1)) _ _ (bad_among-are (put_of file m after (one.number + 1))) tt)

  refusal_by-are : (slots : List Slot) (s : Slot) (o : Option Misfit) → AreRefusals (refusal_by file slots s o)
  refusal_by-are slots s (Some misfit) = tt
  refusal_by-are slots s None = stop_by-are s.m (taken_of file slots) (taken_slot file.code s)

  reading-are : (index : ℕ) (slots : List Slot) (reading : Reading) → AreRefusals (reading_refusal file index slots reading)
  reading-are index slots stranger = tt
  reading-are index slots wrong_code = tt
  reading-are index slots bad_shape = tt
  reading-are index slots (slot s) =
      cond-are (nat_le 4000000 s.number) _ _ tt
      (cond-are (nat_lt s.number (one_past (taken_of file slots))) _ _ tt (refusal_by-are slots s (misfit file slots s)))

  pub refusal-are : (index : ℕ) (slots : List Slot) (e : Record) → AreRefusals (refusal file index slots e)
  unfolding refusal
  refusal-are index slots e = cond-are (nat_le 8000000 index) _ _ tt (reading-are index slots (read_as file e))

  first_below-are : (records : List Record) (n : ℕ) → AreRefusals (first_below file records n)
  first_below-are records naught = tt
  first_below-are records (suc n) = first_of-are (first_below file records n) (refusal_at file records n) (first_below-are records n) (refusal-are n _ _)

  pub refusal-fault : (index : ℕ) (slots : List Slot) (e : Record) (r : Refusal) → refusal file index slots e ≡ Some r → IsRefusal r.fault
  refusal-fault index slots e r is = subst AreRefusals is (refusal-are index slots e)

-- ---- prefixes

pub IsPrefix-front : (front a b : List ℕ) → IsPrefix a b → IsPrefix (front ++ a) (front ++ b)
IsPrefix-front front a b x = record { rest = x.rest; parts = ap (λ l. front ++ l) x.parts ∙ sym (append_assoc front a x.rest) }

text-begins : (a rest : List (Option (List (List ℕ)))) → IsPrefix (values_text a) (values_text (a ++ rest))
text-begins a rest = record { rest = values_text rest; parts = values_text-append a rest }

-- up to the first bad block among values that begin with good ones
bad-begins : (a rest : List (Option (List (List ℕ)))) (r : Refusal) → bad_among a ≡ None → bad_among (a ++ rest) ≡ Some r → IsPrefix (values_text a) (values_text r.values)
bad-begins a rest r good is =
    let mapped = option_map-some (bad_behind a rest) (position is_bad_value rest) r (sym (bad_among-behind a rest good) ∙ is) in
    subst (λ (x : Refusal). IsPrefix (values_text a) (values_text x.values)) mapped.is (text-begins a (take mapped.from rest))

-- ---- what is put out of taken slots

first_none : (a b : Option Refusal) → first_of a b ≡ None → (a ≡ None) × (b ≡ None)
first_none None b h = (refl, h)
first_none (Some r) b h = absurd (none-some r (sym h))

no_values : (a : List (Option (List (List ℕ)))) → length a ≤ 0 → a ≡ []
no_values [] le = refl
no_values (x ∷ a) le = absurd (omega arith)

module _ (file : CodeFile) where
  abbrev pub values_at : ℕ → List (Taken ℕ) → List (Option (List (List ℕ)))
  values_at m taken = put_of file m taken (one_past taken)

  abbrev pub NoClash : ℕ → List (Taken ℕ) → ℕ → Type 0
  NoClash m taken w = HasNoClash 0 gf256_product file.code.k m taken w

  -- some stream fits these taken slots, and none of the blocks that are put out is bad
  abbrev pub IsGood : ℕ → List (Taken ℕ) → Type 0
  IsGood m taken = NoClash m taken (one_past taken) × (bad_among (values_at m taken) ≡ None)

  pub values_at-none : (m : ℕ) → values_at m [] ≡ []
  values_at-none m = no_values (values_at m []) (put_values-le file.code.k m file.channel.t [] 0)

  good-none : (m : ℕ) → IsGood m []
  good-none m = (λ u lt. absurd (omega arith), ap bad_among (values_at-none m))

  -- A text is at the front of what is put out, up to a refusal; and where there is none, what is taken then is good.
  abbrev pub Follows : List ℕ → ℕ → List (Taken ℕ) → Option Refusal → Type 0
  Follows text m taken (Some r) = IsPrefix text (values_text r.values)
  Follows text m taken None = IsGood m taken × IsPrefix text (values_text (values_at m taken))

  module _ (text : List ℕ) (m : ℕ) (taken : List (Taken ℕ)) where
    follows-cond : (t : Bool) (a b : Option Refusal) → (t ≡ true → Follows text m taken a) → (t ≡ false → Follows text m taken b) → Follows text m taken (cond t a b)
    follows-cond true a b x y = x refl
    follows-cond false a b x y = y refl

    follows-first : (a b : Option Refusal) → ((r : Refusal) → a ≡ Some r → IsPrefix text (values_text r.values)) → (a ≡ None → Follows text m taken b) → Follows text m taken (first_of a b)
    follows-first None b x y = y refl
    follows-first (Some r) b x y = x r refl

    follows-last : (a : Option Refusal) → ((r : Refusal) → a ≡ Some r → IsPrefix text (values_text r.values)) → (a ≡ None → Follows text m taken None) → Follows text m taken a
    follows-last None x y = y refl
    follows-last (Some r) x y = x r refl

  -- one slot more is taken
  stop-follows : (m : ℕ) (taken : List (Taken ℕ)) (one : Taken ℕ) → IsGood m taken → one_past taken ≤ one.number → Follows (values_text (values_at m taken)) m (taken ++ one ∷ []) (stop_by file m taken one)
  stop-follows m taken one good above =
      let k = file.code.k in
      let t = file.channel.t in
      let w = one.number in
      let now = values_at m taken in
      let after = taken ++ one ∷ [] in
      let before_none : NoClash m taken one.number = no_clash_at_end k m t taken (one_past taken) w (AllBelow-one_past taken) good.0 in
      let grown = put_values-grow k m t taken (one_past taken) w above before_none in
      let past : one_past (taken ++ one ∷ []) ≡ one.number + 1 = one_past-push taken one ∙ omega (arith, above) in
      follows-first (values_text now) m after (bad_among (put_of file m taken w)) _
      (λ r is. bad-begins now grown.0 r good.1 (ap bad_among (sym grown.1) ∙ is))
      (λ none. follows-cond (values_text now) m after (is_consistent k m after (w + 1)) _ _
      (λ yes.
      let fine : NoClash m (taken ++ one ∷ []) (one.number + 1) = (HasNoClash-iff_consistent 0 gf256_product k m after (w + 1)).1 (is_consistent-true k m after (w + 1) yes) in
      let more = put_values-grow k m t after w (w + 1) (omega arith) fine in
      let whole : put_of file m (taken ++ one ∷ []) (one.number + 1) ≡ now ++ (grown.0 ++ more.0) =
      more.1 ∙ ap (λ l. l ++ more.0) (put_values-later k m t taken (one ∷ []) w (AllFrom-one one w (omega arith)) before_none ∙ grown.1) ∙ append_assoc now grown.0 more.0 in
      follows-last (values_text now) m after (bad_among (put_of file m after (w + 1)))
      (λ r is. bad-begins now (grown.0 ++ more.0) r good.1 (ap bad_among (sym whole) ∙ is))
      (λ fits. (
        (subst (NoClash m after) (sym past) fine, ap (λ (n : ℕ). bad_among (put_of file m after n)) past ∙ fits),
        subst (λ (l : List (Option (List (List ℕ)))). IsPrefix (values_text now) (values_text l)) (sym whole ∙ ap (put_of file m after) (sym past)) (text-begins now (grown.0 ++ more.0)),
      )))
      (λ no. subst (λ (l : List (Option (List (List ℕ)))). IsPrefix (values_text now) (values_text l)) (sym grown.1) (text-begins now grown.0)))

  -- ---- slots and records

  -- some stream fits the taken ones of these slots, and none of the blocks that are put out is bad
  abbrev pub AreGood : List Slot → Type 0
  AreGood slots = IsGood (width_in slots) (taken_of file slots)

  -- what is put out of slots is at the front of what is put out of more
  abbrev pub Goes : List Slot → List Slot → Option Refusal → Type 0
  Goes slots after o = Follows (values_text (values_of file slots)) (width_in after) (taken_of file after) o

  width-same : (slots : List Slot) (s : Slot) → 0 < one_past (taken_of file slots) → width_in (slots ++ s ∷ []) ≡ width_in slots
  width-same [] s some = absurd (omega arith)
  width-same (first ∷ slots) s some = refl

  repeat-goes : (slots : List Slot) (s : Slot) → AreGood slots → s.number < one_past (taken_of file slots) → Goes slots (slots ++ s ∷ []) None
  repeat-goes slots s good below =
      let width = width-same slots s (omega arith) in
      let same = taken_of-repeat file slots s below in
      let text = values_text (values_of file slots) in
      subst (λ (m : ℕ). Follows text m (taken_of file (slots ++ s ∷ [])) None) (sym width)
      (subst (λ (l : List (Taken ℕ)). Follows text (width_in slots) l None) (sym same) (good, IsPrefix-refl text))

  misfit-width : (a b : Bool) (x y : Misfit) → cond a (cond b None (Some x)) (Some y) ≡ None → a ≡ true
  misfit-width true b x y h = refl
  misfit-width false b x y h = absurd (none-some y (sym h))

  taken-goes : (slots : List Slot) (s : Slot) → AreGood slots → one_past (taken_of file slots) ≤ s.number → s.m ≡ width_in (slots ++ s ∷ []) → Goes slots (slots ++ s ∷ []) (stop_at file slots s)
  taken-goes slots s good above width =
      let text = values_text (values_of file slots) in
      let one = taken_slot file.code s in
      let here = at_width slots width good in
      let next = stop-follows s.m (taken_of file slots) one here.0 above in
      subst (λ (l : List ℕ). Follows l (width_in (slots ++ s ∷ [])) (taken_of file (slots ++ s ∷ [])) (stop_at file slots s)) here.1
      (subst (λ (m : ℕ). Follows (values_text (values_at s.m (taken_of file slots))) m (taken_of file (slots ++ s ∷ [])) (stop_at file slots s)) width
      (subst (λ (l : List (Taken ℕ)). Follows (values_text (values_at s.m (taken_of file slots))) s.m l (stop_at file slots s)) (sym (taken_of-push file slots s above)) next))
    where
      at_width : (slots : List Slot) → s.m ≡ width_in (slots ++ s ∷ []) → AreGood slots → IsGood s.m (taken_of file slots) × (values_text (values_at s.m (taken_of file slots)) ≡ values_text (values_of file slots))
      at_width [] e g = (good-none s.m, ap values_text (values_at-none s.m ∙ sym (values_at-none 0)))
      at_width (first ∷ slots) e g =
          (subst (λ (m : ℕ). IsGood m (taken_of file (first ∷ slots))) (sym e) g, ap (λ (m : ℕ). values_text (values_at m (taken_of file (first ∷ slots)))) e)

  fitting-goes : (slots : List Slot) (s : Slot) (o : Option Misfit) → misfit file slots s ≡ o → AreGood slots → one_past (taken_of file slots) ≤ s.number → Goes slots (slots ++ s ∷ []) (refusal_by file slots s o)
  fitting-goes slots s (Some why) is good above = IsPrefix-refl (values_text (values_of file slots))
  fitting-goes slots s None is good above =
      taken-goes slots s good above (eqb-true s.m (width_in (slots ++ s ∷ [])) (misfit-width (nat_eq s.m (width_in (slots ++ s ∷ []))) _ _ _ is))

  slot-goes : (slots : List Slot) (s : Slot) → AreGood slots → Goes slots (slots ++ s ∷ []) (slot_refusal file slots s)
  slot-goes slots s good =
      let text = values_text (values_of file slots) in
      let after = slots ++ s ∷ [] in
      let past = one_past (taken_of file slots) in
      follows-cond text (width_in after) (taken_of file after) (nat_le 4000000 s.number) _ _ (λ many. IsPrefix-refl text)
      (λ few. follows-cond text (width_in after) (taken_of file after) (nat_lt s.number past) _ _ (λ yes. repeat-goes slots s good (ltb-true s.number past yes))
      (λ no. fitting-goes slots s (misfit file slots s) refl good (ltb-false s.number past no)))

  reading-goes : (index : ℕ) (slots : List Slot) (reading : Reading) → AreGood slots → Goes slots (slots ++ slots_of reading) (reading_refusal file index slots reading)
  reading-goes index slots stranger good =
      let text = values_text (values_of file slots) in
      subst (λ (l : List Slot). Goes slots l None) (sym (append-nil slots)) (good, IsPrefix-refl text)
  reading-goes index slots wrong_code good = IsPrefix-refl (values_text (values_of file slots))
  reading-goes index slots bad_shape good = IsPrefix-refl (values_text (values_of file slots))
  reading-goes index slots (slot s) good = slot-goes slots s good

  record-goes : (index : ℕ) (slots : List Slot) (e : Record) → AreGood slots → Goes slots (slots ++ slots_of (read_as file e)) (refusal file index slots e)
  unfolding refusal
  record-goes index slots e good =
      let text = values_text (values_of file slots) in
      let after = slots ++ slots_of (read_as file e) in
      follows-cond text (width_in after) (taken_of file after) (nat_le 8000000 index) _ _ (λ many. IsPrefix-refl text) (λ few. reading-goes index slots (read_as file e) good)

  -- one record more
  push-goes : (records : List Record) (e : Record) → AreGood (slots_in file records) → Goes (slots_in file records) (slots_in file (records ++ e ∷ [])) (refusal file (length records) (slots_in file records) e)
  push-goes records e good =
      subst (λ (l : List Slot). Goes (slots_in file records) l (refusal file (length records) (slots_in file records) e)) (sym (slots_in-push file records e))
      (record-goes (length records) (slots_in file records) e good)

  -- where the records before it aren't refused, it decides
  pub push-refused : (records : List Record) (e : Record) → first_refused file records ≡ None → first_refused file (records ++ e ∷ []) ≡ refusal file (length records) (slots_in file records) e
  push-refused records e none = first_refused-push file records e ∙ ap (λ (o : Option Refusal). first_of o (refusal file (length records) (slots_in file records) e)) none

  good_along : (done more : List Record) → AreGood (slots_in file done) → first_refused file done ≡ None → first_refused file (done ++ more) ≡ None → AreGood (slots_in file (done ++ more))
  good_along done [] good ok none = subst (λ (l : List Record). AreGood (slots_in file l)) (sym (append-nil done)) good
  good_along done (e ∷ more) good ok none =
      let same = append_assoc done (e ∷ []) more in
      let all : first_refused file ((done ++ e ∷ []) ++ more) ≡ None = ap (first_refused file) same ∙ none in
      let next = first_refused-earlier file (done ++ e ∷ []) more all in
      let goes = subst (Goes (slots_in file done) (slots_in file (done ++ e ∷ []))) (sym (push-refused done e ok) ∙ next) (push-goes done e good) in
      subst (λ (l : List Record). AreGood (slots_in file l)) same (good_along (done ++ e ∷ []) more goes.0 next all)

  -- records none of which is refused
  pub records-good : (records : List Record) → first_refused file records ≡ None → AreGood (slots_in file records)
  records-good records none = good_along [] records (good-none 0) refl none

  -- what is due once they came is at the front of what is due once more came
  text_along : (done more : List Record) (o : Option Refusal) → AreGood (slots_in file done) → first_refused file done ≡ None → first_refused file (done ++ more) ≡ o
      → IsPrefix (values_text (values_so_far file done)) (text_by file (done ++ more) o)
  text_along done [] None good ok is = subst (λ (l : List Record). IsPrefix (values_text (values_so_far file done)) (values_text (values_so_far file l))) (sym (append-nil done)) (IsPrefix-refl _)
  text_along done [] (Some r) good ok is = absurd (none-some r (sym ok ∙ ap (first_refused file) (sym (append-nil done)) ∙ is))
  text_along done (e ∷ more) o good ok is =
      let same = append_assoc done (e ∷ []) more in
      let all : first_refused file ((done ++ e ∷ []) ++ more) ≡ o = ap (first_refused file) same ∙ is in
      subst (λ (l : List Record). IsPrefix (values_text (values_so_far file done)) (text_by file l o)) same
      (step (refusal file (length done) (slots_in file done) e) (push-refused done e ok) all (push-goes done e good)
      (λ next_good next. text_along (done ++ e ∷ []) more o next_good next all))
    where
      step : (r : Option Refusal) → first_refused file (done ++ e ∷ []) ≡ r → first_refused file ((done ++ e ∷ []) ++ more) ≡ o → Goes (slots_in file done) (slots_in file (done ++ e ∷ [])) r
          → (AreGood (slots_in file (done ++ e ∷ [])) → first_refused file (done ++ e ∷ []) ≡ None
          → IsPrefix (values_text (values_so_far file (done ++ e ∷ []))) (text_by file ((done ++ e ∷ []) ++ more) o))
          → IsPrefix (values_text (values_so_far file done)) (text_by file ((done ++ e ∷ []) ++ more) o)
      step (Some r) next all goes later =
          subst (λ (x : Option Refusal). IsPrefix (values_text (values_so_far file done)) (text_by file ((done ++ e ∷ []) ++ more) x)) (sym (first_refused-stays file (done ++ e ∷ []) more r next) ∙ all) goes
      step None next all goes later = IsPrefix-trans _ _ _ goes.1 (later goes.0 next)

  -- what is put out by then is at the front of what is left of all
  last-begins : (records : List Record) → first_refused file records ≡ None
      → (rest : List (Option (List (List ℕ)))) × (last_values file (slots_in file records) ≡ values_so_far file records ++ rest)
  last-begins records none =
      let slots = slots_in file records in
      let taken = taken_of file slots in
      let good = records-good records none in
      outcomes-begin file.code.k (width_in slots) file.channel.t taken (one_past taken) (AllBelow-one_past taken) good.0

  last-grows : (preamble : List ℕ) (records : List Record) (o : Option Refusal) → first_refused file records ≡ None → bad_among (last_values file (slots_in file records)) ≡ o
      → IsPrefix (preamble ++ values_text (values_so_far file records)) (due_at_end file preamble records o).text
  last-grows preamble records (Some r) none is =
      let last = last-begins records none in
      IsPrefix-front preamble _ _ (bad-begins (values_so_far file records) last.0 r (records-good records none).1 (ap bad_among (sym last.1) ∙ is))
  last-grows preamble records None none is =
      let last = last-begins records none in
      IsPrefix-front preamble _ _ (subst (λ (l : List (Option (List (List ℕ)))). IsPrefix (values_text (values_so_far file records)) (values_text l)) (sym last.1) (text-begins (values_so_far file records) last.0))

  behind-grows : (preamble : List ℕ) (records : List Record) (front : Front) → first_refused file records ≡ None
      → IsPrefix (preamble ++ values_text (values_so_far file records)) (due_behind file preamble records front).text
  behind-grows preamble records (breaks break) none = IsPrefix-refl _
  behind-grows preamble records ends none = last-grows preamble records (bad_among (last_values file (slots_in file records))) none refl
  behind-grows preamble records (starts e rest) none = last-grows preamble records (bad_among (last_values file (slots_in file records))) none refl

  -- ---- repairing is a job

  more-grows : (preamble : List ℕ) (records more : List Record) (tail : List ℕ) (o p : Option Refusal) → first_refused file records ≡ o → first_refused file (records ++ more) ≡ p
      → IsPrefix (preamble ++ text_by file records o) (due_by file preamble (record { records = records ++ more; tail = tail }) p).text
  more-grows preamble records more tail (Some r) p is all =
      subst (λ (x : Option Refusal). IsPrefix (preamble ++ values_text r.values) (due_by file preamble (record { records = records ++ more; tail = tail }) x).text) (sym (first_refused-stays file records more r is) ∙ all) (IsPrefix-refl _)
  more-grows preamble records more tail None (Some r) is all =
      IsPrefix-front preamble _ _ (text_along records more (Some r) (records-good records is) is all)
  more-grows preamble records more tail None None is all =
      IsPrefix-trans _ _ _ (IsPrefix-front preamble _ _ (text_along records more None (records-good records is) is all)) (behind-grows preamble (records ++ more) (front_of tail) all)

  parts-grow : (preamble : List ℕ) (before after : Parts) (more : List Record) → after.records ≡ before.records ++ more
      → IsPrefix (preamble ++ text_by file before.records (first_refused file before.records)) (due_by file preamble after (first_refused file after.records)).text
  parts-grow preamble before after more e =
      let text = preamble ++ text_by file before.records (first_refused file before.records) in
      subst (λ (l : List Record). IsPrefix text (due_by file preamble (record { records = l; tail = after.tail }) (first_refused file l)).text) (sym e)
      (more-grows preamble before.records more after.tail (first_refused file before.records) (first_refused file (before.records ++ more)) refl refl)

  text_behind : (pre xs ys : List ℕ) → IsPreamble pre → IsPrefix (text_so_far file (reading_of (pre ++ xs))) (due_of file (reading_of ((pre ++ xs) ++ ys))).text
  text_behind pre xs ys h =
      let more = parts_of-grows xs ys in
      let before : text_so_far file (reading_of (pre ++ xs)) ≡ pre ++ text_by file (parts_of xs).records (first_refused file (parts_of xs).records) = ap (text_so_far file) (reading_of-preamble pre xs h) in
      let after : (due_of file (reading_of ((pre ++ xs) ++ ys))).text ≡ (due_by file pre (parts_of (xs ++ ys)) (first_refused file (parts_of (xs ++ ys)).records)).text =
      ap (λ l. (due_of file (reading_of l)).text) (append_assoc pre xs ys) ∙ ap (λ r. (due_of file r).text) (reading_of-preamble pre (xs ++ ys) h) in
      subst (λ l. IsPrefix l (due_of file (reading_of ((pre ++ xs) ++ ys))).text) (sym before)
      (subst (IsPrefix (pre ++ text_by file (parts_of xs).records (first_refused file (parts_of xs).records))) (sym after) (parts-grow pre (parts_of xs) (parts_of (xs ++ ys)) more.0 more.1))

  text_grows : (taken rest : List ℕ) (place : Option ℕ) → preamble_len taken ≡ place → IsPrefix (text_so_far file (reading_of taken)) (due_of file (reading_of (taken ++ rest))).text
  text_grows taken rest None e =
      subst (λ r. IsPrefix (text_so_far file r) (due_of file (reading_of (taken ++ rest))).text) (sym (reading_of-none taken e)) (IsPrefix-nil _)
  text_grows taken rest (Some n) e =
      let b = begins_with taken n e in
      subst (λ l. IsPrefix (text_so_far file (reading_of l)) (due_of file (reading_of (l ++ rest))).text) (sym b.parts) (text_behind b.preamble b.rest rest b.is)

  -- the preamble comes first in all that is due
  at_end-spares : (preamble : List ℕ) (records : List Record) (o : Option Refusal) → IsPrefix preamble (due_at_end file preamble records o).text
  at_end-spares preamble records (Some r) = record { rest = values_text r.values; parts = refl }
  at_end-spares preamble records None = record { rest = values_text (last_values file (slots_in file records)); parts = refl }

  behind-spares : (preamble : List ℕ) (records : List Record) (front : Front) → IsPrefix preamble (due_behind file preamble records front).text
  behind-spares preamble records (breaks break) = record { rest = values_text (values_so_far file records); parts = refl }
  behind-spares preamble records ends = at_end-spares preamble records _
  behind-spares preamble records (starts e rest) = at_end-spares preamble records _

  by-spares : (preamble : List ℕ) (parts : Parts) (o : Option Refusal) → IsPrefix preamble (due_by file preamble parts o).text
  by-spares preamble parts (Some r) = record { rest = values_text r.values; parts = refl }
  by-spares preamble parts None = behind-spares preamble parts.records (front_of parts.tail)

  spared_behind : (pre xs ys : List ℕ) → IsPreamble pre → IsPrefix (preamble_of file (reading_of (pre ++ xs))) (due_of file (reading_of ((pre ++ xs) ++ ys))).text
  spared_behind pre xs ys h =
      let parts = parts_of (xs ++ ys) in
      let after : (due_of file (reading_of ((pre ++ xs) ++ ys))).text ≡ (due_by file pre (parts_of (xs ++ ys)) (first_refused file (parts_of (xs ++ ys)).records)).text =
      ap (λ l. (due_of file (reading_of l)).text) (append_assoc pre xs ys) ∙ ap (λ r. (due_of file r).text) (reading_of-preamble pre (xs ++ ys) h) in
      subst (λ l. IsPrefix l (due_of file (reading_of ((pre ++ xs) ++ ys))).text) (sym (ap (preamble_of file) (reading_of-preamble pre xs h)))
      (subst (IsPrefix pre) (sym after) (by-spares pre parts (first_refused file parts.records)))

  spares_by : (taken rest : List ℕ) (place : Option ℕ) → preamble_len taken ≡ place → IsPrefix (preamble_of file (reading_of taken)) (due_of file (reading_of (taken ++ rest))).text
  spares_by taken rest None e =
      subst (λ r. IsPrefix (preamble_of file r) (due_of file (reading_of (taken ++ rest))).text) (sym (reading_of-none taken e)) (IsPrefix-nil _)
  spares_by taken rest (Some n) e =
      let b = begins_with taken n e in
      subst (λ l. IsPrefix (preamble_of file (reading_of l)) (due_of file (reading_of (l ++ rest))).text) (sym b.parts) (spared_behind b.preamble b.rest rest b.is)

  pub repairing-IsJob : IsJob (repairing file)
  repairing-IsJob = record {
    grows = λ taken rest. text_grows taken rest (preamble_len taken) refl;
    spares = λ taken rest. spares_by taken rest (preamble_len taken) refl;
  }

  -- ---- what the input decides

  refusal_decided : (fault : RepairEnd) → IsRefusal fault → IsOfInput (Err fault)
  refusal_decided (Dump fault) h = absurd h
  refusal_decided TooManyRecords h = tt
  refusal_decided (WrongCode i) h = tt
  refusal_decided (BadShape i) h = tt
  refusal_decided (TooManySlots i) h = tt
  refusal_decided (Unfit why) h = tt
  refusal_decided (Clash i) h = tt
  refusal_decided (BadBlock i) h = tt
  refusal_decided Write h = absurd h
  refusal_decided Memory h = absurd h

  at_end_decided : (preamble : List ℕ) (records : List Record) (o : Option Refusal) → AreRefusals o → IsOfInput (due_at_end file preamble records o).answer
  at_end_decided preamble records None h = tt
  at_end_decided preamble records (Some r) h = refusal_decided r.fault h

  behind_decided : (preamble : List ℕ) (records : List Record) (front : Front) → IsOfInput (due_behind file preamble records front).answer
  behind_decided preamble records (breaks short_head) = tt
  behind_decided preamble records (breaks short_length) = tt
  behind_decided preamble records (breaks cut_body) = tt
  behind_decided preamble records ends = at_end_decided preamble records _ (bad_among-are (last_values file (slots_in file records)))
  behind_decided preamble records (starts e rest) = at_end_decided preamble records _ (bad_among-are (last_values file (slots_in file records)))

  by_decided : (preamble : List ℕ) (parts : Parts) (o : Option Refusal) → AreRefusals o → IsOfInput (due_by file preamble parts o).answer
  by_decided preamble parts None h = behind_decided preamble parts.records (front_of parts.tail)
  by_decided preamble parts (Some r) h = refusal_decided r.fault h

  of_decided : (reading : CaptureReading) → IsOfInput (due_of file reading).answer
  of_decided no_preamble = tt
  of_decided (reads preamble parts) = by_decided preamble parts (first_refused file parts.records) (first_below-are file parts.records (length parts.records))

  pub repairing-decided : (input : List ℕ) → IsOfInput ((repairing file).whole input).answer
  repairing-decided input = of_decided (reading_of input)
