-- Restoration: where a code meets its channel, every block that was sent is recovered from what an admissible loss leaves,
-- and the end is known.
use Rattle.std.proofs.Common.{◌≡◌, ℕ, zero as nought, suc, ◌+◌, ◌-◌, ◌<◌, ◌≤◌, ◌⊎◌, Bool, true, false, List, [], ◌∷◌, ◌++◌, length, take, drop, refl, sym, ap, ◌∙◌, subst, arith, inl, inr}
use Rattle.std.proofs.lemmas.List.{length-take-le, length-drop, get_or-take, get_or-drop, take-append-drop, append-nil}
use Rattle.sc_channel.specs.Channel.{ChannelNumbers, IsOrdered}
use Rattle.sc_channel.specs.Flags.{IsSet, set_count}
use Rattle.sc_channel.specs.Loss.{IsFine, few, close, IsAdmissible}
use Rattle.sc_channel.proofs.FineLaws.{IsAdmissible-part}
use Rattle.sc_channel.proofs.SetCountSteps.{set_count-cons}
use Rattle.sc_channel.proofs.SpanSteps.{span-le}
use Rattle.sc_code.specs.Code.{Code}
use Rattle.sc_code.specs.Stream.{IsStream, block_at}
use Rattle.sc_code.specs.Determined.{IsKept, IsSameSlot, Meets}
use Rattle.sc_code.proofs.MeetsLaws.{IsKept-in_range}
use Rattle.sc_slots.specs.Taken.{Taken}
use Rattle.sc_slots.specs.Repair.{Fits, HasNoClash, IsRecovered}
use Rattle.sc_slots.specs.Sent.{AreLeft, HasEnds, flushed, IsDeterminedBy, IsSentOver}
use Rattle.sc_slots.proofs.FitLaws.{IsStream-take, block_at-take, IsMatch-take}

-- ---- what was sent fits
module _ {A : Type 0} (zero : A) (act : A → ℕ → ℕ) (k m : ℕ) where
  pub Fits-sent : (rule : ℕ → Code A) (loss : List Bool) (sent : List (List (List ℕ))) (taken : List (Taken A)) (v : ℕ) → IsStream k m sent → AreLeft zero act rule m loss sent taken → v ≤ length sent → Fits zero act k m taken v (take v sent)
  Fits-sent rule loss sent taken v hs left le =
      record {
        is_stream = IsStream-take k m v sent hs;
        count = length-take-le v sent le;
        slots = λ slot c lt. IsMatch-take zero act m v sent slot lt (left.are_sent slot c);
      }

  -- no slot of it clashes
  pub HasNoClash-sent : (rule : ℕ → Code A) (loss : List Bool) (sent : List (List (List ℕ))) (taken : List (Taken A)) (w : ℕ) → IsStream k m sent → length loss ≡ length sent → AreLeft zero act rule m loss sent taken → HasNoClash zero act k m taken w
  HasNoClash-sent rule loss sent taken w hs e left u lt here =
      let within : here.0.number < length loss = IsKept-in_range loss here.0.number (left.are_kept here.0 here.1) in
      let at : here.0.number ≡ u = here.2 in
      (take (u + 1) sent, Fits-sent rule loss sent taken (u + 1) hs left (omega arith))

  -- two streams that fit have the same slot i where it is taken, by the rule's code
  same_slot_of_taken : (rule : ℕ → Code A) (loss : List Bool) (sent xs ys : List (List (List ℕ))) (taken : List (Taken A)) (v i : ℕ) → AreLeft zero act rule m loss sent taken
      → Fits zero act k m taken v xs → Fits zero act k m taken v ys → i < v → IsKept loss i → IsSameSlot zero act (rule i) m xs ys i
  same_slot_of_taken rule loss sent xs ys taken v i left fx fy lt kept =
      let here = left.all_taken i kept in
      let s : Taken A = here.0 in
      let at : s.number ≡ i = here.2 in
      let mx = fx.slots s here.1 (omega arith) in
      let my = fy.slots s here.1 (omega arith) in
      let by_own : IsSameSlot zero act s.code m xs ys s.number = record { same_block = mx.same_block ∙ sym my.same_block; same_parity = mx.same_parity ∙ sym my.same_parity } in
      let by_rule : IsSameSlot zero act (rule s.number) m xs ys s.number = subst (λ (code : Code A). IsSameSlot zero act code m xs ys s.number) (left.by_rule s here.1) by_own in
      subst (λ (n : ℕ). IsSameSlot zero act (rule n) m xs ys n) at by_rule

  -- A block is recovered where the kept slots up to its deadline determine it, whatever code each slot has.
  pub recovered_where_determined : (rule : ℕ → Code A) (deadline : ℕ) (loss : List Bool) (sent : List (List (List ℕ))) (taken : List (Taken A)) (t : ℕ) → IsStream k m sent → AreLeft zero act rule m loss sent taken → t + deadline < length sent
      → IsDeterminedBy zero act rule k m deadline loss t → IsRecovered zero act k m deadline taken t (block_at sent t)
  recovered_where_determined rule deadline loss sent taken t hs left lt determined =
      let v : ℕ = t + deadline + 1 in
      let fs : Fits zero act k m taken (t + deadline + 1) (take (t + deadline + 1) sent) = Fits-sent rule loss sent taken (t + deadline + 1) hs left (omega arith) in
      record {
        consistent = (take (t + deadline + 1) sent, fs);
        all_have = λ stream f.
            determined stream (take (t + deadline + 1) sent) f.is_stream fs.is_stream f.count fs.count
            (λ i le kept. same_slot_of_taken rule loss sent stream (take (t + deadline + 1) sent) taken (t + deadline + 1) i left f fs (omega arith) kept)
            ∙ block_at-take (t + deadline + 1) sent t (omega arith);
      }

-- ---- admissible losses

-- the front of an admissible loss is admissible
pub IsAdmissible-take : (channel : ChannelNumbers) (v : ℕ) (loss : List Bool) → IsAdmissible channel loss → IsAdmissible channel (take v loss)
IsAdmissible-take channel v loss admissible =
    IsAdmissible-part channel [] (take v loss) (drop v loss) (subst (IsAdmissible channel) (sym (take-append-drop v loss)) admissible)

-- some flag isn't set, or all are
find_kept : (flags : List Bool) → ((i : ℕ) × IsKept flags i) ⊎ ((set_count flags ≡ length flags) × ((i : ℕ) → i < length flags → IsSet flags i))
find_kept [] = inr (refl, λ i lt. absurd (omega arith))
find_kept (false ∷ flags) = inl (0, refl)
find_kept (true ∷ flags) =
    elim (find_kept flags) [
      | inl later ↦ inl (suc later.0, later.1)
      | inr all ↦ (
          let count : set_count flags ≡ length flags = all.0 in
          inr (omega (arith, set_count-cons true flags), λ i. elim i as (λ i. i < length (true ∷ flags) → IsSet (true ∷ flags) i) [ nought ↦ λ _. refl | suc j ↦ λ lt. all.1 j (omega arith) ]))
    ]

-- No admissible loss has all of deadline + 1 flags in a row set.
some_kept : (channel : ChannelNumbers) (part : List Bool) → IsOrdered channel.w channel.b channel.n channel.t → length part ≡ channel.t + 1 → IsFine channel.b channel.n part → (i : ℕ) × IsKept part i
some_kept channel part ordered e fine =
    elim (find_kept part) [
      | inl found ↦ found
      | inr all ↦ absurd (all_set channel part ordered e fine all.0 all.1)
    ]
  where
    all_set : (channel : ChannelNumbers) (part : List Bool) → IsOrdered channel.w channel.b channel.n channel.t → length part ≡ channel.t + 1 → IsFine channel.b channel.n part → set_count part ≡ length part → ((i : ℕ) → i < length part → IsSet part i) → ⊥
    all_set channel part ordered e (few h) count set = let c = ordered.count_in_span in let d = ordered.span_in_deadline in omega arith
    all_set channel part ordered e (close h) count set =
        let c = ordered.span_in_deadline in
        let last : channel.t < 0 + channel.b = (span-le channel.b part).0 h 0 channel.t (set 0 (omega arith)) (set channel.t (omega arith)) in
        omega arith

-- the flags from s on, where they are deadline + 1
kept_from : (channel : ChannelNumbers) (loss : List Bool) (s : ℕ) → IsOrdered channel.w channel.b channel.n channel.t → IsAdmissible channel loss → length (drop s loss) ≡ channel.t + 1 → (i : ℕ) × IsKept (drop s loss) i
kept_from channel loss s ordered admissible n =
    let window = ordered.deadline_in_window in
    let whole : take s loss ++ (drop s loss ++ []) ≡ loss = ap (λ rest. take s loss ++ rest) (append-nil (drop s loss)) ∙ take-append-drop s loss in
    some_kept channel (drop s loss) ordered n (admissible.part_is_fine (take s loss) (drop s loss) [] whole (omega arith))

IsKept-from_drop : (s : ℕ) (loss : List Bool) (i : ℕ) → IsKept (drop s loss) i → IsKept loss (s + i)
IsKept-from_drop s loss i kept = sym (get_or-drop s loss i true) ∙ kept

-- So where there is a last source block, it arrives, or one of the flush slots does.
pub end_arrives : (channel : ChannelNumbers) (loss : List Bool) (blocks : ℕ) → IsOrdered channel.w channel.b channel.n channel.t → IsAdmissible channel loss → length loss ≡ blocks + channel.t → 1 ≤ blocks
    → (u : ℕ) × (blocks ≤ u + 1) × IsKept loss u
end_arrives channel loss blocks ordered admissible e some =
    let found : (i : ℕ) × IsKept (drop (blocks - 1) loss) i = kept_from channel loss (blocks - 1) ordered admissible (omega (arith, length-drop (blocks - 1) loss)) in
    (blocks - 1 + found.0, omega arith, IsKept-from_drop (blocks - 1) loss found.0 found.1)

-- ---- a code that meets its channel
module _ {A : Type 0} (zero : A) (act : A → ℕ → ℕ) where
  -- It determines every block under every admissible loss that goes to the block's deadline.
  pub determined_where_met : (code : Code A) (channel : ChannelNumbers) (m : ℕ) (loss : List Bool) (t : ℕ) → Meets zero act code channel → IsAdmissible channel loss → 1 ≤ m → t + channel.t < length loss → IsDeterminedBy zero act (λ i. code) code.k m channel.t loss t
  determined_where_met code channel m loss t meets admissible some lt xs ys hx hy lx ly same =
      meets t (take (t + channel.t + 1) loss) (length-take-le (t + channel.t + 1) loss (omega arith)) (IsAdmissible-take channel (t + channel.t + 1) loss admissible) m some xs ys hx hy lx ly
      (λ i le kept. same i le (sym (get_or-take (t + channel.t + 1) loss i true (omega arith)) ∙ kept))

  -- So what is sent in a code that meets its channel comes over it.
  pub IsSentOver-met : (code : Code A) (channel : ChannelNumbers) (m : ℕ) (blocks : List (List (List ℕ))) (loss : List Bool) (taken : List (Taken A)) → Meets zero act code channel → IsOrdered channel.w channel.b channel.n channel.t → 1 ≤ m
      → IsStream code.k m blocks → IsAdmissible channel loss → length loss ≡ length blocks + channel.t → AreLeft zero act (λ i. code) m loss (flushed code.k m channel.t blocks) taken → HasEnds (length blocks) taken
      → IsSentOver zero act (λ i. code) code.k channel m blocks loss taken
  IsSentOver-met code channel m blocks loss taken meets ordered some hs admissible e left ends =
      record {
        ordered = ordered;
        is_stream = hs;
        admissible = admissible;
        flags = e;
        are_left = left;
        has_ends = ends;
        determined = λ t lt. determined_where_met code channel m loss t meets admissible some (omega arith);
      }
