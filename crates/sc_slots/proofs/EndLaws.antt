-- The end of what was sent over a channel is known, none of its blocks is missed, and what is written is what they write.
use Rattle.std.proofs.Common.{◌≡◌, ℕ, suc, ◌+◌, ◌-◌, ◌<◌, ◌≤◌, ◌⊎◌, max, Bool, true, false, cond, eqb, nat_eq, if◌then◌else◌, List, [], ◌∷◌, ◌++◌, length, get_or, map, take, drop, replicate, flat_map, count_by, is_none, Option, Some, None, All, refl, sym, ap, ap₂, ◌∙◌, subst, arith, inl, inr}
use Rattle.std.proofs.lemmas.Bool.{cases_lt, cases_Bool, cond-true, cond-false, eq-eqb, ne_eqb}
use Rattle.std.proofs.lemmas.List.{length-append, length-take-le, length-drop, length-replicate, get_or-take, get_or-drop, get_or_default, get_or_append_left, get_or-append_right, get_or-replicate, replicate-append-replicate, append_assoc, append-nil, take-append-drop, take_all}
use Rattle.std.proofs.lemmas.List.Elements.{All-head, All-tail, Contains-append_right}
use Rattle.std.proofs.lemmas.List.Concat.{flat_map-append}
use Rattle.std.proofs.lemmas.List.Sums.{sum_by-cons}
use Rattle.sc_channel.specs.Channel.{ChannelNumbers}
use Rattle.sc_code.specs.Code.{Code}
use Rattle.sc_code.specs.Stream.{IsStream, zero_block, block_at}
use Rattle.sc_code.specs.Determined.{IsKept}
use Rattle.sc_code.proofs.ColumnLaws.{IsStream-zeros}
use Rattle.sc_code.proofs.MeetsLaws.{IsKept-in_range}
use Rattle.sc_slots.specs.Taken.{Taken, AllBelow, IsTakenAt, one_past, claimed_or, claimed, least_end, known_end}
use Rattle.sc_slots.specs.Repair.{Fits, HasNoClash, IsRecovered, IsSettledAs, IsOutcome, IsPut}
use Rattle.sc_slots.specs.Text.{written, IsText, AreOutcomes, IsRepairText, IsMissedCount}
use Rattle.sc_slots.specs.Sent.{HasEnds, flushed, IsSentOver}
use Rattle.sc_slots.proofs.FitLaws.{IsStream-append, Fits-zeros}
use Rattle.sc_slots.proofs.SettledLaws.{IsSettled-unique, IsSettled-iff_outcome, IsOutcome-unique, put_after_deadline}
use Rattle.sc_slots.proofs.LeftLaws.{in_cons}
use Rattle.sc_slots.proofs.SentLaws.{Fits-sent, HasNoClash-sent, end_arrives, recovered_where_determined}

-- ---- a list of slots, from its first one

-- every taken slot is below one_past, and it is the least such number
pub AllBelow-one_past : {A : Type 0} (taken : List (Taken A)) → AllBelow taken (one_past taken)
AllBelow-one_past [] other c = let lt : c.0 < 0 = c.1 in absurd (omega arith)
AllBelow-one_past (slot ∷ taken) other c =
    elim (in_cons slot taken other c) [
      | inl same ↦ (let n : slot.number ≡ other.number = ap (λ s. s.number) same in omega arith)
      | inr rest ↦ (let lt : other.number < one_past taken = AllBelow-one_past taken other rest in omega arith)
    ]

pub one_past-le : {A : Type 0} (taken : List (Taken A)) (n : ℕ) → AllBelow taken n → one_past taken ≤ n
one_past-le [] n below = omega arith
one_past-le (slot ∷ taken) n below =
    let first : slot.number < n = below slot (0, omega arith, refl) in
    let rest : one_past taken ≤ n = one_past-le taken n (λ other c. below other (Contains-append_right (slot ∷ []) taken other c)) in
    omega arith

-- ---- the known end

-- Either a flush slot claims the end, or there are source slots alone.
claims : {A : Type 0} (blocks : ℕ) (taken : List (Taken A)) → HasEnds blocks taken → (claimed taken ≡ Some blocks) ⊎ ((claimed taken ≡ None) × AllBelow taken blocks)
claims blocks [] ends = inr (refl, λ other c. (let lt : c.0 < 0 = c.1 in absurd (omega arith)))
claims blocks (slot ∷ taken) ends =
    let e : slot.end ≡ slot.number + 1 - blocks = ends slot (0, omega arith, refl) in
    elim (cases_lt slot.number blocks) [
      | inl source ↦ (
          let on : claimed (slot ∷ taken) ≡ claimed taken = cond-true (eqb slot.end 0) (claimed taken) (Some (slot.number + 1 - slot.end)) (eq-eqb slot.end 0 (omega arith)) in
          elim (claims blocks taken (λ other c. ends other (Contains-append_right (slot ∷ []) taken other c))) [
            | inl found ↦ inl (on ∙ found)
            | inr none ↦ inr (
              on ∙ none.0,
              λ other c. elim (in_cons slot taken other c) [
                | inl same ↦ (let n : slot.number ≡ other.number = ap (λ s. s.number) same in omega arith)
                | inr rest ↦ none.1 other rest
              ],
            )
          ])
      | inr flush ↦ (
          let not_zero : eqb slot.end 0 ≡ false = ne_eqb slot.end 0 (λ z. (let f : slot.end ≡ 0 = z in absurd (omega arith))) in
          let value : slot.number + 1 - slot.end ≡ blocks = omega arith in
          inl (cond-false (eqb slot.end 0) (claimed taken) (Some (slot.number + 1 - slot.end)) not_zero ∙ ap Some value))
    ]

-- The known end is the number of blocks, where there is none, or where the last one or a flush slot is taken.
pub known_end_is : {A : Type 0} (blocks : ℕ) (taken : List (Taken A)) → HasEnds blocks taken → (blocks ≡ 0) ⊎ ((u : ℕ) × (blocks ≤ u + 1) × IsTakenAt taken u) → known_end taken ≡ blocks
known_end_is blocks taken ends some =
    elim (claims blocks taken ends) [
      | inl found ↦ ap (claimed_or (one_past taken)) found
      | inr none ↦ (
          let high : one_past taken ≤ blocks = one_past-le taken blocks none.1 in
          let same : one_past taken ≡ blocks = elim some [
            | inl empty ↦ omega arith
            | inr last ↦ (
                let low : last.2.0.number < one_past taken = AllBelow-one_past taken last.2.0 last.2.1 in
                let at : last.2.0.number ≡ last.0 = last.2.2 in
                let far : blocks ≤ last.0 + 1 = last.1 in
                omega arith)
          ] in
          ap (claimed_or (one_past taken)) none.0 ∙ same)
    ]

-- ---- one more slot

pub one_past-push : {A : Type 0} (taken : List (Taken A)) (slot : Taken A) → one_past (taken ++ slot ∷ []) ≡ max (one_past taken) (slot.number + 1)
one_past-push [] slot = omega arith
one_past-push (first ∷ taken) slot = omega (arith, one_past-push taken slot)

-- the last taken slot is the greatest
pub one_past-last : {A : Type 0} (taken : List (Taken A)) (slot : Taken A) → AllBelow taken slot.number → one_past (taken ++ slot ∷ []) ≡ slot.number + 1
one_past-last taken slot below = omega (arith, one_past-push taken slot, one_past-le taken slot.number below)

least_end_cons : (b : Bool) (x y : ℕ) → cond b (max x y) y ≡ max (cond b x 0) y
least_end_cons true x y = refl
least_end_cons false x y = omega arith

pub least_end-push : {A : Type 0} (taken : List (Taken A)) (slot : Taken A) → least_end (taken ++ slot ∷ []) ≡ max (least_end taken) (if nat_eq slot.end 0 then slot.number + 1 else 0)
least_end-push [] slot = least_end_cons (eqb slot.end 0) (slot.number + 1) 0 ∙ omega arith
least_end-push (first ∷ taken) slot =
    omega (arith, least_end_cons (eqb first.end 0) (first.number + 1) (least_end (taken ++ slot ∷ [])), least_end_cons (eqb first.end 0) (first.number + 1) (least_end taken), least_end-push taken slot)

-- a claim is of no slot past the one that makes it, so the known end isn't past the last taken slot
claimed-le : {A : Type 0} (taken : List (Taken A)) (n : ℕ) → claimed taken ≡ Some n → n ≤ one_past taken
claimed-le [] n e = absurd (cc)
claimed-le (first ∷ taken) n e =
    elim (cases_Bool (eqb first.end 0)) [
      | inl source ↦ (
          let rest : n ≤ one_past taken = claimed-le taken n (sym (cond-true (eqb first.end 0) (claimed taken) (Some (first.number + 1 - first.end)) source) ∙ e) in
          omega arith)
      | inr flush ↦ (
          let same : Some (first.number + 1 - first.end) ≡ Some n = sym (cond-false (eqb first.end 0) (claimed taken) (Some (first.number + 1 - first.end)) flush) ∙ e in
          let value : first.number + 1 - first.end ≡ n = cc in
          omega arith)
    ]

pub known_end-le : {A : Type 0} (taken : List (Taken A)) → known_end taken ≤ one_past taken
known_end-le taken = at_claim (claimed taken) refl
  where
    at_claim : (claim : Option ℕ) → claimed taken ≡ claim → claimed_or (one_past taken) claim ≤ one_past taken
    at_claim (Some n) e = claimed-le taken n e
    at_claim None e = omega arith

-- a claim that is made stays, and else the slot's own counts
pub claimed-push_after : {A : Type 0} (taken : List (Taken A)) (slot : Taken A) (n : ℕ) → claimed taken ≡ Some n → claimed (taken ++ slot ∷ []) ≡ Some n
claimed-push_after [] slot n e = absurd (cc)
claimed-push_after (first ∷ taken) slot n e =
    elim (cases_Bool (eqb first.end 0)) [
      | inl source ↦
          cond-true (eqb first.end 0) (claimed (taken ++ slot ∷ [])) (Some (first.number + 1 - first.end)) source
          ∙ claimed-push_after taken slot n (sym (cond-true (eqb first.end 0) (claimed taken) (Some (first.number + 1 - first.end)) source) ∙ e)
      | inr flush ↦
          cond-false (eqb first.end 0) (claimed (taken ++ slot ∷ [])) (Some (first.number + 1 - first.end)) flush
          ∙ (sym (cond-false (eqb first.end 0) (claimed taken) (Some (first.number + 1 - first.end)) flush) ∙ e)
    ]

pub claimed-push_first : {A : Type 0} (taken : List (Taken A)) (slot : Taken A) → claimed taken ≡ None → claimed (taken ++ slot ∷ []) ≡ claimed (slot ∷ [])
claimed-push_first [] slot e = refl
claimed-push_first (first ∷ taken) slot e =
    elim (cases_Bool (eqb first.end 0)) [
      | inl source ↦
          cond-true (eqb first.end 0) (claimed (taken ++ slot ∷ [])) (Some (first.number + 1 - first.end)) source
          ∙ claimed-push_first taken slot (sym (cond-true (eqb first.end 0) (claimed taken) (Some (first.number + 1 - first.end)) source) ∙ e)
      | inr flush ↦ (
          let other : Some (first.number + 1 - first.end) ≡ None = sym (cond-false (eqb first.end 0) (claimed taken) (Some (first.number + 1 - first.end)) flush) ∙ e in
          absurd (cc))
    ]

-- ---- values that are all blocks

all_some : {X : Type 0} (xs : List X) (values : List (Option X)) → length values ≡ length xs → ((t : ℕ) (d : X) → t < length xs → get_or values t None ≡ Some (get_or xs t d)) → values ≡ map Some xs
all_some [] [] e same = refl
all_some [] (v ∷ values) e same = absurd (omega arith)
all_some (x ∷ xs) [] e same = absurd (omega arith)
all_some (x ∷ xs) (v ∷ values) e same =
    ap₂ (λ a b. a ∷ b) (same 0 x (omega arith)) (all_some xs values (omega arith) (λ t d lt. same (suc t) d (omega arith)))

none_missed : {X : Type 0} (xs : List X) → count_by is_none (map Some xs) ≡ 0
none_missed [] = refl
none_missed (x ∷ xs) = omega (arith, sum_by-cons (λ v. cond (is_none v) 1 0) (Some x) (map Some xs), none_missed xs)

some_written : {X : Type 0} (write : List (List ℕ) → List X) (xs : List (List (List ℕ))) → flat_map (written write) (map Some xs) ≡ flat_map write xs
some_written write [] = refl
some_written write (x ∷ xs) = ap (λ s. write x ++ s) (some_written write xs)

-- values that write nothing
nothing_written : {X Y : Type 0} (f : X → List Y) (xs : List X) → All (λ x. f x ≡ []) xs → flat_map f xs ≡ []
nothing_written f [] h = refl
nothing_written f (x ∷ xs) h = ap₂ (λ a b. a ++ b) (All-head (λ x. f x ≡ []) x xs h) (nothing_written f xs (All-tail (λ x. f x ≡ []) x xs h))

-- ---- what was sent over a channel
length-flushed : (k m deadline : ℕ) (xs : List (List (List ℕ))) → length (flushed k m deadline xs) ≡ length xs + deadline
length-flushed k m deadline xs = omega (arith, length-append xs (replicate deadline (zero_block k m)), length-replicate deadline (zero_block k m))

IsStream-flushed : (k m deadline : ℕ) (xs : List (List (List ℕ))) → IsStream k m xs → IsStream k m (flushed k m deadline xs)
IsStream-flushed k m deadline xs h = IsStream-append k m xs (replicate deadline (zero_block k m)) h (IsStream-zeros k m deadline)

-- with more zero blocks after the flush slots, every block after the last one is zero
zero_after : (k m deadline n : ℕ) (xs : List (List (List ℕ))) (t : ℕ) → length xs ≤ t → t < length xs + deadline + n → block_at (flushed k m deadline xs ++ replicate n (zero_block k m)) t ≡ zero_block k m
zero_after k m deadline n xs t le lt =
    let e : flushed k m deadline xs ++ replicate n (zero_block k m) ≡ xs ++ replicate (deadline + n) (zero_block k m) =
    append_assoc xs (replicate deadline (zero_block k m)) (replicate n (zero_block k m)) ∙ ap (λ rest. xs ++ rest) (replicate-append-replicate deadline n (zero_block k m)) in
    ap (λ (ys : List (List (List ℕ))). block_at ys t) e
    ∙ get_or-append_right xs (replicate (deadline + n) (zero_block k m)) (length xs) t [] refl le
    ∙ get_or-replicate (deadline + n) (t - length xs) (zero_block k m) [] (omega arith)

module _ {A : Type 0} (zero : A) (act : A → ℕ → ℕ) (rule : ℕ → Code A) (k : ℕ) (channel : ChannelNumbers) (m : ℕ) (blocks : List (List (List ℕ))) (loss : List Bool) (taken : List (Taken A)) where
  same_length : IsSentOver zero act rule k channel m blocks loss taken → length loss ≡ length (flushed k m channel.t blocks)
  same_length sent = sent.flags ∙ sym (length-flushed k m channel.t blocks)

  -- There is no clash.
  pub no_clash : IsSentOver zero act rule k channel m blocks loss taken → (w : ℕ) → HasNoClash zero act k m taken w
  no_clash sent w =
      HasNoClash-sent zero act k m rule loss (flushed k m channel.t blocks) taken w (IsStream-flushed k m channel.t blocks sent.is_stream) (same_length sent) sent.are_left

  -- Every block is recovered.
  pub block_recovered : IsSentOver zero act rule k channel m blocks loss taken → (t : ℕ) → t < length blocks → IsRecovered zero act k m channel.t taken t (block_at blocks t)
  block_recovered sent t lt =
      subst (IsRecovered zero act k m channel.t taken t) (get_or_append_left blocks (replicate channel.t (zero_block k m)) [] t lt)
      (recovered_where_determined zero act k m rule channel.t loss (flushed k m channel.t blocks) taken t (IsStream-flushed k m channel.t blocks sent.is_stream)
      sent.are_left (omega (arith, length-flushed k m channel.t blocks)) (sent.determined t lt))

  -- It is settled as that block by its deadline.
  pub block_settled : IsSentOver zero act rule k channel m blocks loss taken → (w t : ℕ) → t < length blocks → t + channel.t < w → IsSettledAs zero act k m channel.t taken w t (block_at blocks t)
  block_settled sent w t lt over =
      (IsSettled-iff_outcome zero act k m channel.t taken w t (Some (block_at blocks t)) over (no_clash sent w)).1 (block_recovered sent t lt)

  -- The last block or a flush slot is taken, where there is a block.
  some_end : IsSentOver zero act rule k channel m blocks loss taken → (length blocks ≡ 0) ⊎ ((u : ℕ) × (length blocks ≤ u + 1) × IsTakenAt taken u)
  some_end sent =
      elim (cases_lt 0 (length blocks)) [
        | inl some ↦ (
            let last : (u : ℕ) × (length blocks ≤ u + 1) × IsKept loss u = end_arrives channel loss (length blocks) sent.ordered sent.admissible sent.flags (omega arith) in
            inr (last.0, last.1, sent.are_left.all_taken last.0 last.2))
        | inr empty ↦ inl (omega arith)
      ]

  -- The known end is the number of blocks.
  pub end_is_known : IsSentOver zero act rule k channel m blocks loss taken → known_end taken ≡ length blocks
  end_is_known sent = known_end_is (length blocks) taken sent.has_ends (some_end sent)

  -- and no block is above the last taken slot
  pub blocks-le_one_past : IsSentOver zero act rule k channel m blocks loss taken → length blocks ≤ one_past taken
  blocks-le_one_past sent =
      elim (some_end sent) [
        | inl empty ↦ omega arith
        | inr last ↦ (
            let low : last.2.0.number < one_past taken = AllBelow-one_past taken last.2.0 last.2.1 in
            let at : last.2.0.number ≡ last.0 = last.2.2 in
            let far : length blocks ≤ last.0 + 1 = last.1 in
            omega arith)
      ]

  -- the outcome of each block
  outcome_of_block : IsSentOver zero act rule k channel m blocks loss taken → (t : ℕ) (d : List (List ℕ)) (x : Option (List (List ℕ))) → t < length blocks → IsOutcome zero act k m channel.t taken t x → x ≡ Some (get_or blocks t d)
  outcome_of_block sent t d x lt h =
      IsOutcome-unique zero act k m channel.t taken t x (Some (block_at blocks t)) h (block_recovered sent t lt) ∙ ap Some (get_or_default blocks t [] d lt)

  pub outcomes_are_blocks : IsSentOver zero act rule k channel m blocks loss taken → (values : List (Option (List (List ℕ)))) → AreOutcomes zero act k m channel.t taken (length blocks) values → values ≡ map Some blocks
  outcomes_are_blocks sent values h = all_some blocks values h.count (λ t d lt. outcome_of_block sent t d (get_or values t None) lt (h.each t lt))

  -- No slot is missed.
  pub none_is_missed : IsSentOver zero act rule k channel m blocks loss taken → (missed : ℕ) → IsMissedCount zero act k m channel.t taken missed → missed ≡ 0
  none_is_missed sent missed h =
      h.counted
      ∙ ap (count_by is_none) (outcomes_are_blocks sent h.values (subst (λ (n : ℕ). AreOutcomes zero act k m channel.t taken n h.values) (end_is_known sent) h.are_outcomes))
      ∙ none_missed blocks

  -- Slots after the last block are recovered as zero blocks, if at all.
  flush_is_zero : IsSentOver zero act rule k channel m blocks loss taken → (t : ℕ) (b : List (List ℕ)) → length blocks ≤ t → IsRecovered zero act k m channel.t taken t b → b ≡ zero_block k m
  flush_is_zero sent t b le r =
      let stream : List (List (List ℕ)) = flushed k m channel.t blocks in
      let n : length (flushed k m channel.t blocks) ≡ length blocks + channel.t = length-flushed k m channel.t blocks in
      let fits : Fits zero act k m taken (length (flushed k m channel.t blocks)) (flushed k m channel.t blocks) =
      subst (Fits zero act k m taken (length (flushed k m channel.t blocks))) (take_all (length (flushed k m channel.t blocks)) (flushed k m channel.t blocks) (omega arith))
      (Fits-sent zero act k m rule loss (flushed k m channel.t blocks) taken (length (flushed k m channel.t blocks)) (IsStream-flushed k m channel.t blocks sent.is_stream) sent.are_left (omega arith)) in
      let longer = Fits-zeros zero act k m taken (length (flushed k m channel.t blocks)) (t + channel.t + 1) (flushed k m channel.t blocks) fits (omega arith)
      (λ slot c lt. (let within : slot.number < length loss = IsKept-in_range loss slot.number (sent.are_left.are_kept slot c) in let e = same_length sent in omega arith)) in
      sym (r.all_have (flushed k m channel.t blocks ++ replicate (t + channel.t + 1 - length (flushed k m channel.t blocks)) (zero_block k m)) longer)
      ∙ zero_after k m channel.t (t + channel.t + 1 - length (flushed k m channel.t blocks)) blocks t le (omega arith)

  flush_writes_nothing : {X : Type 0} (write : List (List ℕ) → List X) → write (zero_block k m) ≡ [] → IsSentOver zero act rule k channel m blocks loss taken → (t : ℕ) (x : Option (List (List ℕ))) → length blocks ≤ t → IsOutcome zero act k m channel.t taken t x → written write x ≡ []
  flush_writes_nothing write none sent t (Some b) le h = ap write (flush_is_zero sent t b le h) ∙ none
  flush_writes_nothing write none sent t None le h = refl

  -- What is written is what the blocks write, where a zero block writes nothing.
  pub text_is_sent : {X : Type 0} (write : List (List ℕ) → List X) → write (zero_block k m) ≡ [] → IsSentOver zero act rule k channel m blocks loss taken → (text : List X) → IsRepairText zero act k m channel.t write taken text → text ≡ flat_map write blocks
  text_is_sent write none sent text h =
      let n : length h.values ≡ one_past taken = h.are_outcomes.count in
      let le : length blocks ≤ one_past taken = blocks-le_one_past sent in
      let front : take (length blocks) h.values ≡ map Some blocks =
      all_some blocks (take (length blocks) h.values) (length-take-le (length blocks) h.values (omega arith))
      (λ t d lt. get_or-take (length blocks) h.values t None lt ∙ outcome_of_block sent t d (get_or h.values t None) lt (h.are_outcomes.each t (omega arith))) in
      let rest : flat_map (written write) (drop (length blocks) h.values) ≡ [] =
      nothing_written (written write) (drop (length blocks) h.values) (λ i d lt. (
      let within : length blocks + i < one_past taken = omega (arith, length-drop (length blocks) h.values) in
      ap (written write) (get_or_default (drop (length blocks) h.values) i d None lt ∙ get_or-drop (length blocks) h.values i None)
      ∙ flush_writes_nothing write none sent (length blocks + i) (get_or h.values (length blocks + i) None) (omega arith) (h.are_outcomes.each (length blocks + i) within))) in
      h.is_written ∙ ap (flat_map (written write)) (sym (take-append-drop (length blocks) h.values))
      ∙ flat_map-append (written write) (take (length blocks) h.values) (drop (length blocks) h.values)
      ∙ ap₂ (λ a b. a ++ b) (ap (flat_map (written write)) front ∙ some_written write blocks) rest ∙ append-nil (flat_map write blocks)

  -- Once the deadline of slot t is over, what is written begins with what the blocks up to t write.
  pub text_in_time : {X : Type 0} (write : List (List ℕ) → List X) → IsSentOver zero act rule k channel m blocks loss taken → (w p t : ℕ) (text : List X) → t < length blocks → t + channel.t < w
      → IsPut zero act k m channel.t taken w p → IsText zero act k m channel.t write taken w p text → (rest : List X) × (flat_map write (take (t + 1) blocks) ++ rest ≡ text)
  text_in_time write sent w p t text lt over put h =
      let n : length h.values ≡ p = h.are_settled.count in
      let above : t < p = put_after_deadline zero act k m channel.t taken w p t (no_clash sent w) put over in
      let front : take (t + 1) h.values ≡ map Some (take (t + 1) blocks) =
      all_some (take (t + 1) blocks) (take (t + 1) h.values) (length-take-le (t + 1) h.values (omega arith) ∙ sym (length-take-le (t + 1) blocks (omega arith)))
      (λ i d low. (
      let within : i < t + 1 = omega (arith, length-take-le (t + 1) blocks (omega arith)) in
      get_or-take (t + 1) h.values i None within
      ∙ IsSettled-unique zero act k m channel.t taken w i (get_or h.values i None) (Some (block_at blocks i)) (h.are_settled.each i (omega arith)) (block_settled sent w i (omega arith) (omega arith))
      ∙ ap Some (get_or_default blocks i [] d (omega arith) ∙ sym (get_or-take (t + 1) blocks i d within)))) in (
        flat_map (written write) (drop (t + 1) h.values),
        ap (λ s. s ++ flat_map (written write) (drop (t + 1) h.values)) (sym (ap (flat_map (written write)) front ∙ some_written write (take (t + 1) blocks)))
            ∙ sym (flat_map-append (written write) (take (t + 1) h.values) (drop (t + 1) h.values)) ∙ ap (flat_map (written write)) (take-append-drop (t + 1) h.values) ∙ sym h.is_written,
      )
