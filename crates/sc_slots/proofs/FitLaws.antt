-- Streams that fit taken slots: their fronts fit what was taken before, and they fit more where blocks are appended that
-- no taken slot is about.
use Rattle.std.proofs.Common.{◌≡◌, ℕ, ◌+◌, ◌-◌, ◌<◌, ◌≤◌, ◌⊎◌, ◌↔◌, List, [], ◌∷◌, ◌++◌, length, take, replicate, Contains, refl, sym, ap, ◌∙◌, subst, arith, inl, inr}
use Rattle.std.proofs.lemmas.Bool.{cases_eq}
use Rattle.std.proofs.lemmas.List.{length-append, length-take-le, length-replicate, get_or-take, get_or_append_left}
use Rattle.std.proofs.lemmas.List.Elements.{All-take, All-append, All-cons, All-nil, Contains-push_cases, Contains-append_cases, Contains-append_left, Contains-append_right, Contains-push}
use Rattle.sc_code.specs.Code.{Code}
use Rattle.sc_code.specs.Stream.{IsBlock, IsStream, zero_block, block_at}
use Rattle.sc_code.specs.Parity.{parity}
use Rattle.sc_code.proofs.ColumnLaws.{IsStream-zeros, parity-same}
use Rattle.sc_code.proofs.StreamLaws.{parity-append}
use Rattle.sc_slots.specs.Taken.{Taken, AllBelow, IsTakenAt}
use Rattle.sc_slots.specs.Repair.{IsMatch, Fits}

pub IsStream-take : (k m n : ℕ) (xs : List (List (List ℕ))) → IsStream k m xs → IsStream k m (take n xs)
IsStream-take k m n xs h = All-take (IsBlock k m) n xs h

pub IsStream-append : (k m : ℕ) (xs ys : List (List (List ℕ))) → IsStream k m xs → IsStream k m ys → IsStream k m (xs ++ ys)
IsStream-append k m xs ys hx hy = All-append (IsBlock k m) xs ys hx hy

pub IsStream-one : (k m : ℕ) (b : List (List ℕ)) → IsBlock k m b → IsStream k m (b ∷ [])
IsStream-one k m b h = All-cons (IsBlock k m) b [] h (All-nil (IsBlock k m))

pub block_at-take : (n : ℕ) (xs : List (List (List ℕ))) (t : ℕ) → t < n → block_at (take n xs) t ≡ block_at xs t
block_at-take n xs t lt = get_or-take n xs t [] lt

-- no taken slot is below w
abbrev pub AllFrom : {A : Type 0} → List (Taken A) → ℕ → Type 0
AllFrom {A} taken w = (slot : Taken A) → Contains taken slot → w ≤ slot.number

pub AllFrom-one : {A : Type 0} (slot : Taken A) (w : ℕ) → w ≤ slot.number → AllFrom (slot ∷ []) w
AllFrom-one slot w le other c =
    elim (Contains-push_cases [] slot other c) [
      | inl none ↦ (let lt : none.0 < 0 = none.1 in absurd (omega arith))
      | inr same ↦ (let n : slot.number ≡ other.number = ap (λ s. s.number) same in omega arith)
    ]

-- slot u is taken or not
pub IsTakenAt-cases : {A : Type 0} (taken : List (Taken A)) (u : ℕ) → IsTakenAt taken u ⊎ (IsTakenAt taken u → ⊥)
IsTakenAt-cases [] u = inr (λ at. (let lt : at.1.0 < 0 = at.1.1 in absurd (omega arith)))
IsTakenAt-cases (slot ∷ taken) u =
    elim (cases_eq slot.number u) [
      | inl here ↦ inl (slot, (0, omega arith, refl), here)
      | inr other ↦ elim (IsTakenAt-cases taken u) [
        | inl later ↦ inl (later.0, Contains-append_right (slot ∷ []) taken later.0 later.1, later.2)
        | inr none ↦ inr (λ at. elim (Contains-append_cases (slot ∷ []) taken at.0 at.1) [
          | inl first ↦ elim (Contains-push_cases [] slot at.0 first) [
            | inl empty ↦ (let lt : empty.0 < 0 = empty.1 in absurd (omega arith))
            | inr same ↦ other (ap (λ s. s.number) same ∙ at.2)
          ]
          | inr rest ↦ none (at.0, rest, at.2)
        ])
      ]
    ]

-- taken slots and one more
pub AllBelow-with : {A : Type 0} (taken : List (Taken A)) (slot : Taken A) (v : ℕ) → AllBelow taken v → slot.number < v → AllBelow (taken ++ slot ∷ []) v
AllBelow-with taken slot v below lt other h =
    elim (Contains-push_cases taken slot other h) [
      | inl earlier ↦ below other earlier
      | inr same ↦ (let n : slot.number ≡ other.number = ap (λ s. s.number) same in omega arith)
    ]

pub AllBelow-push : {A : Type 0} (taken : List (Taken A)) (slot : Taken A) (w : ℕ) → AllBelow taken w → slot.number ≡ w → AllBelow (taken ++ slot ∷ []) (w + 1)
AllBelow-push taken slot w below e other h =
    elim (Contains-push_cases taken slot other h) [
      | inl earlier ↦ (let lt : other.number < w = below other earlier in omega arith)
      | inr same ↦ (let n : slot.number ≡ other.number = ap (λ s. s.number) same in omega arith)
    ]

module _ {A : Type 0} (zero : A) (act : A → ℕ → ℕ) where
  -- the same parity from the front of a stream
  pub parity-take : (code : Code A) (m n : ℕ) (xs : List (List (List ℕ))) (t : ℕ) → t < n → parity zero act code m (take n xs) t ≡ parity zero act code m xs t
  parity-take code m n xs t lt = parity-same zero act code m (take n xs) xs t (λ u le. block_at-take n xs u (omega arith))

  -- what is said of a slot is said of the front that has it, and of the stream with more blocks
  pub IsMatch-take : (m n : ℕ) (xs : List (List (List ℕ))) (slot : Taken A) → slot.number < n → IsMatch zero act m xs slot → IsMatch zero act m (take n xs) slot
  IsMatch-take m n xs slot lt h =
      record {
        same_block = block_at-take n xs slot.number lt ∙ h.same_block;
        same_parity = parity-take slot.code m n xs slot.number lt ∙ h.same_parity;
      }

  pub IsMatch-from_take : (m n : ℕ) (xs : List (List (List ℕ))) (slot : Taken A) → slot.number < n → IsMatch zero act m (take n xs) slot → IsMatch zero act m xs slot
  IsMatch-from_take m n xs slot lt h =
      record {
        same_block = sym (block_at-take n xs slot.number lt) ∙ h.same_block;
        same_parity = sym (parity-take slot.code m n xs slot.number lt) ∙ h.same_parity;
      }

  pub IsMatch-append : (m : ℕ) (xs more : List (List (List ℕ))) (slot : Taken A) → slot.number < length xs → IsMatch zero act m xs slot → IsMatch zero act m (xs ++ more) slot
  IsMatch-append m xs more slot lt h =
      record {
        same_block = get_or_append_left xs more [] slot.number lt ∙ h.same_block;
        same_parity = parity-append zero act slot.code m xs more slot.number lt ∙ h.same_parity;
      }

  module _ (k m : ℕ) where
    -- the front of a stream that fits
    pub Fits-take : (taken : List (Taken A)) (w v : ℕ) (xs : List (List (List ℕ))) → v ≤ w → Fits zero act k m taken w xs → Fits zero act k m taken v (take v xs)
    Fits-take taken w v xs le h =
        let n = h.count in
        record {
          is_stream = IsStream-take k m v xs h.is_stream;
          count = length-take-le v xs (omega arith);
          slots = λ slot c lt. IsMatch-take m v xs slot lt (h.slots slot c (omega arith));
        }

    -- blocks appended that no taken slot is about
    pub Fits-append : (taken : List (Taken A)) (w v : ℕ) (xs more : List (List (List ℕ))) → Fits zero act k m taken w xs → IsStream k m more → w + length more ≡ v
        → ((slot : Taken A) → Contains taken slot → slot.number < v → slot.number < w) → Fits zero act k m taken v (xs ++ more)
    Fits-append taken w v xs more h hm e only =
        let n = h.count in
        record {
          is_stream = IsStream-append k m xs more h.is_stream hm;
          count = omega (arith, length-append xs more);
          slots = λ slot c lt. (
              let below : slot.number < w = only slot c lt in
              IsMatch-append m xs more slot (omega arith) (h.slots slot c below));
        }

    -- n zero blocks appended
    pub Fits-zeros : (taken : List (Taken A)) (w v : ℕ) (xs : List (List (List ℕ))) → Fits zero act k m taken w xs → w ≤ v
        → ((slot : Taken A) → Contains taken slot → slot.number < v → slot.number < w) → Fits zero act k m taken v (xs ++ replicate (v - w) (zero_block k m))
    Fits-zeros taken w v xs h le only =
        Fits-append taken w v xs (replicate (v - w) (zero_block k m)) h (IsStream-zeros k m (v - w)) (omega (arith, length-replicate (v - w) (zero_block k m))) only

    -- one more block, where all taken slots are before it
    pub Fits-one : (taken : List (Taken A)) (w : ℕ) (xs : List (List (List ℕ))) (b : List (List ℕ)) → AllBelow taken w → Fits zero act k m taken w xs → IsBlock k m b → Fits zero act k m taken (w + 1) (xs ++ b ∷ [])
    Fits-one taken w xs b below h hb =
        Fits-append taken w (w + 1) xs (b ∷ []) h (IsStream-one k m b hb) refl (λ slot c lt. below slot c)

    -- a stream that fits fits also where fewer slots were taken
    pub Fits-fewer : (taken fewer : List (Taken A)) (w : ℕ) (xs : List (List (List ℕ))) → ((slot : Taken A) → Contains fewer slot → slot.number < w → Contains taken slot) → Fits zero act k m taken w xs → Fits zero act k m fewer w xs
    Fits-fewer taken fewer w xs only h =
        record { is_stream = h.is_stream; count = h.count; slots = λ slot c lt. h.slots slot (only slot c lt) lt }

    -- slots that are taken from w on say nothing below w
    pub Fits-later : (taken more : List (Taken A)) (w : ℕ) (xs : List (List (List ℕ))) → AllFrom more w → Fits zero act k m (taken ++ more) w xs ↔ Fits zero act k m taken w xs
    Fits-later taken more w xs from = (
      Fits-fewer (taken ++ more) taken w xs (λ other c lt. Contains-append_left taken more other c),
      Fits-fewer taken (taken ++ more) w xs (λ other c lt. elim (Contains-append_cases taken more other c) [
        | inl earlier ↦ earlier
        | inr later ↦ (let le : w ≤ other.number = from other later in absurd (omega arith))
      ]),
    )

    -- one more taken slot
    pub Fits-push : (taken : List (Taken A)) (slot : Taken A) (w : ℕ) (xs : List (List (List ℕ))) → Fits zero act k m taken w xs → IsMatch zero act m xs slot → Fits zero act k m (taken ++ slot ∷ []) w xs
    Fits-push taken slot w xs h is_match =
        record {
          is_stream = h.is_stream;
          count = h.count;
          slots = λ other c lt. elim (Contains-push_cases taken slot other c) [
            | inl earlier ↦ h.slots other earlier lt
            | inr same ↦ subst (IsMatch zero act m xs) same is_match
          ];
        }

    pub Fits-pushed : (taken : List (Taken A)) (slot : Taken A) (w : ℕ) (xs : List (List (List ℕ))) → slot.number < w → Fits zero act k m (taken ++ slot ∷ []) w xs → Fits zero act k m taken w xs × IsMatch zero act m xs slot
    Fits-pushed taken slot w xs lt h = (
      Fits-fewer (taken ++ slot ∷ []) taken w xs (λ other c lt. Contains-append_left taken (slot ∷ []) other c) h,
      h.slots slot (Contains-push taken slot) lt,
    )
