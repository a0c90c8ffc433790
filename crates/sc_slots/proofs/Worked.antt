-- The code whose parity of slot t is the symbol of slot t - 1, over the field of two elements, with deadline 1. Slot 0 is lost
-- and slot 1 is taken, a flush slot with parity 5: nothing is put out when slot 0 is passed, and both slots when slot 1 is,
-- slot 0 as 5. A slot 0 with parity 1 is a clash.
use Rattle.std.proofs.Common.{◌≡◌, ℕ, zero as nought, suc, ◌+◌, ◌<◌, List, [], ◌∷◌, Option, Some, None, bit_xor, refl, sym, ap, ◌∙◌, subst, arith, inl, inr}
use Rattle.std.proofs.lemmas.List.Elements.{All-nil, All-cons}
use Rattle.std.specs.Int.Bits.{xor_zero_l}
use Rattle.sc_field.specs.Gf2.{gf2_act}
use Rattle.sc_matrix.specs.Matrix.{Matrix}
use Rattle.sc_matrix.specs.Module.{IsByte}
use Rattle.sc_matrix.specs.Vector.{IsVector}
use Rattle.sc_code.specs.Code.{Code}
use Rattle.sc_code.specs.Stream.{IsBlock, byte_at, block_at}
use Rattle.sc_code.specs.Parity.{parity}
use Rattle.sc_code.proofs.ColumnLaws.{same_block_from_bytes}
use Rattle.sc_slots.specs.Taken.{Taken, known_end}
use Rattle.sc_slots.specs.Repair.{IsMatch, Fits, HasNoClash, AllHave, IsClash, IsSettled, IsPut}
use Rattle.sc_slots.proofs.LeftLaws.{in_cons}
use Rattle.sc_slots.proofs.SettledLaws.{HasNoClash-iff_consistent}

abbrev one_by_one : ℕ → Matrix ℕ
one_by_one x = record { cols = 1; rows = (x ∷ []) ∷ [] }

abbrev code : Code ℕ
code = record { k = 1; r = 1; lags = one_by_one 0 ∷ one_by_one 1 ∷ [] }

abbrev one_byte : ℕ → List (List ℕ)
one_byte b = (b ∷ []) ∷ []

abbrev flush : Taken ℕ
flush = record { number = 1; end = 1; version = 1; code = code; block = one_byte 0; parity = one_byte 5 }

abbrev taken : List (Taken ℕ)
taken = flush ∷ []

is_block : (b : ℕ) → b < 256 → IsBlock 1 1 (one_byte b)
is_block b h = record { width = refl; entries = All-cons (IsVector IsByte 1) (b ∷ []) [] (record { width = refl; entries = All-cons (λ x. x < 256) b [] h (All-nil (λ x. x < 256)) }) (All-nil (IsVector IsByte 1)) }

end_is_one : known_end taken ≡ 1
end_is_one = refl

-- ---- when slot 0 is passed
one_block : (b : ℕ) → b < 256 → Fits 0 gf2_act 1 1 taken 1 (one_byte b ∷ [])
one_block b h =
    record {
      is_stream = All-cons (IsBlock 1 1) (one_byte b) [] (is_block b h) (All-nil (IsBlock 1 1));
      count = refl;
      slots = λ slot c lt. elim (in_cons flush [] slot c) [
        | inl same ↦ (let n : 1 ≡ slot.number = ap (λ (s : Taken ℕ). s.number) same in absurd (omega arith))
        | inr none ↦ (let low : none.0 < 0 = none.1 in absurd (omega arith))
      ];
    }

apart : one_byte 0 ≡ one_byte 1 → ⊥
apart e = let f : byte_at (one_byte 0) 0 0 ≡ byte_at (one_byte 1) 0 0 = ap (λ (b : List (List ℕ)). byte_at b 0 0) e in absurd (omega arith)

nothing_put : IsPut 0 gf2_act 1 1 1 taken 1 0
nothing_put = record {
  in_range = omega arith;
  below = λ t lt. absurd (omega arith);
  greatest = λ lt value. not_settled value;
}
  where
    not_settled : (value : Option (List (List ℕ))) → IsSettled 0 gf2_act 1 1 1 taken 1 0 value → ⊥
    not_settled (Some b) s =
        apart (s.all_have (one_byte 0 ∷ []) (one_block 0 (omega arith)) ∙ sym (s.all_have (one_byte 1 ∷ []) (one_block 1 (omega arith))))
    not_settled None s = let over : 0 + 1 < 1 = s.is_over in absurd (omega arith)

-- ---- when slot 1 is taken
two_blocks : Fits 0 gf2_act 1 1 taken 2 (one_byte 5 ∷ one_byte 0 ∷ [])
two_blocks =
    record {
      is_stream = All-cons (IsBlock 1 1) (one_byte 5) (one_byte 0 ∷ []) (is_block 5 (omega arith)) (All-cons (IsBlock 1 1) (one_byte 0) [] (is_block 0 (omega arith)) (All-nil (IsBlock 1 1)));
      count = refl;
      slots = λ slot c lt. elim (in_cons flush [] slot c) [
        | inl same ↦ subst (IsMatch 0 gf2_act 1 (one_byte 5 ∷ one_byte 0 ∷ [])) same (record { same_block = refl; same_parity = refl })
        | inr none ↦ (let low : none.0 < 0 = none.1 in absurd (omega arith))
      ];
    }

no_clash : HasNoClash 0 gf2_act 1 1 taken 2
no_clash = (HasNoClash-iff_consistent 0 gf2_act 1 1 taken 2).1 (one_byte 5 ∷ one_byte 0 ∷ [], two_blocks)

all_have_five : AllHave 0 gf2_act 1 1 taken 2 0 (one_byte 5)
all_have_five stream f =
    let count = f.count in
    let p : byte_at (parity 0 gf2_act code 1 stream 1) 0 0 ≡ 5 = ap (λ (b : List (List ℕ)). byte_at b 0 0) (f.slots flush (0, omega arith, refl) (omega arith)).same_parity in
    same_block_from_bytes 1 1 (block_at stream 0) (one_byte 5) (f.is_stream 0 [] (omega arith)) (is_block 5 (omega arith)) (λ i c hi hc.
    let ei : 0 ≡ i = omega arith in
    let ec : 0 ≡ c = omega arith in
    sym (ap (λ (n : ℕ). byte_at (block_at stream 0) n c) ei) ∙ sym (ap (λ (n : ℕ). byte_at (block_at stream 0) 0 n) ec)
    ∙ sym (xor_zero_l (byte_at (block_at stream 0) 0 0)) ∙ ap (bit_xor 0) (sym (xor_zero_l (byte_at (block_at stream 0) 0 0))) ∙ p
    ∙ ap (λ (n : ℕ). byte_at (one_byte 5) n 0) ei ∙ ap (λ (n : ℕ). byte_at (one_byte 5) i n) ec)

both_put : IsPut 0 gf2_act 1 1 1 taken 2 2
both_put = record {
  in_range = omega arith;
  below = settled;
  greatest = λ lt. absurd (omega arith);
}
  where
    settled : (t : ℕ) → t < 2 → (value : Option (List (List ℕ))) × IsSettled 0 gf2_act 1 1 1 taken 2 t value
    settled nought lt = (Some (one_byte 5), record { is_passed = omega arith; no_clash = no_clash; all_have = all_have_five })
    settled (suc nought) lt = (Some (one_byte 0), record { is_passed = omega arith; no_clash = no_clash; all_have = λ stream f. (f.slots flush (0, omega arith, refl) (omega arith)).same_block })
    settled (suc (suc t)) lt = absurd (omega arith)

-- ---- a clash
abbrev bad : Taken ℕ
bad = record { number = 0; end = 0; version = 1; code = code; block = one_byte 7; parity = one_byte 1 }

clash : IsClash 0 gf2_act 1 1 (bad ∷ []) 0
clash = record {
  is_taken = (bad, (0, omega arith, refl), refl);
  none_fits = λ some. (let f : 0 ≡ 1 = ap (λ (b : List (List ℕ)). byte_at b 0 0) (some.1.slots bad (0, omega arith, refl) (omega arith)).same_parity in absurd (omega arith));
  first = λ u lt here. absurd (omega arith);
}
