-- What the kernel of a window matrix tells of block 0. `K` is the set of the kernel's vectors: those that spell a stream which
-- is zero in each kept slot.
use Rattle.std.proofs.Common.{◌≡◌, ◌↔◌, ◌⊎◌, ℕ, zero as naught, suc, ◌*◌, ◌<◌, ◌≤◌, Bool, List, [], length, get_or, take, replicate, All, sym, ap, ◌∙◌, subst, arith, inl, inr}
use Rattle.std.proofs.lemmas.Bool.{cases_lt}
use Rattle.std.proofs.lemmas.List.{length-take-le, length-replicate, get_or-replicate, get_or-take, get_or_default, same_lists}
use Rattle.sc_field.specs.Field.{IsField, IsExact}
use Rattle.sc_field.specs.FieldLemmas.{same_or_differ}
use Rattle.sc_channel.specs.Flags.{IsSet, set_count}
use Rattle.sc_matrix.specs.Vector.{IsVector}
use Rattle.sc_echelon.specs.Kernel.{IsFree, IsNonzeroBelow}
use Rattle.sc_code.specs.Code.{Code}
use Rattle.sc_code.specs.Elements.{IsDecidedOver}
use Rattle.sc_code.proofs.SumLaws.{All-or}
use Rattle.sc_window.specs.Window.{lost_symbols, spelled, IsLostStream, IsZeroWhereKept}
use Rattle.sc_window.proofs.SpellLaws.{first_width, spelled-first, IsLostStream-spelled, IsVector-lost_symbols, spelled-lost_symbols}

-- the first n entries are zero, or some is not
pub first_nonzero : {A : Type 0} {IsElement : A → Type 0} {zero : A} {eq : A → A → Bool} → IsExact IsElement eq → IsElement zero → (n : ℕ) (v : List A) → All IsElement v
    → ((j : ℕ) → j < n → get_or v j zero ≡ zero) ⊎ (IsNonzeroBelow zero n v)
first_nonzero exact hz naught v h = inl (λ j lt. absurd (omega arith))
first_nonzero {IsElement = IsElement} {zero = zero} exact hz (suc n) v h =
    elim (first_nonzero exact hz n v h) [
      | inl zeros ↦
          elim (same_or_differ exact (get_or v n zero) zero (All-or IsElement v n zero h hz) hz) [
            | inl same ↦ inl (λ j lt. elim (cases_lt j n) [
              | inl before ↦ zeros j before
              | inr at ↦ let e : j ≡ n = omega arith in ap (λ (i : ℕ). get_or v i zero) e ∙ same
            ])
            | inr differs ↦ inr (record { col = n; within = omega arith; nonzero = differs })
          ]
      | inr nonzero ↦ inr (let within = nonzero.within in record { col = nonzero.col; within = omega arith; nonzero = nonzero.nonzero })
    ]

-- a vector whose first k entries are zero
pub take_zeros : {A : Type 0} (zero : A) (k : ℕ) (v : List A) → k ≤ length v → ((j : ℕ) → j < k → get_or v j zero ≡ zero) → take k v ≡ replicate k zero
take_zeros zero k v le h =
    let l = length-take-le k v le in
    same_lists (take k v) (replicate k zero) (l ∙ sym (length-replicate k zero)) (λ i d lt.
    let below : i < k = omega arith in
    get_or-take k v i d below ∙ get_or_default v i d zero (omega arith) ∙ h i below ∙ sym (get_or-replicate k i zero d below))

pub zeros_taken : {A : Type 0} (zero : A) (k : ℕ) (v : List A) (j : ℕ) → take k v ≡ replicate k zero → j < k → get_or v j zero ≡ zero
zeros_taken zero k v j e lt = sym (get_or-take k v j zero lt) ∙ ap (λ xs. get_or xs j zero) e ∙ get_or-replicate k j zero zero lt

module _ {A : Type 0} {IsElement : A → Type 0} {zero one : A} {add sub mul : A → A → A} {inv : A → A} {eq : A → A → Bool} (laws : IsField IsElement zero one add sub mul inv) (exact : IsExact IsElement eq) where
  -- a vector that is not zero below a bound has a first nonzero entry there, so its column is free
  zeros_from_not_free : (K : List A → Type 0) (n : ℕ) (v : List A) → K v → All IsElement v → ((col : ℕ) → col < n → IsFree zero K col → ⊥) → (j : ℕ) → j < n → get_or v j zero ≡ zero
  zeros_from_not_free K naught v kv h none j lt = absurd (omega arith)
  zeros_from_not_free K (suc n) v kv h none j lt =
      let before : (i : ℕ) → i < n → get_or v i zero ≡ zero = zeros_from_not_free K n v kv h (λ col below. none col (omega arith)) in
      elim (cases_lt j n) [
        | inl below ↦ before j below
        | inr past ↦
            let e : j ≡ n = omega arith in
            ap (λ (i : ℕ). get_or v i zero) e
            ∙ elim (same_or_differ exact (get_or v n zero) zero (All-or IsElement v n zero h laws.zero_element) laws.zero_element) [
              | inl same ↦ same
              | inr differs ↦ absurd (none n (omega arith) (record { vector = v; belongs = kv; nonzero = differs; before = before }))
            ]
      ]

  module _ (code : Code A) (class : List Bool) (set : IsSet class 0) (K : List A → Type 0)
      (kernel : (v : List A) → K v ↔ (IsVector IsElement (code.k * set_count class) v × IsZeroWhereKept zero add mul code class (spelled zero code.k class v))) where
    -- a vector of the kernel and the stream that it spells
    pub stream_of : (v : List A) → K v → IsLostStream IsElement zero code.k class (spelled zero code.k class v)
    stream_of v kv = IsLostStream-spelled zero laws.zero_element code.k class v ((kernel v).0 kv).0

    -- the lost symbols of a stream that is zero where it is kept are in the kernel
    pub lost_stream : (xs : List (List A)) → All (IsVector IsElement code.k) xs → length xs ≡ length class → IsZeroWhereKept zero add mul code class xs → IsLostStream IsElement zero code.k class xs
    lost_stream xs hx lx zeros = record { blocks = hx; count = lx; zeros = λ t kept. (zeros t kept).symbols }

    pub vector_of_stream : (xs : List (List A)) → All (IsVector IsElement code.k) xs → length xs ≡ length class → IsZeroWhereKept zero add mul code class xs → K (lost_symbols class xs)
    vector_of_stream xs hx lx zeros =
        let h = lost_stream xs hx lx zeros in
        (kernel (lost_symbols class xs)).1
        (IsVector-lost_symbols zero code.k class xs h, subst (IsZeroWhereKept zero add mul code class) (sym (spelled-lost_symbols zero code.k class xs h)) zeros)

    -- block 0 of such a stream
    pub block_of_stream : (xs : List (List A)) → IsLostStream IsElement zero code.k class xs → get_or xs 0 [] ≡ take code.k (lost_symbols class xs)
    block_of_stream xs h = ap (λ (ys : List (List A)). get_or ys 0 []) (sym (spelled-lost_symbols zero code.k class xs h)) ∙ spelled-first zero code.k class (lost_symbols class xs) set

    pub decided_from_none_free : ((col : ℕ) → col < code.k → IsFree zero K col → ⊥) → IsDecidedOver IsElement zero add mul code class
    decided_from_none_free none xs hx lx zeros =
        let h = lost_stream xs hx lx zeros in
        let v = lost_symbols class xs in
        let hv = IsVector-lost_symbols zero code.k class xs h in
        let enough = first_width code.k class set in
        let width = hv.width in
        block_of_stream xs h
        ∙ take_zeros zero code.k v (omega arith) (zeros_from_not_free K code.k v (vector_of_stream xs hx lx zeros) hv.entries none)

    pub none_free_from_decided : IsDecidedOver IsElement zero add mul code class → (col : ℕ) → col < code.k → IsFree zero K col → ⊥
    none_free_from_decided decided col lt free =
        let v = free.vector in
        let h = stream_of v free.belongs in
        free.nonzero (zeros_taken zero code.k v col (sym (spelled-first zero code.k class v set) ∙ decided (spelled zero code.k class v) h.blocks h.count ((kernel v).0 free.belongs).1) lt)
