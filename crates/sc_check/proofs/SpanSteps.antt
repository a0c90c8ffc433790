-- The span of the open streams: at the start, after a lost slot, after a kept one, and what it tells of block 0.
use Rattle.std.proofs.Common.{◌≡◌, ◌≢◌, ℕ, zero as none, suc, ◌+◌, ◌*◌, ◌-◌, ◌/◌, ◌%◌, ◌<◌, ◌≤◌, ◌↔◌, leb, eqb, bit_xor, Bool, true, false, cond, List, [], ◌∷◌, ◌++◌, length, get_or, map, replicate, All, ◌⊎◌, refl, sym, ap, ap₂, ◌∙◌, subst, arith, inl, inr}
use Rattle.std.specs.List.{range_with_len}
use Rattle.std.proofs.lemmas.Bool.{cases_lt, cases_order, cond-true, cond-false, cond_both, le-leb, lt-leb, lt-ltb, le-ltb, eq-eqb, ne_eqb, false≢true}
use Rattle.std.proofs.lemmas.Nat.{div-mul-add, mod-mul-add, mul-add-lt}
use Rattle.std.proofs.lemmas.List.{length-append, length-replicate, get_or-replicate, same_lists, get_or_append_left, get_or-append_right, get_or_default}
use Rattle.std.proofs.lemmas.List.Elements.{All-nil, All-append}
use Rattle.std.proofs.lemmas.List.FromFn.{length-map-range_with_len, get_or-map-range_with_len}
use Rattle.sc_field.specs.Gf256.{gf256_product}
use Rattle.sc_field.specs.Laws.Gf256Laws.{gf256_field}
use Rattle.sc_field.specs.FieldLemmas.{zero_add, mul_zero, mul_left_comm}
use Rattle.sc_matrix.specs.Module.{IsByte, IsModule, IsLinear}
use Rattle.sc_matrix.specs.Vector.{IsVector, add_vectors, scale_vector, combination}
use Rattle.sc_matrix.specs.Matrix.{Matrix, IsMatrix, row, row_count}
use Rattle.sc_matrix.specs.RowSpace.{IsSubspace, IsInRowSpace, RowsAreIn}
use Rattle.sc_matrix.proofs.VectorLaws.{vector_of, get_or-add_vectors, get_or-scale_vector}
use Rattle.sc_matrix.proofs.Modules.{field_module, vector_module}
use Rattle.sc_matrix.proofs.RowSpaceLaws.{dot_in, row_space_subspace, row-in_row_space, row_space-rows_in}
use Rattle.sc_code.specs.Code.{Code, IsCode}
use Rattle.sc_code.specs.Determined.{IsKept, IsDecided}
use Rattle.sc_code.proofs.MeetsLaws.{IsKept-in_range}
use Rattle.sc_code.proofs.ColumnLaws.{All-map_range}
use Rattle.sc_code.proofs.ElementLaws.{DecidesElements-from_decided, decided_from_DecidesElements, IsDecidedOver-iff_bytes}
use Rattle.sc_code.proofs.ParityLaws.{AreValues, plus_symbols, parity_symbol-same, parity_symbol-plus, parity_symbol-zeros, linear-parity_symbol}
use Rattle.sc_check.specs.Span.{parity_at, image_width, image_entry, image, IsOpen, IsOpenImage, IsSpan, unit_stream, IsCleared}

-- ---- lists made from a function
pub map_range-same : {X : Type 0} (f g : ℕ → X) (n : ℕ) → ((i : ℕ) → i < n → f i ≡ g i) → map f (range_with_len 0 n) ≡ map g (range_with_len 0 n)
map_range-same f g n e =
    same_lists (map f (range_with_len 0 n)) (map g (range_with_len 0 n)) (length-map-range_with_len f 0 n ∙ sym (length-map-range_with_len g 0 n)) (λ i d lt.
    let below : i < n = omega (arith, length-map-range_with_len f 0 n) in
    get_or-map-range_with_len f 0 n i i d below (omega arith) ∙ e i below ∙ sym (get_or-map-range_with_len g 0 n i i d below (omega arith)))

add-map : (f g : ℕ → ℕ) (is : List ℕ) → map (λ i. bit_xor (f i) (g i)) is ≡ add_vectors bit_xor (map f is) (map g is)
add-map f g [] = refl
add-map f g (i ∷ is) = ap (λ (t : List ℕ). bit_xor (f i) (g i) ∷ t) (add-map f g is)

scale-map : (c : ℕ) (f : ℕ → ℕ) (is : List ℕ) → map (λ i. gf256_product c (f i)) is ≡ scale_vector gf256_product c (map f is)
scale-map c f [] = refl
scale-map c f (i ∷ is) = ap (λ (t : List ℕ). gf256_product c (f i) ∷ t) (scale-map c f is)

pub elements_module : IsModule IsByte 0 1 bit_xor gf256_product IsByte 0 bit_xor gf256_product
elements_module = field_module gf256_field

abbrev times_symbols : ℕ → (ℕ → ℕ → ℕ) → ℕ → ℕ → ℕ
times_symbols c f t i = gf256_product c (f t i)

-- ---- images
module _ (code : Code ℕ) (slots : ℕ) where
  pub entry-parity : (f : ℕ → ℕ → ℕ) (c : ℕ) → c < slots * code.r → image_entry code slots f c ≡ parity_at code f (c / code.r) (c % code.r)
  entry-parity f c lt = cond-true _ _ _ (lt-ltb c (slots * code.r) lt)

  pub entry-block : (f : ℕ → ℕ → ℕ) (c : ℕ) → slots * code.r ≤ c → image_entry code slots f c ≡ f 0 (c - slots * code.r)
  entry-block f c le = cond-false _ _ _ (le-ltb c (slots * code.r) le)

  pub image-at : (f : ℕ → ℕ → ℕ) (c : ℕ) → c < image_width code slots → get_or (image code slots f) c 0 ≡ image_entry code slots f c
  image-at f c lt = get_or-map-range_with_len (λ c. image_entry code slots f c) 0 (image_width code slots) c c 0 lt (omega arith)

  pub image-parity : (f : ℕ → ℕ → ℕ) (t j : ℕ) → t < slots → j < code.r → get_or (image code slots f) (t * code.r + j) 0 ≡ parity_at code f t j
  image-parity f t j ht hj =
      let low : t * code.r + j < slots * code.r = omega (arith, mul-add-lt t code.r j slots ht hj) in
      image-at f (t * code.r + j) (omega arith) ∙ entry-parity f (t * code.r + j) low
      ∙ ap₂ (parity_at code f) (div-mul-add t code.r j hj) (mod-mul-add t code.r j hj)

  pub image-block : (f : ℕ → ℕ → ℕ) (i : ℕ) → i < code.k → get_or (image code slots f) (slots * code.r + i) 0 ≡ f 0 i
  image-block f i hi =
      let same : slots * code.r + i - slots * code.r ≡ i = omega arith in
      image-at f (slots * code.r + i) (omega arith) ∙ entry-block f (slots * code.r + i) (omega arith) ∙ ap (f 0) same

  pub image-same : (f g : ℕ → ℕ → ℕ) → ((t i : ℕ) → i < code.k → f t i ≡ g t i) → image code slots f ≡ image code slots g
  image-same f g e =
      map_range-same (image_entry code slots f) (image_entry code slots g) (image_width code slots) (λ c lt.
      elim (cases_lt c (slots * code.r)) [
        | inl parities ↦
            entry-parity f c parities ∙ parity_symbol-same 0 0 bit_xor gf256_product code f g (c / code.r) (c % code.r) (λ u i hu hi. e u i hi) ∙ sym (entry-parity g c parities)
        | inr block ↦ entry-block f c block ∙ e 0 (c - slots * code.r) (omega arith) ∙ sym (entry-block g c block)
      ])

module _ (code : Code ℕ) (slots : ℕ) (hc : IsCode IsByte code) where
  parity-plus : (f g : ℕ → ℕ → ℕ) (t j : ℕ) → AreValues IsByte f → AreValues IsByte g → parity_at code (plus_symbols bit_xor f g) t j ≡ bit_xor (parity_at code f t j) (parity_at code g t j)
  parity-plus f g t j hf hg = parity_symbol-plus gf256_field elements_module code f g t j hc hf hg

  parity-times : (c : ℕ) (f : ℕ → ℕ → ℕ) (t j : ℕ) → IsByte c → AreValues IsByte f → parity_at code (times_symbols c f) t j ≡ gf256_product c (parity_at code f t j)
  parity-times c f t j hb hf =
      sym (linear-parity_symbol gf256_field elements_module {h = gf256_product c} (multiple c hb) code f t j hc hf)
    where
      multiple : (c : ℕ) → IsByte c → IsLinear IsByte IsByte 0 bit_xor gf256_product 0 bit_xor gf256_product (gf256_product c)
      multiple c hb = record {
        of_none = mul_zero gf256_field c hb;
        of_plus = λ u v hu hv. gf256_field.mul_add c u v hb hu hv;
        of_times = λ x v hx hv. mul_left_comm gf256_field c x v hb hx hv;
      }

  parity-zeros : (f : ℕ → ℕ → ℕ) (t j : ℕ) → ((u i : ℕ) → u ≤ t → i < code.k → f u i ≡ 0) → parity_at code f t j ≡ 0
  parity-zeros f t j e = parity_symbol-zeros gf256_field elements_module code f t j hc e

  pub image-plus : (f g : ℕ → ℕ → ℕ) → AreValues IsByte f → AreValues IsByte g → image code slots (plus_symbols bit_xor f g) ≡ add_vectors bit_xor (image code slots f) (image code slots g)
  image-plus f g hf hg =
      map_range-same (image_entry code slots (plus_symbols bit_xor f g)) (λ c. bit_xor (image_entry code slots f c) (image_entry code slots g c)) (image_width code slots) (λ c lt.
      elim (cases_lt c (slots * code.r)) [
        | inl parities ↦
            entry-parity code slots (plus_symbols bit_xor f g) c parities ∙ parity-plus f g (c / code.r) (c % code.r) hf hg
            ∙ sym (ap₂ bit_xor (entry-parity code slots f c parities) (entry-parity code slots g c parities))
        | inr block ↦
            entry-block code slots (plus_symbols bit_xor f g) c block ∙ sym (ap₂ bit_xor (entry-block code slots f c block) (entry-block code slots g c block))
      ])
      ∙ add-map (image_entry code slots f) (image_entry code slots g) (range_with_len 0 (image_width code slots))

  pub image-times : (b : ℕ) (f : ℕ → ℕ → ℕ) → IsByte b → AreValues IsByte f → image code slots (times_symbols b f) ≡ scale_vector gf256_product b (image code slots f)
  image-times b f hb hf =
      map_range-same (image_entry code slots (times_symbols b f)) (λ c. gf256_product b (image_entry code slots f c)) (image_width code slots) (λ c lt.
      elim (cases_lt c (slots * code.r)) [
        | inl parities ↦
            entry-parity code slots (times_symbols b f) c parities ∙ parity-times b f (c / code.r) (c % code.r) hb hf ∙ sym (ap (gf256_product b) (entry-parity code slots f c parities))
        | inr block ↦ entry-block code slots (times_symbols b f) c block ∙ sym (ap (gf256_product b) (entry-block code slots f c block))
      ])
      ∙ scale-map b (image_entry code slots f) (range_with_len 0 (image_width code slots))

  pub image-zeros : (f : ℕ → ℕ → ℕ) → ((t i : ℕ) → i < code.k → f t i ≡ 0) → image code slots f ≡ replicate (image_width code slots) 0
  image-zeros f e =
      same_lists (image code slots f) (replicate (image_width code slots) 0) (length-map-range_with_len (image_entry code slots f) 0 (image_width code slots) ∙ sym (length-replicate (image_width code slots) 0)) (λ c d lt.
      let below : c < image_width code slots = omega (arith, length-map-range_with_len (image_entry code slots f) 0 (image_width code slots)) in
      get_or-map-range_with_len (image_entry code slots f) 0 (image_width code slots) c c d below (omega arith)
      ∙ elim (cases_lt c (slots * code.r)) [
        | inl parities ↦ entry-parity code slots f c parities ∙ parity-zeros f (c / code.r) (c % code.r) (λ u i hu hi. e u i hi)
        | inr block ↦ entry-block code slots f c block ∙ e 0 (c - slots * code.r) (omega arith)
      ]
      ∙ sym (get_or-replicate (image_width code slots) c 0 d below))

  -- ---- images of open streams are a subspace
  abbrev values : {flags : List Bool} {f : ℕ → ℕ → ℕ} → IsOpen code flags f → AreValues IsByte f
  values o = record { value = o.elements }

  IsSubspace-open : (flags : List Bool) → IsSubspace IsByte (replicate (image_width code slots) 0) (add_vectors bit_xor) (scale_vector gf256_product) (IsOpenImage code slots flags)
  IsSubspace-open flags =
      let nothing : bit_xor 0 0 ≡ 0 = refl in
      record {
        has_none = record {
          stream = λ t i. 0;
          is_open = record {
            elements = λ t i. omega arith;
            later_blocks = λ t i le hi. refl;
            kept_blocks = λ t i kept hi. refl;
            kept_parities = λ t j kept hj. parity-zeros (λ t i. 0) t j (λ u i hu hi. refl);
          };
          is_image = sym (image-zeros (λ t i. 0) (λ t i hi. refl));
        };
        has_plus = λ u v a b.
            let x = a.is_open in
            let y = b.is_open in
            let hx : AreValues IsByte a.stream = record { value = x.elements } in
            let hy : AreValues IsByte b.stream = record { value = y.elements } in
            record {
              stream = plus_symbols bit_xor a.stream b.stream;
              is_open = record {
                elements = λ t i. gf256_field.add_element (a.stream t i) (b.stream t i) (x.elements t i) (y.elements t i);
                later_blocks = λ t i le hi. ap₂ bit_xor (x.later_blocks t i le hi) (y.later_blocks t i le hi);
                kept_blocks = λ t i kept hi. ap₂ bit_xor (x.kept_blocks t i kept hi) (y.kept_blocks t i kept hi);
                kept_parities = λ t j kept hj. parity-plus a.stream b.stream t j hx hy ∙ ap₂ bit_xor (x.kept_parities t j kept hj) (y.kept_parities t j kept hj);
              };
              is_image = ap₂ (add_vectors bit_xor) a.is_image b.is_image ∙ sym (image-plus a.stream b.stream hx hy);
            };
        has_times = λ c v hb a.
            let x = a.is_open in
            let hx : AreValues IsByte a.stream = record { value = x.elements } in
            record {
              stream = times_symbols c a.stream;
              is_open = record {
                elements = λ t i. gf256_field.mul_element c (a.stream t i) hb (x.elements t i);
                later_blocks = λ t i le hi. ap (gf256_product c) (x.later_blocks t i le hi) ∙ mul_zero gf256_field c hb;
                kept_blocks = λ t i kept hi. ap (gf256_product c) (x.kept_blocks t i kept hi) ∙ mul_zero gf256_field c hb;
                kept_parities = λ t j kept hj. parity-times c a.stream t j hb hx ∙ ap (gf256_product c) (x.kept_parities t j kept hj) ∙ mul_zero gf256_field c hb;
              };
              is_image = ap (scale_vector gf256_product c) a.is_image ∙ sym (image-times c a.stream hb hx);
            };
      }

  -- what a span has
  pub image_in_span : (flags : List Bool) (m : Matrix ℕ) (v : List ℕ) → IsSpan code slots flags m → IsInRowSpace IsByte 0 bit_xor gf256_product m v → IsOpenImage code slots flags v
  image_in_span flags m v span is =
      subst (IsOpenImage code slots flags) (sym (is.is_combination ∙ ap (λ (n : ℕ). combination 0 bit_xor gf256_product n is.coefficients m.rows) span.cols))
      (dot_in (IsSubspace-open flags) is.coefficients m.rows is.are_elements (vector_of m.rows span.images))

  -- ---- one slot more
  kept_cases : (flags : List Bool) (flag : Bool) (t : ℕ) → IsKept (flags ++ flag ∷ []) t → (IsKept flags t) ⊎ ((t ≡ length flags) × (flag ≡ false))
  kept_cases flags flag t kept =
      let within = IsKept-in_range (flags ++ flag ∷ []) t kept in
      elim (cases_lt t (length flags)) [
        | inl before ↦ inl (sym (get_or_append_left flags (flag ∷ []) true t before) ∙ kept)
        | inr past ↦
            let here : t ≡ length flags = omega (arith, within, length-append flags (flag ∷ [])) in
            let first : t - length flags ≡ 0 = omega arith in
            inr (here, sym (get_or-append_right flags (flag ∷ []) (length flags) t true refl past ∙ ap (λ (n : ℕ). get_or (flag ∷ []) n true) first) ∙ kept)
      ]

  kept_longer : (flags : List Bool) (flag : Bool) (t : ℕ) → IsKept flags t → IsKept (flags ++ flag ∷ []) t
  kept_longer flags flag t kept = get_or_append_left flags (flag ∷ []) true t (IsKept-in_range flags t kept) ∙ kept

  kept_last : (flags : List Bool) → IsKept (flags ++ false ∷ []) (length flags)
  kept_last flags =
      let first : length flags - length flags ≡ 0 = omega arith in
      get_or-append_right flags (false ∷ []) (length flags) (length flags) true refl (omega arith) ∙ ap (λ (n : ℕ). get_or (false ∷ []) n true) first

  IsOpen-kept : (flags : List Bool) (f : ℕ → ℕ → ℕ) → IsOpen code flags f → ((j : ℕ) → j < code.r → parity_at code f (length flags) j ≡ 0) → IsOpen code (flags ++ false ∷ []) f
  IsOpen-kept flags f o zeros =
      record {
        elements = o.elements;
        later_blocks = λ t i le hi. o.later_blocks t i (omega (arith, length-append flags (false ∷ []), le)) hi;
        kept_blocks = λ t i kept hi. elim (kept_cases flags false t kept) [ inl before ↦ o.kept_blocks t i before hi | inr here ↦ o.later_blocks t i (omega (arith, here.0)) hi ];
        kept_parities = λ t j kept hj.
            elim (kept_cases flags false t kept) [
              | inl before ↦ o.kept_parities t j before hj
              | inr here ↦ ap (λ (u : ℕ). parity_at code f u j) here.0 ∙ zeros j hj
            ];
      }

  IsOpen-lost : (flags : List Bool) (f : ℕ → ℕ → ℕ) → IsOpen code flags f → IsOpen code (flags ++ true ∷ []) f
  IsOpen-lost flags f o =
      record {
        elements = o.elements;
        later_blocks = λ t i le hi. o.later_blocks t i (omega (arith, length-append flags (true ∷ []), le)) hi;
        kept_blocks = λ t i kept hi. elim (kept_cases flags true t kept) [ inl before ↦ o.kept_blocks t i before hi | inr here ↦ absurd (false≢true (sym here.1)) ];
        kept_parities = λ t j kept hj. elim (kept_cases flags true t kept) [ inl before ↦ o.kept_parities t j before hj | inr here ↦ absurd (false≢true (sym here.1)) ];
      }

  IsOpen-before_kept : (flags : List Bool) (f : ℕ → ℕ → ℕ) → IsOpen code (flags ++ false ∷ []) f → IsOpen code flags f
  IsOpen-before_kept flags f o =
      record {
        elements = o.elements;
        later_blocks = λ t i le hi.
            elim (cases_lt (length flags) t) [
              | inl after ↦ o.later_blocks t i (omega (arith, length-append flags (false ∷ []), after)) hi
              | inr not_after ↦
                  let here : length flags ≡ t = omega arith in
                  o.kept_blocks t i (subst (IsKept (flags ++ false ∷ [])) here (kept_last flags)) hi
            ];
        kept_blocks = λ t i kept hi. o.kept_blocks t i (kept_longer flags false t kept) hi;
        kept_parities = λ t j kept hj. o.kept_parities t j (kept_longer flags false t kept) hj;
      }

  -- After a kept slot, whose parities are cleared.
  pub IsSpan-kept : (flags : List Bool) (old new : Matrix ℕ) → length flags < slots → IsMatrix IsByte new → IsSpan code slots flags old → IsCleared old new (length flags * code.r) (length flags * code.r + code.r) → IsSpan code slots (flags ++ false ∷ []) new
  IsSpan-kept flags old new some hm span cleared =
      record {
        cols = cleared.cols ∙ span.cols;
        images = λ k d h.
            let is : IsInRowSpace IsByte 0 bit_xor gf256_product new (get_or new.rows k d) =
            subst (IsInRowSpace IsByte 0 bit_xor gf256_product new) (get_or_default new.rows k [] d h) (row-in_row_space gf256_field new k hm h) in
            let o : IsOpenImage code slots flags (get_or new.rows k d) = image_in_span flags old (get_or new.rows k d) span (cleared.within (get_or new.rows k d) is) in
            record {
              stream = o.stream;
              is_open = IsOpen-kept flags o.stream o.is_open (λ j hj.
                  sym (image-parity code slots o.stream (length flags) j some hj) ∙ ap (λ (v : List ℕ). get_or v (length flags * code.r + j) 0) (sym o.is_image)
                  ∙ cleared.zero_there (get_or new.rows k d) is (length flags * code.r + j) (omega arith) (omega arith));
              is_image = o.is_image;
            };
        spans = λ f o.
            cleared.all_of_them (image code slots f) (span.spans f (IsOpen-before_kept flags f o)) (λ c le lt.
            let j : ℕ = c - length flags * code.r in
            let place : c ≡ length flags * code.r + (c - length flags * code.r) = omega arith in
            ap (λ (n : ℕ). get_or (image code slots f) n 0) place
            ∙ image-parity code slots f (length flags) (c - length flags * code.r) some (omega arith)
            ∙ o.kept_parities (length flags) (c - length flags * code.r) (kept_last flags) (omega arith));
      }

-- ---- a coordinate at which each row is zero
abbrev ZeroAt : ℕ → ℕ → List ℕ → Type 0
ZeroAt n c v = IsVector IsByte n v × (get_or v c 0 ≡ 0)

IsSubspace-zero_at : (n c : ℕ) → c < n → IsSubspace IsByte (replicate n 0) (add_vectors bit_xor) (scale_vector gf256_product) (ZeroAt n c)
IsSubspace-zero_at n c lt =
    let vectors = vector_module elements_module n in
    record {
      has_none = (vectors.none_value, get_or-replicate n c 0 0 lt);
      has_plus = λ u v a b.
          let within : c < length u = omega (arith, a.0.width) in (
            vectors.plus_value u v a.0 b.0,
            get_or-add_vectors bit_xor u v c 0 (a.0.width ∙ sym b.0.width) within ∙ ap₂ bit_xor a.1 b.1,
          );
      has_times = λ x v hx a.
          let within : c < length v = omega (arith, a.0.width) in (
            vectors.times_value x v hx a.0,
            get_or-scale_vector gf256_product x v c 0 within ∙ ap (gf256_product x) a.1 ∙ mul_zero gf256_field x hx,
          );
    }

pub zero_in_row_space : (m : Matrix ℕ) (c : ℕ) → IsMatrix IsByte m → c < m.cols → ((k : ℕ) → k < row_count m → get_or (row m k) c 0 ≡ 0)
    → (v : List ℕ) → IsInRowSpace IsByte 0 bit_xor gf256_product m v → get_or v c 0 ≡ 0
zero_in_row_space m c hm lt zeros v is =
    let rows : All (ZeroAt m.cols c) m.rows = λ k d h. (hm.vectors k d h, ap (λ (r : List ℕ). get_or r c 0) (get_or_default m.rows k d [] h) ∙ zeros k h) in
    let both : ZeroAt m.cols c (combination 0 bit_xor gf256_product m.cols is.coefficients m.rows) = dot_in (IsSubspace-zero_at m.cols c lt) is.coefficients m.rows is.are_elements (vector_of m.rows rows) in
    ap (λ (w : List ℕ). get_or w c 0) is.is_combination ∙ both.1

-- ---- parts of streams, and unit streams
-- the blocks of f before slot s, and the first q symbols of slot s
abbrev upto : ℕ → ℕ → (ℕ → ℕ → ℕ) → ℕ → ℕ → ℕ
upto s q f t i = cond (leb (suc t) s) (f t i) (cond (leb t s) (cond (leb (suc i) q) (f t i) 0) 0)

upto-before : (s q : ℕ) (f : ℕ → ℕ → ℕ) (t i : ℕ) → t < s → upto s q f t i ≡ f t i
upto-before s q f t i lt = cond-true (leb (suc t) s) _ _ (le-leb (suc t) s (omega arith))

upto-not_before : (s q : ℕ) (f : ℕ → ℕ → ℕ) (t i : ℕ) → s ≤ t → upto s q f t i ≡ cond (leb t s) (cond (leb (suc i) q) (f t i) 0) 0
upto-not_before s q f t i le = cond-false (leb (suc t) s) _ _ (lt-leb (suc t) s (omega arith))

upto-after : (s q : ℕ) (f : ℕ → ℕ → ℕ) (t i : ℕ) → s < t → upto s q f t i ≡ 0
upto-after s q f t i lt = upto-not_before s q f t i (omega arith) ∙ cond-false (leb t s) _ _ (lt-leb t s lt)

upto-within : (s q : ℕ) (f : ℕ → ℕ → ℕ) (t i : ℕ) → t ≡ s → i < q → upto s q f t i ≡ f t i
upto-within s q f t i e lt =
    upto-not_before s q f t i (omega arith) ∙ cond-true (leb t s) _ _ (le-leb t s (omega arith)) ∙ cond-true (leb (suc i) q) _ _ (le-leb (suc i) q (omega arith))

upto-past : (s q : ℕ) (f : ℕ → ℕ → ℕ) (t i : ℕ) → t ≡ s → q ≤ i → upto s q f t i ≡ 0
upto-past s q f t i e le =
    upto-not_before s q f t i (omega arith) ∙ cond-true (leb t s) _ _ (le-leb t s (omega arith)) ∙ cond-false (leb (suc i) q) _ _ (lt-leb (suc i) q (omega arith))

byte-upto : (s q : ℕ) (f : ℕ → ℕ → ℕ) → AreValues IsByte f → AreValues IsByte (upto s q f)
byte-upto s q f hf =
    record {
      value = λ t i.
          cond_both (leb (suc t) s) _ _ IsByte (λ e. hf.value t i) (λ e.
          cond_both (leb t s) _ _ IsByte (λ e. cond_both (leb (suc i) q) _ _ IsByte (λ e. hf.value t i) (λ e. omega arith)) (λ e. omega arith));
    }

pub unit-other_slot : (s p t i : ℕ) → t ≢ s → unit_stream s p t i ≡ 0
unit-other_slot s p t i ne = cond-false _ _ _ (ne_eqb t s ne)

pub unit-other_symbol : (s p t i : ℕ) → t ≡ s → i ≢ p → unit_stream s p t i ≡ 0
unit-other_symbol s p t i e ne = cond-true _ _ _ (eq-eqb t s e) ∙ cond-false _ _ _ (ne_eqb i p ne)

pub unit-one : (s p t i : ℕ) → t ≡ s → i ≡ p → unit_stream s p t i ≡ 1
unit-one s p t i e e' = cond-true _ _ _ (eq-eqb t s e) ∙ cond-true _ _ _ (eq-eqb i p e')

pub byte-unit : (s p : ℕ) → AreValues IsByte (unit_stream s p)
byte-unit s p = record { value = λ t i. cond_both (eqb t s) (cond (eqb i p) 1 0) 0 IsByte (λ e. cond_both (eqb i p) 1 0 IsByte (λ e. omega arith) (λ e. omega arith)) (λ e. omega arith) }

-- one symbol more of slot s
upto-more : (s q : ℕ) (f : ℕ → ℕ → ℕ) → AreValues IsByte f → (t i : ℕ) → upto s (suc q) f t i ≡ plus_symbols bit_xor (upto s q f) (times_symbols (f s q) (unit_stream s q)) t i
upto-more s q f hf t i =
    let hq : IsByte (f s q) = hf.value s q in
    let hu : IsByte (upto s q f t i) = (byte-upto s q f hf).value t i in
    let nothing : (x : ℕ) → IsByte x → unit_stream s q t i ≡ 0 → x ≡ bit_xor x (gf256_product (f s q) (unit_stream s q t i)) = λ x hx e.
    sym (ap (λ (y : ℕ). bit_xor x (gf256_product (f s q) y)) e ∙ ap (bit_xor x) (mul_zero gf256_field (f s q) hq) ∙ gf256_field.add_zero x hx) in
    elim (cases_order t s) [
      | inl here ↦ elim (cases_order i q) [
        | inl last ↦
            upto-within s (suc q) f t i here (omega arith) ∙ ap₂ f here last ∙ sym (gf256_field.mul_one (f s q) hq)
            ∙ sym (zero_add gf256_field (gf256_product (f s q) 1) (gf256_field.mul_element (f s q) 1 hq gf256_field.one_element))
            ∙ sym (ap₂ (λ (x y : ℕ). bit_xor x (gf256_product (f s q) y)) (upto-past s q f t i here (omega arith)) (unit-one s q t i here last))
        | inr other ↦ elim other [
          | inl lower ↦
              upto-within s (suc q) f t i here (omega arith) ∙ sym (upto-within s q f t i here lower)
              ∙ nothing (upto s q f t i) hu (unit-other_symbol s q t i here (λ e. absurd (omega arith)))
          | inr higher ↦
              upto-past s (suc q) f t i here (omega arith) ∙ sym (upto-past s q f t i here (omega arith))
              ∙ nothing (upto s q f t i) hu (unit-other_symbol s q t i here (λ e. absurd (omega arith)))
        ]
      ]
      | inr other ↦ elim other [
        | inl before ↦
            upto-before s (suc q) f t i before ∙ sym (upto-before s q f t i before)
            ∙ nothing (upto s q f t i) hu (unit-other_slot s q t i (λ e. absurd (omega arith)))
        | inr after ↦
            upto-after s (suc q) f t i after ∙ sym (upto-after s q f t i after)
            ∙ nothing (upto s q f t i) hu (unit-other_slot s q t i (λ e. absurd (omega arith)))
      ]
    ]

module _ (code : Code ℕ) (slots : ℕ) (hc : IsCode IsByte code) where
  -- the part of a stream before a slot is open there
  IsOpen-part : (flags : List Bool) (f : ℕ → ℕ → ℕ) → AreValues IsByte f → ((t i : ℕ) → IsKept flags t → i < code.k → f t i ≡ 0)
      → ((t j : ℕ) → IsKept flags t → j < code.r → parity_at code f t j ≡ 0) → IsOpen code flags (upto (length flags) 0 f)
  IsOpen-part flags f hf blocks parities =
      record {
        elements = (byte-upto (length flags) 0 f hf).value;
        later_blocks = λ t i le hi.
            elim (cases_lt (length flags) t) [
              | inl after ↦ upto-after (length flags) 0 f t i after
              | inr not_after ↦ upto-past (length flags) 0 f t i (omega arith) (omega arith)
            ];
        kept_blocks = λ t i kept hi. upto-before (length flags) 0 f t i (IsKept-in_range flags t kept) ∙ blocks t i kept hi;
        kept_parities = λ t j kept hj.
            let before = IsKept-in_range flags t kept in
            parity_symbol-same 0 0 bit_xor gf256_product code (upto (length flags) 0 f) f t j (λ u i hu hi. upto-before (length flags) 0 f u i (omega arith)) ∙ parities t j kept hj;
      }

  IsOpen-unit : (flags : List Bool) (p : ℕ) → IsOpen code (flags ++ true ∷ []) (unit_stream (length flags) p)
  IsOpen-unit flags p =
      let s : ℕ = length flags in
      let other : (t : ℕ) → IsKept (flags ++ true ∷ []) t → t < length flags = λ t kept.
      elim (kept_cases code slots hc flags true t kept) [ inl before ↦ IsKept-in_range flags t before | inr here ↦ absurd (false≢true (sym here.1)) ] in
      record {
        elements = (byte-unit (length flags) p).value;
        later_blocks = λ t i le hi. unit-other_slot (length flags) p t i (λ e. absurd (omega (arith, length-append flags (true ∷ []), le)));
        kept_blocks = λ t i kept hi. unit-other_slot (length flags) p t i (λ e. absurd (omega (arith, other t kept)));
        kept_parities = λ t j kept hj.
            parity-zeros code slots hc (unit_stream (length flags) p) t j (λ u i hu hi. unit-other_slot (length flags) p u i (λ e. absurd (omega (arith, other t kept))));
      }

  -- the image of a stream is in a row space that has that of its part before slot s and the unit images
  symbols_in_span : (m : Matrix ℕ) (s : ℕ) (f : ℕ → ℕ → ℕ) → IsMatrix IsByte m → m.cols ≡ image_width code slots → AreValues IsByte f
      → ((p : ℕ) → p < code.k → IsInRowSpace IsByte 0 bit_xor gf256_product m (image code slots (unit_stream s p)))
      → IsInRowSpace IsByte 0 bit_xor gf256_product m (image code slots (upto s 0 f))
      → (q : ℕ) → q ≤ code.k → IsInRowSpace IsByte 0 bit_xor gf256_product m (image code slots (upto s q f))
  symbols_in_span m s f hm cols hf units first none le = first
  symbols_in_span m s f hm cols hf units first (suc q) le =
      let sub = row_space_subspace gf256_field m hm in
      let hq : IsByte (f s q) = hf.value s q in
      let one_more : AreValues IsByte (times_symbols (f s q) (unit_stream s q)) = record { value = λ t i. gf256_field.mul_element (f s q) (unit_stream s q t i) hq ((byte-unit s q).value t i) } in
      subst (IsInRowSpace IsByte 0 bit_xor gf256_product m)
      (sym (image-same code slots (upto s (suc q) f) (plus_symbols bit_xor (upto s q f) (times_symbols (f s q) (unit_stream s q))) (λ t i hi. upto-more s q f hf t i)
      ∙ image-plus code slots hc (upto s q f) (times_symbols (f s q) (unit_stream s q)) (byte-upto s q f hf) one_more
      ∙ ap (add_vectors bit_xor (image code slots (upto s q f))) (image-times code slots hc (f s q) (unit_stream s q) hq (byte-unit s q))))
      (sub.has_plus _ _ (symbols_in_span m s f hm cols hf units first q (omega arith)) (sub.has_times (f s q) _ hq (units q (omega arith))))

  -- After a lost slot: the images of its unit streams are appended.
  pub IsSpan-lost : (flags : List Bool) (old new : Matrix ℕ) → IsMatrix IsByte new → IsSpan code slots flags old → new.cols ≡ old.cols
      → new.rows ≡ old.rows ++ map (λ p. image code slots (unit_stream (length flags) p)) (range_with_len 0 code.k) → IsSpan code slots (flags ++ true ∷ []) new
  IsSpan-lost flags old new hm span same_cols rows =
      let units : List (List ℕ) = map (λ p. image code slots (unit_stream (length flags) p)) (range_with_len 0 code.k) in
      let cols : new.cols ≡ image_width code slots = same_cols ∙ span.cols in
      let in_new : (k : ℕ) (v : List ℕ) → k < length new.rows → get_or new.rows k [] ≡ v → IsInRowSpace IsByte 0 bit_xor gf256_product new v = λ k v h e.
      subst (IsInRowSpace IsByte 0 bit_xor gf256_product new) e (row-in_row_space gf256_field new k hm h) in
      let long : length new.rows ≡ length old.rows + code.k =
      ap length rows ∙ length-append old.rows (map (λ p. image code slots (unit_stream (length flags) p)) (range_with_len 0 code.k))
      ∙ ap (λ (n : ℕ). length old.rows + n) (length-map-range_with_len (λ p. image code slots (unit_stream (length flags) p)) 0 code.k) in
      let old_in : RowsAreIn IsByte 0 bit_xor gf256_product old new = record {
        cols = sym same_cols;
        rows = λ k d h.
            in_new k (get_or old.rows k d) (omega (arith, long))
            (ap (λ (rs : List (List ℕ)). get_or rs k []) rows ∙ get_or_append_left old.rows (map (λ p. image code slots (unit_stream (length flags) p)) (range_with_len 0 code.k)) [] k h ∙ get_or_default old.rows k [] d h);
      } in
      record {
        cols = cols;
        images = subst (All (IsOpenImage code slots (flags ++ true ∷ []))) (sym rows)
            (All-append (IsOpenImage code slots (flags ++ true ∷ [])) old.rows (map (λ p. image code slots (unit_stream (length flags) p)) (range_with_len 0 code.k))
            (λ k d h.
            let o : IsOpenImage code slots flags (get_or old.rows k d) = span.images k d h in
            record { stream = o.stream; is_open = IsOpen-lost code slots hc flags o.stream o.is_open; is_image = o.is_image })
            (All-map_range (IsOpenImage code slots (flags ++ true ∷ [])) (λ p. image code slots (unit_stream (length flags) p)) code.k (λ p hp.
            record { stream = unit_stream (length flags) p; is_open = IsOpen-unit flags p; is_image = refl })));
        spans = λ f o.
            let hf : AreValues IsByte f = record { value = o.elements } in
            let part : IsOpen code flags (upto (length flags) 0 f) =
            IsOpen-part flags f hf (λ t i kept hi. o.kept_blocks t i (kept_longer code slots hc flags true t kept) hi) (λ t j kept hj. o.kept_parities t j (kept_longer code slots hc flags true t kept) hj) in
            let first : IsInRowSpace IsByte 0 bit_xor gf256_product new (image code slots (upto (length flags) 0 f)) =
            row_space-rows_in gf256_field old new (image code slots (upto (length flags) 0 f)) hm old_in (span.spans (upto (length flags) 0 f) part) in
            let unit : (p : ℕ) → p < code.k → IsInRowSpace IsByte 0 bit_xor gf256_product new (image code slots (unit_stream (length flags) p)) = λ p hp.
            let place : length old.rows + p - length old.rows ≡ p = omega arith in
            in_new (length old.rows + p) (image code slots (unit_stream (length flags) p)) (omega (arith, long))
            (ap (λ (rs : List (List ℕ)). get_or rs (length old.rows + p) []) rows
            ∙ get_or-append_right old.rows (map (λ p. image code slots (unit_stream (length flags) p)) (range_with_len 0 code.k)) (length old.rows) (length old.rows + p) [] refl (omega arith)
            ∙ ap (λ (n : ℕ). get_or (map (λ p. image code slots (unit_stream (length flags) p)) (range_with_len 0 code.k)) n []) place
            ∙ get_or-map-range_with_len (λ p. image code slots (unit_stream (length flags) p)) 0 code.k p p [] hp (omega arith)) in
            subst (IsInRowSpace IsByte 0 bit_xor gf256_product new)
            (image-same code slots (upto (length flags) code.k f) f (λ t i hi.
            elim (cases_order t (length flags)) [
              | inl here ↦ upto-within (length flags) code.k f t i here hi
              | inr other ↦ elim other [
                | inl earlier ↦ upto-before (length flags) code.k f t i earlier
                | inr after ↦ upto-after (length flags) code.k f t i after ∙ sym (o.later_blocks t i (omega (arith, length-append flags (true ∷ []), after)) hi)
              ]
            ]))
            (symbols_in_span new (length flags) f hm cols hf unit first code.k (omega arith));
      }

  -- ---- the start: no stream but that of zeros is open, and there is no row
  pub IsSpan-start : (m : Matrix ℕ) → m.cols ≡ image_width code slots → m.rows ≡ [] → IsSpan code slots [] m
  IsSpan-start m cols rows =
      record {
        cols = cols;
        images = subst (All (IsOpenImage code slots [])) (sym rows) (All-nil (IsOpenImage code slots []));
        spans = λ f o. record {
          coefficients = [];
          are_elements = record { width = ap length (sym rows); entries = All-nil IsByte };
          is_combination = image-zeros code slots hc f (λ t i hi. o.later_blocks t i (omega arith) hi) ∙ ap (λ (n : ℕ). replicate n 0) (sym cols);
        };
      }

  -- ---- what a span tells of block 0
  -- Block 0 is zero in each row exactly where the flags so far decide.
  pub decides-span : (flags : List Bool) (m : Matrix ℕ) → IsMatrix IsByte m → 0 < length flags → IsSpan code slots flags m
      → ((k i : ℕ) → k < row_count m → i < code.k → get_or (row m k) (slots * code.r + i) 0 ≡ 0) ↔ IsDecided 0 gf256_product code flags
  decides-span flags m hm some span = (
    λ zeros.
        (IsDecidedOver-iff_bytes gf256_product code flags some).0
        (decided_from_DecidesElements IsByte 0 bit_xor gf256_product code flags (omega arith) some (record {
          decides = λ f hf blocks parities i hi.
              let o : IsOpen code flags (upto (length flags) 0 f) = IsOpen-part flags f hf (λ t i kept hi. blocks t kept i hi) (λ t j kept hj. parities t kept j hj) in
              let is : IsInRowSpace IsByte 0 bit_xor gf256_product m (image code slots (upto (length flags) 0 f)) = span.spans (upto (length flags) 0 f) o in
              sym (upto-before (length flags) 0 f 0 i some) ∙ sym (image-block code slots (upto (length flags) 0 f) i hi)
              ∙ zero_in_row_space m (slots * code.r + i) hm (omega (arith, span.cols)) (λ k h. zeros k i h hi) (image code slots (upto (length flags) 0 f)) is;
        })),
    λ decided k i h hi.
        let o : IsOpenImage code slots flags (get_or m.rows k []) = span.images k [] h in
        let x = o.is_open in
        let over = DecidesElements-from_decided IsByte 0 bit_xor gf256_product code flags some ((IsDecidedOver-iff_bytes gf256_product code flags some).1 decided) in
        ap (λ (v : List ℕ). get_or v (slots * code.r + i) 0) o.is_image ∙ image-block code slots o.stream i hi
        ∙ over.decides o.stream (record { value = x.elements }) (λ t kept i hi. x.kept_blocks t i kept hi) (λ t kept j hj. x.kept_parities t j kept hj) i hi,
  )
