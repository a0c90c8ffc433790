-- The terms of a parity symbol as its row, and what the row says where some columns are whole.
use Rattle.std.proofs.Common.{◌≡◌, ◌⊎◌, ◌↔◌, ℕ, zero as nought, suc, ◌+◌, ◌-◌, ◌*◌, ◌<◌, ◌≤◌, Bool, true, false, cond, leb, List, [], ◌∷◌, ◌++◌, length, get_or, map, set, take, drop, replicate, flat_map, All, bit_xor, refl, sym, ap, ap₂, ◌∙◌, subst, arith, length-set, add-mul, suc-mul, inl, inr}
use Rattle.std.specs.List.{range_with_len}
use Rattle.std.specs.Int.Bits.{xor_self}
use Rattle.std.proofs.lemmas.Bool.{cases_lt, cases_eq, cond-true, cond-false, le-leb, lt-leb}
use Rattle.std.proofs.lemmas.List.{length-replicate, length-append, length-take-le, length-drop, get_or-replicate, get_or-take, get_or-drop, get_or_past, get_or_default, get_or_append_left, get_or-append_right, get_or-set_same, get_or-set_other, take-append-drop, take-take, drop-drop, drop-take, take_more, take_all, ext_get_or}
use Rattle.std.proofs.lemmas.List.Elements.{All-append, All-cons, All-nil, All-replicate, All-from_get_or, All-get_or, All-take, All-drop}
use Rattle.std.proofs.lemmas.List.FromFn.{length-map-range_with_len, get_or-map-range_with_len}
use Rattle.std.proofs.lemmas.List.Sums.{fold_push}
use Rattle.sc_field.specs.Gf256.{gf256_product}
use Rattle.sc_field.specs.Laws.Gf256Laws.{gf256_field, gf256_action}
use Rattle.sc_field.specs.Scale.{scaled_sum}
use Rattle.sc_field.specs.Terms.{combined}
use Rattle.sc_matrix.specs.Module.{IsByte, IsModule}
use Rattle.sc_matrix.specs.Vector.{add_vectors, combination}
use Rattle.sc_matrix.specs.Layout.{cut}
use Rattle.sc_matrix.proofs.LayoutLaws.{vectors-cut, length-cut, get_or-cut, row_within}
use Rattle.sc_matrix.proofs.VectorLaws.{vector_of, length-add_vectors, get_or-add_vectors}
use Rattle.sc_matrix.proofs.ModuleLaws.{dot-append, none_plus}
use Rattle.sc_matrix.proofs.ByteSteps.{scaled_sum_is}
use Rattle.sc_code.specs.Code.{Code, coefficient}
use Rattle.sc_code.proofs.ParityLaws.{coefficient-past}
use Rattle.sc_slots.specs.Rows.{row_of, parity_row}
use Rattle.sc_echelon.specs.Knowledge.{Knowledge, IsSolution, IsBytes, IsValueAt, zero_bytes, xor_bytes, act_bytes}
use Rattle.sc_echelon.proofs.Bytes.{bytes_module}
use Rattle.sc_echelon.proofs.DotLaws.{dot_value, dot_none, dot_same, dot-add}
use Rattle.sc_repair.specs.Equations.{Gives, Learns, Refuses}
use Rattle.sc_repair.specs.Columns.{AreValuesAt, HasStored, IsColumns, all_known}
use Rattle.sc_repair.specs.Sum.{placed, open_at, AreColumns, AreTerms, IsOpening}
use Rattle.sc_repair.proofs.ColumnSteps.{all_known-iff, value_where_whole, xor_back, cases, zero_says}
use Rattle.sc_repair.proofs.EquationSteps.{row_of_entries, fewer_columns}

bytes_are : (w : ℕ) → IsModule IsByte 0 1 bit_xor gf256_product (IsBytes w) (zero_bytes w) xor_bytes (act_bytes gf256_product)
bytes_are w = bytes_module gf256_action w

-- a sum of multiples of byte strings
abbrev comb : ℕ → List ℕ → List (List ℕ) → List ℕ
comb w cs vs = combination 0 bit_xor gf256_product w cs vs

comb_value : (w : ℕ) (cs : List ℕ) (vs : List (List ℕ)) → All IsByte cs → All (IsBytes w) vs → IsBytes w (comb w cs vs)
comb_value w cs vs a b = dot_value gf256_field (bytes_are w) cs vs a b

-- ---- the columns

pub columns_more : (row : List ℕ) (n : ℕ) (cols : List ℕ) → AreColumns row n cols → AreColumns row (n + 1) (cols ++ n ∷ [])
columns_more row n cols h =
    let long : length (cols ++ n ∷ []) ≡ length cols + 1 = length-append cols (n ∷ []) in
    let left : (x : ℕ) → x < length cols → get_or (cols ++ n ∷ []) x 0 ≡ get_or cols x 0 = λ x lt. get_or_append_left cols (n ∷ []) 0 x lt in
    let last : get_or (cols ++ n ∷ []) (length cols) 0 ≡ n = get_or-append_right cols (n ∷ []) (length cols) (length cols) 0 refl (omega arith) ∙ (let e : length cols - length cols ≡ 0 = omega arith in ap (λ (x : ℕ). get_or (n ∷ []) x 0) e) in
    record {
      within = λ x lt. elim (cases_lt x (length cols)) [
        | inl low ↦ (let e = left x low in let w = h.within x low in omega arith)
        | inr high ↦ (let same : length cols ≡ x = omega arith in subst (λ (y : ℕ). get_or (cols ++ n ∷ []) y 0 < n + 1) same (omega arith))
      ];
      all = λ c lt ne. elim (cases_lt c n) [
        | inl low ↦ (let x = h.all c low ne in (x.0, omega arith, left x.0 x.1 ∙ x.2))
        | inr high ↦ (length cols, omega arith, last ∙ omega arith)
      ];
    }

pub columns_skip : (row : List ℕ) (n : ℕ) (cols : List ℕ) → AreColumns row n cols → get_or row n 0 ≡ 0 → AreColumns row (n + 1) cols
columns_skip row n cols h zero = record {
  within = λ x lt. (let w = h.within x lt in omega arith);
  all = λ c lt ne. elim (cases_lt c n) [
    | inl low ↦ h.all c low ne
    | inr high ↦ absurd (ne (let same : n ≡ c = omega arith in subst (λ (y : ℕ). get_or row y 0 ≡ 0) same zero))
  ];
}

-- ---- the terms

comb_more : (w c : ℕ) (row : List ℕ) (vs : List (List ℕ)) → All IsByte row → All (IsBytes w) vs → c < length row → c < length vs
    → comb w (take (c + 1) row) (take (c + 1) vs) ≡ xor_bytes (comb w (take c row) (take c vs)) (act_bytes gf256_product (get_or row c 0) (get_or vs c []))
comb_more w c row vs a b l k =
    let ml = bytes_are w in
    let x = get_or row c 0 in
    let v = get_or vs c [] in
    let hx : IsByte x = All-get_or IsByte row c 0 l a in
    let hv : IsBytes w v = All-get_or (IsBytes w) vs c [] k b in
    let lr : length (take c row) ≡ length (take c vs) = length-take-le c row (omega arith) ∙ sym (length-take-le c vs (omega arith)) in
    let both : comb w (take c row ++ x ∷ []) (take c vs ++ v ∷ []) ≡ xor_bytes (comb w (take c row) (take c vs)) (comb w (x ∷ []) (v ∷ [])) =
    dot-append gf256_field ml (take c row) (x ∷ []) (take c vs) (v ∷ []) lr (vector_of (take c row) (All-take IsByte c row a)) (vector_of (x ∷ []) (All-cons IsByte x [] hx (All-nil IsByte)))
    (vector_of (take c vs) (All-take (IsBytes w) c vs b)) (vector_of (v ∷ []) (All-cons (IsBytes w) v [] hv (All-nil (IsBytes w)))) in
    ap₂ (comb w) (take_more row c 0 l) (take_more vs c [] k) ∙ both ∙ ap (xor_bytes (comb w (take c row) (take c vs))) (ml.plus_none (act_bytes gf256_product x v) (ml.times_value x v hx hv))

module _ {T : Type 0} (coefficient place : T → ℕ) where
  pub terms_none : (w : ℕ) (row : List ℕ) → AreTerms coefficient place w row 0 []
  terms_none w row = record {
    elements = λ c lt. absurd (omega arith);
    within = All-nil _;
    total = λ bytes dst ld lb ad ab ar. sym ((bytes_are w).plus_none dst (record { width = ld; entries = ad }));
  }

  elements_more : (row : List ℕ) (n : ℕ) → ((c : ℕ) → c < n → get_or row c 0 < 256) → get_or row n 0 < 256 → (c : ℕ) → c < n + 1 → get_or row c 0 < 256
  elements_more row n low here c lt = elim (cases_lt c n) [
    | inl l ↦ low c l
    | inr h ↦ (let same : n ≡ c = omega arith in subst (λ (y : ℕ). get_or row y 0 < 256) same here)
  ]

  within_more : (w n : ℕ) (terms : List T) → All (λ t. place t + w ≤ n * w) terms → All (λ t. place t + w ≤ (n + 1) * w) terms
  within_more w n terms h = λ k d lt. (let x = h k d lt in let e : (n + 1) * w ≡ n * w + 1 * w = add-mul n 1 w in omega arith)

  pub terms_more : (w : ℕ) (row : List ℕ) (n : ℕ) (terms : List T) (t : T) → AreTerms coefficient place w row n terms → n < length row → get_or row n 0 < 256 → coefficient t ≡ get_or row n 0 → place t ≡ n * w
      → AreTerms coefficient place w row (n + 1) (terms ++ t ∷ [])
  terms_more w row n terms t h lt byte ec ep =
      let e : (n + 1) * w ≡ n * w + 1 * w = add-mul n 1 w in
      record {
        elements = elements_more row n h.elements byte;
        within = All-append (λ t. place t + w ≤ (n + 1) * w) terms (t ∷ []) (within_more w n terms h.within) (All-cons (λ t. place t + w ≤ (n + 1) * w) t [] (omega arith) (All-nil (λ t. place t + w ≤ (n + 1) * w)));
        total = λ bytes dst ld lb ad ab ar.
            let ml = bytes_are w in
            let cuts = cut (length row) w bytes in
            let lc : length cuts ≡ length row = length-cut (length row) w bytes in
            let values = vectors-cut IsByte (length row) w bytes lb ab in
            let sum = comb w (take n row) (take n cuts) in
            let hs : IsBytes w sum = comb_value w (take n row) (take n cuts) (All-take IsByte n row ar) (All-take (IsBytes w) n cuts values) in
            let part = get_or cuts n [] in
            let hp : IsBytes w part = All-get_or (IsBytes w) cuts n [] (omega arith) values in
            let hd : IsBytes w dst = record { width = ld; entries = ad } in
            let all = add_vectors bit_xor dst sum in
            let la : length all ≡ w = (ml.plus_value dst sum hd hs).width in
            let f : T → ℕ → ℕ = λ t. gf256_product (coefficient t) in
            let step : (a : List ℕ) → List ℕ = λ a. scaled_sum (f t) a (take (length a) (drop (place t) bytes)) in
            let taken : take (length all) (drop (place t) bytes) ≡ part = ap₂ (λ (x y : ℕ). take x (drop y bytes)) la ep ∙ sym (get_or-cut (length row) w bytes n [] lt) in
            let term : act_bytes gf256_product (coefficient t) part ≡ act_bytes gf256_product (get_or row n 0) part = ap (λ (x : ℕ). act_bytes gf256_product x part) ec in
            let added : scaled_sum (f t) all part ≡ add_vectors bit_xor all (act_bytes gf256_product (coefficient t) part) = scaled_sum_is (f t) all part (hp.width ∙ sym la) in
            let hx : IsBytes w (act_bytes gf256_product (get_or row n 0) part) = ml.times_value (get_or row n 0) part byte hp in
            fold_push (λ (a : List ℕ) (t : T). scaled_sum (f t) a (take (length a) (drop (place t) bytes))) dst terms t ∙ ap step (h.total bytes dst ld lb ad ab ar)
            ∙ ap (scaled_sum (f t) all) taken ∙ added ∙ ap (add_vectors bit_xor all) term ∙ ml.plus_assoc dst sum (act_bytes gf256_product (get_or row n 0) part) hd hs hx
            ∙ ap (add_vectors bit_xor dst) (sym (comb_more w n row cuts ar values lt (omega arith)));
      }

  pub terms_skip : (w : ℕ) (row : List ℕ) (n : ℕ) (terms : List T) → AreTerms coefficient place w row n terms → n < length row → get_or row n 0 ≡ 0 → AreTerms coefficient place w row (n + 1) terms
  terms_skip w row n terms h lt none = record {
    elements = elements_more row n h.elements (omega arith);
    within = within_more w n terms h.within;
    total = λ bytes dst ld lb ad ab ar.
        let ml = bytes_are w in
        let cuts = cut (length row) w bytes in
        let lc : length cuts ≡ length row = length-cut (length row) w bytes in
        let values = vectors-cut IsByte (length row) w bytes lb ab in
        let sum = comb w (take n row) (take n cuts) in
        let hs : IsBytes w sum = comb_value w (take n row) (take n cuts) (All-take IsByte n row ar) (All-take (IsBytes w) n cuts values) in
        let part = get_or cuts n [] in
        let hp : IsBytes w part = All-get_or (IsBytes w) cuts n [] (omega arith) values in
        h.total bytes dst ld lb ad ab ar
        ∙ ap (add_vectors bit_xor dst) (sym (comb_more w n row cuts ar values lt (omega arith) ∙ ap (λ (x : ℕ). xor_bytes sum (act_bytes gf256_product x part)) none ∙ ap (xor_bytes sum) (ml.times_zero part hp) ∙ ml.plus_none sum hs));
  }

  -- all terms make the combination
  pub terms_all : (w : ℕ) (row : List ℕ) (terms : List T) → AreTerms coefficient place w row (length row) terms → (bytes dst : List ℕ) → length dst ≡ w → length bytes ≡ length row * w → All IsByte dst → All IsByte bytes
      → combined (λ t. gf256_product (coefficient t)) place terms dst bytes ≡ add_vectors bit_xor dst (comb w row (cut (length row) w bytes))
  terms_all w row terms h bytes dst ld lb ad ab =
      h.total bytes dst ld lb ad ab (All-from_get_or IsByte row 0 h.elements)
      ∙ ap (add_vectors bit_xor dst) (ap₂ (comb w) (take_all (length row) row (omega arith)) (take_all (length row) (cut (length row) w bytes) (let l = length-cut (length row) w bytes in omega arith)))

-- ---- a row among others

module _ (n first : ℕ) (row : List ℕ) (room : first + length row ≤ n) where
  pub length-placed : length (placed n first row) ≡ n
  length-placed =
      let a : length (replicate {A = ℕ} first 0) ≡ first = length-replicate first 0 in
      let b : length (replicate {A = ℕ} (n - (first + length row)) 0) ≡ n - (first + length row) = length-replicate (n - (first + length row)) 0 in
      let c = length-append row (replicate (n - (first + length row)) 0) in
      length-append (replicate first 0) (row ++ replicate (n - (first + length row)) 0) ∙ omega arith

  zeros_at : (k i : ℕ) → get_or (replicate {A = ℕ} k 0) i 0 ≡ 0
  zeros_at k i = elim (cases_lt i k) [
    | inl lt ↦ get_or-replicate k i 0 0 lt
    | inr past ↦ get_or_past (replicate k 0) i 0 (let l : length (replicate {A = ℕ} k 0) ≡ k = length-replicate k 0 in omega arith)
  ]

  pub placed_before : (c : ℕ) → c < first → get_or (placed n first row) c 0 ≡ 0
  placed_before c lt =
      get_or_append_left (replicate first 0) (row ++ replicate (n - (first + length row)) 0) 0 c (let l : length (replicate {A = ℕ} first 0) ≡ first = length-replicate first 0 in omega arith) ∙ zeros_at first c

  placed_from : (c : ℕ) → first ≤ c → get_or (placed n first row) c 0 ≡ get_or (row ++ replicate (n - (first + length row)) 0) (c - first) 0
  placed_from c le = get_or-append_right (replicate first 0) (row ++ replicate (n - (first + length row)) 0) first c 0 (length-replicate first 0) le

  pub placed_here : (c : ℕ) → first ≤ c → c < first + length row → get_or (placed n first row) c 0 ≡ get_or row (c - first) 0
  placed_here c le lt = placed_from c le ∙ get_or_append_left row (replicate (n - (first + length row)) 0) 0 (c - first) (omega arith)

  pub placed_past : (c : ℕ) → first + length row ≤ c → get_or (placed n first row) c 0 ≡ 0
  placed_past c le =
      placed_from c (omega arith) ∙ get_or-append_right row (replicate (n - (first + length row)) 0) (length row) (c - first) 0 refl (omega arith) ∙ zeros_at (n - (first + length row)) (c - first - length row)

  pub bytes-placed : All IsByte row → All IsByte (placed n first row)
  bytes-placed a = All-append IsByte (replicate first 0) (row ++ replicate (n - (first + length row)) 0) (All-replicate IsByte first 0 (omega arith)) (All-append IsByte row (replicate (n - (first + length row)) 0) a (All-replicate IsByte (n - (first + length row)) 0 (omega arith)))

  -- the row as it is written
  module _ (flags : List Bool) (cols : List ℕ) (are : AreColumns row (length row) cols) where
    pub opening_start : (out : List ℕ) → out ≡ replicate n 0 → IsOpening n first row flags cols 0 out
    opening_start out e = record {
      count = ap length e ∙ length-replicate n 0;
      each = λ c lt. inl (ap (λ (o : List ℕ). get_or o c 0) e ∙ zeros_at n c);
      these = λ x lt. absurd (omega arith);
    }

    module _ (i : ℕ) (out : List ℕ) (h : IsOpening n first row flags cols i out) (lt : i < length cols) where
      pub opening_skip : get_or flags (first + get_or cols i 0) false ≡ true → IsOpening n first row flags cols (i + 1) out
      opening_skip e =
          let within = are.within i lt in
          let at = first + get_or cols i 0 in
          let none : open_at n first row flags at ≡ 0 = cond-true (get_or flags at false) 0 (get_or (placed n first row) at 0) e in
          let here : get_or out at 0 ≡ open_at n first row flags at = elim (h.each at (omega arith)) [
            | inl z ↦ z ∙ sym none
            | inr z ↦ z
          ] in
          record {
            count = h.count;
            each = h.each;
            these = λ x lx. elim (cases_lt x i) [
              | inl low ↦ h.these x low
              | inr high ↦ (let same : i ≡ x = omega arith in subst (λ (y : ℕ). get_or out (first + get_or cols y 0) 0 ≡ open_at n first row flags (first + get_or cols y 0)) same here)
            ];
          }

      pub opening_more : get_or flags (first + get_or cols i 0) false ≡ false → IsOpening n first row flags cols (i + 1) (set out (first + get_or cols i 0) (get_or row (get_or cols i 0) 0))
      opening_more e =
          let within = are.within i lt in
          let col = get_or cols i 0 in
          let at = first + col in
          let x = get_or row col 0 in
          let long = h.count in
          let back : at - first ≡ col = omega arith in
          let is : x ≡ open_at n first row flags at = sym (cond-false (get_or flags at false) 0 (get_or (placed n first row) at 0) e ∙ placed_here at (omega arith) (omega arith) ∙ ap (λ (y : ℕ). get_or row y 0) back) in
          let new : (c : ℕ) → c ≡ at → get_or (set out at x) c 0 ≡ open_at n first row flags c = λ c same. subst (λ (y : ℕ). get_or (set out at x) y 0 ≡ open_at n first row flags y) (sym same) (get_or-set_same out at x 0 (omega arith) ∙ is) in
          record {
            count = length-set out at x ∙ h.count;
            each = λ c lc. elim (cases_eq c at) [
              | inl same ↦ inr (new c same)
              | inr other ↦ subst (λ (y : ℕ). (y ≡ 0) ⊎ (y ≡ open_at n first row flags c)) (sym (get_or-set_other out at c x 0 other)) (h.each c lc)
            ];
            these = λ y ly. elim (cases_lt y i) [
              | inl low ↦ elim (cases_eq (first + get_or cols y 0) at) [
                | inl same ↦ new (first + get_or cols y 0) same
                | inr other ↦ get_or-set_other out at (first + get_or cols y 0) x 0 other ∙ h.these y low
              ]
              | inr high ↦ (let same : i ≡ y = omega arith in new (first + get_or cols y 0) (ap (λ (z : ℕ). first + get_or cols z 0) (sym same)))
            ];
          }

    pub opening_done : (out : List ℕ) (i : ℕ) → i ≡ length cols → IsOpening n first row flags cols i out → (c : ℕ) → c < n → get_or out c 0 ≡ open_at n first row flags c
    opening_done out i all h c lt = elim (h.each c lt) [
      | inr e ↦ e
      | inl z ↦
          let zero : get_or (placed n first row) c 0 ≡ 0 → get_or out c 0 ≡ open_at n first row flags c = λ none. z ∙ sym (elim (cases (get_or flags c false)) [
            | inl e ↦ cond-true (get_or flags c false) 0 (get_or (placed n first row) c 0) e
            | inr e ↦ cond-false (get_or flags c false) 0 (get_or (placed n first row) c 0) e ∙ none
          ]) in
          elim (cases_lt c first) [
            | inl before ↦ zero (placed_before c before)
            | inr from ↦
                elim (cases_lt c (first + length row)) [
                  | inr past ↦ zero (placed_past c past)
                  | inl here ↦
                      elim (cases_eq (get_or row (c - first) 0) 0) [
                        | inl none ↦ zero (placed_here c from here ∙ none)
                        | inr some ↦
                            let k = are.all (c - first) (omega arith) some in
                            let at : first + get_or cols k.0 0 ≡ c = (let e = k.2 in omega arith) in
                            let lk = k.1 in
                            subst (λ (y : ℕ). get_or out y 0 ≡ open_at n first row flags y) at (h.these k.0 (omega arith))
                      ]
                ]
          ]
    ]

  -- where the columns that are left are turned off, nothing is left at the others
  pub touched_all : (flags : List Bool) (cols : List ℕ) (are : AreColumns row (length row) cols) (free : List Bool)
      → ((x : ℕ) → x < length cols → get_or flags (first + get_or cols x 0) false ≡ false → get_or free (first + get_or cols x 0) false ≡ false)
      → (c : ℕ) → get_or free c false ≡ true → open_at n first row flags c ≡ 0
  touched_all flags cols are free off c on = elim (cases (get_or flags c false)) [
    | inl e ↦ cond-true (get_or flags c false) 0 (get_or (placed n first row) c 0) e
    | inr e ↦
        cond-false (get_or flags c false) 0 (get_or (placed n first row) c 0) e ∙ elim (cases_lt c first) [
          | inl before ↦ placed_before c before
          | inr from ↦
              elim (cases_lt c (first + length row)) [
                | inr past ↦ placed_past c past
                | inl here ↦
                    elim (cases_eq (get_or row (c - first) 0) 0) [
                      | inl none ↦ placed_here c from here ∙ none
                      | inr some ↦
                          let k = are.all (c - first) (omega arith) some in
                          let at : first + get_or cols k.0 0 ≡ c = (let e = k.2 in omega arith) in
                          absurd (let other : true ≡ false = sym on ∙ ap (λ (y : ℕ). get_or free y false) (sym at) ∙ off k.0 k.1 (ap (λ (y : ℕ). get_or flags y false) at ∙ e) in cc)
                    ]
              ]
        ]
  ]

  -- where all columns with a coefficient are left out, nothing is left
  pub open_none : (flags : List Bool) → ((c : ℕ) → c < length row → get_or flags (first + c) false ≡ false → get_or row c 0 ≡ 0) → (c : ℕ) → open_at n first row flags c ≡ 0
  open_none flags none c = elim (cases (get_or flags c false)) [
    | inl e ↦ cond-true (get_or flags c false) 0 (get_or (placed n first row) c 0) e
    | inr e ↦
        cond-false (get_or flags c false) 0 (get_or (placed n first row) c 0) e ∙ elim (cases_lt c first) [
          | inl before ↦ placed_before c before
          | inr from ↦
              elim (cases_lt c (first + length row)) [
                | inr past ↦ placed_past c past
                | inl here ↦
                    let at : first + (c - first) ≡ c = omega arith in
                    placed_here c from here ∙ none (c - first) (omega arith) (ap (λ (y : ℕ). get_or flags y false) at ∙ e)
              ]
        ]
  ]

-- ---- an equation without its whole columns

module _ (w : ℕ) (whole : List Bool) (row row' : List ℕ) (vs stored : List (List ℕ)) (a : All IsByte row) (hv : All (IsBytes w) vs) (hs : All (IsBytes w) stored) (lv : length vs ≡ length row) (ls : length stored ≡ length row)
    (count : length row' ≡ length row) (has : HasStored whole stored vs) (blank : (c : ℕ) → c < length row → get_or whole c false ≡ false → get_or stored c [] ≡ zero_bytes w)
    (left : (c : ℕ) → c < length row → get_or row' c 0 ≡ cond (get_or whole c false) 0 (get_or row c 0)) where
  left_byte : (c : ℕ) → c < length row → IsByte (get_or row' c 0)
  left_byte c lt = elim (cases (get_or whole c false)) [
    | inl e ↦ (let z = left c lt ∙ cond-true (get_or whole c false) 0 (get_or row c 0) e in omega arith)
    | inr e ↦ (let z = left c lt ∙ cond-false (get_or whole c false) 0 (get_or row c 0) e in let b = All-get_or IsByte row c 0 lt a in omega arith)
  ]

  pub left_bytes : All IsByte row'
  left_bytes = All-from_get_or IsByte row' 0 (λ i lt. left_byte i (omega arith))

  -- the coefficients of the whole columns
  abbrev gone : List ℕ
  gone = add_vectors bit_xor row row'

  length-gone : length (add_vectors bit_xor row row') ≡ length row
  length-gone = length-add_vectors bit_xor row row' (sym count)

  gone_at : (c : ℕ) → c < length row → get_or (add_vectors bit_xor row row') c 0 ≡ bit_xor (get_or row c 0) (get_or row' c 0)
  gone_at c lt = get_or-add_vectors bit_xor row row' c 0 (sym count) lt

  gone_bytes : All IsByte (add_vectors bit_xor row row')
  gone_bytes = All-from_get_or IsByte (add_vectors bit_xor row row') 0 (λ i lt.
      let low : i < length row = (let l = length-gone in omega arith) in
      subst IsByte (sym (gone_at i low)) (gf256_field.add_element (get_or row i 0) (get_or row' i 0) (All-get_or IsByte row i 0 low a) (left_byte i low)))

  gone_back : row ≡ add_vectors bit_xor (add_vectors bit_xor row row') row'
  gone_back = sym (xor_back row row' (sym count))

  split : (xs : List (List ℕ)) → All (IsBytes w) xs → comb w row xs ≡ xor_bytes (comb w (add_vectors bit_xor row row') xs) (comb w row' xs)
  split xs hx = ap (λ (r : List ℕ). comb w r xs) gone_back ∙ dot-add gf256_field (bytes_are w) (add_vectors bit_xor row row') row' xs gone_bytes left_bytes hx (length-gone ∙ sym count)

  gone_same : comb w (add_vectors bit_xor row row') vs ≡ comb w (add_vectors bit_xor row row') stored
  gone_same =
      dot_same gf256_field (bytes_are w) (add_vectors bit_xor row row') vs stored gone_bytes hv hs (lv ∙ sym ls) (λ i li lk.
      let low : i < length row = (let l = length-gone in omega arith) in
      elim (cases (get_or whole i false)) [
        | inl e ↦ inr (get_or_default vs i (zero_bytes w) [] (omega arith) ∙ has i e ∙ get_or_default stored i [] (zero_bytes w) (omega arith))
        | inr e ↦ inl (gone_at i low ∙ ap (bit_xor (get_or row i 0)) (left i low ∙ cond-false (get_or whole i false) 0 (get_or row i 0) e) ∙ xor_self (get_or row i 0))
      ])

  left_none : comb w row' stored ≡ zero_bytes w
  left_none =
      dot_none gf256_field (bytes_are w) row' stored left_bytes hs (λ i li lk.
      let low : i < length row = omega arith in
      elim (cases (get_or whole i false)) [
        | inl e ↦ inl (left i low ∙ cond-true (get_or whole i false) 0 (get_or row i 0) e)
        | inr e ↦ inr (get_or_default stored i (zero_bytes w) [] lk ∙ blank i low e)
      ])

  pub open_split : comb w row vs ≡ xor_bytes (comb w row stored) (comb w row' vs)
  open_split =
      let ml = bytes_are w in
      let whole_part : comb w row stored ≡ comb w (add_vectors bit_xor row row') stored =
      split stored hs ∙ ap (xor_bytes (comb w (add_vectors bit_xor row row') stored)) left_none ∙ ml.plus_none (comb w (add_vectors bit_xor row row') stored) (comb_value w (add_vectors bit_xor row row') stored gone_bytes hs) in
      split vs hv ∙ ap (λ (z : List ℕ). xor_bytes z (comb w row' vs)) (gone_same ∙ sym whole_part)

  pub open_says : (right sum : List ℕ) → length right ≡ w → sum ≡ add_vectors bit_xor right (comb w row stored) → Gives w row right vs ↔ Gives w row' sum vs
  open_says right sum lr is =
      let ml = bytes_are w in
      let known = comb w row stored in
      let rest = comb w row' vs in
      let hk : IsBytes w known = comb_value w row stored a hs in
      let hr : IsBytes w rest = comb_value w row' vs left_bytes hv in
      let both : comb w row vs ≡ add_vectors bit_xor rest known = open_split ∙ ml.plus_comm known rest hk hr in (
        λ g. sym (xor_back rest known (hr.width ∙ sym hk.width)) ∙ ap (λ (z : List ℕ). add_vectors bit_xor z known) (sym both ∙ g) ∙ sym is,
        λ g. both ∙ ap (λ (z : List ℕ). add_vectors bit_xor z known) (g ∙ is) ∙ xor_back right known (lr ∙ sym hk.width),
      )

-- ---- the sum over some columns

cut_part : (n w first k : ℕ) (bytes : List ℕ) → length bytes ≡ n * w → first + k ≤ n → cut k w (take (k * w) (drop (first * w) bytes)) ≡ take k (drop first (cut n w bytes))
cut_part n w first k bytes long room =
    let lc : length (cut n w bytes) ≡ n = length-cut n w bytes in
    let ld = length-drop first (cut n w bytes) in
    let lt' : length (take k (drop first (cut n w bytes))) ≡ k = length-take-le k (drop first (cut n w bytes)) (omega arith) in
    let lk : length (cut k w (take (k * w) (drop (first * w) bytes))) ≡ k = length-cut k w (take (k * w) (drop (first * w) bytes)) in
    ext_get_or [] (cut k w (take (k * w) (drop (first * w) bytes))) (take k (drop first (cut n w bytes))) (lk ∙ sym lt') (λ i lt.
    let low : i < k = omega arith in
    let inside : i * w + w ≤ k * w = row_within k w i low in
    let at : (first + i) * w ≡ first * w + i * w = add-mul first i w in
    let d : List ℕ = drop (first * w) bytes in
    let cutoff : take w (drop (i * w) (take (k * w) d)) ≡ take w (drop (i * w) d) =
    (let e : k * w ≡ i * w + (k * w - i * w) = omega arith in ap (λ (x : ℕ). take w (drop (i * w) (take x d))) e) ∙ ap (take w) (drop-take (i * w) (k * w - i * w) d) ∙ take-take w (k * w - i * w) (drop (i * w) d) (omega arith) in
    get_or-cut k w (take (k * w) d) i [] low ∙ cutoff ∙ ap (take w) (drop-drop (i * w) (first * w) bytes ∙ ap (λ (x : ℕ). drop x bytes) (sym at))
    ∙ sym (get_or-cut n w bytes (first + i) [] (omega arith)) ∙ sym (get_or-drop first (cut n w bytes) i []) ∙ sym (get_or-take k (drop first (cut n w bytes)) i [] low))

zeros_give : (w k : ℕ) (vs : List (List ℕ)) → All (IsBytes w) vs → comb w (replicate k 0) vs ≡ zero_bytes w
zeros_give w k vs h = dot_none gf256_field (bytes_are w) (replicate k 0) vs (All-replicate IsByte k 0 (omega arith)) h (λ i li lk. inl (get_or-replicate k i 0 0 (let l : length (replicate {A = ℕ} k 0) ≡ k = length-replicate k 0 in omega arith)))

pub placed_gives : (n w first : ℕ) (row bytes : List ℕ) → All IsByte row → All IsByte bytes → length bytes ≡ n * w → first + length row ≤ n
    → comb w (placed n first row) (cut n w bytes) ≡ comb w row (cut (length row) w (take (length row * w) (drop (first * w) bytes)))
placed_gives n w first row bytes ar ab long room =
    let ml = bytes_are w in
    let k = length row in
    let all = cut n w bytes in
    let values = vectors-cut IsByte n w bytes long ab in
    let la : length all ≡ n = length-cut n w bytes in
    let front = take first all in
    let rest = drop first all in
    let mid = take k rest in
    let last = drop k rest in
    let lf : length front ≡ first = length-take-le first all (omega arith) in
    let lr : length rest ≡ n - first = length-drop first all ∙ ap (λ (x : ℕ). x - first) la in
    let lm : length mid ≡ k = length-take-le k rest (omega arith) in
    let ll : length last ≡ n - first - k = length-drop k rest ∙ ap (λ (x : ℕ). x - k) lr in
    let hf = All-take (IsBytes w) first all values in
    let hr = All-drop (IsBytes w) first all values in
    let hm = All-take (IsBytes w) k rest hr in
    let hl = All-drop (IsBytes w) k rest hr in
    let zf = All-replicate IsByte first 0 (omega arith) in
    let zl = All-replicate IsByte (n - (first + k)) 0 (omega arith) in
    let parts : all ≡ front ++ (mid ++ last) = sym (take-append-drop first all) ∙ ap (λ (x : List (List ℕ)). front ++ x) (sym (take-append-drop k rest)) in
    let hml = All-append (IsBytes w) mid last hm hl in
    let z1 : length (replicate {A = ℕ} first 0) ≡ first = length-replicate first 0 in
    let hrow = comb_value w row mid ar hm in
    ap (comb w (placed n first row)) parts
    ∙ dot-append gf256_field ml (replicate first 0) (row ++ replicate (n - (first + k)) 0) front (mid ++ last) (omega arith) (vector_of (replicate first 0) zf) (vector_of (row ++ replicate (n - (first + k)) 0) (All-append IsByte row (replicate (n - (first + k)) 0) ar zl))
    (vector_of front hf) (vector_of (mid ++ last) hml)
    ∙ ap₂ xor_bytes (zeros_give w first front hf) (dot-append gf256_field ml row (replicate (n - (first + k)) 0) mid last (sym lm) (vector_of row ar) (vector_of (replicate (n - (first + k)) 0) zl) (vector_of mid hm) (vector_of last hl)
    ∙ ap (xor_bytes (comb w row mid)) (zeros_give w (n - (first + k)) last hl) ∙ ml.plus_none (comb w row mid) hrow)
    ∙ none_plus gf256_field ml (comb w row mid) hrow
    ∙ ap (comb w row) (sym (cut_part n w first k bytes long room))

-- ---- what a prepared sum says

module _ (known : Knowledge ℕ) (whole free : List Bool) (bytes row right : List ℕ) (first : ℕ) (h : IsColumns known whole free bytes) (room : first + length row ≤ known.cols) (a : All IsByte row) (lr : length right ≡ known.width) where
  pub sum_says : (row' sum : List ℕ) → length row' ≡ known.cols → ((c : ℕ) → c < known.cols → get_or row' c 0 ≡ open_at known.cols first row whole c)
      → sum ≡ add_vectors bit_xor right (comb known.width row (cut (length row) known.width (take (length row * known.width) (drop (first * known.width) bytes))))
      → (vs : List (List ℕ)) → IsSolution gf256_product (all_known known whole bytes) vs → Gives known.width (placed known.cols first row) right vs ↔ Gives known.width row' sum vs
  sum_says row' sum count left is vs s =
      let n = known.cols in
      let w = known.width in
      let stored = cut n w bytes in
      let both = (all_known-iff known whole bytes h.whole_count vs).0 s in
      let lp : length (placed n first row) ≡ n = length-placed n first row room in
      let ap' = bytes-placed n first row room a in
      let lv = s.values.width in
      let ls : length stored ≡ n = length-cut n w bytes in
      open_says w whole (placed n first row) row' vs stored ap' s.values.entries (vectors-cut IsByte n w bytes h.byte_count h.are_bytes) (lv ∙ sym lp) (ls ∙ sym lp) (count ∙ sym lp) both.1
      (λ c lt e. h.blank c (omega arith) e) (λ c lt. left c (omega arith)) right sum lr (is ∙ ap (add_vectors bit_xor right) (sym (placed_gives n w first row bytes a h.are_bytes h.byte_count room)))

  pub open_bytes : (row' : List ℕ) → length row' ≡ known.cols → ((c : ℕ) → c < known.cols → get_or row' c 0 ≡ open_at known.cols first row whole c) → All IsByte row'
  open_bytes row' count left = All-from_get_or IsByte row' 0 (λ i lt.
      let low : i < known.cols = omega arith in
      let ap' = bytes-placed known.cols first row room a in
      let lp : length (placed known.cols first row) ≡ known.cols = length-placed known.cols first row room in
      elim (cases (get_or whole i false)) [
        | inl e ↦ (let z = left i low ∙ cond-true (get_or whole i false) 0 (get_or (placed known.cols first row) i 0) e in omega arith)
        | inr e ↦ (let z = left i low ∙ cond-false (get_or whole i false) 0 (get_or (placed known.cols first row) i 0) e in let b = All-get_or IsByte (placed known.cols first row) i 0 (omega arith) ap' in omega arith)
      ])

  -- where all columns with a coefficient are whole
  pub within_says : (sum : List ℕ) → ((c : ℕ) → c < length row → get_or whole (first + c) false ≡ false → get_or row c 0 ≡ 0)
      → sum ≡ add_vectors bit_xor right (comb known.width row (cut (length row) known.width (take (length row * known.width) (drop (first * known.width) bytes))))
      → (vs : List (List ℕ)) → IsSolution gf256_product (all_known known whole bytes) vs → Gives known.width (placed known.cols first row) right vs ↔ (zero_bytes known.width ≡ sum)
  within_says sum within is vs s =
      let n = known.cols in
      let zeros : (c : ℕ) → c < n → get_or (replicate {A = ℕ} n 0) c 0 ≡ 0 = λ c lt. get_or-replicate n c 0 0 lt in
      let lz : length (replicate {A = ℕ} n 0) ≡ n = length-replicate n 0 in
      let one = sum_says (replicate n 0) sum lz (λ c lt. zeros c lt ∙ sym (open_none n first row room whole within c)) is vs s in
      let two = zero_says known.width (replicate n 0) sum vs (All-replicate IsByte n 0 (omega arith)) s.values.entries (λ c lt. zeros c (omega arith)) in
      (λ g. two.0 (one.0 g), λ z. one.1 (two.1 z))

-- the bytes of some columns
pub part_long : (n w first k : ℕ) → first + k ≤ n → first * w + k * w ≤ n * w
part_long n w first k room = (let e : (first + k) * w ≡ first * w + k * w = add-mul first k w in let le = fewer_columns (first + k) n w room in omega arith)

-- every solution has the stored bytes of columns side by side that are whole
pub values_where_whole : (known : Knowledge ℕ) (whole free : List Bool) (bytes : List ℕ) → IsColumns known whole free bytes → (first count : ℕ) → first + count ≤ known.cols
    → ((i : ℕ) → i < count → get_or whole (first + i) false ≡ true) → AreValuesAt (all_known known whole bytes) first count (take (count * known.width) (drop (first * known.width) bytes))
values_where_whole known whole free bytes h first count room here =
    let n = known.cols in
    let w = known.width in
    let part : List ℕ = take (count * w) (drop (first * w) bytes) in
    let long : length part ≡ count * w = length-take-le (count * w) (drop (first * w) bytes) (let l = length-drop (first * w) bytes in let p = part_long n w first count room in let b = h.byte_count in omega arith) in (
      long,
      λ i lt.
          let same : get_or (cut count w part) i [] ≡ get_or (cut n w bytes) (first + i) [] =
          ap (λ (l : List (List ℕ)). get_or l i []) (cut_part n w first count bytes h.byte_count room) ∙ get_or-take count (drop first (cut n w bytes)) i [] lt ∙ get_or-drop first (cut n w bytes) i [] in
          subst (λ (b : List ℕ). IsValueAt gf256_product (all_known known whole bytes) (first + i) b) (sym same) (value_where_whole known whole free bytes h (first + i) (here i lt)),
    )

-- ---- equations that say the same

pub learns_alike : (old new : Knowledge ℕ) (P Q : List (List ℕ) → Type 0) → ((vs : List (List ℕ)) → IsSolution gf256_product old vs → P vs ↔ Q vs) → Learns old new Q → Learns old new P
learns_alike old new P Q same h vs = (
  λ x. (let y = (h vs).0 x in (y.0, (same vs y.0).1 y.1)),
  λ x. (h vs).1 (x.0, (same vs x.0).0 x.1),
)

pub refuses_alike : (old : Knowledge ℕ) (P Q : List (List ℕ) → Type 0) → ((vs : List (List ℕ)) → IsSolution gf256_product old vs → P vs ↔ Q vs) → Refuses old Q → Refuses old P
refuses_alike old P Q same h vs s p = h vs s ((same vs s).0 p)

-- ---- the row of a parity symbol at a place

length-row_part : {A : Type 0} (g : ℕ → ℕ → A) (k s n : ℕ) → length (flat_map (λ p. map (g p) (range_with_len 0 k)) (range_with_len s n)) ≡ n * k
length-row_part g k s nought = omega arith
length-row_part g k s (suc n) =
    length-append (map (g s) (range_with_len 0 k)) (flat_map (λ p. map (g p) (range_with_len 0 k)) (range_with_len (s + 1) n))
    ∙ omega (arith, length-map-range_with_len (g s) 0 k, length-row_part g k (s + 1) n, suc-mul n k)

pub length-row_of : {A : Type 0} (g : ℕ → ℕ → A) (k n : ℕ) → length (row_of k n g) ≡ n * k
length-row_of g k n = length-row_part g k 0 n

row_part_at : {A : Type 0} (g : ℕ → ℕ → A) (d : A) (k s n p i : ℕ) → p < n → i < k → get_or (flat_map (λ p. map (g p) (range_with_len 0 k)) (range_with_len s n)) (p * k + i) d ≡ g (s + p) i
row_part_at g d k s nought p i hp hi = absurd (omega arith)
row_part_at g d k s (suc n) nought i hp hi =
    let at : 0 * k + i ≡ i = omega arith in
    let here : s ≡ s + 0 = omega arith in
    let l = length-map-range_with_len (g s) 0 k in
    ap (λ (c : ℕ). get_or (map (g s) (range_with_len 0 k) ++ flat_map (λ p. map (g p) (range_with_len 0 k)) (range_with_len (s + 1) n)) c d) at
    ∙ get_or_append_left (map (g s) (range_with_len 0 k)) (flat_map (λ p. map (g p) (range_with_len 0 k)) (range_with_len (s + 1) n)) d i (omega arith)
    ∙ get_or-map-range_with_len (g s) 0 k i i d hi (omega arith) ∙ ap (λ (q : ℕ). g q i) here
row_part_at g d k s (suc n) (suc p) i hp hi =
    let e : suc p * k ≡ k + p * k = omega (arith, suc-mul p k) in
    let at : suc p * k + i - k ≡ p * k + i = omega arith in
    let here : s + 1 + p ≡ s + suc p = omega arith in
    get_or-append_right (map (g s) (range_with_len 0 k)) (flat_map (λ p. map (g p) (range_with_len 0 k)) (range_with_len (s + 1) n)) k (suc p * k + i) d (length-map-range_with_len (g s) 0 k) (omega arith)
    ∙ ap (λ (c : ℕ). get_or (flat_map (λ p. map (g p) (range_with_len 0 k)) (range_with_len (s + 1) n)) c d) at
    ∙ row_part_at g d k (s + 1) n p i (omega arith) hi ∙ ap (λ (q : ℕ). g q i) here

row_at : {A : Type 0} (g : ℕ → ℕ → A) (d : A) (k n p i : ℕ) → p < n → i < k → get_or (row_of k n g) (p * k + i) d ≡ g p i
row_at g d k n p i hp hi = row_part_at g d k 0 n p i hp hi ∙ (let e : 0 + p ≡ p = omega arith in ap (λ (q : ℕ). g q i) e)

-- the columns of the blocks that a parity reaches
pub own_room : (code : Code ℕ) (places place j : ℕ) → 1 ≤ length code.lags → length code.lags ≤ place + 1 → place < places
    → (place - (length code.lags - 1)) * code.k + length (parity_row 0 1 code (length code.lags) (length code.lags - 1) j) ≤ places * code.k
own_room code places place j some reach lt =
    let k = code.k in
    let n = length code.lags in
    let off = place - (n - 1) in
    let l : length (parity_row 0 1 code n (n - 1) j) ≡ n * k = length-row_of (λ p s. cond (leb p (n - 1)) (coefficient 0 code (n - 1 - p) s j) 0) k n in
    let le = part_long places k off n (omega arith) in
    omega arith

pub own_placed : (code : Code ℕ) (places place j : ℕ) → 1 ≤ length code.lags → length code.lags ≤ place + 1 → place < places
    → placed (places * code.k) ((place - (length code.lags - 1)) * code.k) (parity_row 0 1 code (length code.lags) (length code.lags - 1) j) ≡ parity_row 0 1 code places place j
own_placed code places place j some reach lt =
    let k = code.k in
    let n = length code.lags in
    let off = place - (n - 1) in
    let g : ℕ → ℕ → ℕ = λ p s. cond (leb p (n - 1)) (coefficient 0 code (n - 1 - p) s j) 0 in
    let row = parity_row 0 1 code n (n - 1) j in
    let l : length row ≡ n * k = length-row_of g k n in
    let room = own_room code places place j some reach lt in
    let first = off * k in
    let all = places * k in
    row_of_entries (λ p s. cond (leb p place) (coefficient 0 code (place - p) s j) 0) 0 k places (placed all first row) (length-placed all first row room) (λ p s hp hs.
    elim (cases_lt p off) [
      | inl before ↦
          let within = row_within off k p before in
          let past : coefficient 0 code (place - p) s j ≡ 0 = coefficient-past 0 code (place - p) s j (omega arith) in
          placed_before all first row room (p * k + s) (omega arith) ∙ sym (cond-true (leb p place) (coefficient 0 code (place - p) s j) 0 (le-leb p place (omega arith)) ∙ past)
      | inr from ↦
          elim (cases_lt place p) [
            | inl past ↦
                let within = row_within p k place past in
                let e : (off + n) * k ≡ off * k + n * k = add-mul off n k in
                let e' : place * k + k ≡ (off + n) * k = (let f : (place + 1) * k ≡ place * k + 1 * k = add-mul place 1 k in let same : place + 1 ≡ off + n = omega arith in let m = ap (λ (x : ℕ). x * k) same in omega arith) in
                placed_past all first row room (p * k + s) (omega arith) ∙ sym (cond-false (leb p place) (coefficient 0 code (place - p) s j) 0 (lt-leb p place past))
            | inr upto ↦
                let q = p - off in
                let e : p * k ≡ off * k + q * k = (let f : p ≡ off + q = omega arith in ap (λ (x : ℕ). x * k) f ∙ add-mul off q k) in
                let within = row_within n k q (omega arith) in
                let at : p * k + s - first ≡ q * k + s = omega arith in
                let lag : n - 1 - q ≡ place - p = omega arith in
                placed_here all first row room (p * k + s) (omega arith) (omega arith) ∙ ap (λ (c : ℕ). get_or row c 0) at ∙ row_at g 0 k n q s (omega arith) hs
                ∙ cond-true (leb q (n - 1)) (coefficient 0 code (n - 1 - q) s j) 0 (le-leb q (n - 1) (omega arith)) ∙ ap (λ (x : ℕ). coefficient 0 code x s j) lag
                ∙ sym (cond-true (leb p place) (coefficient 0 code (place - p) s j) 0 (le-leb p place (omega arith)))
          ]
    ])
