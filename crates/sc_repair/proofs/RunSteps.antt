-- The bytes of columns side by side come at once.
use Rattle.std.proofs.Common.{◌≡◌, ◌⊎◌, ℕ, ◌+◌, ◌-◌, ◌*◌, ◌<◌, ◌≤◌, Bool, true, false, List, [], ◌++◌, length, get_or, take, drop, replicate, All, sym, ap, ◌∙◌, subst, arith, add-mul, inl, inr}
use Rattle.std.proofs.lemmas.Bool.{cases_lt}
use Rattle.std.proofs.lemmas.List.{length-replicate, length-take-le, length-drop, get_or-replicate, get_or-take, get_or-drop, get_or_append_left, get_or-append_right, take-append-le, drop-append-le, drop-drop, drop-take, drop_at}
use Rattle.std.proofs.lemmas.List.Elements.{All-append, All-take, All-drop}
use Rattle.std.proofs.lemmas.Slice.{take-put_mid_below, drop-put_mid}
use borrow.Rule.Slice.PartMut.{put_mid}
use Rattle.sc_matrix.specs.Module.{IsByte}
use Rattle.sc_matrix.specs.Layout.{cut}
use Rattle.sc_matrix.proofs.LayoutLaws.{get_or-cut, length-put_mid, row_within}
use Rattle.sc_echelon.specs.Knowledge.{Knowledge}
use Rattle.sc_repair.specs.Equations.{Gives, HasColumns, HasSymbols, Learns}
use Rattle.sc_repair.specs.Columns.{IsColumns, all_known}
use Rattle.sc_repair.proofs.ColumnSteps.{all_known-iff, flag_within, unit_gives}
use Rattle.sc_repair.proofs.EquationSteps.{fewer_columns, symbol_row_is}

-- a column is one of some, or lies before or behind them
where_is : (first count c : ℕ) → ((i : ℕ) × (i < count) × (first + i ≡ c)) ⊎ ((c < first) ⊎ (first + count ≤ c))
where_is first count c = elim (cases_lt c first) [
  | inl before ↦ inr (inl before)
  | inr from ↦ elim (cases_lt c (first + count)) [
    | inl here ↦ inl (c - first, omega arith, omega arith)
    | inr past ↦ inr (inr past)
  ]
]

-- ---- a part of a list is written over

module _ {A : Type 0} (a k : ℕ) (xs ys : List A) (room : a + k ≤ length xs) (long : length ys ≡ k) where
  front_long : length (take a xs) ≡ a
  front_long = length-take-le a xs (omega arith)

  part_here : (i : ℕ) (d : A) → i < k → get_or (put_mid a k xs ys) (a + i) d ≡ get_or ys i d
  part_here i d lt =
      let rest : List A = drop k (drop a xs) in
      let at : a + i - a ≡ i = omega arith in
      get_or-append_right (take a xs) (ys ++ rest) a (a + i) d front_long (omega arith)
      ∙ ap (λ (x : ℕ). get_or (ys ++ rest) x d) at ∙ get_or_append_left ys rest d i (omega arith)

  part_other : (i : ℕ) (d : A) → (i < a) ⊎ (a + k ≤ i) → get_or (put_mid a k xs ys) i d ≡ get_or xs i d
  part_other i d other =
      let rest : List A = drop k (drop a xs) in
      let lf = front_long in
      elim other [
        | inl lt ↦ get_or_append_left (take a xs) (ys ++ rest) d i (omega arith) ∙ get_or-take a xs i d lt
        | inr le ↦
            let at : a + (k + (i - a - k)) ≡ i = omega arith in
            get_or-append_right (take a xs) (ys ++ rest) a i d lf (omega arith) ∙ get_or-append_right ys rest k (i - a) d long (omega arith)
            ∙ get_or-drop k (drop a xs) (i - a - k) d ∙ get_or-drop a xs (k + (i - a - k)) d ∙ ap (λ (x : ℕ). get_or xs x d) at
      ]

-- rows side by side are written over
module _ (n w first count : ℕ) (bytes src : List ℕ) (size : length bytes ≡ n * w) (room : first + count ≤ n) (long : length src ≡ count * w) where
  pub run_within : first * w + count * w ≤ length bytes
  run_within =
      let parts : (first + count) * w ≡ first * w + count * w = add-mul first count w in
      let le = fewer_columns (first + count) n w room in
      omega arith

  rows_here : (i : ℕ) → i < count → get_or (cut n w (put_mid (first * w) (count * w) bytes src)) (first + i) [] ≡ get_or (cut count w src) i []
  rows_here i lt =
      let a = first * w in
      let k = count * w in
      let rest : List ℕ = drop k (drop a bytes) in
      let within = run_within in
      let inside = row_within count w i lt in
      let lf : length (take a bytes) ≡ a = length-take-le a bytes (omega arith) in
      let ls = length-drop (i * w) src in
      let at : (first + i) * w ≡ a + i * w = add-mul first i w in
      get_or-cut n w (put_mid a k bytes src) (first + i) [] (omega arith) ∙ ap (λ (x : ℕ). take w (drop x (put_mid a k bytes src))) at
      ∙ ap (take w) (sym (drop-drop (i * w) a (put_mid a k bytes src)) ∙ ap (drop (i * w)) (drop_at (take a bytes) (src ++ rest) a lf) ∙ drop-append-le (i * w) src rest (omega arith))
      ∙ take-append-le w (drop (i * w) src) rest (omega arith) ∙ sym (get_or-cut count w src i [] lt)

  rows_other : (c : ℕ) → c < n → (c < first) ⊎ (first + count ≤ c) → get_or (cut n w (put_mid (first * w) (count * w) bytes src)) c [] ≡ get_or (cut n w bytes) c []
  rows_other c lt other =
      let a = first * w in
      let k = count * w in
      let within = run_within in
      let same : take w (drop (c * w) (put_mid a k bytes src)) ≡ take w (drop (c * w) bytes) = elim other [
        | inl before ↦
            let le : c * w + w ≤ a = row_within first w c before in
            sym (drop-take (c * w) w (put_mid a k bytes src)) ∙ ap (drop (c * w)) (take-put_mid_below a k bytes src (c * w + w) le (omega arith)) ∙ drop-take (c * w) w bytes
        | inr past ↦
            let parts : (first + count) * w ≡ a + k = add-mul first count w in
            let le : (first + count) * w ≤ c * w = fewer_columns (first + count) c w past in
            ap (take w) (drop-put_mid a k bytes src (c * w) (omega arith) (omega arith) long)
      ] in
      get_or-cut n w (put_mid a k bytes src) c [] lt ∙ same ∙ sym (get_or-cut n w bytes c [] lt)

-- ---- columns of which nothing is known become whole

-- the flags of columns side by side are set
abbrev pub flags_set : ℕ → ℕ → List Bool → List Bool
flags_set first count flags = put_mid first count flags (replicate count true)

pub length-flags_set : (first count : ℕ) (flags : List Bool) → first + count ≤ length flags → length (flags_set first count flags) ≡ length flags
length-flags_set first count flags room = length-put_mid first count flags (replicate count true) room (length-replicate count true)

module _ (known : Knowledge ℕ) (whole free : List Bool) (bytes : List ℕ) (h : IsColumns known whole free bytes) (first count : ℕ) (src : List ℕ) (room : first + count ≤ known.cols) (long : length src ≡ count * known.width)
    (unknown : (i : ℕ) → i < count → (get_or whole (first + i) false ≡ false) × (get_or free (first + i) false ≡ true)) where
  flag_here : (i : ℕ) → i < count → get_or (flags_set first count whole) (first + i) false ≡ true
  flag_here i lt =
      let l = h.whole_count in
      part_here first count whole (replicate count true) (omega arith) (length-replicate count true) i false lt ∙ get_or-replicate count i true false lt

  flag_other : (c : ℕ) → (c < first) ⊎ (first + count ≤ c) → get_or (flags_set first count whole) c false ≡ get_or whole c false
  flag_other c other =
      let l = h.whole_count in
      part_other first count whole (replicate count true) (omega arith) (length-replicate count true) c false other

  pub columns_run : All IsByte src → IsColumns known (flags_set first count whole) free (put_mid (first * known.width) (count * known.width) bytes src)
  columns_run are_bytes =
      let w = known.width in
      let a = first * w in
      let k = count * w in
      let lw = h.whole_count in
      let same_length = length-flags_set first count whole (omega arith) in
      let inside = run_within known.cols w first count bytes src h.byte_count room long in
      record {
        some = h.some;
        whole_count = same_length ∙ h.whole_count;
        free_count = h.free_count;
        byte_count = length-put_mid a k bytes src inside long ∙ h.byte_count;
        are_bytes = All-append IsByte (take a bytes) (src ++ drop k (drop a bytes)) (All-take IsByte a bytes h.are_bytes) (All-append IsByte src (drop k (drop a bytes)) are_bytes (All-drop IsByte k (drop a bytes) (All-drop IsByte a bytes h.are_bytes)));
        blank = λ c lt e. elim (where_is first count c) [
          | inl it ↦ absurd (let other : true ≡ false = sym (flag_here it.0 it.1) ∙ ap (λ (x : ℕ). get_or (flags_set first count whole) x false) it.2 ∙ e in cc)
          | inr other ↦ rows_other known.cols w first count bytes src h.byte_count room long c lt other ∙ h.blank c lt (sym (flag_other c other) ∙ e)
        ];
        within = λ c e. (let lt : c < known.cols = omega (arith, flag_within (flags_set first count whole) c e) in elim (where_is first count c) [
          | inl it ↦ inl (subst (λ (x : ℕ). get_or free x false ≡ true) it.2 (unknown it.0 it.1).1)
          | inr other ↦ elim (h.within c (sym (flag_other c other) ∙ e)) [
            | inl f ↦ inl f
            | inr v ↦ inr (λ vs s. v vs s ∙ sym (rows_other known.cols w first count bytes src h.byte_count room long c lt other))
          ]
        ]);
        is_free = h.is_free;
      }

  pub learns_run : Learns (all_known known whole bytes) (all_known known (flags_set first count whole) (put_mid (first * known.width) (count * known.width) bytes src)) (HasColumns known.cols known.width first count src)
  learns_run symbols =
      let n = known.cols in
      let w = known.width in
      let lw = h.whole_count in
      let written : List ℕ = put_mid (first * w) (count * w) bytes src in
      let same_length = length-flags_set first count whole (omega arith) in
      let here = rows_here n w first count bytes src h.byte_count room long in
      let there = rows_other n w first count bytes src h.byte_count room long in
      let iff_old = all_known-iff known whole bytes h.whole_count symbols in
      let iff_new = all_known-iff known (flags_set first count whole) written (same_length ∙ h.whole_count) symbols in (
        λ s.
            let x = iff_new.0 s in (
              iff_old.1 (
                x.0,
                λ c e. (let lt : c < n = omega (arith, flag_within whole c e) in elim (where_is first count c) [
                  | inl it ↦ absurd (let other : false ≡ true = sym (unknown it.0 it.1).0 ∙ ap (λ (y : ℕ). get_or whole y false) it.2 ∙ e in cc)
                  | inr other ↦ x.1 c (flag_other c other ∙ e) ∙ there c lt other
                ]),
              ),
              λ i lt. unit_gives w n (first + i) symbols (omega arith) s.values.width s.values.entries ∙ x.1 (first + i) (flag_here i lt) ∙ here i lt,
            ),
        λ s.
            let x = iff_old.0 s.0 in
            iff_new.1 (
              x.0,
              λ c e. (let lt : c < n = omega (arith, flag_within (flags_set first count whole) c e) in elim (where_is first count c) [
                | inl it ↦
                    let low : first + it.0 < n = (let l = it.1 in omega arith) in
                    subst (λ (y : ℕ). get_or symbols y [] ≡ get_or (cut n w written) y []) it.2
                    (sym (unit_gives w n (first + it.0) symbols low x.0.values.width x.0.values.entries) ∙ s.1 it.0 it.1 ∙ sym (here it.0 it.1))
                | inr other ↦ x.1 c (sym (flag_other c other) ∙ e) ∙ sym (there c lt other)
              ]),
            ),
      )

-- ---- as the calls say it

-- nothing is known of columns side by side whose flags, as parts of all, say so
pub unknown_run : (whole free wholes frees : List Bool) (first count : ℕ) → wholes ≡ whole → frees ≡ free → first + count ≤ length whole
    → ((c : ℕ) → c < length (take ((first + count) - first) (drop first wholes)) → (get_or (take ((first + count) - first) (drop first wholes)) c false ≡ false) × (get_or (take ((first + count) - first) (drop first frees)) c false ≡ true))
    → (i : ℕ) → i < count → (get_or whole (first + i) false ≡ false) × (get_or free (first + i) false ≡ true)
unknown_run whole free wholes frees first count same same' room all i lt =
    let n = (first + count) - first in
    let lw : length wholes ≡ length whole = ap length same in
    let long : length (take n (drop first wholes)) ≡ n = length-take-le n (drop first wholes) (let l = length-drop first wholes in omega arith) in
    let at : (flags : List Bool) → get_or (take n (drop first flags)) i false ≡ get_or flags (first + i) false = λ flags. get_or-take n (drop first flags) i false (omega arith) ∙ get_or-drop first flags i false in
    let x = all i (omega arith) in
    (ap (λ (flags : List Bool). get_or flags (first + i) false) (sym same) ∙ sym (at wholes) ∙ x.0, ap (λ (flags : List Bool). get_or flags (first + i) false) (sym same') ∙ sym (at frees) ∙ x.1)

pub flags_set_is : (first count : ℕ) (flags : List Bool) → take first flags ++ (replicate count true ++ drop (first + count) flags) ≡ flags_set first count flags
flags_set_is first count flags = ap (λ (rest : List Bool). take first flags ++ (replicate count true ++ rest)) (sym (drop-drop count first flags))

-- the columns of a place have the symbols of a block
pub learns_block : (old new : Knowledge ℕ) (k m n place : ℕ) (block : List ℕ) → place < n → old.cols ≡ n * k → old.width ≡ m → Learns old new (HasColumns old.cols old.width (place * k) k block) → Learns old new (HasSymbols k m n place k block)
learns_block old new k m n place block lt cols width h symbols =
    let both = subst (λ (w : ℕ). Learns old new (HasColumns (n * k) w (place * k) k block)) width (subst (λ (c : ℕ). Learns old new (HasColumns c old.width (place * k) k block)) cols h) symbols in (
      λ s.
          let x = both.0 s in
          (x.0, λ i li. subst (λ (row : List ℕ). Gives m row (get_or (cut k m block) i []) symbols) (symbol_row_is k n place i lt li) (x.1 i li)),
      λ s. both.1 (s.0, λ i li. subst (λ (row : List ℕ). Gives m row (get_or (cut k m block) i []) symbols) (sym (symbol_row_is k n place i lt li)) (s.1 i li)),
    )
