-- What is known of columns of which some are whole: what it is to solve it, and how it grows.
use Rattle.std.proofs.Common.{◌≡◌, ◌≢◌, ◌⊎◌, ◌↔◌, ℕ, zero as nought, suc, ◌+◌, ◌-◌, ◌*◌, ◌<◌, ◌≤◌, Bool, true, false, cond, List, [], ◌∷◌, ◌++◌, length, get_or, map, set, take, drop, replicate, All, bit_xor, Fits, w8, refl, sym, ap, ap₂, ◌∙◌, subst, arith, length-set, add-mul, inl, inr}
use Rattle.std.specs.List.{range_with_len}
use Rattle.std.specs.Int.Bits.{xor_assoc, xor_self, xor_zero_r}
use Rattle.std.proofs.lemmas.Bool.{cases_lt, cases_eq, cond-true, cond-false}
use Rattle.std.proofs.Math.Seq.{drop-append-add}
use Rattle.std.proofs.lemmas.List.{take-replicate, drop-replicate, length-replicate, length-map, length-append, length-take-le, length-drop, get_or-replicate, get_or-take, get_or-drop, get_or_past, get_or_default, get_or_append_left, get_or-append_right, get_or-append-add, get_or-set_same, get_or-set_other, take_all, nil_from_length, take-append-drop, take-append-le, drop-append-le, drop-drop, ext_get_or}
use Rattle.std.proofs.lemmas.List.Elements.{All-append, All-replicate, All-set, All-from_get_or, All-get_or, All-head, All-tail, All-nil, All-take, All-drop}
use Rattle.std.proofs.lemmas.List.FromFn.{length-map-range_with_len, get_or-map-range_with_len}
use borrow.Rule.Slice.PartMut.{put_mid}
use Rattle.sc_field.specs.Scale.{scaled_sum}
use Rattle.sc_field.specs.Gf256.{gf256_product}
use Rattle.sc_field.specs.Laws.Gf256Laws.{gf256_field, gf256_action}
use Rattle.sc_matrix.specs.Module.{IsByte, IsModule}
use Rattle.sc_matrix.specs.Vector.{IsVector, add_vectors, combination}
use Rattle.sc_matrix.specs.Layout.{cut}
use Rattle.sc_matrix.proofs.LayoutLaws.{vectors-cut, length-cut, get_or-cut, cut-put_mid, cut-replicate, length-put_mid, row_within}
use Rattle.sc_matrix.proofs.VectorLaws.{length-add_vectors}
use Rattle.sc_matrix.proofs.ModuleLaws.{none_plus}
use Rattle.sc_matrix.proofs.ByteSteps.{scaled_sum_is}
use Rattle.sc_code.proofs.ColumnLaws.{All-map_range}
use Rattle.sc_echelon.specs.Equation.{Row}
use Rattle.sc_echelon.specs.Knowledge.{Knowledge, IsSolution, IsBytes, IsValueAt, IsOpenAt, Adds, Follows, Contradicts, Forgets, MeetsRow, zero_bytes, xor_bytes, act_bytes, nothing_known}
use Rattle.sc_echelon.proofs.Bytes.{bytes_module}
use Rattle.sc_echelon.proofs.DotLaws.{dot_value, dot_none, dot_one, dot_same}
use Rattle.sc_repair.specs.Equations.{Learns, Refuses, Gives}
use Rattle.sc_repair.specs.Columns.{stored_row, all_known, HasStored, IsFree, IsQuiet, IsColumns, SaysSame, TakenOut}

-- bytes in hand are bytes
pub are_bytes : (bytes : List ℕ) → ((i : ℕ) → Fits w8 (get_or bytes i 0)) → All IsByte bytes
are_bytes bytes f = All-from_get_or IsByte bytes 0 (λ i lt. (f i).fits)

pub cases : (b : Bool) → (b ≡ true) ⊎ (b ≡ false)
cases true = inl refl
cases false = inr refl

-- a flag that is set lies within the flags
pub flag_within : (flags : List Bool) (c : ℕ) → get_or flags c false ≡ true → c < length flags
flag_within flags c e = elim (cases_lt c (length flags)) [
  | inl lt ↦ lt
  | inr past ↦ absurd (let other : false ≡ true = sym (get_or_past flags c false past) ∙ e in cc)
]

-- ---- byte strings

module_of : (w : ℕ) → IsModule IsByte 0 1 bit_xor gf256_product (IsBytes w) (zero_bytes w) xor_bytes (act_bytes gf256_product)
module_of w = bytes_module gf256_action w

value_of_sum : (w : ℕ) (cs : List ℕ) (vs : List (List ℕ)) → All IsByte cs → All (IsBytes w) vs → IsBytes w (combination 0 bit_xor gf256_product w cs vs)
value_of_sum w cs vs a b = dot_value gf256_field (module_of w) cs vs a b

pub xor_back : (a t : List ℕ) → length a ≡ length t → add_vectors bit_xor (add_vectors bit_xor a t) t ≡ a
xor_back [] t e = refl
xor_back (x ∷ a) [] e = absurd (omega arith)
xor_back (x ∷ a) (y ∷ t) e =
    ap₂ (λ (z : ℕ) (zs : List ℕ). z ∷ zs) (xor_assoc x y y ∙ ap (bit_xor x) (xor_self y) ∙ xor_zero_r x) (xor_back a t (omega arith))

-- a combination is that without one column, and the column's product
dot_split : (w : ℕ) (cs : List ℕ) (vs : List (List ℕ)) (p : ℕ) → All IsByte cs → All (IsBytes w) vs → p < length cs → p < length vs
    → combination 0 bit_xor gf256_product w cs vs ≡ xor_bytes (combination 0 bit_xor gf256_product w (set cs p 0) vs) (act_bytes gf256_product (get_or cs p 0) (get_or vs p []))
dot_split w [] vs p a b l k = absurd (omega arith)
dot_split w (c ∷ cs) [] p a b l k = absurd (omega arith)
dot_split w (c ∷ cs) (v ∷ vs) nought a b l k =
    let ml = module_of w in
    let hc = All-head IsByte c cs a in
    let hv = All-head (IsBytes w) v vs b in
    let rest = combination 0 bit_xor gf256_product w cs vs in
    let hr = value_of_sum w cs vs (All-tail IsByte c cs a) (All-tail (IsBytes w) v vs b) in
    let ht = ml.times_value c v hc hv in
    let none : xor_bytes (act_bytes gf256_product 0 v) rest ≡ rest = ap (λ (z : List ℕ). xor_bytes z rest) (ml.times_zero v hv) ∙ none_plus gf256_field ml rest hr in
    ml.plus_comm (act_bytes gf256_product c v) rest ht hr ∙ ap (λ (z : List ℕ). xor_bytes z (act_bytes gf256_product c v)) (sym none)
dot_split w (c ∷ cs) (v ∷ vs) (suc p) a b l k =
    let ml = module_of w in
    let hc = All-head IsByte c cs a in
    let hv = All-head (IsBytes w) v vs b in
    let tc = All-tail IsByte c cs a in
    let tv = All-tail (IsBytes w) v vs b in
    let t = act_bytes gf256_product (get_or cs p 0) (get_or vs p []) in
    let ht = ml.times_value (get_or cs p 0) (get_or vs p []) (All-get_or IsByte cs p 0 (omega arith) tc) (All-get_or (IsBytes w) vs p [] (omega arith) tv) in
    let hr = value_of_sum w (set cs p 0) vs (All-set IsByte cs p 0 (omega arith) tc) tv in
    ap (xor_bytes (act_bytes gf256_product c v)) (dot_split w cs vs p tc tv (omega arith) (omega arith))
    ∙ sym (ml.plus_assoc (act_bytes gf256_product c v) (combination 0 bit_xor gf256_product w (set cs p 0) vs) t (ml.times_value c v hc hv) hr ht)

-- a column goes to the right side
pub says_step : (whole : List Bool) (stored : List (List ℕ)) (w : ℕ) (row0 right0 row sum : List ℕ) (c x : ℕ) (part : List ℕ) → SaysSame whole stored w row0 right0 row sum
    → (All IsByte row0 → All IsByte row) → length row ≡ length row0 → c < length row → get_or whole c false ≡ true → get_or stored c [] ≡ part → x ≡ get_or row c 0 → length sum ≡ w → length part ≡ w
    → SaysSame whole stored w row0 right0 (set row c 0) (scaled_sum (gf256_product x) sum part)
says_step whole stored w row0 right0 row sum c x part same bytes count lt set_here here ex ls lp elements vs lv values has =
    let prev = same elements vs lv values has in
    let at : get_or vs c [] ≡ part = has c set_here ∙ here in
    let t : List ℕ = map (gf256_product x) part in
    let lt' : length t ≡ w = length-map part (gf256_product x) ∙ lp in
    let rest : List ℕ = combination 0 bit_xor gf256_product w (set row c 0) vs in
    let lr : length rest ≡ w = (value_of_sum w (set row c 0) vs (All-set IsByte row c 0 (omega arith) (bytes elements)) values).width in
    let split : combination 0 bit_xor gf256_product w row vs ≡ add_vectors bit_xor rest t =
    dot_split w row vs c (bytes elements) values lt (omega arith) ∙ ap₂ (λ (y : ℕ) (v : List ℕ). xor_bytes rest (act_bytes gf256_product y v)) (sym ex) at in
    let is_sum : scaled_sum (gf256_product x) sum part ≡ add_vectors bit_xor sum t = scaled_sum_is (gf256_product x) sum part (lp ∙ sym ls) in (
      λ g. sym (xor_back rest t (lr ∙ sym lt')) ∙ ap (λ (d : List ℕ). add_vectors bit_xor d t) (sym split ∙ prev.0 g) ∙ sym is_sum,
      λ g. prev.1 (split ∙ ap (λ (d : List ℕ). add_vectors bit_xor d t) (g ∙ is_sum) ∙ xor_back sum t (ls ∙ sym lt')),
    )

all_bytes : (row0 row : List ℕ) (n : ℕ) → length row ≡ length row0 → ((c : ℕ) → c < n → get_or row c 0 < 256) → ((c : ℕ) → n ≤ c → get_or row c 0 ≡ get_or row0 c 0) → All IsByte row0 → All IsByte row
all_bytes row0 row n e low high a =
    All-from_get_or IsByte row 0 (λ i lt. elim (cases_lt i n) [
      | inl l ↦ low i l
      | inr h ↦ (let x : get_or row0 i 0 < 256 = All-get_or IsByte row0 i 0 (omega arith) a in let s = high i h in omega arith)
    ])

pub taken_more : (whole : List Bool) (stored : List (List ℕ)) (w : ℕ) (row0 right0 row sum : List ℕ) (c : ℕ) (part : List ℕ) → TakenOut whole stored w row0 right0 c row sum
    → c < length row0 → get_or row c 0 < 256 → get_or whole c false ≡ true → get_or stored c [] ≡ part → length right0 ≡ w → length part ≡ w
    → TakenOut whole stored w row0 right0 (c + 1) (set row c 0) (scaled_sum (gf256_product (get_or row c 0)) sum part)
taken_more whole stored w row0 right0 row sum c part h lt byte is_whole here lw lp =
    let ls : length sum ≡ w = h.1 ∙ lw in
    let count : length row ≡ length row0 = h.0 in
    let is_sum = scaled_sum_is (gf256_product (get_or row c 0)) sum part (lp ∙ sym ls) in
    let zero_here : get_or (set row c 0) c 0 ≡ 0 = get_or-set_same row c 0 0 (omega arith) in (
      length-set row c 0 ∙ h.0,
      ap length is_sum ∙ length-add_vectors bit_xor sum (map (gf256_product (get_or row c 0)) part) (ls ∙ sym lp ∙ sym (length-map part (gf256_product (get_or row c 0)))) ∙ h.1,
      λ i li flag. elim (cases_lt i c) [
        | inl low ↦ get_or-set_other row c i 0 0 (λ e. (let same : i ≡ c = e in absurd (omega arith))) ∙ h.2 i low flag
        | inr high ↦ (let same : c ≡ i = omega arith in subst (λ (x : ℕ). get_or (set row c 0) x 0 ≡ 0) same zero_here)
      ],
      λ i li. elim (cases_lt i c) [
        | inl low ↦ h.3 i low
        | inr high ↦ (let same : c ≡ i = omega arith in subst (λ (x : ℕ). get_or row0 x 0 < 256) same (let s = h.5 c (omega arith) in omega arith))
      ],
      λ i li. elim (cases_lt i c) [
        | inl low ↦ (let s = get_or-set_other row c i 0 0 (λ e. (let same : i ≡ c = e in absurd (omega arith))) in let b = h.4 i low in omega arith)
        | inr high ↦ (let same : c ≡ i = omega arith in subst (λ (x : ℕ). get_or (set row c 0) x 0 < 256) same (omega arith))
      ],
      λ i le. get_or-set_other row c i 0 0 (λ e. (let same : i ≡ c = e in absurd (omega arith))) ∙ h.5 i (omega arith),
      says_step whole stored w row0 right0 row sum c (get_or row c 0) part h.6 (all_bytes row0 row c h.0 h.4 h.5) h.0 (omega arith) is_whole here refl ls lp,
    )

pub taken_kept : (whole : List Bool) (stored : List (List ℕ)) (w : ℕ) (row0 right0 row sum : List ℕ) (c : ℕ) → TakenOut whole stored w row0 right0 c row sum
    → get_or row c 0 < 256 → (get_or whole c false ≡ true → get_or row c 0 ≡ 0) → TakenOut whole stored w row0 right0 (c + 1) row sum
taken_kept whole stored w row0 right0 row sum c h byte none = (
  h.0,
  h.1,
  λ i li flag. elim (cases_lt i c) [
    | inl low ↦ h.2 i low flag
    | inr high ↦ (let same : c ≡ i = omega arith in subst (λ (x : ℕ). get_or row x 0 ≡ 0) same (none (ap (λ (x : ℕ). get_or whole x false) same ∙ flag)))
  ],
  λ i li. elim (cases_lt i c) [
    | inl low ↦ h.3 i low
    | inr high ↦ (let same : c ≡ i = omega arith in subst (λ (x : ℕ). get_or row0 x 0 < 256) same (let s = h.5 c (omega arith) in omega arith))
  ],
  λ i li. elim (cases_lt i c) [
    | inl low ↦ h.4 i low
    | inr high ↦ (let same : c ≡ i = omega arith in subst (λ (x : ℕ). get_or row x 0 < 256) same byte)
  ],
  λ i le. h.5 i (omega arith),
  h.6,
)

-- ---- what solves it

unit_value : (w n c x : ℕ) (vs : List (List ℕ)) → x < 256 → c < n → length vs ≡ n → All (IsBytes w) vs
    → combination 0 bit_xor gf256_product w (set (replicate n 0) c x) vs ≡ act_bytes gf256_product x (get_or vs c [])
unit_value w n c x vs byte lt count values =
    let zeros : List ℕ = replicate n 0 in
    let lz : length zeros ≡ n = length-replicate n 0 in
    let ls : length (set zeros c x) ≡ n = length-set zeros c x ∙ lz in
    dot_one gf256_field (module_of w) (set zeros c x) vs c (All-set IsByte zeros c x byte (All-replicate IsByte n 0 (omega arith))) values (omega arith) (omega arith) (λ i li lv ne. inl (get_or-set_other zeros c i x 0 ne ∙ get_or-replicate n i 0 0 (omega arith)))
    ∙ ap₂ (λ (y : ℕ) (v : List ℕ). act_bytes gf256_product y v) (get_or-set_same zeros c x 0 (omega arith)) (get_or_default vs c (zero_bytes w) [] (omega arith))

-- a column's unit row gives its value
pub unit_gives : (w n c : ℕ) (vs : List (List ℕ)) → c < n → length vs ≡ n → All (IsBytes w) vs → combination 0 bit_xor gf256_product w (set (replicate n 0) c 1) vs ≡ get_or vs c []
unit_gives w n c vs lt count values =
    unit_value w n c 1 vs (omega arith) lt count values ∙ (module_of w).times_one (get_or vs c []) (All-get_or (IsBytes w) vs c [] (omega arith) values)

module _ (whole : List Bool) (bytes : List ℕ) (n w : ℕ) where
  met_whole : (c : ℕ) (vs : List (List ℕ)) → c < n → length vs ≡ n → All (IsBytes w) vs → get_or whole c false ≡ true → MeetsRow gf256_product w (stored_row n w whole bytes c) vs ↔ (get_or vs c [] ≡ get_or (cut n w bytes) c [])
  met_whole c vs lt count values e =
      let one : cond (get_or whole c false) 1 0 ≡ 1 = cond-true (get_or whole c false) 1 0 e in
      let right : cond (get_or whole c false) (get_or (cut n w bytes) c []) (zero_bytes w) ≡ get_or (cut n w bytes) c [] = cond-true (get_or whole c false) (get_or (cut n w bytes) c []) (zero_bytes w) e in
      let left : combination 0 bit_xor gf256_product w (set (replicate n 0) c (cond (get_or whole c false) 1 0)) vs ≡ get_or vs c [] =
      ap (λ (x : ℕ). combination 0 bit_xor gf256_product w (set (replicate n 0) c x) vs) one ∙ unit_gives w n c vs lt count values in
      (λ m. sym left ∙ m ∙ right, λ m. left ∙ m ∙ sym right)

  met_other : (c : ℕ) (vs : List (List ℕ)) → c < n → length vs ≡ n → All (IsBytes w) vs → get_or whole c false ≡ false → MeetsRow gf256_product w (stored_row n w whole bytes c) vs
  met_other c vs lt count values e =
      let within : c < length vs = omega arith in
      let byte : 0 < 256 = omega arith in
      let none : cond (get_or whole c false) 1 0 ≡ 0 = cond-false (get_or whole c false) 1 0 e in
      let right : cond (get_or whole c false) (get_or (cut n w bytes) c []) (zero_bytes w) ≡ zero_bytes w = cond-false (get_or whole c false) (get_or (cut n w bytes) c []) (zero_bytes w) e in
      ap (λ (x : ℕ). combination 0 bit_xor gf256_product w (set (replicate n 0) c x) vs) none ∙ unit_value w n c 0 vs byte lt count values
      ∙ (module_of w).times_zero (get_or vs c []) (All-get_or (IsBytes w) vs c [] within values) ∙ sym right

-- a list solves all that is known exactly where it solves the equations and has the stored byte strings
pub all_known-iff : (known : Knowledge ℕ) (whole : List Bool) (bytes : List ℕ) → length whole ≡ known.cols → (vs : List (List ℕ))
    → IsSolution gf256_product (all_known known whole bytes) vs ↔ (IsSolution gf256_product known vs × HasStored whole (cut known.cols known.width bytes) vs)
all_known-iff known whole bytes count vs =
    let n = known.cols in
    let w = known.width in
    let f : ℕ → Row ℕ (List ℕ) = stored_row n w whole bytes in
    let P : Row ℕ (List ℕ) → Type 0 = λ r. MeetsRow gf256_product w r vs in
    let xs : List (Row ℕ (List ℕ)) = map f (range_with_len 0 n) in
    let lx : length xs ≡ n = length-map-range_with_len f 0 n in (
      λ s. (
        record {
          values = s.values;
          solves = All-from_get_or P known.rows (f 0) (λ i lt.
              subst P (get_or-append-add xs known.rows i (f 0)) (All-get_or P (xs ++ known.rows) (length xs + i) (f 0) (omega (arith, length-append xs known.rows)) s.solves));
        },
        λ c e.
            let lt : c < n = omega (arith, flag_within whole c e) in
            (met_whole whole bytes n w c vs lt s.values.width s.values.entries e).0
            (subst P (get_or_append_left xs known.rows (f 0) c (omega arith) ∙ get_or-map-range_with_len f 0 n c c (f 0) lt (omega arith)) (All-get_or P (xs ++ known.rows) c (f 0) (omega (arith, length-append xs known.rows)) s.solves)),
      ),
      λ s. record {
        values = s.0.values;
        solves = All-append P xs known.rows (All-map_range P f n (λ c lt. elim (cases (get_or whole c false)) [
          | inl e ↦ (met_whole whole bytes n w c vs lt s.0.values.width s.0.values.entries e).1 (s.1 c e)
          | inr e ↦ met_other whole bytes n w c vs lt s.0.values.width s.0.values.entries e
        ])) s.0.solves;
      },
    )

-- ---- whole columns are put into a list

abbrev pub overlay : List Bool → List (List ℕ) → List (List ℕ) → ℕ → List (List ℕ)
overlay whole stored vs n = map (λ c. cond (get_or whole c false) (get_or stored c []) (get_or vs c [])) (range_with_len 0 n)

module _ (whole : List Bool) (stored vs : List (List ℕ)) (n : ℕ) where
  overlay_at : (c : ℕ) → c < n → get_or (overlay whole stored vs n) c [] ≡ cond (get_or whole c false) (get_or stored c []) (get_or vs c [])
  overlay_at c lt = get_or-map-range_with_len (λ c. cond (get_or whole c false) (get_or stored c []) (get_or vs c [])) 0 n c c [] lt (omega arith)

  overlay_whole : (c : ℕ) → c < n → get_or whole c false ≡ true → get_or (overlay whole stored vs n) c [] ≡ get_or stored c []
  overlay_whole c lt e = overlay_at c lt ∙ cond-true (get_or whole c false) (get_or stored c []) (get_or vs c []) e

  overlay_other : (c : ℕ) → c < n → get_or whole c false ≡ false → get_or (overlay whole stored vs n) c [] ≡ get_or vs c []
  overlay_other c lt e = overlay_at c lt ∙ cond-false (get_or whole c false) (get_or stored c []) (get_or vs c []) e

  overlay_vector : (w : ℕ) → IsVector (IsBytes w) n vs → All (IsBytes w) stored → length stored ≡ n → IsVector (IsBytes w) n (overlay whole stored vs n)
  overlay_vector w values all count =
      let long = values.width in
      record {
        width = length-map-range_with_len (λ c. cond (get_or whole c false) (get_or stored c []) (get_or vs c [])) 0 n;
        entries = All-map_range (IsBytes w) (λ c. cond (get_or whole c false) (get_or stored c []) (get_or vs c [])) n (λ c lt. elim (cases (get_or whole c false)) [
          | inl e ↦ subst (IsBytes w) (sym (cond-true (get_or whole c false) (get_or stored c []) (get_or vs c []) e)) (All-get_or (IsBytes w) stored c [] (omega arith) all)
          | inr e ↦ subst (IsBytes w) (sym (cond-false (get_or whole c false) (get_or stored c []) (get_or vs c []) e)) (All-get_or (IsBytes w) vs c [] (omega arith) values.entries)
        ]);
      }

-- a solution of the equations becomes one of all that is known
pub whole_put_in : (known : Knowledge ℕ) (whole free : List Bool) (bytes : List ℕ) → IsColumns known whole free bytes → (vs : List (List ℕ)) → IsSolution gf256_product known vs
    → IsSolution gf256_product (all_known known whole bytes) (overlay whole (cut known.cols known.width bytes) vs known.cols)
whole_put_in known whole free bytes h vs s =
    let n = known.cols in
    let w = known.width in
    let stored = cut n w bytes in
    let values = overlay_vector whole stored vs n w s.values (vectors-cut IsByte n w bytes h.byte_count h.are_bytes) (length-cut n w bytes) in
    (all_known-iff known whole bytes h.whole_count (overlay whole stored vs n)).1 (
      h.is_free vs (overlay whole stored vs n) s values (λ c lt e. elim (cases (get_or whole c false)) [
        | inl set_here ↦ elim (h.within c set_here) [
          | inl f ↦ absurd (let other : true ≡ false = sym f ∙ e in cc)
          | inr v ↦ overlay_whole whole stored vs n c lt set_here ∙ sym (v vs s)
        ]
        | inr not_set ↦ overlay_other whole stored vs n c lt not_set
      ]),
      λ c e. (let lt : c < n = omega (arith, flag_within whole c e, h.whole_count) in overlay_whole whole stored vs n c lt e),
    )

pub some_solves : (known : Knowledge ℕ) (whole free : List Bool) (bytes : List ℕ) → IsColumns known whole free bytes → ((vs : List (List ℕ)) × IsSolution gf256_product known vs) → (vs : List (List ℕ)) × IsSolution gf256_product (all_known known whole bytes) vs
some_solves known whole free bytes h some = (overlay whole (cut known.cols known.width bytes) some.0 known.cols, whole_put_in known whole free bytes h some.0 some.1)

-- ---- values

pub value_where_whole : (known : Knowledge ℕ) (whole free : List Bool) (bytes : List ℕ) → IsColumns known whole free bytes → (c : ℕ) → get_or whole c false ≡ true → IsValueAt gf256_product (all_known known whole bytes) c (get_or (cut known.cols known.width bytes) c [])
value_where_whole known whole free bytes h c e vs s = ((all_known-iff known whole bytes h.whole_count vs).0 s).1 c e

pub value_where_solved : (known : Knowledge ℕ) (whole free : List Bool) (bytes : List ℕ) → IsColumns known whole free bytes → (c : ℕ) (b : List ℕ) → IsValueAt gf256_product known c b → IsValueAt gf256_product (all_known known whole bytes) c b
value_where_solved known whole free bytes h c b value vs s = value vs ((all_known-iff known whole bytes h.whole_count vs).0 s).0

pub open_where_open : (known : Knowledge ℕ) (whole free : List Bool) (bytes : List ℕ) → IsColumns known whole free bytes → (c : ℕ) → c < known.cols → get_or whole c false ≡ false → IsOpenAt gf256_product known c → IsOpenAt gf256_product (all_known known whole bytes) c
open_where_open known whole free bytes h c lt e x =
    let stored = cut known.cols known.width bytes in
    record {
      one_list = overlay whole stored x.one_list known.cols;
      other_list = overlay whole stored x.other_list known.cols;
      one_solves = whole_put_in known whole free bytes h x.one_list x.one_solves;
      other_solves = whole_put_in known whole free bytes h x.other_list x.other_solves;
      differ = λ same. x.differ (sym (overlay_other whole stored x.one_list known.cols c lt e) ∙ same ∙ overlay_other whole stored x.other_list known.cols c lt e);
    }

-- ---- equations are added

-- what an equation says to the solutions of all that is known, it says without its whole columns
pub says_here : (known : Knowledge ℕ) (whole free : List Bool) (bytes row right row' right' : List ℕ) → IsColumns known whole free bytes → length row ≡ known.cols → length right ≡ known.width → All IsByte row
    → SaysSame whole (cut (length row) (length right) bytes) (length right) row right row' right'
    → (vs : List (List ℕ)) → IsSolution gf256_product (all_known known whole bytes) vs → Gives known.width row right vs ↔ Gives known.width row' right' vs
says_here known whole free bytes row right row' right' h lr lb elements same vs s =
    let both = (all_known-iff known whole bytes h.whole_count vs).0 s in
    let stored_same : cut (length row) (length right) bytes ≡ cut known.cols known.width bytes = ap₂ (λ (a b : ℕ). cut a b bytes) lr lb in
    let same' : SaysSame whole (cut known.cols known.width bytes) known.width row right row' right' =
    subst (λ (st : List (List ℕ)). SaysSame whole st known.width row right row' right') stored_same
    (subst (λ (x : ℕ). SaysSame whole (cut (length row) (length right) bytes) x row right row' right') lb same) in
    same' elements vs (s.values.width ∙ sym lr) s.values.entries both.1

-- an equation whose coefficients are zero says that its right side is
pub zero_says : (w : ℕ) (row right : List ℕ) (vs : List (List ℕ)) → All IsByte row → All (IsBytes w) vs → ((c : ℕ) → c < length row → get_or row c 0 ≡ 0) → Gives w row right vs ↔ (zero_bytes w ≡ right)
zero_says w row right vs elements values zeros =
    let e : combination 0 bit_xor gf256_product w row vs ≡ zero_bytes w = dot_none gf256_field (module_of w) row vs elements values (λ i lt lv. inl (zeros i lt)) in
    (λ g. sym e ∙ g, λ z. e ∙ z)

-- the equations with one more say nothing of the columns that it doesn't touch
pub free_more : (old new : Knowledge ℕ) (free free' : List Bool) (row right : List ℕ) → IsFree old free → new.cols ≡ old.cols → new.width ≡ old.width → All IsByte row → length row ≡ old.cols
    → ((c : ℕ) → get_or free' c false ≡ true → (get_or free c false ≡ true) × (get_or row c 0 ≡ 0)) → Adds gf256_product old (record { coeffs = row; right = right }) new → IsFree new free'
free_more old new free free' row right h cols width elements count touched adds vs us s values same =
    let both = (adds vs).0 s in
    let here : IsVector (IsBytes old.width) old.cols us = subst (λ (x : ℕ). IsVector (IsBytes x) old.cols us) width (subst (λ (x : ℕ). IsVector (IsBytes new.width) x us) cols values) in
    let old_us : IsSolution gf256_product old us = h vs us both.0 here (λ c lt e. same c (omega arith) (elim (cases (get_or free' c false)) [
      | inl set_here ↦ absurd (let other : true ≡ false = sym (touched c set_here).0 ∙ e in cc)
      | inr not_set ↦ not_set
    ])) in
    let w = old.width in
    let lv = both.0.values.width in
    let lu = here.width in
    let meets : combination 0 bit_xor gf256_product w row us ≡ combination 0 bit_xor gf256_product w row vs =
    dot_same gf256_field (module_of w) row us vs elements here.entries both.0.values.entries (omega arith) (λ i li lu'. elim (cases (get_or free' i false)) [
      | inl set_here ↦ inl (touched i set_here).1
      | inr not_set ↦ inr (get_or_default us i (zero_bytes w) [] lu' ∙ same i (omega arith) not_set ∙ get_or_default vs i [] (zero_bytes w) (omega arith))
    ]) in
    (adds us).1 (old_us, meets ∙ both.1)

-- fewer columns are free
pub free_less : (known : Knowledge ℕ) (free free' : List Bool) → IsFree known free → ((c : ℕ) → get_or free' c false ≡ true → get_or free c false ≡ true) → IsFree known free'
free_less known free free' h less vs us s values same = h vs us s values (λ c lt e. same c lt (elim (cases (get_or free' c false)) [
  | inl set_here ↦ absurd (let other : true ≡ false = sym (less c set_here) ∙ e in cc)
  | inr not_set ↦ not_set
]))

-- the stored columns are the same after an equation
pub same_stored : (old new : Knowledge ℕ) (bytes : List ℕ) → new.cols ≡ old.cols → new.width ≡ old.width → cut new.cols new.width bytes ≡ cut old.cols old.width bytes
same_stored old new bytes cols width = ap₂ (λ (a b : ℕ). cut a b bytes) cols width

pub columns_more : (old new : Knowledge ℕ) (whole free free' : List Bool) (bytes : List ℕ) → IsColumns old whole free bytes → new.cols ≡ old.cols → new.width ≡ old.width → length free' ≡ length free
    → ((c : ℕ) → get_or whole c false ≡ true → (get_or free' c false ≡ true) ⊎ IsValueAt gf256_product new c (get_or (cut new.cols new.width bytes) c [])) → IsFree new free' → IsColumns new whole free' bytes
columns_more old new whole free free' bytes h cols width count within is_free =
    record {
      some = (let s = h.some in omega arith);
      whole_count = h.whole_count ∙ sym cols;
      free_count = count ∙ h.free_count ∙ sym cols;
      byte_count = h.byte_count ∙ ap₂ (λ (a b : ℕ). a * b) (sym cols) (sym width);
      are_bytes = h.are_bytes;
      blank = λ c lt e. ap (λ (st : List (List ℕ)). get_or st c []) (same_stored old new bytes cols width) ∙ h.blank c (omega arith) e ∙ ap zero_bytes (sym width);
      within = within;
      is_free = is_free;
    }

-- the equation was told without its whole columns
pub learns_new : (old new : Knowledge ℕ) (whole free : List Bool) (bytes row right row' right' : List ℕ) → IsColumns old whole free bytes → new.cols ≡ old.cols → new.width ≡ old.width
    → ((vs : List (List ℕ)) → IsSolution gf256_product (all_known old whole bytes) vs → Gives old.width row right vs ↔ Gives old.width row' right' vs)
    → Adds gf256_product old (record { coeffs = row'; right = right' }) new → Learns (all_known old whole bytes) (all_known new whole bytes) (Gives old.width row right)
learns_new old new whole free bytes row right row' right' h cols width says adds symbols =
    let iff_old = all_known-iff old whole bytes h.whole_count symbols in
    let iff_new = all_known-iff new whole bytes (h.whole_count ∙ sym cols) symbols in
    let stored = same_stored old new bytes cols width in (
      λ s.
          let x = iff_new.0 s in
          let y = (adds symbols).0 x.0 in
          let all = iff_old.1 (y.0, subst (λ (st : List (List ℕ)). HasStored whole st symbols) stored x.1) in
          (all, (says symbols all).1 y.1),
      λ s.
          let x = iff_old.0 s.0 in
          iff_new.1 ((adds symbols).1 (x.0, (says symbols s.0).0 s.1), subst (λ (st : List (List ℕ)). HasStored whole st symbols) (sym stored) x.1),
    )

pub learns_known : (old : Knowledge ℕ) (whole free : List Bool) (bytes row right row' right' : List ℕ) → IsColumns old whole free bytes
    → ((vs : List (List ℕ)) → IsSolution gf256_product (all_known old whole bytes) vs → Gives old.width row right vs ↔ Gives old.width row' right' vs)
    → Follows gf256_product old (record { coeffs = row'; right = right' }) → Learns (all_known old whole bytes) (all_known old whole bytes) (Gives old.width row right)
learns_known old whole free bytes row right row' right' h says follows symbols = (
  λ s. (s, (says symbols s).1 (follows symbols ((all_known-iff old whole bytes h.whole_count symbols).0 s).0)),
  λ s. s.0,
)

-- a contradiction with the rest is one with all that is known
pub refuses_clash : (old : Knowledge ℕ) (whole free : List Bool) (bytes row right row' right' : List ℕ) → IsColumns old whole free bytes
    → ((vs : List (List ℕ)) → IsSolution gf256_product (all_known old whole bytes) vs → Gives old.width row right vs ↔ Gives old.width row' right' vs)
    → Contradicts gf256_product old (record { coeffs = row'; right = right' }) → Refuses (all_known old whole bytes) (Gives old.width row right)
refuses_clash old whole free bytes row right row' right' h says none symbols s g = none symbols ((all_known-iff old whole bytes h.whole_count symbols).0 s).0 ((says symbols s).0 g)

-- ---- the start

pub columns_start : (n w : ℕ) → 1 ≤ w → IsColumns (nothing_known n w) (replicate n false) (replicate n true) (replicate (n * w) 0)
columns_start n w some =
    record {
      some = some;
      whole_count = length-replicate n false;
      free_count = length-replicate n true;
      byte_count = length-replicate (n * w) 0;
      are_bytes = All-replicate IsByte (n * w) 0 (omega arith);
      blank = λ c lt e. ap (λ (st : List (List ℕ)). get_or st c []) (cut-replicate n w 0) ∙ get_or-replicate n c (zero_bytes w) [] lt;
      within = λ c e. (let lt = flag_within (replicate n false) c e in let l = length-replicate n false in absurd (let other : false ≡ true = sym (get_or-replicate n c false false (omega arith)) ∙ e in cc));
      is_free = λ vs us s values same. record { values = values; solves = All-nil _ };
    }

pub any_at_start : (n w : ℕ) (vs : List (List ℕ)) → IsVector (IsBytes w) n vs → IsSolution gf256_product (all_known (nothing_known n w) (replicate n false) (replicate (n * w) 0)) vs
any_at_start n w vs values =
    (all_known-iff (nothing_known n w) (replicate n false) (replicate (n * w) 0) (length-replicate n false) vs).1 (
      record { values = values; solves = All-nil _ },
      λ c e. (let lt = flag_within (replicate n false) c e in let l = length-replicate n false in absurd (let other : false ≡ true = sym (get_or-replicate n c false false (omega arith)) ∙ e in cc)),
    )

-- ---- a column's bytes come

module _ (known : Knowledge ℕ) (whole free : List Bool) (bytes : List ℕ) (h : IsColumns known whole free bytes) (col : ℕ) (src : List ℕ) (lt : col < known.cols) (long : length src ≡ known.width) where
  pub columns_stored : All IsByte src → (get_or free col false ≡ true) ⊎ IsValueAt gf256_product known col src → IsColumns known (set whole col true) free (put_mid (col * known.width) known.width bytes src)
  columns_stored are_bytes is_free_here =
      let w = known.width in
      let room = row_within known.cols w col lt in
      let count = h.byte_count in
      record {
        some = h.some;
        whole_count = length-set whole col true ∙ h.whole_count;
        free_count = h.free_count;
        byte_count = length-put_mid (col * w) w bytes src (omega arith) long ∙ h.byte_count;
        blank = λ c lt' e. elim (cases_eq c col) [
          | inl same ↦ absurd (let other : true ≡ false = sym (get_or-set_same whole col true false (let l = h.whole_count in omega arith)) ∙ ap (λ (x : ℕ). get_or (set whole col true) x false) (sym same) ∙ e in cc)
          | inr other ↦
              ap (λ (st : List (List ℕ)). get_or st c []) (cut-put_mid known.cols w bytes col src h.byte_count lt long) ∙ get_or-set_other (cut known.cols w bytes) col c src [] other
              ∙ h.blank c lt' (sym (get_or-set_other whole col c true false other) ∙ e)
        ];
        are_bytes = All-append IsByte (take (col * w) bytes) (src ++ drop w (drop (col * w) bytes)) (All-take IsByte (col * w) bytes h.are_bytes) (All-append IsByte src (drop w (drop (col * w) bytes)) are_bytes (All-drop IsByte w (drop (col * w) bytes) (All-drop IsByte (col * w) bytes h.are_bytes)));
        within = λ c e. elim (cases_eq c col) [
          | inl same ↦ elim is_free_here [
            | inl f ↦ inl (subst (λ (x : ℕ). get_or free x false ≡ true) (sym same) f)
            | inr v ↦ inr (λ vs s. ap (λ (x : ℕ). get_or vs x []) same ∙ v vs s ∙ sym (ap (λ (st : List (List ℕ)). get_or st c []) (cut-put_mid known.cols w bytes col src h.byte_count lt long)
                ∙ ap (λ (x : ℕ). get_or (set (cut known.cols w bytes) col src) x []) same ∙ get_or-set_same (cut known.cols w bytes) col src [] (let l = length-cut known.cols w bytes in omega arith)))
          ]
          | inr other ↦ elim (h.within c (sym (get_or-set_other whole col c true false other) ∙ e)) [
            | inl f ↦ inl f
            | inr v ↦ inr (λ vs s. v vs s ∙ sym (ap (λ (st : List (List ℕ)). get_or st c []) (cut-put_mid known.cols w bytes col src h.byte_count lt long) ∙ get_or-set_other (cut known.cols w bytes) col c src [] other))
          ]
        ];
        is_free = h.is_free;
      }

  pub learns_stored : get_or whole col false ≡ false → Learns (all_known known whole bytes) (all_known known (set whole col true) (put_mid (col * known.width) known.width bytes src)) (Gives known.width (set (replicate known.cols 0) col 1) src)
  learns_stored not_yet symbols =
      let n = known.cols in
      let w = known.width in
      let stored = cut n w bytes in
      let count = h.whole_count in
      let ls = length-cut n w bytes in
      let stored_is : cut n w (put_mid (col * w) w bytes src) ≡ set stored col src = cut-put_mid n w bytes col src h.byte_count lt long in
      let iff_old = all_known-iff known whole bytes h.whole_count symbols in
      let iff_new = all_known-iff known (set whole col true) (put_mid (col * w) w bytes src) (length-set whole col true ∙ h.whole_count) symbols in
      let differs : (c : ℕ) → get_or whole c false ≡ true → c ≢ col = λ c e same. absurd (let other : true ≡ false = sym e ∙ ap (λ (x : ℕ). get_or whole x false) same ∙ not_yet in cc) in
      let kept : (c : ℕ) → c ≢ col → get_or (set stored col src) c [] ≡ get_or stored c [] = λ c ne. get_or-set_other stored col c src [] ne in
      let here : get_or (set stored col src) col [] ≡ src = get_or-set_same stored col src [] (omega arith) in (
        λ s.
            let x = iff_new.0 s in
            let has = subst (λ (st : List (List ℕ)). HasStored (set whole col true) st symbols) stored_is x.1 in (
              iff_old.1 (x.0, λ c e. has c (get_or-set_other whole col c true false (differs c e) ∙ e) ∙ kept c (differs c e)),
              unit_gives w n col symbols lt s.values.width s.values.entries ∙ has col (get_or-set_same whole col true false (omega arith)) ∙ here,
            ),
        λ s.
            let x = iff_old.0 s.0 in
            let value : get_or symbols col [] ≡ src = sym (unit_gives w n col symbols lt x.0.values.width x.0.values.entries) ∙ s.1 in
            iff_new.1 (
              x.0,
              subst (λ (st : List (List ℕ)). HasStored (set whole col true) st symbols) (sym stored_is) (λ c e. elim (cases_eq c col) [
                | inl same ↦ subst (λ (y : ℕ). get_or symbols y [] ≡ get_or (set stored col src) y []) (sym same) (value ∙ sym here)
                | inr other ↦ x.1 c (sym (get_or-set_other whole col c true false other) ∙ e) ∙ sym (kept c other)
              ]),
            ),
      )

-- ---- columns are forgotten

drop-at : (a b : ℕ) (xs : List ℕ) → drop b (drop a xs) ≡ drop (a + b) xs
drop-at a b xs = drop-drop b a xs

shift_low : (flags : List Bool) (count : ℕ) (fill : Bool) (i : ℕ) → i < length flags - count → get_or (drop count flags ++ replicate count fill) i false ≡ get_or flags (count + i) false
shift_low flags count fill i lt =
    let l = length-drop count flags in
    get_or_append_left (drop count flags) (replicate count fill) false i (omega arith) ∙ get_or-drop count flags i false

shift_high : (flags : List Bool) (count : ℕ) (fill : Bool) (i : ℕ) → length flags - count ≤ i → i < length flags → count ≤ length flags → get_or (drop count flags ++ replicate count fill) i false ≡ fill
shift_high flags count fill i le lt room =
    let l = length-drop count flags in
    get_or-append_right (drop count flags) (replicate count fill) (length flags - count) i false l le ∙ get_or-replicate count (i - (length flags - count)) fill false (omega arith)

pub length_shift : {A : Type 0} (xs : List A) (count : ℕ) (fill : A) → count ≤ length xs → length (drop count xs ++ replicate count fill) ≡ length xs
length_shift xs count fill le =
    let l = length-drop count xs in
    let r = length-replicate count fill in
    length-append (drop count xs) (replicate count fill) ∙ omega arith

-- a whole column was whole before
shift_whole : (flags : List Bool) (count i : ℕ) → count ≤ length flags → get_or (drop count flags ++ replicate count false) i false ≡ true → (i < length flags - count) × (get_or flags (count + i) false ≡ true)
shift_whole flags count i room e =
    let within = flag_within (drop count flags ++ replicate count false) i e in
    let l = length_shift flags count false room in
    elim (cases_lt i (length flags - count)) [
      | inl low ↦ (low, sym (shift_low flags count false i low) ∙ e)
      | inr high ↦ absurd (let other : false ≡ true = sym (shift_high flags count false i high (omega arith) room) ∙ e in cc)
    ]

module _ (old new : Knowledge ℕ) (whole free : List Bool) (bytes bytes' : List ℕ) (count : ℕ) (h : IsColumns old whole free bytes) (room : count ≤ old.cols) (cols : new.cols ≡ old.cols) (width : new.width ≡ old.width)
    (forgets : Forgets gf256_product count old new) (moved : bytes' ≡ drop (count * old.width) bytes ++ replicate (count * old.width) 0) where
  -- a stored byte string moves to the front
  stored_moves : (i : ℕ) → i < old.cols - count → get_or (cut old.cols old.width bytes') i [] ≡ get_or (cut old.cols old.width bytes) (count + i) []
  stored_moves i lt =
      let n = old.cols in
      let w = old.width in
      let l = length-drop (count * w) bytes in
      let long = h.byte_count in
      let inside = row_within n w (count + i) (omega arith) in
      let split : (count + i) * w ≡ count * w + i * w = add-mul count i w in
      let shifted : take w (drop (i * w) (drop (count * w) bytes ++ replicate (count * w) 0)) ≡ take w (drop ((count + i) * w) bytes) =
      ap (take w) (drop-append-le (i * w) (drop (count * w) bytes) (replicate (count * w) 0) (omega arith))
      ∙ take-append-le w (drop (i * w) (drop (count * w) bytes)) (replicate (count * w) 0) (let l' = length-drop (i * w) (drop (count * w) bytes) in omega arith)
      ∙ ap (take w) (drop-at (count * w) (i * w) bytes ∙ ap (λ (x : ℕ). drop x bytes) (sym split)) in
      get_or-cut n w bytes' i [] (omega arith) ∙ ap (λ (b : List ℕ). take w (drop (i * w) b)) moved ∙ shifted
      ∙ sym (get_or-cut n w bytes (count + i) [] (omega arith))

  -- and behind it come zeros
  stored_ends : (i : ℕ) → old.cols - count ≤ i → i < old.cols → get_or (cut old.cols old.width bytes') i [] ≡ zero_bytes old.width
  stored_ends i past lt =
      let n = old.cols in
      let w = old.width in
      let k = i - (n - count) in
      let front = drop (count * w) bytes in
      let ld : length front ≡ n * w - count * w = length-drop (count * w) bytes ∙ ap (λ (x : ℕ). x - count * w) h.byte_count in
      let at : i * w ≡ (n - count) * w + k * w = (let e : i ≡ n - count + k = omega arith in ap (λ (x : ℕ). x * w) e ∙ add-mul (n - count) k w) in
      let parts : n * w ≡ count * w + (n - count) * w = (let e : n ≡ count + (n - count) = omega arith in ap (λ (x : ℕ). x * w) e ∙ add-mul count (n - count) w) in
      let seam : i * w ≡ length front + k * w = omega arith in
      let inside = row_within count w k (omega arith) in
      get_or-cut n w bytes' i [] lt ∙ ap (λ (b : List ℕ). take w (drop (i * w) b)) moved
      ∙ ap (λ (x : ℕ). take w (drop x (front ++ replicate (count * w) 0))) seam
      ∙ ap (take w) (drop-append-add front (replicate (count * w) 0) (k * w) ∙ drop-replicate (k * w) (count * w) 0)
      ∙ take-replicate w (count * w - k * w) 0 (omega arith)

  -- lists with some columns in front
  module _ (us vs : List (List ℕ)) (front : IsVector (IsBytes old.width) count us) (values : IsVector (IsBytes old.width) old.cols vs) where
    joined_vector : IsVector (IsBytes old.width) old.cols (us ++ take (old.cols - count) vs)
    joined_vector =
        let lf = front.width in
        let lv = values.width in
        let lt' = length-take-le (old.cols - count) vs (omega arith) in
        record {
          width = length-append us (take (old.cols - count) vs) ∙ omega arith;
          entries = All-append (IsBytes old.width) us (take (old.cols - count) vs) front.entries (All-take (IsBytes old.width) (old.cols - count) vs values.entries);
        }

    joined_front : (c : ℕ) → c < count → get_or (us ++ take (old.cols - count) vs) c [] ≡ get_or us c []
    joined_front c lt = (let lf = front.width in get_or_append_left us (take (old.cols - count) vs) [] c (omega arith))

    joined_rest : (c : ℕ) → count ≤ c → c < old.cols → get_or (us ++ take (old.cols - count) vs) c [] ≡ get_or vs (c - count) []
    joined_rest c le lt = get_or-append_right us (take (old.cols - count) vs) count c [] front.width le ∙ get_or-take (old.cols - count) vs (c - count) [] (omega arith)

  pub free_forgotten : IsFree new (drop count free ++ replicate count true)
  free_forgotten vs us s values same =
      let n = old.cols in
      let w = old.width in
      let to_old : (x : List (List ℕ)) → IsVector (IsBytes new.width) new.cols x → IsVector (IsBytes w) n x = λ x v. subst (λ (y : ℕ). IsVector (IsBytes y) n x) width (subst (λ (y : ℕ). IsVector (IsBytes new.width) y x) cols v) in
      let vv = to_old vs s.values in
      let vu = to_old us values in
      let f = (forgets vs vv).0 s in
      let lf = h.free_count in
      (forgets us vu).1 (
        f.0,
        f.1,
        h.is_free (f.0 ++ take (n - count) vs) (f.0 ++ take (n - count) us) f.2 (joined_vector f.0 us f.1 vu) (λ c lt e. elim (cases_lt c count) [
          | inl low ↦ joined_front f.0 us f.1 vu c low ∙ sym (joined_front f.0 vs f.1 vv c low)
          | inr high ↦
              let at : count + (c - count) ≡ c = omega arith in
              joined_rest f.0 us f.1 vu c high lt
              ∙ same (c - count) (omega arith) (shift_low free count true (c - count) (omega arith) ∙ ap (λ (x : ℕ). get_or free x false) at ∙ e)
              ∙ sym (joined_rest f.0 vs f.1 vv c high lt)
        ]),
      )

  value_moves : (c : ℕ) → c < old.cols - count → IsValueAt gf256_product old (count + c) (get_or (cut old.cols old.width bytes) (count + c) []) → IsValueAt gf256_product new c (get_or (cut new.cols new.width bytes') c [])
  value_moves c low v vs s =
      let vv : IsVector (IsBytes old.width) old.cols vs = subst (λ (y : ℕ). IsVector (IsBytes y) old.cols vs) width (subst (λ (y : ℕ). IsVector (IsBytes new.width) y vs) cols s.values) in
      let f = (forgets vs vv).0 s in
      let back : count + c - count ≡ c = omega arith in
      ap (λ (x : ℕ). get_or vs x []) (sym back) ∙ sym (joined_rest f.0 vs f.1 vv (count + c) (omega arith) (omega arith)) ∙ v (f.0 ++ take (old.cols - count) vs) f.2
      ∙ sym (stored_moves c low) ∙ ap (λ (st : List (List ℕ)). get_or st c []) (ap₂ (λ (a b : ℕ). cut a b bytes') (sym cols) (sym width))

  pub columns_forgotten : length bytes' ≡ length bytes → All IsByte bytes' → IsColumns new (drop count whole ++ replicate count false) (drop count free ++ replicate count true) bytes'
  columns_forgotten same_length bytes_ok =
      let lw = h.whole_count in
      let lf = h.free_count in
      record {
        some = (let s = h.some in omega arith);
        whole_count = length_shift whole count false (omega arith) ∙ h.whole_count ∙ sym cols;
        free_count = length_shift free count true (omega arith) ∙ h.free_count ∙ sym cols;
        byte_count = same_length ∙ h.byte_count ∙ ap₂ (λ (a b : ℕ). a * b) (sym cols) (sym width);
        are_bytes = bytes_ok;
        blank = λ c lt e.
            ap (λ (st : List (List ℕ)). get_or st c []) (ap₂ (λ (a b : ℕ). cut a b bytes') cols width) ∙ elim (cases_lt c (old.cols - count)) [
              | inl low ↦ stored_moves c low ∙ h.blank (count + c) (omega arith) (sym (shift_low whole count false c (omega arith)) ∙ e)
              | inr high ↦ stored_ends c high (omega arith)
            ] ∙ ap zero_bytes (sym width);
        within = λ c e. (
            let x = shift_whole whole count c (omega arith) e in
            let low : c < old.cols - count = (let lt = x.0 in omega arith) in
            elim (h.within (count + c) x.1) [
              | inl f ↦ inl (shift_low free count true c (omega arith) ∙ f)
              | inr v ↦ inr (value_moves c low v)
            ]);
        is_free = free_forgotten;
      }

  pub all_forgotten : Forgets gf256_product count (all_known old whole bytes) (all_known new (drop count whole ++ replicate count false) bytes')
  all_forgotten vs values =
      let n = old.cols in
      let w = old.width in
      let whole' = drop count whole ++ replicate count false in
      let stored = cut n w bytes in
      let lw = h.whole_count in
      let lv = values.width in
      let iff_new = all_known-iff new whole' bytes' (length_shift whole count false (omega arith) ∙ h.whole_count ∙ sym cols) vs in
      let stored_is : cut new.cols new.width bytes' ≡ cut n w bytes' = ap₂ (λ (a b : ℕ). cut a b bytes') cols width in (
        λ s.
            let x = iff_new.0 s in
            let has = subst (λ (st : List (List ℕ)). HasStored whole' st vs) stored_is x.1 in
            let f = (forgets vs values).0 x.0 in
            let list = f.0 ++ take (n - count) vs in
            let z = overlay whole stored list n in
            let zs = whole_put_in old whole free bytes h list f.2 in
            let lz : length z ≡ n = zs.values.width in
            let ld : length (drop count z) ≡ n - count = length-drop count z ∙ ap (λ (x : ℕ). x - count) lz in
            let rest : drop count z ≡ take (n - count) vs =
            ext_get_or [] (drop count z) (take (n - count) vs) (ld ∙ sym (length-take-le (n - count) vs (omega arith))) (λ i lt.
            let low : i < n - count = omega arith in
            let back : count + i - count ≡ i = omega arith in
            let there : get_or list (count + i) [] ≡ get_or vs i [] = joined_rest f.0 vs f.1 values (count + i) (omega arith) (omega arith) ∙ ap (λ (x : ℕ). get_or vs x []) back in
            get_or-drop count z i [] ∙ elim (cases (get_or whole (count + i) false)) [
              | inl e ↦ overlay_whole whole stored list n (count + i) (omega arith) e ∙ sym (stored_moves i low) ∙ sym (has i (shift_low whole count false i (omega arith) ∙ e)) ∙ sym (get_or-take (n - count) vs i [] low)
              | inr e ↦ overlay_other whole stored list n (count + i) (omega arith) e ∙ there ∙ sym (get_or-take (n - count) vs i [] low)
            ]) in
            let joined : z ≡ take count z ++ take (n - count) vs = sym (take-append-drop count z) ∙ ap (λ (y : List (List ℕ)). take count z ++ y) rest in
            (take count z, record { width = length-take-le count z (omega arith); entries = All-take (IsBytes w) count z zs.values.entries }, subst (λ (y : List (List ℕ)). IsSolution gf256_product (all_known old whole bytes) y) joined zs),
        λ s.
            let us = s.0 in
            let x = (all_known-iff old whole bytes h.whole_count (us ++ take (n - count) vs)).0 s.2 in
            iff_new.1 (
              (forgets vs values).1 (us, s.1, x.0),
              subst (λ (st : List (List ℕ)). HasStored whole' st vs) (sym stored_is) (λ i e.
                  let y = shift_whole whole count i (omega arith) e in
                  let low : i < n - count = (let lt = y.0 in omega arith) in
                  let back : count + i - count ≡ i = omega arith in
                  sym (ap (λ (v : ℕ). get_or vs v []) back) ∙ sym (joined_rest us vs s.1 values (count + i) (omega arith) (omega arith)) ∙ x.1 (count + i) y.1 ∙ sym (stored_moves i low)),
            ),
      )

-- ---- equations that say nothing

-- where each column is free they say nothing at all
pub quiet_where_free : (known : Knowledge ℕ) (free : List Bool) → ((vs : List (List ℕ)) × IsSolution gf256_product known vs) → IsFree known free → ((c : ℕ) → c < known.cols → get_or free c false ≡ true) → IsQuiet known
quiet_where_free known free some h all us values =
    h some.0 us some.1 values (λ c lt e. absurd (let other : true ≡ false = sym (all c lt) ∙ e in cc))

-- they say as much once columns are forgotten
pub forgets_quiet : (known : Knowledge ℕ) (count : ℕ) → 1 ≤ known.width → count ≤ known.cols → IsQuiet known → Forgets gf256_product count known known
forgets_quiet known count some room quiet vs values =
    let n = known.cols in
    let w = known.width in
    let us : List (List ℕ) = replicate count (zero_bytes w) in
    let zeros : IsBytes w (zero_bytes w) = record { width = length-replicate w 0; entries = All-replicate IsByte w 0 (omega arith) } in
    let lu : length us ≡ count = length-replicate count (zero_bytes w) in
    let lv = values.width in
    let lt' = length-take-le (n - count) vs (omega arith) in (
      λ s. (
        us,
        record { width = lu; entries = All-replicate (IsBytes w) count (zero_bytes w) zeros },
        quiet (us ++ take (n - count) vs) (record {
          width = length-append us (take (n - count) vs) ∙ omega arith;
          entries = All-append (IsBytes w) us (take (n - count) vs) (All-replicate (IsBytes w) count (zero_bytes w) zeros) (All-take (IsBytes w) (n - count) vs values.entries);
        }),
      ),
      λ s. quiet vs values,
    )

-- nothing is known at the start
pub quiet_start : (n w : ℕ) → IsQuiet (nothing_known n w)
quiet_start n w vs values = record { values = values; solves = All-nil _ }

-- they say as much where none is forgotten
pub forgets_none : (known : Knowledge ℕ) → Forgets gf256_product 0 known known
forgets_none known vs values =
    let all : take (known.cols - 0) vs ≡ vs = take_all (known.cols - 0) vs (let l = values.width in omega arith) in (
      λ s. ([], record { width = refl; entries = All-nil (IsBytes known.width) }, subst (IsSolution gf256_product known) (sym all) s),
      λ s.
          let none : s.0 ≡ [] = nil_from_length s.0 s.1.width in
          subst (IsSolution gf256_product known) (ap (λ (us : List (List ℕ)). us ++ take (known.cols - 0) vs) none ∙ all) s.2,
    )

-- fewer columns are free
pub columns_less : (known : Knowledge ℕ) (whole free free' : List Bool) (bytes : List ℕ) → IsColumns known whole free bytes → length free' ≡ length free
    → ((c : ℕ) → get_or whole c false ≡ true → get_or free c false ≡ true → get_or free' c false ≡ true) → ((c : ℕ) → get_or free' c false ≡ true → get_or free c false ≡ true) → IsColumns known whole free' bytes
columns_less known whole free free' bytes h count kept less =
    columns_more known known whole free free' bytes h refl refl count (λ c e. elim (h.within c e) [
      | inl f ↦ inl (kept c e f)
      | inr v ↦ inr v
    ]) (free_less known free free' h.is_free less)

-- what the equations say of whole columns they say with one more
pub within_more : (old new : Knowledge ℕ) (whole free : List Bool) (bytes : List ℕ) → IsColumns old whole free bytes → new.cols ≡ old.cols → new.width ≡ old.width → ((vs : List (List ℕ)) → IsSolution gf256_product new vs → IsSolution gf256_product old vs)
    → (c : ℕ) → get_or whole c false ≡ true → (get_or free c false ≡ true) ⊎ IsValueAt gf256_product new c (get_or (cut new.cols new.width bytes) c [])
within_more old new whole free bytes h cols width back c e = elim (h.within c e) [
  | inl f ↦ inl f
  | inr v ↦ inr (λ vs s. v vs (back vs s) ∙ sym (ap (λ (st : List (List ℕ)). get_or st c []) (same_stored old new bytes cols width)))
]

-- a column that the equations determine is stored
module _ (known : Knowledge ℕ) (whole free : List Bool) (bytes : List ℕ) (h : IsColumns known whole free bytes) (col : ℕ) (src : List ℕ) (lt : col < known.cols) (v : IsValueAt gf256_product known col src) where
  pub settled_value : ((vs : List (List ℕ)) × IsSolution gf256_product known vs) → IsBytes known.width src
  settled_value some =
      let l = some.1.values.width in
      subst (IsBytes known.width) (v some.0 some.1) (All-get_or (IsBytes known.width) some.0 col [] (omega arith) some.1.values.entries)

  pub settled_same : length src ≡ known.width → get_or whole col false ≡ false → (vs : List (List ℕ))
      → IsSolution gf256_product (all_known known (set whole col true) (put_mid (col * known.width) known.width bytes src)) vs ↔ IsSolution gf256_product (all_known known whole bytes) vs
  settled_same long not_yet vs =
      let learns = learns_stored known whole free bytes h col src lt long not_yet vs in (
        λ s. (learns.0 s).0,
        λ s. learns.1 (s, unit_gives known.width known.cols col vs lt s.values.width s.values.entries ∙ v vs ((all_known-iff known whole bytes h.whole_count vs).0 s).0),
      )
