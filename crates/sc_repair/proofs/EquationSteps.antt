-- The rows of a taken slot as lists, and how what is known grows row by row.
use Rattle.std.proofs.Common.{◌≡◌, ◌≢◌, ℕ, zero as nought, suc, ◌+◌, ◌*◌, ◌<◌, ◌≤◌, ◌&&◌, false, cond, eqb, List, ◌++◌, length, get_or, map, set, take, drop, flat_map, replicate, sym, ap, ap₂, ◌∙◌, subst, arith, suc-mul, length-set, inl, inr}
use Rattle.std.specs.List.{range_with_len}
use Rattle.std.proofs.lemmas.Bool.{cases_lt, cases_eq, cond-true, cond-false, eq-eqb, ne_eqb, and_left, and_right, and_from}
use Rattle.std.proofs.lemmas.List.{length-replicate, length-take-le, length-drop, get_or-replicate, get_or-take, get_or-drop, get_or-set_same, get_or-set_other, ext_get_or, take-append-drop, nil_from_length}
use Rattle.std.proofs.lemmas.List.FromFn.{length-map-range_with_len, get_or-map-range_with_len}
use Rattle.std.proofs.Math.Nat.{mul_assoc, mul-le-mul_right}
use Rattle.sc_matrix.proofs.LayoutLaws.{row_within}
use Rattle.sc_echelon.specs.Knowledge.{Knowledge}
use Rattle.sc_slots.specs.Rows.{row_of, symbol_row}
use Rattle.sc_repair.specs.Equations.{Learns, Refuses, Gives}

-- ---- a row by its coefficients

row_of_part : {A : Type 0} (g : ℕ → ℕ → A) (d : A) (k s n : ℕ) (row : List A) → length row ≡ n * k → ((p i : ℕ) → p < n → i < k → get_or row (p * k + i) d ≡ g (s + p) i)
    → row ≡ flat_map (λ p. map (g p) (range_with_len 0 k)) (range_with_len s n)
row_of_part g d k s nought row e h = nil_from_length row (omega arith)
row_of_part g d k s (suc n) row e h =
    let room : k ≤ length row = omega (arith, suc-mul n k) in
    let front : take k row ≡ map (g s) (range_with_len 0 k) =
    ext_get_or d (take k row) (map (g s) (range_with_len 0 k)) (length-take-le k row room ∙ sym (length-map-range_with_len (g s) 0 k)) (λ i lt.
    let low : i < k = omega (arith, length-take-le k row room) in
    let at : i ≡ 0 * k + i = omega arith in
    let here : s + 0 ≡ s = omega arith in
    get_or-take k row i d low ∙ ap (λ (c : ℕ). get_or row c d) at ∙ h 0 i (omega arith) low ∙ ap (λ (p : ℕ). g p i) here
    ∙ sym (get_or-map-range_with_len (g s) 0 k i i d low (omega arith))) in
    let rest : drop k row ≡ flat_map (λ p. map (g p) (range_with_len 0 k)) (range_with_len (s + 1) n) =
    row_of_part g d k (s + 1) n (drop k row) (omega (arith, length-drop k row, suc-mul n k)) (λ p i hp hi.
    let at : k + (p * k + i) ≡ suc p * k + i = omega (arith, suc-mul p k) in
    let next : s + suc p ≡ s + 1 + p = omega arith in
    get_or-drop k row (p * k + i) d ∙ ap (λ (c : ℕ). get_or row c d) at ∙ h (suc p) i (omega arith) hi ∙ ap (λ (q : ℕ). g q i) next) in
    sym (take-append-drop k row) ∙ ap₂ (λ (a b : List _). a ++ b) front rest

-- a list with the coefficients of a row is the row
pub row_of_entries : {A : Type 0} (g : ℕ → ℕ → A) (d : A) (k n : ℕ) (row : List A) → length row ≡ n * k → ((p i : ℕ) → p < n → i < k → get_or row (p * k + i) d ≡ g p i) → row ≡ row_of k n g
row_of_entries g d k n row e h =
    row_of_part g d k 0 n row e (λ p i hp hi. let here : p ≡ 0 + p = omega arith in h p i hp hi ∙ ap (λ (q : ℕ). g q i) here)

-- columns of different symbols differ
other_column : (k p place s i : ℕ) → s < k → i < k → p < place → p * k + s ≢ place * k + i
other_column k p place s i hs hi lt e =
    let below : p * k + k ≤ place * k = row_within place k p lt in absurd (omega arith)

-- zeros with a one in the column of a symbol are the symbol's row
pub symbol_row_is : (k n place i : ℕ) → place < n → i < k → set {A = ℕ} (replicate (n * k) 0) (place * k + i) 1 ≡ symbol_row 0 1 k n place i
symbol_row_is k n place i lt hi =
    let zeros : List ℕ = replicate (n * k) 0 in
    let inside : (p s : ℕ) → p < n → s < k → p * k + s < n * k = λ p s hp hs. (let room : p * k + k ≤ n * k = row_within n k p hp in omega arith) in
    row_of_entries (λ p s. cond (eqb p place && eqb s i) 1 0) 0 k n (set zeros (place * k + i) 1) (length-set zeros (place * k + i) 1 ∙ length-replicate (n * k) 0) (λ p s hp hs.
    let other : (p * k + s ≢ place * k + i) → (eqb p place && eqb s i ≡ false) → get_or (set zeros (place * k + i) 1) (p * k + s) 0 ≡ cond (eqb p place && eqb s i) 1 0 =
    λ ne no. get_or-set_other zeros (place * k + i) (p * k + s) 1 0 ne ∙ get_or-replicate (n * k) (p * k + s) 0 0 (inside p s hp hs) ∙ sym (cond-false (eqb p place && eqb s i) 1 0 no) in
    elim (cases_lt p place) [
      | inl before ↦ other (other_column k p place s i hs hi before) (and_left (eqb p place) (eqb s i) (ne_eqb p place (λ e. (let same : p ≡ place = e in absurd (omega arith)))))
      | inr from ↦
          elim (cases_lt place p) [
            | inl behind ↦ other (λ e. other_column k place p i s hi hs behind (sym e)) (and_left (eqb p place) (eqb s i) (ne_eqb p place (λ e. (let same : p ≡ place = e in absurd (omega arith)))))
            | inr here ↦
                let same : p ≡ place = omega arith in
                let base : p * k ≡ place * k = ap (λ (q : ℕ). q * k) same in
                elim (cases_eq s i) [
                  | inl it ↦
                      let at : p * k + s ≡ place * k + i = omega arith in
                      ap (λ (c : ℕ). get_or (set zeros (place * k + i) 1) c 0) at
                      ∙ get_or-set_same zeros (place * k + i) 1 0 (let r = inside place i lt hi in let long : length zeros ≡ n * k = length-replicate (n * k) 0 in omega arith)
                      ∙ sym (cond-true (eqb p place && eqb s i) 1 0 (and_from (eqb p place) (eqb s i) (eq-eqb p place same) (eq-eqb s i it)))
                  | inr differ ↦ other (λ e. differ (omega arith)) (and_right (eqb p place) (eqb s i) (ne_eqb s i differ))
                ]
          ]
    ])

-- ---- row by row

-- an equation, said otherwise
pub learns_same : (old new : Knowledge ℕ) (w m : ℕ) (row row' right right' : List ℕ) → w ≡ m → row ≡ row' → right ≡ right' → Learns old new (Gives w row right) → Learns old new (Gives m row' right')
learns_same old new w m row row' right right' ew er eb h =
    subst (λ (x : ℕ). Learns old new (Gives x row' right')) ew (subst (λ (x : List ℕ). Learns old new (Gives w x right')) er (subst (λ (x : List ℕ). Learns old new (Gives w row x)) eb h))

pub refuses_same : (old : Knowledge ℕ) (w m : ℕ) (row row' right right' : List ℕ) → w ≡ m → row ≡ row' → right ≡ right' → Refuses old (Gives w row right) → Refuses old (Gives m row' right')
refuses_same old w m row row' right right' ew er eb h =
    subst (λ (x : ℕ). Refuses old (Gives x row' right')) ew (subst (λ (x : List ℕ). Refuses old (Gives w x right')) er (subst (λ (x : List ℕ). Refuses old (Gives w row x)) eb h))

-- one property more
pub learns_more : (P : ℕ → List (List ℕ) → Type 0) (old mid new : Knowledge ℕ) (i : ℕ) → Learns old mid (λ s. (j : ℕ) → j < i → P j s) → Learns mid new (P i) → Learns old new (λ s. (j : ℕ) → j < i + 1 → P j s)
learns_more P old mid new i first last s = (
  λ x.
      let both = (last s).0 x in
      let before = (first s).0 both.0 in (
        before.0,
        λ j lt. elim (cases_lt j i) [
          | inl low ↦ before.1 j low
          | inr high ↦ (let same : i ≡ j = omega arith in subst (λ (n : ℕ). P n s) same both.1)
        ],
      ),
  λ x. (last s).1 ((first s).1 (x.0, λ j lt. x.1 j (omega arith)), x.1 i (omega arith)),
)

pub refuses_more : (P : ℕ → List (List ℕ) → Type 0) (old mid : Knowledge ℕ) (i n : ℕ) → i < n → Learns old mid (λ s. (j : ℕ) → j < i → P j s) → Refuses mid (P i) → Refuses old (λ s. (j : ℕ) → j < n → P j s)
refuses_more P old mid i n lt first none s x all = none s ((first s).1 (x, λ j h. all j (omega arith))) (all i lt)

-- ---- room

-- the bytes of all places are few
pub few_bytes : (places k m : ℕ) → places ≤ 66 → k * m ≤ 65503 → places * k * m ≤ 67108864
few_bytes places k m few small =
    let e : places * k * m ≡ places * (k * m) = mul_assoc places k m in
    let le : places * (k * m) ≤ 66 * (k * m) = mul-le-mul_right (k * m) few in
    omega arith

-- the columns of some places are some of all
pub fewer_columns : (c n k : ℕ) → c ≤ n → c * k ≤ n * k
fewer_columns c n k le = mul-le-mul_right k le

-- those of the last place too
pub last_columns : (place n k : ℕ) → place < n → place * k + k ≤ n * k
last_columns place n k lt = row_within n k place lt
