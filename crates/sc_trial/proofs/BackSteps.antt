-- How many records come back: a walk over what was repaired finds those that aren't missed.
use Rattle.std.proofs.Common.{◌≡◌, ℕ, zero, suc, ◌+◌, ◌-◌, ◌*◌, ◌≤◌, ◌<◌, Bool, true, false, cond, List, [], ◌∷◌, ◌++◌, length, take, drop, map, Option, None, Some, is_none, is_some, nat_eq, refl, sym, ap, ◌∙◌, subst, arith, length-append, length-take-le, length-drop, zero-add}
use Rattle.std.specs.Prelude.{count_by}
use Rattle.std.specs.List.{AllByRecursion, starts_with}
use Rattle.std.proofs.Math.Seq.{take-append_seam, drop-append_seam}
use Rattle.std.proofs.lemmas.Bool.Decides.{Decides-eqb}
use Rattle.std.proofs.lemmas.List.Sums.{sum_by-cons}
use Rattle.std.proofs.lemmas.Slice.Eq.{starts_is}
use Rattle.sc_matrix.specs.Layout.{cut}
use Rattle.sc_rtpdump.specs.Record.{Record, IsRecord, record_bytes, front_of}
use Rattle.sc_rtpdump.specs.Capture.{records_bytes}
use Rattle.sc_rtpdump.specs.Thin.{kept}
use Rattle.sc_rtpdump.proofs.CaptureLaws.{front_of-record, length-record_bytes}
use Rattle.sc_trial.specs.TrialSteps.{back_count}

not_true : (b : Bool) → (b ≡ true → ⊥) → b ≡ false
not_true true h = absurd (h refl)
not_true false h = refl

-- records each of which differs from all behind it
abbrev pub AreApart : List Record → Type 0
AreApart [] = Unit {0}
AreApart (e ∷ es) = AllByRecursion (λ f. e ≡ f → ⊥) es × AreApart es

all_kept : (P : Record → Type 0) (flags : List Bool) (es : List Record) → AllByRecursion P es → AllByRecursion P (kept flags es)
all_kept P [] es h = tt
all_kept P (flag ∷ flags) [] h = tt
all_kept P (true ∷ flags) (e ∷ es) h = all_kept P flags es h.1
all_kept P (false ∷ flags) (e ∷ es) h = (h.0, all_kept P flags es h.1)

-- records don't begin with a record that is none of them
none_begin : (e : Record) (es : List Record) (rest : List ℕ) → IsRecord e → AllByRecursion IsRecord es → AllByRecursion (λ f. e ≡ f → ⊥) es
    → records_bytes es ≡ record_bytes e ++ rest → ⊥
none_begin e [] rest fits all others same =
    absurd (omega (arith, ap length same, length-append (record_bytes e) rest, length-record_bytes e))
none_begin e (f ∷ es) rest fits all others same =
    let fronts = sym (front_of-record e rest fits) ∙ ap front_of (sym same) ∙ front_of-record f (records_bytes es) all.0 in
    others.0 (cc)

-- the walk
pub walk : (es : List Record) (values : List (Option (List (List ℕ)))) → length values ≡ length es → AllByRecursion IsRecord es → AreApart es
    → back_count (map record_bytes es) (records_bytes (kept (map is_none values) es)) ≡ count_by is_some values
walk [] [] same all apart = refl
walk [] (v ∷ values) same all apart = absurd (omega (arith, same))
walk (e ∷ es) [] same all apart = absurd (omega (arith, same))
walk (e ∷ es) (Some b ∷ values) same all apart =
    let back = records_bytes (kept (map is_none values) es) in
    let starts = (starts_is Decides-eqb (record_bytes e ++ back) (record_bytes e) _ refl).1 back refl in
    let rest : drop (length (record_bytes e)) (record_bytes e ++ back) ≡ back = drop-append_seam (record_bytes e) back in
    ap (λ c. cond c (1 + back_count (map record_bytes es) (drop (length (record_bytes e)) (record_bytes e ++ back))) (back_count (map record_bytes es) (record_bytes e ++ back))) starts
    ∙ ap (λ l. 1 + back_count (map record_bytes es) l) rest
    ∙ ap (λ n. 1 + n) (walk es values (omega (arith, same)) all.1 apart.1)
    ∙ sym (sum_by-cons (λ v. cond (is_some v) 1 0) (Some b) values)
walk (e ∷ es) (None ∷ values) same all apart =
    let back = records_bytes (kept (map is_none values) es) in
    let none : starts_with nat_eq back (record_bytes e) ≡ false =
    not_true _ (λ starts.
    none_begin e (kept (map is_none values) es) _ all.0 (all_kept IsRecord (map is_none values) es all.1) (all_kept (λ f. e ≡ f → ⊥) (map is_none values) es apart.0)
    ((starts_is Decides-eqb back (record_bytes e) _ refl).0 starts)) in
    ap (λ c. cond c (1 + back_count (map record_bytes es) (drop (length (record_bytes e)) back)) (back_count (map record_bytes es) back)) none
    ∙ walk es values (omega (arith, same)) all.1 apart.1
    ∙ sym (zero-add (count_by is_some values))
    ∙ sym (sum_by-cons (λ v. cond (is_some v) 1 0) None values)

-- records of one length are the pieces of that length
pub pieces : (len : ℕ) (es : List Record) → AllByRecursion (λ e. length (record_bytes e) ≡ len) es → cut (length es) len (records_bytes es) ≡ map record_bytes es
pieces len [] all = refl
pieces len (e ∷ es) all =
    let front : take len (record_bytes e ++ records_bytes es) ≡ record_bytes e = ap (λ n. take n (record_bytes e ++ records_bytes es)) (sym all.0) ∙ take-append_seam (record_bytes e) (records_bytes es) in
    let rest : drop len (record_bytes e ++ records_bytes es) ≡ records_bytes es = ap (λ n. drop n (record_bytes e ++ records_bytes es)) (sym all.0) ∙ drop-append_seam (record_bytes e) (records_bytes es) in
    rw (front, rest) (ap (λ l. record_bytes e ∷ l) (pieces len es all.1))

-- a step of the walk
walk_step : (n len : ℕ) (left back : List ℕ) (begins : Bool) → len ≤ length left → begins ≡ starts_with nat_eq back (take len left)
    → back_count (cut (suc n) len left) back
    ≡ cond begins (1 + back_count (cut n len (drop len left)) (drop len back)) (back_count (cut n len (drop len left)) back)
walk_step n len left back begins room is =
    ap (λ c. cond c (1 + back_count (cut n len (drop len left)) (drop (length (take len left)) back)) (back_count (cut n len (drop len left)) back)) (sym is)
    ∙ ap (λ m. cond begins (1 + back_count (cut n len (drop len left)) (drop m back)) (back_count (cut n len (drop len left)) back)) (length-take-le len left room)

-- what the walk keeps
pub walk_kept : (n i len equal equal' all : ℕ) (left back front behind back' : List ℕ) (begins : Bool) → i < n → (n - i) * len ≤ length left → front ≡ take len left → behind ≡ drop len left
    → begins ≡ starts_with nat_eq back front → back' ≡ cond begins (drop len back) back → equal' ≡ cond begins (equal + 1) equal
    → equal + back_count (cut (n - i) len left) back ≡ all
    → (equal' + back_count (cut (n - (i + 1)) len behind) back' ≡ all) × ((n - (i + 1)) * len ≤ length behind)
walk_kept n i len equal equal' all left back front behind back' begins small room front_is behind_is begins_is back_is equal_is sum =
    let m = n - (i + 1) in
    let more : n - i ≡ suc m = omega (arith, small) in
    let room' : suc m * len ≤ length left = subst (λ k. k * len ≤ length left) more room in
    let product : suc m * len ≡ m * len + len = omega arith in
    let step = walk_step m len left back begins (omega (arith, room', product)) (begins_is ∙ ap (starts_with nat_eq back) front_is) in
    let sum' : equal + back_count (cut (suc m) len left) back ≡ all = subst (λ k. equal + back_count (cut k len left) back ≡ all) more sum in
    (by_case begins m step sum' back_is equal_is, subst (λ l. m * len ≤ length l) (sym behind_is) (omega (arith, room', product, length-drop len left)))
  where
    by_case : (begins : Bool) (m : ℕ) → back_count (cut (suc m) len left) back ≡ cond begins (1 + back_count (cut m len (drop len left)) (drop len back)) (back_count (cut m len (drop len left)) back)
        → equal + back_count (cut (suc m) len left) back ≡ all → back' ≡ cond begins (drop len back) back → equal' ≡ cond begins (equal + 1) equal
        → equal' + back_count (cut m len behind) back' ≡ all
    by_case true m step sum back_is equal_is =
        let same : back_count (cut m len behind) back' ≡ back_count (cut m len (drop len left)) (drop len back) =
        ap (λ l. back_count (cut m len l) back') behind_is ∙ ap (back_count (cut m len (drop len left))) back_is in
        omega (arith, step, sum, equal_is, same)
    by_case false m step sum back_is equal_is =
        let same : back_count (cut m len behind) back' ≡ back_count (cut m len (drop len left)) back =
        ap (λ l. back_count (cut m len l) back') behind_is ∙ ap (back_count (cut m len (drop len left))) back_is in
        omega (arith, step, sum, equal_is, same)
