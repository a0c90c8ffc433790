-- The first window that isn't fine, as a test finds it, is the one of the channel's definition.
use Rattle.std.proofs.Common.{◌≡◌, ℕ, zero, suc, ◌<◌, ◌≤◌, ◌||◌, ◌⊎◌, inl, inr, Bool, true, false, cond, Option, None, Some, MatchOption, List, [], ◌∷◌, take, nat_le, refl, sym, ap, subst, arith}
use Rattle.std.proofs.lemmas.Bool.{leb-true, le-leb, cases_lt}
use Rattle.std.specs.Option.{option_map}
use Rattle.sc_channel.specs.Channel.{ChannelNumbers}
use Rattle.sc_channel.specs.Flags.{set_count, span, window}
use Rattle.sc_channel.specs.Loss.{IsFine, few, close, AllWindowsFine, IsAdmissible, IsFirstBadWindow, is_fine, bad_window}
use Rattle.sc_channel.proofs.FineLaws.{IsAdmissible-from_windows, IsAdmissible-no_bad}

or_cases : (a b : Bool) → (a || b) ≡ true → (a ≡ true) ⊎ (b ≡ true)
or_cases true b h = inl refl
or_cases false b h = inr h

or_left : (a b : Bool) → a ≡ true → (a || b) ≡ true
or_left true b h = refl
or_left false b h = absurd (cc)

or_right : (a b : Bool) → b ≡ true → (a || b) ≡ true
or_right true b h = refl
or_right false b h = h

-- the test finds the fine ones, and those alone
pub fine-tested : (b n : ℕ) (flags : List Bool) → is_fine b n flags ≡ true → IsFine b n flags
fine-tested b n flags h = elim (or_cases (nat_le (set_count flags) n) (nat_le (span flags) b) h) as (λ _. IsFine b n flags) [
  | inl p ↦ few (leb-true (set_count flags) n p)
  | inr p ↦ close (leb-true (span flags) b p)
]

pub tested-fine : (b n : ℕ) (flags : List Bool) → IsFine b n flags → is_fine b n flags ≡ true
tested-fine b n flags (few p) = or_left (nat_le (set_count flags) n) (nat_le (span flags) b) (le-leb (set_count flags) n p)
tested-fine b n flags (close p) = or_right (nat_le (set_count flags) n) (nat_le (span flags) b) (le-leb (span flags) b p)

none_step : (t : Bool) (rest : Option ℕ) → (cond t (option_map suc rest) (Some 0)) ≡ None → (t ≡ true) × (rest ≡ None)
none_step true None h = (refl, refl)
none_step true (Some j) h = absurd (cc)
none_step false rest h = absurd (cc)

some_step : (t : Bool) (rest : Option ℕ) (i : ℕ) → (cond t (option_map suc rest) (Some 0)) ≡ Some i
    → ((t ≡ false) × (i ≡ 0)) ⊎ ((j : ℕ) × (t ≡ true) × (rest ≡ Some j) × (i ≡ suc j))
some_step true None i h = absurd (cc)
some_step true (Some j) i h = let e : i ≡ suc j = cc in inr (j, refl, refl, e)
some_step false rest i h = let e : i ≡ 0 = cc in inl (refl, e)

-- none is found only where all are fine
pub bad_window-none : (c : ChannelNumbers) (flags : List Bool) → bad_window c flags ≡ None → AllWindowsFine c flags
bad_window-none c [] e i h = absurd (omega arith)
bad_window-none c (f ∷ fs) e zero h =
    fine-tested c.b c.n (take c.w (f ∷ fs)) (none_step (is_fine c.b c.n (take c.w (f ∷ fs))) (bad_window c fs) e).0
bad_window-none c (f ∷ fs) e (suc i) h =
    bad_window-none c fs (none_step (is_fine c.b c.n (take c.w (f ∷ fs))) (bad_window c fs) e).1 i (omega arith)

-- one that is found is the first that isn't fine
pub bad_window-some : (c : ChannelNumbers) (flags : List Bool) (i : ℕ) → bad_window c flags ≡ Some i → IsFirstBadWindow c flags i
bad_window-some c [] i e = absurd (cc)
bad_window-some c (f ∷ fs) i e = found c f fs i (λ j r. bad_window-some c fs j r) (some_step (is_fine c.b c.n (take c.w (f ∷ fs))) (bad_window c fs) i e)
  where
    found : (c : ChannelNumbers) (f : Bool) (fs : List Bool) (i : ℕ) → ((j : ℕ) → bad_window c fs ≡ Some j → IsFirstBadWindow c fs j)
        → ((is_fine c.b c.n (take c.w (f ∷ fs)) ≡ false) × (i ≡ 0)) ⊎ ((j : ℕ) × (is_fine c.b c.n (take c.w (f ∷ fs)) ≡ true) × (bad_window c fs ≡ Some j) × (i ≡ suc j))
        → IsFirstBadWindow c (f ∷ fs) i
    found c f fs i rest (inl here) = subst (IsFirstBadWindow c (f ∷ fs)) (sym here.1) (record {
      in_range = omega arith;
      bad = λ fine. let t = tested-fine c.b c.n (take c.w (f ∷ fs)) fine in absurd (cc (t, here.0));
      earlier_fine = λ k h. absurd (omega arith);
    })
    found c f fs i rest (inr later) =
        let r = rest later.0 later.2 in
        subst (IsFirstBadWindow c (f ∷ fs)) (sym later.3) (record {
          in_range = omega (arith, r.in_range);
          bad = r.bad;
          earlier_fine = before c f fs later.0 later.1 r;
        })
      where
        before : (c : ChannelNumbers) (f : Bool) (fs : List Bool) (j : ℕ) → is_fine c.b c.n (take c.w (f ∷ fs)) ≡ true → IsFirstBadWindow c fs j
            → (k : ℕ) → k < suc j → IsFine c.b c.n (window c.w k (f ∷ fs))
        before c f fs j t r zero h = fine-tested c.b c.n (take c.w (f ∷ fs)) t
        before c f fs j t r (suc k) h = r.earlier_fine k (omega arith)

-- what the channel's own call answers is what the test finds
pub bad_window-is : (c : ChannelNumbers) (flags : List Bool) (result : Option ℕ) → MatchOption result (IsAdmissible c flags) (IsFirstBadWindow c flags) → bad_window c flags ≡ result
bad_window-is c flags result h = same result (bad_window c flags) h (λ e. bad_window-none c flags e) (λ i e. bad_window-some c flags i e)
  where
    same : (result found : Option ℕ) → MatchOption result (IsAdmissible c flags) (IsFirstBadWindow c flags)
        → (found ≡ None → AllWindowsFine c flags) → ((i : ℕ) → found ≡ Some i → IsFirstBadWindow c flags i) → found ≡ result
    same None None h none some = refl
    same None (Some i) h none some = absurd (IsAdmissible-no_bad c flags i h (some i refl))
    same (Some j) None h none some = absurd (h.bad (none refl j h.in_range))
    same (Some j) (Some i) h none some = ap (λ n. Some n) (first i j (some i refl) h (cases_lt i j) (cases_lt j i))
      where
        first : (i j : ℕ) → IsFirstBadWindow c flags i → IsFirstBadWindow c flags j → (i < j) ⊎ (j ≤ i) → (j < i) ⊎ (i ≤ j) → i ≡ j
        first i j x y (inl less) other = absurd (x.bad (y.earlier_fine i less))
        first i j x y (inr least) (inl less) = absurd (y.bad (x.earlier_fine j less))
        first i j x y (inr least) (inr most) = omega arith

-- admissible exactly where none is found
pub bad_window-admissible : (c : ChannelNumbers) (flags : List Bool) → IsAdmissible c flags → bad_window c flags ≡ None
bad_window-admissible c flags h = bad_window-is c flags None h

pub admissible-no_bad_window : (c : ChannelNumbers) (flags : List Bool) → bad_window c flags ≡ None → IsAdmissible c flags
admissible-no_bad_window c flags e = IsAdmissible-from_windows c flags (bad_window-none c flags e)
