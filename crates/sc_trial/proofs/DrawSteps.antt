-- Draws one after the other: steps of a generator add up.
use Rattle.std.proofs.Common.{◌≡◌, ℕ, zero, suc, ◌+◌, ◌*◌, ◌%◌, ◌<◌, List, length, get_or, map, refl, sym, ap, ◌∙◌, arith, suc-add, zero-add}
use Rattle.std.specs.List.{range_with_len}
use Rattle.std.proofs.lemmas.List.FromFn.{fill_by_all, length-map-range_with_len, get_or-map-range_with_len}
use Rattle.rand_pcg.specs.Lcg.{Lcg, next_state, advance, state_after}
use Rattle.rand_pcg.specs.Pcg.{multiplier_64, pcg32}
use Rattle.sc_trial.specs.Draw.{word_at, drawn}

state_after-state_after : (w m p k j s : ℕ) → state_after w m p j (state_after w m p k s) ≡ state_after w m p (k + j) s
unfolding state_after
state_after-state_after w m p zero j s = ap (λ (n : ℕ). state_after w m p n s) (sym (zero-add j))
state_after-state_after w m p (suc k) j s =
    state_after-state_after w m p k j (next_state w m p s) ∙ ap (λ (n : ℕ). state_after w m p n s) (sym (suc-add k j))

pub advance-advance : (k j : ℕ) (g : Lcg) → advance 64 multiplier_64 j (advance 64 multiplier_64 k g) ≡ advance 64 multiplier_64 (k + j) g
advance-advance k j g = ap (λ (s : ℕ). record g { state = s }) (state_after-state_after 64 multiplier_64 g.increment k j g.state)

-- one step more
pub advance-one : (k : ℕ) (g : Lcg) → advance 64 multiplier_64 1 (advance 64 multiplier_64 k g) ≡ advance 64 multiplier_64 (k + 1) g
advance-one k g = advance-advance k 1 g

pub advance-none : (g : Lcg) → advance 64 multiplier_64 0 g ≡ g
unfolding state_after
advance-none g = refl

-- no draws, and n draws more behind i times as many
pub advance-no_draws : (n : ℕ) (g : Lcg) → g ≡ advance 64 multiplier_64 (0 * n) g
advance-no_draws n g =
    let none : 0 ≡ 0 * n = omega arith in
    sym (advance-none g) ∙ ap (λ (k : ℕ). advance 64 multiplier_64 k g) none

pub advance-more_draws : (i n : ℕ) (g h k : Lcg) → h ≡ advance 64 multiplier_64 (i * n) g → k ≡ advance 64 multiplier_64 n h → k ≡ advance 64 multiplier_64 ((i + 1) * n) g
advance-more_draws i n g h k eh ek =
    let more : i * n + n ≡ (i + 1) * n = omega arith in
    ek ∙ ap (advance 64 multiplier_64 n) eh ∙ advance-advance (i * n) n g ∙ ap (λ (j : ℕ). advance 64 multiplier_64 j g) more

-- the words behind the first k
pub word_at-advance : (k j : ℕ) (g : Lcg) → word_at (advance 64 multiplier_64 k g) j ≡ word_at g (k + j)
unfolding word_at
word_at-advance k j g = ap (λ (h : Lcg). (pcg32 h).0) (advance-advance k j g)

pub drawn-advance : (k n : ℕ) (g : Lcg) → drawn (advance 64 multiplier_64 k g) 0 n ≡ drawn g k n
unfolding drawn
drawn-advance k n g =
    let f = λ (j : ℕ). word_at g (k + j) % 256 in
    let h = λ (j : ℕ). word_at (advance 64 multiplier_64 k g) (0 + j) % 256 in
    fill_by_all f (map h (range_with_len 0 n)) n 0 (length-map-range_with_len h 0 n)
    (λ j small. get_or-map-range_with_len h 0 n j j 0 small (zero-add j)
    ∙ ap (λ (i : ℕ). word_at (advance 64 multiplier_64 k g) i % 256) (zero-add j)
    ∙ ap (λ (w : ℕ). w % 256) (word_at-advance k j g))

pub length-drawn : (g : Lcg) (from n : ℕ) → length (drawn g from n) ≡ n
unfolding drawn
length-drawn g from n = length-map-range_with_len (λ (j : ℕ). word_at g (from + j) % 256) 0 n

-- bytes that are each drawn are the drawn bytes
pub drawn-each : (g : Lcg) (n : ℕ) (bytes : List ℕ) → length bytes ≡ n → ((k : ℕ) → k < n → get_or bytes k 0 ≡ word_at g k % 256) → bytes ≡ drawn g 0 n
unfolding drawn
drawn-each g n bytes size each =
    fill_by_all (λ (j : ℕ). word_at g (0 + j) % 256) bytes n 0 size
    (λ k small. each k small ∙ ap (λ (i : ℕ). word_at g i % 256) (sym (zero-add k)))
