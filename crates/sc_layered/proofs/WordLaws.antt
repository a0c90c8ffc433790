-- Draws one after the other: steps of a generator add up.
use Rattle.std.proofs.Common.{◌≡◌, ℕ, zero, suc, ◌+◌, ◌<◌, List, length, get_or, arith, refl, sym, ap, ◌∙◌, suc-add, zero-add}
use Rattle.std.proofs.lemmas.List.FromFn.{length-map-range_with_len, get_or-map-range_with_len}
use Rattle.rand_pcg.specs.Lcg.{Lcg, next_state, advance, state_after}
use Rattle.rand_pcg.specs.Pcg.{multiplier_64, pcg32}
use Rattle.sc_layered.specs.Draw.{word_at, nonzero_at, nonzero_draws}

state_after-state_after : (w m p k j s : ℕ) → state_after w m p j (state_after w m p k s) ≡ state_after w m p (k + j) s
unfolding state_after
state_after-state_after w m p zero j s = ap (λ (n : ℕ). state_after w m p n s) (sym (zero-add j))
state_after-state_after w m p (suc k) j s =
    state_after-state_after w m p k j (next_state w m p s) ∙ ap (λ (n : ℕ). state_after w m p n s) (sym (suc-add k j))

pub advance-advance : (k j : ℕ) (g : Lcg) → advance 64 multiplier_64 j (advance 64 multiplier_64 k g) ≡ advance 64 multiplier_64 (k + j) g
advance-advance k j g = ap (λ (s : ℕ). record g { state = s }) (state_after-state_after 64 multiplier_64 g.increment k j g.state)

-- one step more
pub advance-one : (k : ℕ) (g : Lcg) → advance 64 multiplier_64 1 (advance 64 multiplier_64 k g) ≡ advance 64 multiplier_64 (k + 1) g
advance-one k g = advance-advance k 1 g

pub advance-none : (g : Lcg) → advance 64 multiplier_64 0 g ≡ g
unfolding state_after
advance-none g = refl

-- the words behind the first k
pub word_at-advance : (k j : ℕ) (g : Lcg) → word_at (advance 64 multiplier_64 k g) j ≡ word_at g (k + j)
unfolding word_at
word_at-advance k j g = ap (λ (h : Lcg). (pcg32 h).0) (advance-advance k j g)

-- draws that are as many as they are
pub draws-whole : (g : Lcg) (n : ℕ) (bytes : List ℕ) → bytes ≡ nonzero_draws g n → length bytes ≡ n
draws-whole g n bytes e = ap length e ∙ length-map-range_with_len (nonzero_at g) 0 n

pub draw-at : (g : Lcg) (n : ℕ) (bytes : List ℕ) (place d : ℕ) → bytes ≡ nonzero_draws g n → place < n → get_or bytes place d ≡ nonzero_at g place
draw-at g n bytes place d e h = ap (λ (xs : List ℕ). get_or xs place d) e ∙ get_or-map-range_with_len (nonzero_at g) 0 n place place d h (omega arith)
