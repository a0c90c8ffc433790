use Rattle.std.proofs.Common.{◌≡◌, ℕ, ◌+◌, ◌%◌, List, [], ◌∷◌, ◌++◌, sym, ap, ap₂, ◌∙◌, add-zero, arith}
use Rattle.std.proofs.lemmas.List.FromFn.{map-range_with_len_more}
use Rattle.rand_pcg.specs.Lcg.{advance}
use Rattle.rand_pcg.specs.Pcg.{multiplier_64}
use Rattle.sc_layered.specs.Draw.{generator, word_at, nonzero_at}
use Rattle.sc_layered.proofs.WordLaws.{advance-none, advance-one, word_at-advance}
use Rattle.sc_layered.proofs.draw.nonzero_draws.Goals as goal

pub loop-place-init : goal.loop-place-init
loop-place-init c = record { draws = c.in_ok-draws.ensures.items; steps = c.generator-words.ensures ∙ sym (advance-none (generator c.args.seed)) }

pub loop-place-preserved : goal.loop-place-preserved
loop-place-preserved c =
    let g = generator c.args.seed in
    let i = c.loop-place._place in
    let here : c.draw_nonzero.result ≡ nonzero_at g i =
    c.draw_nonzero.ensures.byte ∙ ap (λ h. nonzero_at h 0) c.loop-place.invariant.steps
    ∙ ap (λ (w : ℕ). 1 + w % 255) (word_at-advance i 0 g ∙ ap (word_at g) (add-zero i)) in
    record {
      draws = c.in_ok-push.ensures.items ∙ ap₂ (λ (xs : List ℕ) (x : ℕ). xs ++ x ∷ []) c.loop-place.invariant.draws here
          ∙ sym (map-range_with_len_more (nonzero_at g) 0 i i (omega arith));
      steps = c.draw_nonzero.ensures.step ∙ ap (advance 64 multiplier_64 1) c.loop-place.invariant.steps ∙ advance-one i g;
    }
