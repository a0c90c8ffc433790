use Rattle.std.proofs.Common.{◌≡◌, ℕ, ◌%◌, ◌<◌, ◌≢◌, length, sym, ap, ◌∙◌, arith, below_more, get_or-set_other, get_or-set_same, add-zero}
use Rattle.rand_pcg.specs.Lcg.{Lcg, advance}
use Rattle.rand_pcg.specs.Pcg.{multiplier_64}
use Rattle.sc_trial.specs.Draw.{word_at}
use Rattle.sc_trial.proofs.DrawSteps.{advance-none, advance-one, word_at-advance, drawn-each}
use Rattle.sc_trial.proofs.draw.draw.Goals as goal

pub loop-byte-init : goal.loop-byte-init
loop-byte-init c = record { bytes = λ k none. absurd (omega arith); steps = sym (advance-none c.args.words.now) }

pub loop-byte-preserved : goal.loop-byte-preserved
loop-byte-preserved c =
    let i = c.loop-byte.byte-index in
    let drawn_here : c.draw_byte.result ≡ word_at c.args.words.now i % 256 =
    c.draw_byte.ensures.byte ∙ ap (λ (g : Lcg). word_at g 0 % 256) c.loop-byte.invariant.steps
    ∙ ap (λ (w : ℕ). w % 256) (word_at-advance i 0 c.args.words.now ∙ ap (word_at c.args.words.now) (add-zero i)) in
    record {
      bytes = below_more _ _
          (λ k h. let ne : k ≢ c.loop-byte.byte-index = omega arith in rw get_or-set_other (c.loop-byte.invariant.bytes k h))
          (let lt : c.loop-byte.byte-index < length c.loop-byte.bytes = omega arith in rw get_or-set_same drawn_here);
      steps = c.draw_byte.ensures.step ∙ ap (advance 64 multiplier_64 1) c.loop-byte.invariant.steps ∙ advance-one i c.args.words.now;
    }

pub returns : goal.returns
returns c =
    let whole : c.loop-byte.byte-index ≡ length c.args.bytes.now = omega arith in
    record {
      bytes = drawn-each c.args.words.now (length c.args.bytes.now) c.loop-byte.bytes c.loop-byte.auto.bytes
          (λ k small. c.loop-byte.invariant.bytes k (omega arith));
      steps = c.loop-byte.invariant.steps ∙ ap (λ (n : ℕ). advance 64 multiplier_64 n c.args.words.now) whole;
    }
