-- What is said of generated captures in the words of captures and of RTP.
use Rattle.std.specs.Prelude.{◌≡◌, ℕ, ◌≤◌, length}
use Rattle.std.specs.List.{AllByRecursion}
use Rattle.rand_pcg.specs.Lcg.{Lcg}
use Rattle.sc_rtpdump.specs.declared.kind.Kind.TheVariants.{Rtp}
use Rattle.sc_rtpdump.specs.Capture.{IsCapture}
use Rattle.sc_rtpdump.specs.Kind.{kind}
use Rattle.sc_trial.specs.Draw.{generator}
use Rattle.sc_trial.specs.Generated.{standard_preamble, generated_records, generated}

-- the limits of a count and a size
pub record IsWithinLimits (count size : ℕ) : Type 0 where
  pub most : count ≤ 3999960
  pub least : 12 ≤ size
  pub greatest : size ≤ 1472

-- it is a capture: the standard preamble and these records
abbrev pub GeneratedAreCaptures : Type 0
GeneratedAreCaptures = (seed count size : ℕ) → IsWithinLimits count size
    → IsCapture (generated seed count size) standard_preamble (generated_records (generator seed) count size)

-- as many as were asked for
abbrev pub GeneratedAreCounted : Type 0
GeneratedAreCounted = (g : Lcg) (count size : ℕ) → length (generated_records g count size) ≡ count

-- each an RTP packet, whole
abbrev pub GeneratedAreRtp : Type 0
GeneratedAreRtp = (g : Lcg) (count size : ℕ) → IsWithinLimits count size → AllByRecursion (λ e. kind e ≡ Rtp) (generated_records g count size)
