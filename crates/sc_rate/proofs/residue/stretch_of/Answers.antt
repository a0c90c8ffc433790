use Rattle.std.proofs.Common.{◌+◌, Bool, List, [], ◌∷◌, ◌++◌, sym, refl, ap₂, ◌∙◌, arith}
use Rattle.std.proofs.lemmas.List.{take_more_set, length-set}
use Rattle.std.proofs.lemmas.List.FromFn.{map-range_with_len_more}
use Rattle.sc_channel.specs.Certificate.{is_lost}
use Rattle.sc_rate.proofs.residue.stretch_of.Goals as goal

pub loop-i-preserved : goal.loop-i-preserved
loop-i-preserved c =
    let i = c.loop-i.i in (
      length-set c.loop-i.flags i c.is_lost.result ∙ c.loop-i.invariant.0,
      take_more_set c.loop-i.flags i c.is_lost.result (omega (arith, c.loop-i.invariant.0, c.t-i-end.ensures.limits.deadline_limit))
          ∙ ap₂ (λ (flags : List Bool) (flag : Bool). flags ++ flag ∷ []) c.loop-i.invariant.1 c.is_lost.ensures
          ∙ sym (map-range_with_len_more (is_lost c.args.cert.now) c.args.residue i (c.args.residue + i) refl),
    )
