use Rattle.std.proofs.Common.{◌∙◌}
use Rattle.sc_rate.proofs.ResidueSteps.{search-is_lost}
use Rattle.sc_rate.proofs.residue.is_lost.Goals as goal

pub returns : goal.returns
returns c =
    let cert = c.args.cert.now in
    let found = c.binary_search.ensures.position in
    c.is_ok.ensures.value
    ∙ search-is_lost cert c.args.slot c.binary_search.result c.lost.ensures.limits
    (rw (c.lost.ensures.residues, c.period.ensures.number) at found)
