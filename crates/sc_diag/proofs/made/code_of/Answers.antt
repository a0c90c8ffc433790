use Rattle.sc_diag.proofs.MadeLaws.{no_code_fault, shapes-code_with, length-lags}
use Rattle.sc_diag.proofs.made.code_of.Goals as goal

pub unwrap-requires : goal.unwrap-requires
unwrap-requires g c =
    let e = c.args.entries.now in
    let k = g.E.Entries.rows e in
    let r = g.E.Entries.cols e in
    let f = g.E.Entries.entry e in
    no_code_fault c.new.result
    (λ fault. c.new.ensures.range.0 fault
    (rw (c.rows.ensures, c.cols.ensures, c.in_ok-lags.ensures, length-lags k r c.args.count f) c.requires))
    (λ fault. (c.new.ensures.shape.0 fault).1
    (rw (c.rows.ensures, c.cols.ensures, c.in_ok-lags.ensures) (shapes-code_with k r c.args.count f)))
