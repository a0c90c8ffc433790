use Rattle.std.proofs.Common.{◌≡◌, length, refl, ap, subst, arith, take_all}
use Rattle.sc_outside.specs.Port.{Takes}
use Rattle.sc_rtpdump.specs.Record.{length_field}
use Rattle.sc_rtpdump.proofs.HeadLaws.{length_field-spelled}
use Rattle.sc_rtpdump.proofs.head.read_head.Goals as goal

pub returns-then-head-lt8 : goal.returns-then-head-lt8
returns-then-head-lt8 g c =
    let head = c.from_bytes-head.result in
    let spelled = c.from_bytes-head.ensures.spelled in
    let buf = c.read_exact_or_end.new.buf in
    let n = c.in-Ok-eq8.field-0 in
    let size : length buf ≡ 8 = ap length spelled in
    let field : length_field buf ≡ head.len = length_field-spelled buf head.len head.plen head.offset spelled c.from_bytes-head.ensures.fits.0 in
    record {
      tail = buf;
      takes = subst (Takes _ _) (take_all n buf (omega (arith, size, c.in-Ok-eq8.field-0-test))) c.in-Ok-eq8.ensures.ok.takes;
      at = (refl, (size, omega (arith, field, c.if-head-lt8.true)));
    }
