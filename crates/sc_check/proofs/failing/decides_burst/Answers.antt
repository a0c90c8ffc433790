use Rattle.std.proofs.Common.{◌≡◌, List, Bool, subst, sym, IfOk, IsTrue, ◌↔◌, ◌∙◌}
use Rattle.sc_field.specs.Gf256.{gf256_product}
use Rattle.sc_channel.specs.Flags.{IsSet}
use Rattle.sc_channel.proofs.ClassLaws.{IsSet-class}
use Rattle.sc_code.specs.Determined.{IsDecided}
use Rattle.sc_check.specs.Failing.{class_at}
use Rattle.sc_check.proofs.FailingSteps.{bytes-told}
use Rattle.sc_check.proofs.failing.decides_burst.Goals as goal

pub returns : goal.returns
returns c =
    let code = c.args.code.now in
    let channel = c.args.classes.now in
    let slice : List Bool = c.as_slice.result.now in
    let is : slice ≡ class_at channel 0 = c.as_slice.ensures ∙ c.in_ok-class.ensures.class in
    let lost : IsSet slice 0 = subst (λ (class : List Bool). IsSet class 0) (sym c.as_slice.ensures) (IsSet-class channel c.in_ok-class.class c.in_ok-class.ensures.limits.ordered c.in_ok-class.ensures.is_class) in
    subst (λ (class : List Bool). IfOk c.decides.result (λ decided. IsTrue decided ↔ IsDecided 0 gf256_product code class)) is (bytes-told code slice c.decides.result lost c.decides.ensures)
