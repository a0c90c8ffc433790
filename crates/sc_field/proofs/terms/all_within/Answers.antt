use Rattle.std.proofs.Common.{All, refl, subst, arith}
use Rattle.std.proofs.lemmas.List.{take_all}
use Rattle.std.proofs.lemmas.List.Elements.{All-more}
use Rattle.sc_field.specs.Terms.{IsWithin}
use Rattle.sc_field.proofs.terms.all_within.Goals as goal

pub loop-term-preserved : goal.loop-term-preserved
loop-term-preserved g c =
    All-more (λ t. IsWithin c.args.width c.args.src.now t.at) c.args.terms.now c.loop-term.term-index c.term-item.result c.loop-term-test.true c.loop-term.invariant
    (subst (λ t. IsWithin c.args.width c.args.src.now t.at) c.term-item.is (omega arith))

pub returns : goal.returns
returns g c =
    (λ _. subst (All (λ t. IsWithin c.args.width c.args.src.now t.at)) (take_all c.loop-term.term-index c.args.terms.now c.loop-term-test.false) c.loop-term.invariant, λ _. refl)
