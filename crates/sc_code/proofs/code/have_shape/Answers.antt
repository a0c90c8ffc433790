use Rattle.std.proofs.Common.{refl, sym, ◌∙◌, subst, take}
use Rattle.std.proofs.lemmas.List.{take_all}
use Rattle.std.proofs.lemmas.List.Elements.{All-more, All-same}
use Rattle.sc_matrix.specs.Matrix.{IsMatrix}
use Rattle.sc_code.specs.Code.{HasShape}
use Rattle.sc_code.proofs.code.have_shape.Goals as goal

pub loop-m-preserved : goal.loop-m-preserved
loop-m-preserved g c =
    let lags = c.args.lags.now in
    let i = c.loop-m.m-index in
    let m = c.m-item.result in (
      All-more (HasShape c.args.k c.args.r) lags i m c.loop-m-test.true c.loop-m.invariant.0
          (subst (HasShape c.args.k c.args.r) c.m-item.is (record { rows = sym c.rows.ensures.count ∙ c.if-rows-k.false; cols = sym c.cols.ensures.count ∙ c.if-cols-r.false })),
      All-more (IsMatrix g.F.Field.IsElement) lags i m c.loop-m-test.true c.loop-m.invariant.1
          (subst (IsMatrix g.F.Field.IsElement) c.m-item.is c.rows.ensures.shape),
    )

pub returns-clause-shapes : goal.returns-clause-shapes
returns-clause-shapes g c =
    let lags = c.args.lags.now in
    (λ yes. All-same (HasShape c.args.k c.args.r) lags (take c.loop-m.m-index lags) (sym (take_all c.loop-m.m-index lags c.loop-m-test.false)) c.loop-m.invariant.0, λ all. refl)

pub returns-clause-matrices : goal.returns-clause-matrices
returns-clause-matrices g c =
    let lags = c.args.lags.now in
    λ yes. All-same (IsMatrix g.F.Field.IsElement) lags (take c.loop-m.m-index lags) (sym (take_all c.loop-m.m-index lags c.loop-m-test.false)) c.loop-m.invariant.1
