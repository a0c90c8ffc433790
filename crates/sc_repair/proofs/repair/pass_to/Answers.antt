use Rattle.std.proofs.Common.{◌≡◌, ◌++◌, Ok, refl, sym, ap, ◌∙◌, subst, arith}
use Rattle.std.proofs.lemmas.Result.{err_from_is_err_and}
use Rattle.sc_repair.specs.Repairer.{Repairer}
use Rattle.sc_repair.specs.Steps.{AllCounts, AllGives, end_of, values_by}
use Rattle.sc_repair.proofs.PassSteps.{Goes, PassesOne, GetsReady-none, passed_longer, passed_ready, passed_halts, passed_loses}
use Rattle.sc_repair.proofs.repair.pass_to.Goals as goal

pub loop-slot-init : goal.loop-slot-init
loop-slot-init g c = record {
  passed = sym c.passed-slot.ensures.number;
  same = refl;
  near = c.requires.near;
  few = c.requires.few;
  gives = λ taken text r. GetsReady-none _ _ c.args.repairer.now taken c.args.missed.now text r;
}

pub pass_lost-requires-clause-goes_on : goal.pass_lost-requires-clause-goes_on
pass_lost-requires-clause-goes_on g c = ap (λ (x : Repairer). x.finished) c.loop-slot.invariant.same ∙ c.requires.goes_on

pub pass_lost-requires-clause-in_time : goal.pass_lost-requires-clause-in_time
pass_lost-requires-clause-in_time g c = c.loop-slot.invariant.near

pub pass_lost-requires-clause-limit : goal.pass_lost-requires-clause-limit
pass_lost-requires-clause-limit g c = omega (arith, c.loop-slot.invariant.passed, c.loop-slot-test.true, c.requires.limit)

pub put_all-requires : goal.put_all-requires
put_all-requires g c = record { few = omega (arith, c.loop-slot.invariant.few, ap (λ (x : Repairer). x.next) c.pass_lost.ensures.same) }

pub returns-in_err-put_all-clause-gives : goal.returns-in_err-put_all-clause-gives
returns-in_err-put_all-clause-gives g c taken text r =
    let failed = err_from_is_err_and c.from_residual.result c.from_residual.ensures.1 in
    let x = c.loop-slot.invariant.gives taken text r in
    let st = c.pass_lost.ensures.stands taken x.ready.stands in
    let longer = passed_longer c.args.repairer.now c.loop-slot.repairer c.pass_lost.new.self taken c.args.number c.loop-slot.missed (text ++ x.more) c.loop-slot.invariant.same c.requires.goes_on c.pass_lost.ensures.same c.pass_lost.ensures.passed x.ready st in
    rw failed.1
    (passed_loses c.args.repairer.now c.loop-slot.repairer c.pass_lost.new.self taken c.args.number c.loop-slot.missed (text ++ x.more) c.loop-slot.invariant.same c.requires.goes_on c.pass_lost.ensures.same c.pass_lost.ensures.passed x.ready st
    _ _ _ _ c.loop-slot.pending c.put_all.new.pending text x.more refl x.gives (omega (arith, c.pass_lost.ensures.passed, c.loop-slot.invariant.passed, c.loop-slot-test.true))
    (c.in_err-put_all.ensures.gives taken (text ++ x.more) st longer.2 longer.3))

pub returns-in-Some-clause-gives : goal.returns-in-Some-clause-gives
returns-in-Some-clause-gives g c taken text r =
    let x = c.loop-slot.invariant.gives taken text r in
    let st = c.pass_lost.ensures.stands taken x.ready.stands in
    let longer = passed_longer c.args.repairer.now c.loop-slot.repairer c.pass_lost.new.self taken c.args.number c.loop-slot.missed (text ++ x.more) c.loop-slot.invariant.same c.requires.goes_on c.pass_lost.ensures.same c.pass_lost.ensures.passed x.ready st in
    passed_halts c.args.repairer.now c.loop-slot.repairer c.pass_lost.new.self taken c.args.number c.loop-slot.missed (text ++ x.more) c.loop-slot.invariant.same c.requires.goes_on c.pass_lost.ensures.same c.pass_lost.ensures.passed x.ready st
    _ _ _ _ c.loop-slot.pending c.put_all.new.pending text x.more refl x.gives c.in-Some.bad (omega (arith, c.pass_lost.ensures.passed, c.loop-slot.invariant.passed, c.loop-slot-test.true))
    (subst (λ o. AllGives (values_by c.pass_lost.new.self taken) (end_of c.pass_lost.new.self taken) (g.P.Port.told c.loop-slot.port) (g.P.Port.told c.put_all.new.port) c.loop-slot.pending c.put_all.new.pending c.put_all.new.missed (text ++ x.more) (Ok o)) c.in-Some.is
    (c.in_ok-put_all.ensures.gives taken (text ++ x.more) st longer.2 longer.3))

-- how far it is after a turn
turned : (s l p q : Repairer) → Goes s l → PassesOne l p → q ≡ record p { next = q.next; block = q.block } → Goes s q
turned s l p q a b e =
    e ∙ ap (λ (x : Repairer). record x { next = q.next; block = q.block }) b
    ∙ ap (λ (x : Repairer). record x { front = p.front; passed = p.passed; known = p.known; next = q.next; block = q.block }) a
    ∙ ap (λ (x : Repairer). record s { front = x.front; passed = x.passed; known = x.known; next = q.next; block = q.block }) (sym e)

pub loop-slot-preserved : goal.loop-slot-preserved
loop-slot-preserved g c =
    let counts = subst (λ o. AllCounts c.pass_lost.new.self c.put_all.new.repairer (Ok o)) c.in-None.is c.in_ok-put_all.ensures.counts in
    let one = c.pass_lost.ensures.same in
    let same = c.loop-slot.invariant.same in
    let on = ap (λ (x : Repairer). x.finished) one ∙ ap (λ (x : Repairer). x.finished) same ∙ c.requires.goes_on in
    let passed : c.put_all.new.repairer.passed ≡ c.pass_lost.new.self.passed = ap (λ (x : Repairer). x.passed) counts.0 in
    let deadline : c.put_all.new.repairer.deadline ≡ c.pass_lost.new.self.deadline = ap (λ (x : Repairer). x.deadline) counts.0 in
    record {
      passed = omega (arith, passed, c.pass_lost.ensures.passed, c.loop-slot.invariant.passed);
      same = turned c.args.repairer.now c.loop-slot.repairer c.pass_lost.new.self c.put_all.new.repairer same one counts.0;
      near = omega (arith, counts.1 on, passed, deadline);
      few = c.put_all.ensures.few;
      gives = λ taken text r.
          let x = c.loop-slot.invariant.gives taken text r in
          let st = c.pass_lost.ensures.stands taken x.ready.stands in
          let longer = passed_longer c.args.repairer.now c.loop-slot.repairer c.pass_lost.new.self taken c.args.number c.loop-slot.missed (text ++ x.more) same c.requires.goes_on one c.pass_lost.ensures.passed x.ready st in
          passed_ready c.args.repairer.now c.loop-slot.repairer c.pass_lost.new.self taken c.args.number c.loop-slot.missed (text ++ x.more) same c.requires.goes_on one c.pass_lost.ensures.passed x.ready st
          _ _ _ _ c.loop-slot.pending c.put_all.new.pending text x.more refl x.gives c.put_all.new.repairer c.put_all.new.missed counts (c.put_all.ensures.stands taken st)
          (subst (λ o. AllGives (values_by c.pass_lost.new.self taken) (end_of c.pass_lost.new.self taken) (g.P.Port.told c.loop-slot.port) (g.P.Port.told c.put_all.new.port) c.loop-slot.pending c.put_all.new.pending c.put_all.new.missed (text ++ x.more) (Ok o)) c.in-None.is
          (c.in_ok-put_all.ensures.gives taken (text ++ x.more) st longer.2 longer.3));
    }

pub returns-clause-gives : goal.returns-clause-gives
returns-clause-gives g c taken text r = c.loop-slot.invariant.gives taken text r

pub returns-clause-counts : goal.returns-clause-counts
returns-clause-counts g c =
    let end : c.loop-slot.repairer.passed ≡ c.args.number = omega (arith, c.loop-slot.invariant.passed, c.loop-slot-test.false, c.loop-slot.auto._slot-end (omega (arith, c.passed-slot.ensures.number, c.requires.order))) in
    let deadline : c.loop-slot.repairer.deadline ≡ c.args.repairer.now.deadline = ap (λ (x : Repairer). x.deadline) c.loop-slot.invariant.same in (
      c.loop-slot.invariant.same ∙ ap (λ n. record c.args.repairer.now { front = c.loop-slot.repairer.front; passed = n; next = c.loop-slot.repairer.next; known = c.loop-slot.repairer.known; block = c.loop-slot.repairer.block }) end,
      omega (arith, c.loop-slot.invariant.near, end, deadline),
      c.loop-slot.invariant.few,
    )
