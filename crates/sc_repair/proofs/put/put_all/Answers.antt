use Rattle.std.proofs.Common.{◌≡◌, length, Ok, Err, refl, sym, ap, ◌∙◌, subst, arith}
use Rattle.std.proofs.lemmas.Result.{err_from_is_err_and}
use Rattle.sc_repair.specs.Repairer.{Repairer}
use Rattle.sc_repair.specs.Steps.{NextCounts, NextGives, end_of, values_by}
use Rattle.sc_repair.specs.declared.put.Next.TheVariants.{Ended, More, Bad}
use Rattle.sc_repair.specs.Values.{put_values}
use Rattle.sc_repair.proofs.AllSteps.{PutsTo-none, turn_after}
use Rattle.sc_repair.proofs.put.put_all.Goals as goal

pub loop-turn-init : goal.loop-turn-init
loop-turn-init g c = record {
  few = c.requires.few;
  same = refl;
  turns = omega arith;
  limit = λ lt. absurd (omega (arith, lt));
  stands = λ taken h. h;
  gives = λ taken text st le d. PutsTo-none (values_by c.args.repairer.now taken) (end_of c.args.repairer.now taken) c.args.repairer.now.next _ _ _ text le d;
}

pub put_next-requires : goal.put_next-requires
put_next-requires g c = record { few = c.loop-turn.invariant.few }

pub returns-in_err-put_next-clause-gives : goal.returns-in_err-put_next-clause-gives
returns-in_err-put_next-clause-gives g c taken text st le d =
    let failed = err_from_is_err_and c.from_residual.result c.from_residual.ensures.1 in
    rw failed.1
    (turn_after c.args.repairer.now c.loop-turn.repairer taken c.put_next.new.repairer.next c.loop-turn.missed c.put_next.new.missed _ _ _ _ c.loop-turn.pending c.put_next.new.pending text (Err c.in_err-put_next.field-0.0) c.loop-turn.invariant.same
    (c.loop-turn.invariant.stands taken st) (c.loop-turn.invariant.gives taken text st le d) (c.in_err-put_next.ensures.gives taken))

pub returns-in_err-put_next-clause-stands : goal.returns-in_err-put_next-clause-stands
returns-in_err-put_next-clause-stands g c taken st = c.put_next.ensures.stands taken (c.loop-turn.invariant.stands taken st)

-- how far it is after a turn
turned : (s l n : Repairer) → l ≡ record s { next = l.next; block = l.block } → n ≡ record l { next = n.next; block = n.block } → n ≡ record s { next = n.next; block = n.block }
turned s l n a b = b ∙ ap (λ (x : Repairer). record x { next = n.next; block = n.block }) a

pub returns-in-Ended-clause-gives : goal.returns-in-Ended-clause-gives
returns-in-Ended-clause-gives g c taken text st le d =
    turn_after c.args.repairer.now c.loop-turn.repairer taken c.put_next.new.repairer.next c.loop-turn.missed c.put_next.new.missed _ _ _ _ c.loop-turn.pending c.put_next.new.pending text (Ok Ended) c.loop-turn.invariant.same
    (c.loop-turn.invariant.stands taken st) (c.loop-turn.invariant.gives taken text st le d)
    (λ text' st' le' d'. subst (λ x. NextGives (values_by c.loop-turn.repairer taken) (end_of c.loop-turn.repairer taken) c.put_next.new.repairer.next (g.P.Port.told c.loop-turn.port) (g.P.Port.told c.put_next.new.port) c.loop-turn.pending c.put_next.new.pending c.put_next.new.missed text' (Ok x)) c.in-Ended.is
    (c.in_ok-put_next.ensures.gives taken text' st' le' d'))

pub returns-in-Ended-clause-stands : goal.returns-in-Ended-clause-stands
returns-in-Ended-clause-stands g c taken st = c.put_next.ensures.stands taken (c.loop-turn.invariant.stands taken st)

pub returns-in-Ended-clause-counts : goal.returns-in-Ended-clause-counts
returns-in-Ended-clause-counts g c =
    let counts = subst (λ x. NextCounts c.loop-turn.repairer c.put_next.new.repairer (Ok x)) c.in-Ended.is c.in_ok-put_next.ensures.counts in
    let same = c.loop-turn.invariant.same in
    let next : c.put_next.new.repairer.next ≡ c.loop-turn.repairer.next = ap (λ (x : Repairer). x.next) counts.0 in
    let deadline : c.loop-turn.repairer.deadline ≡ c.args.repairer.now.deadline = ap (λ (x : Repairer). x.deadline) same in
    let passed : c.loop-turn.repairer.passed ≡ c.args.repairer.now.passed = ap (λ (x : Repairer). x.passed) same in
    let on : c.loop-turn.repairer.finished ≡ c.args.repairer.now.finished = ap (λ (x : Repairer). x.finished) same in (
      turned c.args.repairer.now c.loop-turn.repairer c.put_next.new.repairer same (counts.0 ∙ ap (λ n. record c.loop-turn.repairer { next = n; block = c.put_next.new.repairer.block }) (sym next)),
      λ e. omega (arith, counts.1 (on ∙ e), next, deadline, passed),
      λ e taken st. next ∙ counts.2 (on ∙ e) taken (c.loop-turn.invariant.stands taken st)
          ∙ ap (λ (r : Repairer). length (put_values r.k r.m r.deadline taken r.passed)) same,
    )

pub returns-in-Bad-clause-gives : goal.returns-in-Bad-clause-gives
returns-in-Bad-clause-gives g c taken text st le d =
    turn_after c.args.repairer.now c.loop-turn.repairer taken c.put_next.new.repairer.next c.loop-turn.missed c.put_next.new.missed _ _ _ _ c.loop-turn.pending c.put_next.new.pending text (Ok (Bad c.in-Bad.slot)) c.loop-turn.invariant.same
    (c.loop-turn.invariant.stands taken st) (c.loop-turn.invariant.gives taken text st le d)
    (λ text' st' le' d'. subst (λ x. NextGives (values_by c.loop-turn.repairer taken) (end_of c.loop-turn.repairer taken) c.put_next.new.repairer.next (g.P.Port.told c.loop-turn.port) (g.P.Port.told c.put_next.new.port) c.loop-turn.pending c.put_next.new.pending c.put_next.new.missed text' (Ok x)) c.in-Bad.is
    (c.in_ok-put_next.ensures.gives taken text' st' le' d'))

pub returns-in-Bad-clause-stands : goal.returns-in-Bad-clause-stands
returns-in-Bad-clause-stands g c taken st = c.put_next.ensures.stands taken (c.loop-turn.invariant.stands taken st)

pub loop-turn-preserved : goal.loop-turn-preserved
loop-turn-preserved g c =
    let counts = subst (λ x. NextCounts c.loop-turn.repairer c.put_next.new.repairer (Ok x)) c.in-More.is c.in_ok-put_next.ensures.counts in
    record {
      few = c.put_next.ensures.few;
      same = turned c.args.repairer.now c.loop-turn.repairer c.put_next.new.repairer c.loop-turn.invariant.same counts.0;
      turns = omega (arith, c.loop-turn.invariant.turns, counts.1);
      limit = λ _. counts.2;
      stands = λ taken st. c.put_next.ensures.stands taken (c.loop-turn.invariant.stands taken st);
      gives = λ taken text st le d. turn_after c.args.repairer.now c.loop-turn.repairer taken c.put_next.new.repairer.next c.loop-turn.missed c.put_next.new.missed _ _ _ _ c.loop-turn.pending c.put_next.new.pending text (Ok More) c.loop-turn.invariant.same
          (c.loop-turn.invariant.stands taken st) (c.loop-turn.invariant.gives taken text st le d)
          (λ text' st' le' d'. subst (λ x. NextGives (values_by c.loop-turn.repairer taken) (end_of c.loop-turn.repairer taken) c.put_next.new.repairer.next (g.P.Port.told c.loop-turn.port) (g.P.Port.told c.put_next.new.port) c.loop-turn.pending c.put_next.new.pending c.put_next.new.missed text' (Ok x)) c.in-More.is
          (c.in_ok-put_next.ensures.gives taken text' st' le' d'));
    }

pub returns-clause-few : goal.returns-clause-few
returns-clause-few g c = c.loop-turn.invariant.few

pub returns-clause-gives : goal.returns-clause-gives
returns-clause-gives g c taken text st le d = absurd (omega (arith, c.loop-turn-test.false, c.loop-turn.invariant.turns, c.loop-turn.invariant.limit (omega (arith, c.loop-turn-test.false))))

pub returns-clause-stands : goal.returns-clause-stands
returns-clause-stands g c taken st = c.loop-turn.invariant.stands taken st

pub returns-clause-counts : goal.returns-clause-counts
returns-clause-counts g c = absurd (omega (arith, c.loop-turn-test.false, c.loop-turn.invariant.turns, c.loop-turn.invariant.limit (omega (arith, c.loop-turn-test.false))))
